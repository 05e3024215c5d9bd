use Rattle.std.proofs.Common.{◌≡◌, length}
use Rattle.mls_lines.proofs.writer.Writer.own_fields.Given as goal

-- each part so far has a type
abbrev pub invariant-loop-number : goal.invariant-loop-number
invariant-loop-number l = length l.own ≡ l.number
