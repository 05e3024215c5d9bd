use Rattle.mls_lines.specs.Writer.{Lengthens}
use Rattle.mls_lines.proofs.writer.Writer.write_part.Given as goal

-- the nodes of states stay
abbrev pub invariant-loop-i : goal.invariant-loop-i
invariant-loop-i l = Lengthens l.initial.self.laid l.self.laid
