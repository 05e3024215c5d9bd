use Rattle.std.proofs.Common.{◌≡◌, ◌++◌, take}
use Rattle.mls_lines.proofs.puts.add_puts.Given as goal

-- the others so far
abbrev pub invariant-loop-put : goal.invariant-loop-put
invariant-loop-put l = l.puts ≡ l.initial.puts ++ take l.put-index l.others
