use Rattle.std.proofs.Common.{◌≡◌, take}
use Rattle.mls_solver.proofs.materialise.marked.Given as goal

abbrev pub invariant-loop-i : goal.invariant-loop-i
invariant-loop-i l = l.numbers.items ≡ take l.i l.marks.members
