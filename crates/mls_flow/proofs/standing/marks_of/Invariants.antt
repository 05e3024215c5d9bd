use Rattle.std.proofs.Common.{◌≡◌, take, map}
use Rattle.mls_flow.specs.steps.Losing.{is_left}
use Rattle.mls_flow.proofs.standing.marks_of.Given as goal

abbrev pub invariant-loop-one : goal.invariant-loop-one
invariant-loop-one l = l.marks.items ≡ map is_left (take l.one-index l.left)
