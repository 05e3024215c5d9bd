use Rattle.std.proofs.Common.{◌≡◌, [], take}
use Rattle.mls_shape.proofs.drop.states_of.Given as goal

abbrev pub invariant-loop-s : goal.invariant-loop-s
invariant-loop-s l = (l.states.states ≡ take l.s l.a.states) × (l.states.flows ≡ [])
