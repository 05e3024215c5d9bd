use Rattle.std.proofs.Common.{take}
use Rattle.mls_layout.specs.steps.Walking.{AreStatesOf}
use Rattle.mls_layout.proofs.walk.states_of.Given as goal

-- the states so far
abbrev pub invariant-loop-entry : goal.invariant-loop-entry
invariant-loop-entry l = AreStatesOf (take l.entry-index l.env) l.states
