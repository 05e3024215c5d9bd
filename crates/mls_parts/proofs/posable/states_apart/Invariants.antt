use Rattle.std.proofs.Common.{take}
use Rattle.mls_layout.specs.steps.Posable.{AreApart}
use Rattle.mls_parts.proofs.posable.states_apart.Given as goal

-- the states so far
abbrev pub invariant-loop-entry : goal.invariant-loop-entry
invariant-loop-entry l = AreApart (take l.entry-index l.env) l.states
