use Rattle.std.proofs.Common.{take}
use Rattle.mls_parts.specs.steps.Twins.{HasOwnStates, IsWider}
use Rattle.mls_parts.proofs.Twins.{AreNegative}
use Rattle.mls_parts.proofs.first_type.with_own_states.Given as goal

-- the old states are there still, and the new binders have negative states of their own
abbrev pub invariant-loop-entry : goal.invariant-loop-entry
invariant-loop-entry l = record {
  wider : IsWider l.initial.automaton l.automaton;
  env : AreNegative l.automaton l.env;
  own : HasOwnStates l.initial.automaton (take l.entry-index l.entry-items) l.automaton l.env;
}
