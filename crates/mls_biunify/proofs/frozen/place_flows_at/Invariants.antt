use Rattle.std.proofs.Common.{◌≡◌, take}
use Rattle.mls_automaton.specs.Automata.{HasFlow}
use Rattle.mls_biunify.specs.steps.Placing.{IsFlowTo}
use Rattle.mls_biunify.proofs.Collected.{Collected}
use Rattle.mls_biunify.proofs.frozen.place_flows_at.Given as goal

-- the edges so far
abbrev pub invariant-loop-target : goal.invariant-loop-target
invariant-loop-target l = record {
  states : l.into.states ≡ l.initial.into.states;
  flows : Collected (IsFlowTo l.numbers l.place) (λ x. HasFlow l.initial.into x.0 x.1) (λ x. HasFlow l.into x.0 x.1) (take l.target-index l.target-items);
}
