use Rattle.std.proofs.Common.{◌≡◌, ◌<◌, ℕ}
use Rattle.std.specs.Prelude.{◌↔◌}
use Rattle.mls_automaton.specs.Automata.{HasFlow}
use Rattle.mls_biunify.specs.steps.Placing.{IsPlacedFlow}
use Rattle.mls_biunify.proofs.frozen.place_flows.Given as goal

-- the edges from the first places
abbrev pub invariant-loop-place : goal.invariant-loop-place
invariant-loop-place l = record {
  states : l.into.states ≡ l.initial.into.states;
  flows : (x : ℕ × ℕ) → HasFlow l.into x.0 x.1 ↔ ((x.0 < l.place) × IsPlacedFlow l.table l.numbers x.0 x.1);
}
