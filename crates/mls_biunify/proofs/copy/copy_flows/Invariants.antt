use Rattle.std.proofs.Common.{◌≡◌, ◌↔◌, ◌<◌, ℕ}
use Rattle.mls_automaton.specs.Automata.{HasFlow}
use Rattle.mls_biunify.proofs.copy.copy_flows.Given as goal

abbrev pub invariant-loop-n : goal.invariant-loop-n
invariant-loop-n l = record {
  states : l.copy.states ≡ l.initial.copy.states;
  flows : (x : ℕ × ℕ) → HasFlow l.copy x.0 x.1 ↔ ((x.0 < l.n) × HasFlow l.table.automaton x.0 x.1);
}
