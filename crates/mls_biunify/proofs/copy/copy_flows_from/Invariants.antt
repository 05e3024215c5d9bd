use Rattle.std.proofs.Common.{◌≡◌, ℕ, take}
use Rattle.mls_automaton.specs.Automata.{HasFlow}
use Rattle.mls_biunify.proofs.Collected.{Collected}
use Rattle.mls_biunify.proofs.copy.copy_flows_from.Given as goal

abbrev pub invariant-loop-p : goal.invariant-loop-p
invariant-loop-p l = record {
  states : l.copy.states ≡ l.initial.copy.states;
  flows : Collected (λ p (x : ℕ × ℕ). (x.0 ≡ l.n.0) × (x.1 ≡ p)) (λ x. HasFlow l.initial.copy x.0 x.1) (λ x. HasFlow l.copy x.0 x.1) (take l.p-index l.p-items);
}
