use Rattle.std.proofs.Common.{◌≡◌}
use Rattle.mls_automaton.specs.declared.automaton.Polarity.TheVariants.{Negative}
use Rattle.mls_shape.specs.steps.Edges.{AddsFlows, IsTarget, set_at}
use Rattle.mls_shape.proofs.AddedFlows.{FromBelow}
use Rattle.mls_shape.proofs.edges.add_flows.Given as goal

abbrev pub invariant-loop-n : goal.invariant-loop-n
invariant-loop-n l = AddsFlows l.initial.d l.d (FromBelow l.n (λ n q. ((set_at l.sets n).polarity ≡ Negative) × IsTarget l.a l.holders.items (set_at l.sets n).members q))
