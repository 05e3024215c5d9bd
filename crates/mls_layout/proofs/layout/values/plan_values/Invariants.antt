use Rattle.mls_automaton.specs.declared.automaton.Polarity.TheVariants.{Positive}
use Rattle.mls_automaton.specs.Automata.{polarity_at}
use Rattle.mls_solver.specs.Rooms.{Holds}
use Rattle.mls_layout.specs.steps.Owned.{HaveTrees}
use Rattle.mls_layout.specs.steps.Planned.{Extends}
use Rattle.mls_layout.specs.steps.Sources.{IsEntering}
use Rattle.mls_layout.proofs.layout.values.plan_values.Given as goal

-- the values of the first states
abbrev pub invariant-loop-s : goal.invariant-loop-s
invariant-loop-s l = record {
  extends : Extends l.fn.trees l.trees;
  trees : HaveTrees l.trees (λ s. Positive) (λ s. IsEntering l.a (Holds l.found) l.sources (polarity_at l.a s) s) l.s l.nodes;
}
