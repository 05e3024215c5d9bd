use Rattle.mls_automaton.specs.Automata.{polarity_at}
use Rattle.mls_layout.specs.LaidOut.{place_of}
use Rattle.mls_layout.specs.steps.Owned.{HaveTrees}
use Rattle.mls_layout.specs.steps.Planned.{Extends}
use Rattle.mls_layout.specs.steps.Sources.{IsPlaced}
use Rattle.mls_layout.proofs.layout.states.plan_states.Given as goal

-- the nodes of the first states
abbrev pub invariant-loop-s : goal.invariant-loop-s
invariant-loop-s l = record {
  extends : Extends l.fn.trees l.trees;
  trees : HaveTrees l.trees (polarity_at l.a) (λ s. IsPlaced l.a l.sources (place_of l.values) (polarity_at l.a s) s) l.s l.nodes;
}
