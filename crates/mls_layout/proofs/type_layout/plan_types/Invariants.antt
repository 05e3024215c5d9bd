use Rattle.mls_automaton.specs.Automata.{polarity_at}
use Rattle.mls_layout.specs.steps.Owned.{HaveTrees}
use Rattle.mls_layout.specs.steps.Planned.{Extends}
use Rattle.mls_layout.specs.steps.TypeNodes.{IsOfType}
use Rattle.mls_layout.proofs.type_layout.plan_types.Given as goal

-- the nodes of the first states
abbrev pub invariant-loop-s : goal.invariant-loop-s
invariant-loop-s l = record {
  extends : Extends l.fn.trees l.trees;
  trees : HaveTrees l.trees (polarity_at l.a) (IsOfType l.sources) l.s l.nodes;
}
