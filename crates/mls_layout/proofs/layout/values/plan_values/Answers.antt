use Rattle.mls_automaton.specs.declared.automaton.Polarity.TheVariants.{Positive}
use Rattle.mls_automaton.specs.Automata.{polarity_at}
use Rattle.mls_solver.specs.Rooms.{Holds}
use Rattle.mls_layout.specs.Trees.{IsNodeIn}
use Rattle.mls_layout.specs.steps.Planned.{end_of}
use Rattle.mls_layout.specs.steps.Sources.{IsEntering}
use Rattle.mls_layout.proofs.PlannedTrees.{extends_none, extends_then, start_low, members_low, tree_as, trees_none, trees_next}
use Rattle.mls_layout.proofs.Entering.{entering_low}
use Rattle.mls_layout.proofs.layout.values.plan_values.Goals as goal

pub loop-s-init : goal.loop-s-init
loop-s-init c = record {
  extends = extends_none c.args.trees.now;
  trees = trees_none c.args.trees.now (λ s. Positive) (λ s. IsEntering c.args.a.now (Holds c.args.found.now) c.args.sources.now (polarity_at c.args.a.now s) s) c.new-nodes.result c.new-nodes.ensures;
}

pub plan-requires : goal.plan-requires
plan-requires c =
    members_low c.in_ok-members.members (IsEntering c.args.a.now (Holds c.args.found.now) c.args.sources.now (polarity_at c.args.a.now c.loop-s.s) c.loop-s.s) (end_of c.loop-s.trees) c.in_ok-members.ensures
    (entering_low c.args.a.now c.args.sources.now c.args.trees.now.start (end_of c.loop-s.trees) c.requires.low (start_low c.args.trees.now c.loop-s.trees c.loop-s.invariant.extends)
    (Holds c.args.found.now) (polarity_at c.args.a.now c.loop-s.s) c.loop-s.s)

pub loop-s-preserved : goal.loop-s-preserved
loop-s-preserved c =
    let M = IsEntering c.args.a.now (Holds c.args.found.now) c.args.sources.now (polarity_at c.args.a.now c.loop-s.s) c.loop-s.s in
    record {
      extends = extends_then c.args.trees.now c.loop-s.trees c.plan.new.self c.loop-s.invariant.extends c.in_ok-plan.ensures.extends;
      trees =
          trees_next c.loop-s.trees c.plan.new.self (λ s. Positive) (λ s. IsEntering c.args.a.now (Holds c.args.found.now) c.args.sources.now (polarity_at c.args.a.now s) s) c.loop-s.s c.loop-s.nodes
          c.push.new.self c.in_ok-plan.field-0 c.loop-s.invariant.trees c.in_ok-plan.ensures.extends
          (tree_as c.plan.new.self Positive (IsNodeIn c.in_ok-members.members) M c.in_ok-plan.field-0.0 c.in_ok-plan.ensures.tree c.in_ok-members.ensures)
          c.in_ok-push.ensures.ok;
    }
