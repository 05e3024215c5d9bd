use Rattle.std.proofs.Common.{subst}
use Rattle.mls_automaton.specs.declared.automaton.Polarity.{Polarity}
use Rattle.mls_automaton.specs.Automata.{polarity_at}
use Rattle.mls_layout.specs.Trees.{IsNodeIn}
use Rattle.mls_layout.specs.steps.Planned.{end_of, HasTree}
use Rattle.mls_layout.specs.steps.TypeNodes.{IsOfType}
use Rattle.mls_layout.proofs.PlannedTrees.{extends_none, extends_then, members_low, start_low, tree_as, trees_next, trees_none}
use Rattle.mls_layout.proofs.TypeNodes.{of_type_low, type_members}
use Rattle.mls_layout.proofs.type_layout.plan_types.Goals as goal

pub loop-s-init : goal.loop-s-init
loop-s-init c = record {
  extends = extends_none c.args.trees.now;
  trees = trees_none c.args.trees.now (polarity_at c.args.a.now) (IsOfType c.args.sources.now) c.new-nodes.result c.new-nodes.ensures;
}

pub plan-requires : goal.plan-requires
plan-requires c =
    members_low c.in_ok-members.members (IsOfType c.args.sources.now c.loop-s.s) (end_of c.loop-s.trees)
    (type_members c.args.sources.now c.loop-s.s c.in_ok-members.members c.in_ok-members.ensures)
    (of_type_low c.args.sources.now c.args.trees.now.start (end_of c.loop-s.trees) c.requires (start_low c.args.trees.now c.loop-s.trees c.loop-s.invariant.extends) c.loop-s.s)

pub loop-s-preserved : goal.loop-s-preserved
loop-s-preserved c =
    let M = IsOfType c.args.sources.now c.loop-s.s in
    record {
      extends = extends_then c.args.trees.now c.loop-s.trees c.plan.new.self c.loop-s.invariant.extends c.in_ok-plan.ensures.extends;
      trees =
          trees_next c.loop-s.trees c.plan.new.self (polarity_at c.args.a.now) (IsOfType c.args.sources.now) c.loop-s.s c.loop-s.nodes
          c.push.new.self c.in_ok-plan.field-0 c.loop-s.invariant.trees c.in_ok-plan.ensures.extends
          (subst (λ (p : Polarity). HasTree c.plan.new.self p M c.in_ok-plan.field-0.0) c.polarity.ensures
          (tree_as c.plan.new.self c.polarity.result (IsNodeIn c.in_ok-members.members) M c.in_ok-plan.field-0.0 c.in_ok-plan.ensures.tree
          (type_members c.args.sources.now c.loop-s.s c.in_ok-members.members c.in_ok-members.ensures)))
          c.in_ok-push.ensures.ok;
    }
