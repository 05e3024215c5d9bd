use Rattle.std.proofs.Common.{◌<◌, ◌≤◌, ℕ, arith, subst}
use Rattle.mls_automaton.specs.declared.automaton.Polarity.{Polarity}
use Rattle.mls_automaton.specs.Automata.{polarity_at}
use Rattle.mls_layout.specs.LaidOut.{place_of}
use Rattle.mls_layout.specs.Trees.{IsNodeIn}
use Rattle.mls_layout.specs.steps.Planned.{end_of, HasTree}
use Rattle.mls_layout.specs.steps.Sources.{IsPlaced}
use Rattle.mls_layout.proofs.PlannedTrees.{extends_none, extends_then, end_more, start_low, members_low, tree_as, trees_none, trees_next}
use Rattle.mls_layout.proofs.Entering.{placed_low}
use Rattle.mls_layout.proofs.layout.states.plan_states.Goals as goal

pub loop-s-init : goal.loop-s-init
loop-s-init c = record {
  extends = extends_none c.args.trees.now;
  trees = trees_none c.args.trees.now (polarity_at c.args.a.now) (λ s. IsPlaced c.args.a.now c.args.sources.now (place_of c.args.values.now) (polarity_at c.args.a.now s) s) c.new-nodes.result c.new-nodes.ensures;
}

pub plan-requires : goal.plan-requires
plan-requires c =
    let longer = c.loop-s.invariant.extends in
    let more : end_of c.args.trees.now ≤ end_of c.loop-s.trees = end_more c.args.trees.now c.loop-s.trees longer in
    let values : (n : ℕ) → place_of c.args.values.now n < end_of c.loop-s.trees = λ n. let low : place_of c.args.values.now n < end_of c.args.trees.now = c.requires.values n in omega (arith, low, more) in
    members_low c.in_ok-members.members (IsPlaced c.args.a.now c.args.sources.now (place_of c.args.values.now) (polarity_at c.args.a.now c.loop-s.s) c.loop-s.s) (end_of c.loop-s.trees) c.in_ok-members.ensures
    (placed_low c.args.a.now c.args.sources.now c.args.trees.now.start (end_of c.loop-s.trees) c.requires.low (start_low c.args.trees.now c.loop-s.trees longer)
    (place_of c.args.values.now) values (polarity_at c.args.a.now c.loop-s.s) c.loop-s.s)

pub loop-s-preserved : goal.loop-s-preserved
loop-s-preserved c =
    let M = IsPlaced c.args.a.now c.args.sources.now (place_of c.args.values.now) (polarity_at c.args.a.now c.loop-s.s) c.loop-s.s in
    record {
      extends = extends_then c.args.trees.now c.loop-s.trees c.plan.new.self c.loop-s.invariant.extends c.in_ok-plan.ensures.extends;
      trees =
          trees_next c.loop-s.trees c.plan.new.self (polarity_at c.args.a.now) (λ s. IsPlaced c.args.a.now c.args.sources.now (place_of c.args.values.now) (polarity_at c.args.a.now s) s) c.loop-s.s c.loop-s.nodes
          c.push.new.self c.in_ok-plan.field-0 c.loop-s.invariant.trees c.in_ok-plan.ensures.extends
          (subst (λ (p : Polarity). HasTree c.plan.new.self p M c.in_ok-plan.field-0.0) c.polarity.ensures
          (tree_as c.plan.new.self c.polarity.result (IsNodeIn c.in_ok-members.members) M c.in_ok-plan.field-0.0 c.in_ok-plan.ensures.tree c.in_ok-members.ensures))
          c.in_ok-push.ensures.ok;
    }
