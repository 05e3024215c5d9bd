use Rattle.std.proofs.Common.{◌≡◌, ◌<◌, ◌+◌, [], ◌∷◌, All, arith, ap, ◌∙◌, subst, sym}
use Rattle.mls_book.specs.declared.book.NodeId.{NodeId}
use Rattle.mls_layout.specs.Trees.{tree_root, tree_size}
use Rattle.mls_layout.specs.steps.Planned.{Planned, end_of, planned_tree}
use Rattle.mls_layout.proofs.PlannedTrees.{counted_next, known_more, root_next, low_next}
use Rattle.mls_layout.proofs.layout.planned.PlannedTrees.add.Goals as goal

pub invariant_of-self-2 : goal.invariant_of-self-2
invariant_of-self-2 c =
    let more : c.in_ok-end.end ≡ c.self.inside.end + c.tree_size-size.result = c.in_ok-end.ensures in (
      counted_next c.self.inside.start c.self.inside.end c.in_ok-end.end c.tree_size-size.result c.self.inside.trees c.push.new.self c.args.polarity c.args.members
          c.self.invariant.0 (c.tree_size-size.ensures ∙ ap tree_size c.as_slice.ensures) c.in_ok-end.ensures c.in_ok-push.ensures.ok
          (subst (λ (plan : Planned). All (λ (id : NodeId). id.0 < end_of plan) c.args.members) (sym c.self.view_is) c.requires),
      known_more c.self.inside.start c.self.inside.end c.in_ok-end.end c.self.inside.trees (planned_tree c.args.polarity c.args.members ∷ []) c.push.new.self c.self.inside.known
          (omega (arith, more)) c.in_ok-push.ensures.ok c.self.invariant.1,
    )

pub returns-clause-root : goal.returns-clause-root
returns-clause-root c =
    root_next c.self.inside.start c.self.inside.end c.self.inside.trees c.push.new.self c.args.polarity c.args.members c.tree_root-root.result.0
    c.self.invariant.0 (c.tree_root-root.ensures ∙ ap (tree_root c.self.inside.end) c.as_slice-2.ensures) c.in_ok-push.ensures.ok

pub returns-clause-low : goal.returns-clause-low
returns-clause-low c =
    low_next c.self.inside.start c.self.inside.end c.self.inside.trees c.push.new.self c.args.polarity c.args.members c.tree_root-root.result.0
    c.self.invariant.0 (c.tree_root-root.ensures ∙ ap (tree_root c.self.inside.end) c.as_slice-2.ensures) c.in_ok-push.ensures.ok
    (subst (λ (plan : Planned). All (λ (id : NodeId). id.0 < end_of plan) c.args.members) (sym c.self.view_is) c.requires)
