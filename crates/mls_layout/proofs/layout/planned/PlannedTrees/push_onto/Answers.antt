use Rattle.std.proofs.Common.{◌≡◌, List, [], ◌∷◌, ◌++◌, All, length, take, get_or, sym, ap, ◌∙◌, subst, ◌<◌}
use Rattle.std.proofs.lemmas.List.{take_more}
use Rattle.mls_book.specs.declared.book.NodeId.{NodeId}
use Rattle.mls_layout.specs.declared.tree.PlannedTree.{PlannedTree}
use Rattle.mls_layout.specs.steps.Planned.{Planned, AddsPlanned, AreLow}
use Rattle.mls_layout.proofs.PlannedTrees.{first_trees, low_at, planned_next}
use Rattle.mls_layout.proofs.layout.planned.PlannedTrees.push_onto.Goals as goal

pub push_planned-requires : goal.push_planned-requires
push_planned-requires c =
    let plan = c.args.self.now in
    let k = c.loop-tree.tree-index in
    let trees : c.as_slice-tree-items.result.now ≡ plan.trees = c.as_slice-tree-items.ensures ∙ ap (λ (p : Planned). p.trees) c.self.view_is in
    let inside : k < length plan.trees = subst (λ (ts : List PlannedTree). k < length ts) trees c.loop-tree-test.true in
    let is : c.tree-item.result ≡ get_or plan.trees k c.tree-item.result = c.tree-item.is ∙ ap (λ (ts : List PlannedTree). get_or ts k c.tree-item.result) trees in
    let low : AreLow plan.start plan.trees = subst (λ (p : Planned). AreLow p.start p.trees) c.self.view_is c.self.invariant.0.low in
    subst (λ (tree : PlannedTree). All (λ (id : NodeId). id.0 < length c.loop-tree.book) tree.members) (sym is)
    (low_at plan.start (length c.loop-tree.book) plan.trees k c.tree-item.result inside c.loop-tree.invariant.size low)

pub loop-tree-preserved : goal.loop-tree-preserved
loop-tree-preserved c =
    let plan = c.args.self.now in
    let k = c.loop-tree.tree-index in
    let trees : c.as_slice-tree-items.result.now ≡ plan.trees = c.as_slice-tree-items.ensures ∙ ap (λ (p : Planned). p.trees) c.self.view_is in
    let inside : k < length plan.trees = subst (λ (ts : List PlannedTree). k < length ts) trees c.loop-tree-test.true in
    let is : c.tree-item.result ≡ get_or plan.trees k c.tree-item.result = c.tree-item.is ∙ ap (λ (ts : List PlannedTree). get_or ts k c.tree-item.result) trees in
    subst (λ (ts : List PlannedTree). AddsPlanned (first_trees plan.start ts) c.args.book.now c.push_planned.new.book)
    (sym (take_more plan.trees k c.tree-item.result inside ∙ ap (λ (tree : PlannedTree). take k plan.trees ++ tree ∷ []) (sym is)))
    (planned_next plan.start (take k plan.trees) c.tree-item.result c.args.book.now c.loop-tree.book c.push_planned.new.book c.in_ok-push_planned.field-0.0
    c.loop-tree.invariant c.in_ok-push_planned.ensures)
