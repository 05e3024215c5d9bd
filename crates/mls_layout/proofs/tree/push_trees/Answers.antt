use Rattle.std.proofs.Common.{List, [], ◌∷◌, ◌++◌, take, sym, ap, ◌∙◌, subst}
use Rattle.std.proofs.lemmas.List.{take_more}
use Rattle.mls_layout.specs.declared.tree.PlannedTree.{PlannedTree}
use Rattle.mls_layout.specs.Trees.{AddsTrees}
use Rattle.mls_layout.proofs.TreesMade.{trees_next}
use Rattle.mls_layout.proofs.tree.push_trees.Goals as goal

pub loop-tree-preserved : goal.loop-tree-preserved
loop-tree-preserved c =
    let before = take c.loop-tree.tree-index c.args.trees.now in
    subst (λ (trees : List PlannedTree). AddsTrees trees c.args.book.now c.push_planned.new.book c.push.new.self)
    (sym (take_more c.args.trees.now c.loop-tree.tree-index c.tree-item.result c.loop-tree-test.true ∙ ap (λ (tree : PlannedTree). before ++ tree ∷ []) (sym c.tree-item.is)))
    (trees_next before c.args.book.now c.loop-tree.book c.push_planned.new.book c.loop-tree.ids c.push.new.self
    c.tree-item.result c.in_ok-id.id c.loop-tree.invariant c.in_ok-id.ensures c.in_ok-push.ensures.ok)
