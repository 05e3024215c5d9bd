use Rattle.std.proofs.Common.{take}
use Rattle.mls_layout.specs.Trees.{AddsTrees}
use Rattle.mls_layout.proofs.tree.push_trees.Given as goal

-- the first trees
abbrev pub invariant-loop-tree : goal.invariant-loop-tree
invariant-loop-tree l = AddsTrees (take l.tree-index l.trees) l.fn.book l.book l.ids
