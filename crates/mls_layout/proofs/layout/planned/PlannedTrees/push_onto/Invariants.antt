use Rattle.std.proofs.Common.{take}
use Rattle.mls_layout.specs.steps.Planned.{AddsPlanned}
use Rattle.mls_layout.proofs.PlannedTrees.{first_trees}
use Rattle.mls_layout.proofs.layout.planned.PlannedTrees.push_onto.Given as goal

-- the first trees are there
abbrev pub invariant-loop-tree : goal.invariant-loop-tree
invariant-loop-tree l = AddsPlanned (first_trees l.self.start (take l.tree-index l.self.trees)) l.fn.book l.book
