use Rattle.std.proofs.Common.{◌∷◌, take}
use Rattle.mls_layout.specs.Trees.{AddsTree}
use Rattle.mls_layout.proofs.tree.push_chain.Given as goal

-- the tree of those so far
abbrev pub invariant-loop-member : goal.invariant-loop-member
invariant-loop-member l = AddsTree l.polarity (l.fn.first ∷ take l.member-index l.rest) l.fn.book l.book l.root.0
