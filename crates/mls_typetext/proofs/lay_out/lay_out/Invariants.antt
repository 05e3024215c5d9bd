use Rattle.std.proofs.Common.{◌≡◌, length, reverse, [], ◌∷◌}
use Rattle.mls_typetext.specs.declared.lay_out.LayoutPlace.TheVariants.{Block}
use Rattle.mls_typetext.specs.declared.lay_out.LayoutTask.TheVariants.{At}
use Rattle.mls_typetext.specs.steps.Laying.{closed, closed_by, lay_all, state_of}
use Rattle.mls_typetext.proofs.lay_out.lay_out.Given as goal

-- the pieces that are left make of the layout what all make of it at the start
abbrev pub invariant-loop-member : goal.invariant-loop-member
invariant-loop-member l =
    lay_all (closed_by (At (Block 0 l.fn.size) ∷ []) [] [] [] []) (reverse l.fn.members.items) ≡ lay_all (closed (state_of l.layout)) (reverse l.left.items)

abbrev pub decreases-loop-member : goal.decreases-loop-member
decreases-loop-member l = length l.left.items
