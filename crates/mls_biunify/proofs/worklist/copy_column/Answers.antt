use Rattle.std.proofs.Common.{◌≡◌, ◌∙◌, ◌↔◌, ◌<◌, ℕ, List, Contains, subst, sym}
use Rattle.mls_solver.specs.Rooms.{Holds}
use Rattle.mls_biunify.proofs.IndexedPairs.{column-copied, only-one}
use Rattle.mls_biunify.proofs.worklist.copy_column.Goals as goal

pub add_sets-requires : goal.add_sets-requires
add_sets-requires c p n left right =
    let same : c.as_slice.result.now ≡ c.above.result.now = c.as_slice.ensures.members ∙ c.in_ok-column.ensures in (
      c.above.ensures.low p (subst (λ (xs : List ℕ). Contains xs p) same left),
      subst (λ m. m < c.args.room.now.negatives) (sym (only-one c.args.to n right)) c.requires.to,
    )

pub returns : goal.returns
returns c =
    let same : c.as_slice.result.now ≡ c.above.result.now = c.as_slice.ensures.members ∙ c.in_ok-column.ensures in
    column-copied c.args.room.now c.add_sets.new.room c.args.from c.args.to c.as_slice.result.now
    (subst (λ (xs : List ℕ). (p : ℕ) → Contains xs p ↔ Holds c.args.room.now p c.args.from) (sym same) c.above.ensures.members)
    c.in_ok-add_sets.ensures
