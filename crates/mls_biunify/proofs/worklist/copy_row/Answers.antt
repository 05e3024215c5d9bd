use Rattle.std.proofs.Common.{◌≡◌, ◌∙◌, ◌↔◌, ℕ, List, Contains, subst, sym}
use Rattle.mls_solver.specs.Rooms.{Holds}
use Rattle.mls_biunify.proofs.IndexedPairs.{row-copied}
use Rattle.mls_biunify.proofs.worklist.copy_row.Goals as goal

pub add_set-requires : goal.add_set-requires
add_set-requires c n it =
    let same : c.as_slice.result.now ≡ c.below.result.now = c.as_slice.ensures.members ∙ c.in_ok-row.ensures in
    (c.requires.to, c.below.ensures.low n (subst (λ (xs : List ℕ). Contains xs n) same it))

pub returns : goal.returns
returns c =
    let same : c.as_slice.result.now ≡ c.below.result.now = c.as_slice.ensures.members ∙ c.in_ok-row.ensures in
    row-copied c.args.room.now c.add_set.new.room c.args.from c.args.to c.as_slice.result.now
    (subst (λ (xs : List ℕ). (n : ℕ) → Contains xs n ↔ Holds c.args.room.now c.args.from n) (sym same) c.below.ensures.members)
    c.in_ok-add_set.ensures
