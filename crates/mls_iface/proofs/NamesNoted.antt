-- A set of names with one more.
use Rattle.std.proofs.Common.{◌≡◌, ◌⊎◌, inl, inr, ℕ, Bool, true, false, ◌||◌, List, refl, sym, ap, ◌∙◌}
use Rattle.std.specs.Prelude.{bytes_eq, cond}
use Rattle.std.specs.Ordering.{nat_cmp}
use Rattle.std.specs.Cmp.Lexicographic.{slice_cmp}
use Rattle.std.specs.BTreeSet.{BTreeSet, contains, Updates}
use Rattle.std.proofs.lemmas.Bool.{cases_Bool}
use Rattle.std.proofs.lemmas.Map.Text.{is_eq-slice_cmp}
use Rattle.std.proofs.lemmas.Slice.Eq.{bytes_eq-Decides}

same_way : (x y : List ℕ) → bytes_eq x y ≡ true → bytes_eq y x ≡ true
same_way x y e = (bytes_eq-Decides y x).1 (sym ((bytes_eq-Decides x y).0 e))

either_way : (x y : List ℕ) → bytes_eq x y ≡ bytes_eq y x
either_way x y = go (cases_Bool (bytes_eq x y)) (cases_Bool (bytes_eq y x))
  where
    go : (bytes_eq x y ≡ true) ⊎ (bytes_eq x y ≡ false) → (bytes_eq y x ≡ true) ⊎ (bytes_eq y x ≡ false) → bytes_eq x y ≡ bytes_eq y x
    go (inl e) other = e ∙ sym (same_way x y e)
    go (inr e) (inl e') = same_way y x e' ∙ sym e'
    go (inr e) (inr e') = e ∙ sym e'

choice : (b other : Bool) → cond b true other ≡ (b || other)
choice true other = refl
choice false other = refl

pub noted : (x : List ℕ) (old new : BTreeSet (List ℕ)) → Updates (slice_cmp nat_cmp) old new x true
    → (y : List ℕ) → contains (slice_cmp nat_cmp) new y ≡ (bytes_eq y x || contains (slice_cmp nat_cmp) old y)
noted x old new updates y =
    updates.0 y
    ∙ (ap (λ b. cond b true (contains (slice_cmp nat_cmp) old y)) (is_eq-slice_cmp x y ∙ either_way x y)
    ∙ choice (bytes_eq y x) (contains (slice_cmp nat_cmp) old y))
