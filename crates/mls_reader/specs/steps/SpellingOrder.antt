-- The order of names where they stand in a text is a total order, and equal names are the same.
--     spelling_total       it is one
--     spelling_ties        names are equal in it where their bytes are
use Rattle.std.proofs.Common.{◌≡◌, ◌∙◌, ℕ, Bool, true, false, ◌&&◌, List, length, refl, sym, ap}
use Rattle.std.specs.Prelude.{bytes_eq}
use Rattle.std.specs.Cmp.{IsTotalOrder, both_tied, nat_cmp_total, on_total, then_total, tied_itself}
use Rattle.std.specs.Cmp.Lexicographic.{slice_cmp}
use Rattle.std.specs.Ordering.{is_eq, nat_cmp}
use Rattle.std.proofs.lemmas.Cmp.{nat_list_cmp_total}
use Rattle.std.proofs.lemmas.Map.Text.{is_eq-slice_cmp}
use Rattle.std.proofs.lemmas.Slice.Eq.{bytes_eq-Decides}
use Rattle.mls_reader.specs.steps.Spellings.{spelling_cmp}

pub spelling_total : IsTotalOrder spelling_cmp
spelling_total = then_total (on_total length nat_cmp_total) nat_list_cmp_total

-- names with the same bytes are as long
as_long : (x y : List ℕ) (b : Bool) → bytes_eq x y ≡ b → (is_eq (nat_cmp (length x) (length y)) && b) ≡ b
as_long x y true e =
    let same : x ≡ y = (bytes_eq-Decides x y).0 e in
    (λ i. is_eq (nat_cmp (length x) (length (sym same i))) && true) ∙ ap (λ o. is_eq o && true) (tied_itself nat_cmp_total (length x))
as_long x y false e = none (is_eq (nat_cmp (length x) (length y)))
  where
    none : (b : Bool) → (b && false) ≡ false
    none true = refl
    none false = refl

pub spelling_ties : (x y : List ℕ) → is_eq (spelling_cmp x y) ≡ bytes_eq x y
spelling_ties x y =
    sym (both_tied (is_eq (nat_cmp (length x) (length y))) (bytes_eq x y) (nat_cmp (length x) (length y)) (slice_cmp nat_cmp x y) refl (sym (is_eq-slice_cmp x y)))
    ∙ as_long x y (bytes_eq x y) refl
