-- Each node that a search came to has its place noted.
use Rattle.std.proofs.Common.{◌≡◌, inl, inr, ℕ, ◌+◌, ◌<◌, List, [], ◌∷◌, ◌++◌, sym, ap, ◌∙◌, subst, arith, length, get_or, Contains}
use Rattle.std.specs.Prelude.{set}
use Rattle.std.proofs.lemmas.Bool.{cases_eq}
use Rattle.std.proofs.lemmas.List.{get_or_append_left, get_or_default, get_or-set_other, get_or-set_same, length-append, length-set}
use Rattle.std.proofs.Math.Seq.{get_or-append_seam}
use Rattle.mls_scheme.specs.steps.Visits.{ArePlaced}

-- a node that is no member comes to the end
pub placed-more : (met places new : List ℕ) (i place : ℕ) → ArePlaced met places → i < length places → (Contains met i → ⊥) → place ≡ length met → new ≡ met ++ i ∷ [] → ArePlaced new (set places i place)
placed-more met places new i place placed low fresh is_place is_new =
    λ d in_list. elim (cases_eq d (length met)) [
      | inl same ↦ last d same
      | inr other ↦ earlier d (
          let size : length new ≡ length met + 1 = ap length is_new ∙ length-append met (i ∷ []) in
          let below : d < length new = in_list in
          omega arith
          )
    ]
  where
    last : (d : ℕ) → d ≡ length met → (get_or new d 0 < length (set places i place)) × (get_or (set places i place) (get_or new d 0) 0 ≡ d)
    last d same =
        let is_last : get_or new d 0 ≡ i = (λ k. get_or (is_new k) (same k) 0) ∙ get_or-append_seam met i [] 0 in
        subst (λ v. (v < length (set places i place)) × (get_or (set places i place) v 0 ≡ d)) (sym is_last)
        (subst (λ n. i < n) (sym (length-set places i place)) low, get_or-set_same places i place 0 low ∙ (is_place ∙ sym same))

    earlier : (d : ℕ) → d < length met → (get_or new d 0 < length (set places i place)) × (get_or (set places i place) (get_or new d 0) 0 ≡ d)
    earlier d below =
        let is_same : get_or new d 0 ≡ get_or met d 0 = ap (λ (xs : List ℕ). get_or xs d 0) is_new ∙ get_or_append_left met (i ∷ []) 0 d below in
        let other : get_or met d 0 ≡ i → ⊥ = λ same. fresh (d, below, get_or_default met d i 0 below ∙ same) in
        subst (λ v. (v < length (set places i place)) × (get_or (set places i place) v 0 ≡ d)) (sym is_same)
        (subst (λ n. get_or met d 0 < n) (sym (length-set places i place)) (placed d below).0, get_or-set_other places i (get_or met d 0) place 0 other ∙ (placed d below).1)
