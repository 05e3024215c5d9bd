-- Sets that have just the members of a list.
--     just_none, just_more        no member, and one more
--     apart_more                  a member more that differs from those before it
--     number_same, number_self    numbers are the same key just where they are the same
--     label_same, label_self      and so are labels
use Rattle.std.proofs.Common.{◌≡◌, ◌≢◌, ◌⊎◌, inl, inr, ℕ, Bool, true, false, List, [], ◌∷◌, ◌++◌, refl, sym, ◌∙◌, subst, cond, Contains, arith}
use Rattle.std.specs.BTreeSet.{BTreeSet, contains, IsEmpty, Updates}
use Rattle.std.specs.List.{AllPairs}
use Rattle.std.specs.Ordering.{nat_cmp, is_eq}
use Rattle.std.specs.Cmp.Lexicographic.{slice_cmp}
use Rattle.std.specs.declared.cmp.Ordering.{Ordering}
use Rattle.std.specs.declared.cmp.Ordering.TheVariants.{Less, Equal, Greater}
use Rattle.std.specs.FinMap.{nat_cmp-IsAntisymmetric}
use Rattle.std.proofs.lemmas.Cmp.{nat_list_eq_equiv}
use Rattle.std.proofs.lemmas.List.Quantifiers.{all_pairs_push}
use Rattle.std.proofs.lemmas.List.Elements.{Contains-get_or, Contains-append_left, Contains-push, Contains-push_cases}
use Rattle.std.proofs.lemmas.Map.Text.{is_eq-slice_cmp}
use Rattle.std.proofs.lemmas.Slice.Eq.{bytes_eq-Decides}
use Rattle.mls_layout.specs.steps.Posable.{HasJust}
use Rattle.mls_layout.proofs.WorkedParts.{nothing}

module _ {K : Type 0} (cmp : K → K → Ordering) (same : (x y : K) → is_eq (cmp x y) ≡ true → x ≡ y) (self : (x : K) → is_eq (cmp x x) ≡ true) where
  pub just_none : (set : BTreeSet K) → IsEmpty set → HasJust cmp [] set
  just_none set none k = (
    λ it. let empty : contains cmp set k ≡ false = (λ i. contains cmp (record { keys = none i }) k) in absurd (cc),
    λ there. absurd (nothing k there),
  )

  pub just_more : (xs : List K) (old new : BTreeSet K) (x : K) → HasJust cmp xs old → Updates cmp old new x true → HasJust cmp (xs ++ x ∷ []) new
  just_more xs old new x it updates k = (
    λ there. to (is_eq (cmp x k)) refl (sym (updates.0 k) ∙ there),
    λ there. updates.0 k ∙ from (is_eq (cmp x k)) refl (Contains-push_cases xs x k there),
  )
    where
      to : (b : Bool) → is_eq (cmp x k) ≡ b → cond b true (contains cmp old k) ≡ true → Contains (xs ++ x ∷ []) k
      to true e h = subst (Contains (xs ++ x ∷ [])) (same x k e) (Contains-push xs x)
      to false e h = Contains-append_left xs (x ∷ []) k ((it k).0 h)

      from : (b : Bool) → is_eq (cmp x k) ≡ b → Contains xs k ⊎ (x ≡ k) → cond b true (contains cmp old k) ≡ true
      from true e there = refl
      from false e (inl before) = (it k).1 before
      from false e (inr is) = let yes : is_eq (cmp x k) ≡ true = subst (λ y. is_eq (cmp x y) ≡ true) is (self x) in absurd (cc)

  -- members that differ from those before them
  pub apart_more : (xs : List K) (old : BTreeSet K) (x : K) → AllPairs (λ y z. y ≢ z) xs → HasJust cmp xs old → contains cmp old x ≡ false → AllPairs (λ y z. y ≢ z) (xs ++ x ∷ [])
  apart_more xs old x apart it absent =
      all_pairs_push (λ y z. y ≢ z) xs x apart
      (λ k d low is. let there : contains cmp old x ≡ true = (it x).1 (subst (Contains xs) is (Contains-get_or xs k d low)) in absurd (cc))

is_equal : (o : Ordering) → is_eq o ≡ true → o ≡ Equal
is_equal Less e = absurd (cc)
is_equal Equal e = refl
is_equal Greater e = absurd (cc)

pub number_same : (x y : ℕ) → is_eq (nat_cmp x y) ≡ true → x ≡ y
number_same x y e = nat_cmp-IsAntisymmetric x y (is_equal (nat_cmp x y) e)

pub number_self : (x : ℕ) → is_eq (nat_cmp x x) ≡ true
number_self x = search arith

pub label_same : (x y : List ℕ) → is_eq (slice_cmp nat_cmp x y) ≡ true → x ≡ y
label_same x y e = (bytes_eq-Decides x y).0 (sym (is_eq-slice_cmp x y) ∙ e)

pub label_self : (x : List ℕ) → is_eq (slice_cmp nat_cmp x x) ≡ true
label_self x = is_eq-slice_cmp x x ∙ nat_list_eq_equiv.refl x
