-- Labels that rise, and others: which of them are there.
--     all-lower        a label above the last of those that rise is above all
--     pushed           they rise with one more that is above all
--     none-above       a label above all is none of them
--     searched         a search by halves finds whether a label is one of them
--     nothing-added    a label that is there adds nothing
--     known-rising, known-others      a label that is in one of the two lists is there
--     elsewhere        one that does not rise is there where the others have it
--     added-behind     one more is among the others
use Rattle.std.proofs.Common.{◌≡◌, inl, inr, ℕ, ◌≤◌, ◌+◌, ◌-◌, Bool, true, false, ◌||◌, List, [], ◌∷◌, ◌++◌, refl, sym, ap, ◌∙◌, subst, arith, length, get_or, All, Some, length-append}
use Rattle.std.specs.Prelude.{cond, bytes_eq, Result, Ok, Err, is_ok}
use Rattle.std.specs.List.{list_any, slice_get}
use Rattle.std.specs.List.Sorted.{IsSorted, IsBinarySearchResult, IsSearchInRange}
use Rattle.std.specs.Ordering.{nat_cmp, is_eq, is_lt, ordering_index, ordering_reverse}
use Rattle.std.specs.declared.cmp.Ordering.{Ordering}
use Rattle.std.specs.declared.cmp.Ordering.TheVariants.{Less, Equal, Greater}
use Rattle.std.specs.Cmp.Lexicographic.{slice_cmp}
use Rattle.std.specs.BTreeSet.{BTreeSet, contains, Updates}
use Rattle.std.proofs.lemmas.Bool.{cases_lt}
use Rattle.std.proofs.lemmas.Cmp.{nat_list_cmp_total, nat_list_eq_equiv}
use Rattle.std.proofs.lemmas.List.{get_or_append_left}
use Rattle.std.proofs.Math.Seq.{get_or-append_seam}
use Rattle.std.proofs.lemmas.List.Folds.{list_any-append, list_any_none, list_any_at}
use Rattle.std.proofs.lemmas.List.Sorted.{searchable_from_sorted}
use Rattle.std.proofs.lemmas.Map.Text.{is_eq-slice_cmp}
use Rattle.std.proofs.lemmas.Option.{get_or_from_slice_get}
use Rattle.std.proofs.lemmas.Slice.Eq.{bytes_eq-Decides}
use Rattle.mls_typetext.specs.steps.LabelLists.{is_among, HasAdded}

same-test : (x y : List ℕ) (o : Ordering) → slice_cmp nat_cmp y x ≡ o → bytes_eq x y ≡ is_eq o
same-test x y o e = nat_list_eq_equiv.symm x y ∙ (sym (is_eq-slice_cmp y x) ∙ ap is_eq e)

module _ (labels : List (List ℕ)) (label : List ℕ) where
  least-index : (o o' : Ordering) → ordering_index o ≤ ordering_index o' → o' ≡ Less → o ≡ Less
  least-index Less o' le e = refl
  least-index Equal o' le e = let low : ordering_index o' ≡ 0 = ap ordering_index e in absurd (omega arith)
  least-index Greater o' le e = let low : ordering_index o' ≡ 0 = ap ordering_index e in absurd (omega arith)

  pub all-lower : (last : List ℕ) → IsSorted (slice_cmp nat_cmp) labels → Some last ≡ slice_get labels (length labels - 1) → slice_cmp nat_cmp last label ≡ Less → All (λ other. slice_cmp nat_cmp other label ≡ Less) labels
  all-lower last rise is less k d low =
      let end : get_or labels (length labels - 1) d ≡ last = get_or_from_slice_get labels (length labels - 1) last d (sym is) in
      least-index (slice_cmp nat_cmp (get_or labels k d) label) (slice_cmp nat_cmp (get_or labels (length labels - 1) d) label)
      (searchable_from_sorted nat_list_cmp_total (λ (x : List ℕ). x) labels label rise k (length labels - 1) d (omega arith) (omega arith))
      (ap (λ l. slice_cmp nat_cmp l label) end ∙ less)

  flipped : (x y : List ℕ) → slice_cmp nat_cmp x y ≡ Less → is_lt (slice_cmp nat_cmp y x) ≡ false
  flipped x y less = ap is_lt (nat_list_cmp_total.antisymm y x ∙ ap ordering_reverse less)

  rise-on : IsSorted (slice_cmp nat_cmp) labels → All (λ other. slice_cmp nat_cmp other label ≡ Less) labels → IsSorted (slice_cmp nat_cmp) (labels ++ label ∷ [])
  rise-on rise lower k d start low = elim (cases_lt (k + 1) (length labels)) [
    | inl before ↦
        (λ i. is_lt (slice_cmp nat_cmp (get_or_append_left labels (label ∷ []) d (k + 1) before i) (get_or_append_left labels (label ∷ []) d k (omega arith) i)))
        ∙ rise k d start before
    | inr behind ↦
        let size : length (labels ++ label ∷ []) ≡ length labels + 1 = length-append labels (label ∷ []) in
        let here : k + 1 ≡ length labels = omega arith in
        let end : get_or (labels ++ label ∷ []) (k + 1) d ≡ label = ap (λ n. get_or (labels ++ label ∷ []) n d) here ∙ get_or-append_seam labels label [] d in
        (λ i. is_lt (slice_cmp nat_cmp (end i) (get_or_append_left labels (label ∷ []) d k (omega arith) i)))
        ∙ flipped (get_or labels k d) label (lower k d (omega arith))
  ]

  -- of a slice of them
  module _ (slice : List (List ℕ)) (is : slice ≡ labels) where
    pub pushed : (more : List (List ℕ)) → IsSorted (slice_cmp nat_cmp) labels → All (λ other. slice_cmp nat_cmp other label ≡ Less) slice → more ≡ labels ++ label ∷ [] → IsSorted (slice_cmp nat_cmp) more
    pushed more rise lower longer =
        subst (IsSorted (slice_cmp nat_cmp)) (sym longer) (rise-on rise (subst (All (λ other. slice_cmp nat_cmp other label ≡ Less)) is lower))

    pub none-above : All (λ other. slice_cmp nat_cmp other label ≡ Less) slice → is_among labels label ≡ false
    none-above lower = ap (λ ls. is_among ls label) (sym is) ∙ list_any_none (bytes_eq label) slice (λ k d low. same-test label (get_or slice k d) Less (lower k d low))

    pub searched : (r : Result ℕ ℕ) → IsSorted (slice_cmp nat_cmp) labels → IsSearchInRange r (length slice) → IsBinarySearchResult (λ other. slice_cmp nat_cmp other label) slice r → is_among labels label ≡ is_ok r
    searched (Ok i) rise low found =
        ap (λ ls. is_among ls label) (sym is)
        ∙ list_any_at (bytes_eq label) slice i label low (same-test label (get_or slice i label) Equal (found label))
    searched (Err i) rise low found =
        let split = found (searchable_from_sorted nat_list_cmp_total (λ (x : List ℕ). x) slice label (subst (IsSorted (slice_cmp nat_cmp)) (sym is) rise)) in
        ap (λ ls. is_among ls label) (sym is)
        ∙ list_any_none (bytes_eq label) slice (λ k d in_list. elim (cases_lt k i) [
          | inl before ↦ same-test label (get_or slice k d) Less (split.0 k d (omega arith) before)
          | inr behind ↦ same-test label (get_or slice k d) Greater (split.1 k d behind in_list)
        ])

either : (b c : Bool) → c ≡ true → (b || c) ≡ true
either true c h = refl
either false c h = h

swap : (a b c : Bool) → (a || (b || c)) ≡ (b || (a || c))
swap true true c = refl
swap true false c = refl
swap false true c = refl
swap false false c = refl

-- a label that is there adds nothing
pub nothing-added : (label : List ℕ) (labels : List (List ℕ)) → is_among labels label ≡ true → HasAdded label labels labels
nothing-added label labels there x = by_equal (bytes_eq x label) refl
  where
    by_equal : (b : Bool) → bytes_eq x label ≡ b → is_among labels x ≡ (bytes_eq x label || is_among labels x)
    by_equal true e =
        let same : x ≡ label = (bytes_eq-Decides x label).0 e in
        ap (is_among labels) same ∙ there ∙ sym (ap (λ b. b || is_among labels x) e)
    by_equal false e = sym (ap (λ b. b || is_among labels x) e)

-- a set has a label that is equal to one of its labels
has : (x : List ℕ) (set : BTreeSet (List ℕ)) → contains (slice_cmp nat_cmp) set x ≡ is_among set.keys x
has x set = ap (λ (test : List ℕ → Bool). list_any test set.keys) (λ i y. is_eq-slice_cmp x y i)

same-added : (label : List ℕ) (old new : BTreeSet (List ℕ)) → Updates (slice_cmp nat_cmp) old new label true → HasAdded label old.keys new.keys
same-added label old new updates x =
    sym (has x new)
    ∙ (updates.0 x
    ∙ ((λ i. cond ((is_eq-slice_cmp label x ∙ nat_list_eq_equiv.symm label x) i) true (has x old i))
    ∙ choice (bytes_eq x label) (is_among old.keys x)))
  where
    choice : (b other : Bool) → cond b true other ≡ (b || other)
    choice true other = refl
    choice false other = refl

module _ (rising : List (List ℕ)) (others : BTreeSet (List ℕ)) (labels : List (List ℕ)) (are : rising ++ others.keys ≡ labels) (label : List ℕ) where
  parts : (x : List ℕ) → is_among labels x ≡ (is_among rising x || is_among others.keys x)
  parts x = ap (λ ls. is_among ls x) (sym are) ∙ list_any-append (bytes_eq x) rising others.keys

  pub known-rising : is_among rising label ≡ true → is_among labels label ≡ true
  known-rising there = parts label ∙ ap (λ b. b || is_among others.keys label) there

  pub known-others : contains (slice_cmp nat_cmp) others label ≡ true → is_among labels label ≡ true
  known-others there = parts label ∙ either (is_among rising label) (is_among others.keys label) (sym (has label others) ∙ there)

  pub elsewhere : is_among rising label ≡ false → is_among labels label ≡ contains (slice_cmp nat_cmp) others label
  elsewhere none = parts label ∙ (ap (λ b. b || is_among others.keys label) none ∙ sym (has label others))

  pub added-behind : (more : BTreeSet (List ℕ)) → Updates (slice_cmp nat_cmp) others more label true → HasAdded label labels (rising ++ more.keys)
  added-behind more updates x =
      list_any-append (bytes_eq x) rising more.keys
      ∙ (ap (λ b. is_among rising x || b) (same-added label others more updates x)
      ∙ (swap (is_among rising x) (bytes_eq x label) (is_among others.keys x)
      ∙ ap (λ b. bytes_eq x label || b) (sym (parts x))))
