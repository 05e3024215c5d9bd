-- Names that rise, and others: which of them are there.
--     all-lower        a name above the last of those that rise is above all
--     pushed           they rise with one more that is above all
--     none-above       a name above all is none of them
--     searched         a search by halves finds whether a name is one of them
--     nothing-added    a name that is there adds nothing
--     known-rising, known-others      a name that is in one of the two lists is there
--     elsewhere        one that does not rise is there where the others have it
--     added-behind     one more is among the others
use Rattle.std.proofs.Common.{◌≡◌, inl, inr, ℕ, ◌≤◌, ◌+◌, ◌-◌, Bool, true, false, ◌||◌, List, [], ◌∷◌, ◌++◌, refl, sym, ap, ◌∙◌, subst, arith, length, get_or, All, Some, length-append}
use Rattle.std.specs.Prelude.{cond, bytes_eq, Result, Ok, Err, is_ok}
use Rattle.std.specs.List.{list_any, slice_get}
use Rattle.std.specs.List.Sorted.{IsSorted, IsBinarySearchResult, IsSearchInRange}
use Rattle.std.specs.Ordering.{is_eq, is_lt, ordering_index, ordering_reverse}
use Rattle.std.specs.declared.cmp.Ordering.{Ordering}
use Rattle.std.specs.declared.cmp.Ordering.TheVariants.{Less, Equal, Greater}
use Rattle.std.specs.BTreeSet.{BTreeSet, contains, Updates}
use Rattle.std.proofs.lemmas.Bool.{cases_lt}
use Rattle.std.proofs.lemmas.Cmp.{nat_list_eq_equiv}
use Rattle.std.proofs.lemmas.List.{get_or_append_left}
use Rattle.std.proofs.Math.Seq.{get_or-append_seam}
use Rattle.std.proofs.lemmas.List.Folds.{list_any-append, list_any_none, list_any_at}
use Rattle.std.proofs.lemmas.List.Sorted.{searchable_from_sorted}
use Rattle.std.proofs.lemmas.Option.{get_or_from_slice_get}
use Rattle.std.proofs.lemmas.Slice.Eq.{bytes_eq-Decides}
use Rattle.mls_reader.specs.steps.GivenTwice.{HasSameNames}
use Rattle.mls_reader.specs.steps.Spellings.{spelling_cmp}
use Rattle.mls_reader.specs.steps.SpellingOrder.{spelling_ties, spelling_total}

-- whether a name is one of these
abbrev pub is_among : List (List ℕ) → List ℕ → Bool
is_among names x = list_any (bytes_eq x) names

same-test : (x y : List ℕ) (o : Ordering) → spelling_cmp y x ≡ o → bytes_eq x y ≡ is_eq o
same-test x y o e = nat_list_eq_equiv.symm x y ∙ (sym (spelling_ties y x) ∙ ap is_eq e)

module _ (names : List (List ℕ)) (name : List ℕ) where
  least-index : (o o' : Ordering) → ordering_index o ≤ ordering_index o' → o' ≡ Less → o ≡ Less
  least-index Less o' le e = refl
  least-index Equal o' le e = let low : ordering_index o' ≡ 0 = ap ordering_index e in absurd (omega arith)
  least-index Greater o' le e = let low : ordering_index o' ≡ 0 = ap ordering_index e in absurd (omega arith)

  pub all-lower : (last : List ℕ) → IsSorted spelling_cmp names → Some last ≡ slice_get names (length names - 1) → spelling_cmp last name ≡ Less → All (λ other. spelling_cmp other name ≡ Less) names
  all-lower last rise is less k d low =
      let end : get_or names (length names - 1) d ≡ last = get_or_from_slice_get names (length names - 1) last d (sym is) in
      least-index (spelling_cmp (get_or names k d) name) (spelling_cmp (get_or names (length names - 1) d) name)
      (searchable_from_sorted spelling_total (λ (x : List ℕ). x) names name rise k (length names - 1) d (omega arith) (omega arith))
      (ap (λ l. spelling_cmp l name) end ∙ less)

  flipped : (x y : List ℕ) → spelling_cmp x y ≡ Less → is_lt (spelling_cmp y x) ≡ false
  flipped x y less = ap is_lt (spelling_total.antisymm y x ∙ ap ordering_reverse less)

  rise-on : IsSorted spelling_cmp names → All (λ other. spelling_cmp other name ≡ Less) names → IsSorted spelling_cmp (names ++ name ∷ [])
  rise-on rise lower k d start low = elim (cases_lt (k + 1) (length names)) [
    | inl before ↦
        (λ i. is_lt (spelling_cmp (get_or_append_left names (name ∷ []) d (k + 1) before i) (get_or_append_left names (name ∷ []) d k (omega arith) i)))
        ∙ rise k d start before
    | inr behind ↦
        let size : length (names ++ name ∷ []) ≡ length names + 1 = length-append names (name ∷ []) in
        let here : k + 1 ≡ length names = omega arith in
        let end : get_or (names ++ name ∷ []) (k + 1) d ≡ name = ap (λ n. get_or (names ++ name ∷ []) n d) here ∙ get_or-append_seam names name [] d in
        (λ i. is_lt (spelling_cmp (end i) (get_or_append_left names (name ∷ []) d k (omega arith) i)))
        ∙ flipped (get_or names k d) name (lower k d (omega arith))
  ]

  -- of a slice of them
  module _ (slice : List (List ℕ)) (is : slice ≡ names) where
    pub pushed : (more : List (List ℕ)) → IsSorted spelling_cmp names → All (λ other. spelling_cmp other name ≡ Less) slice → more ≡ names ++ name ∷ [] → IsSorted spelling_cmp more
    pushed more rise lower longer =
        subst (IsSorted spelling_cmp) (sym longer) (rise-on rise (subst (All (λ other. spelling_cmp other name ≡ Less)) is lower))

    pub none-above : All (λ other. spelling_cmp other name ≡ Less) slice → is_among names name ≡ false
    none-above lower = ap (λ ls. is_among ls name) (sym is) ∙ list_any_none (bytes_eq name) slice (λ k d low. same-test name (get_or slice k d) Less (lower k d low))

    pub searched : (r : Result ℕ ℕ) → IsSorted spelling_cmp names → IsSearchInRange r (length slice) → IsBinarySearchResult (λ other. spelling_cmp other name) slice r → is_among names name ≡ is_ok r
    searched (Ok i) rise low found =
        ap (λ ls. is_among ls name) (sym is)
        ∙ list_any_at (bytes_eq name) slice i name low (same-test name (get_or slice i name) Equal (found name))
    searched (Err i) rise low found =
        let split = found (searchable_from_sorted spelling_total (λ (x : List ℕ). x) slice name (subst (IsSorted spelling_cmp) (sym is) rise)) in
        ap (λ ls. is_among ls name) (sym is)
        ∙ list_any_none (bytes_eq name) slice (λ k d in_list. elim (cases_lt k i) [
          | inl before ↦ same-test name (get_or slice k d) Less (split.0 k d (omega arith) before)
          | inr behind ↦ same-test name (get_or slice k d) Greater (split.1 k d behind in_list)
        ])

either : (b c : Bool) → c ≡ true → (b || c) ≡ true
either true c h = refl
either false c h = h

swap : (a b c : Bool) → (a || (b || c)) ≡ (b || (a || c))
swap true true c = refl
swap true false c = refl
swap false true c = refl
swap false false c = refl

-- a name that is there adds nothing
pub nothing-added : (name : List ℕ) (names : List (List ℕ)) → is_among names name ≡ true → HasSameNames (name ∷ names) names
nothing-added name names there x = by_equal (bytes_eq x name) refl
  where
    by_equal : (b : Bool) → bytes_eq x name ≡ b → (bytes_eq x name || is_among names x) ≡ is_among names x
    by_equal true e =
        let same : x ≡ name = (bytes_eq-Decides x name).0 e in
        ap (λ b. b || is_among names x) e ∙ sym (ap (is_among names) same ∙ there)
    by_equal false e = ap (λ b. b || is_among names x) e

-- a set has a name that is equal to one of its names
has : (x : List ℕ) (set : BTreeSet (List ℕ)) → contains spelling_cmp set x ≡ is_among set.keys x
has x set = ap (λ (test : List ℕ → Bool). list_any test set.keys) (λ i y. spelling_ties x y i)

same-added : (name : List ℕ) (old new : BTreeSet (List ℕ)) → Updates spelling_cmp old new name true → HasSameNames (name ∷ old.keys) new.keys
same-added name old new updates x =
    sym (sym (has x new)
    ∙ (updates.0 x
    ∙ ((λ i. cond ((spelling_ties name x ∙ nat_list_eq_equiv.symm name x) i) true (has x old i))
    ∙ choice (bytes_eq x name) (is_among old.keys x))))
  where
    choice : (b other : Bool) → cond b true other ≡ (b || other)
    choice true other = refl
    choice false other = refl

module _ (rising : List (List ℕ)) (others : BTreeSet (List ℕ)) (names : List (List ℕ)) (are : rising ++ others.keys ≡ names) (name : List ℕ) where
  parts : (x : List ℕ) → is_among names x ≡ (is_among rising x || is_among others.keys x)
  parts x = ap (λ ls. is_among ls x) (sym are) ∙ list_any-append (bytes_eq x) rising others.keys

  pub known-rising : is_among rising name ≡ true → is_among names name ≡ true
  known-rising there = parts name ∙ ap (λ b. b || is_among others.keys name) there

  pub known-others : contains spelling_cmp others name ≡ true → is_among names name ≡ true
  known-others there = parts name ∙ either (is_among rising name) (is_among others.keys name) (sym (has name others) ∙ there)

  pub elsewhere : is_among rising name ≡ false → is_among names name ≡ contains spelling_cmp others name
  elsewhere none = parts name ∙ (ap (λ b. b || is_among others.keys name) none ∙ sym (has name others))

  pub added-behind : (more : BTreeSet (List ℕ)) → Updates spelling_cmp others more name true → HasSameNames (name ∷ names) (rising ++ more.keys)
  added-behind more updates x =
      ap (λ b. bytes_eq x name || b) (parts x)
      ∙ (swap (bytes_eq x name) (is_among rising x) (is_among others.keys x)
      ∙ (ap (λ b. is_among rising x || b) (same-added name others more updates x)
      ∙ sym (list_any-append (bytes_eq x) rising more.keys)))
