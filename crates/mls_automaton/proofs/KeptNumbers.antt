-- The numbers of states that are kept.
use Rattle.std.proofs.Common.{◌≡◌, inl, inr, ℕ, ◌<◌, ◌≤◌, ◌+◌, Bool, true, false, List, [], ◌∷◌, ◌++◌, refl, sym, ap, ◌∙◌, subst, arith, length, get_or}
use Rattle.std.proofs.lemmas.List.{get_or_past, get_or_append_left, length-append}
use Rattle.std.proofs.Math.Seq.{get_or-append_seam}
use Rattle.std.proofs.lemmas.Bool.{cases_eq, cases_lt}
use Rattle.mls_automaton.specs.Sets.{Rises}
use Rattle.mls_automaton.specs.steps.Keeping.{AreKept, AreKeptTo, IsKept}

last-of : (xs : List ℕ) (y n : ℕ) → length xs ≡ n → get_or (xs ++ y ∷ []) n 0 ≡ y
last-of xs y n e = ap (λ k. get_or (xs ++ y ∷ []) k 0) (sym e) ∙ get_or-append_seam xs y [] 0

pub rises-push : (xs : List ℕ) (y : ℕ) → Rises xs → ((i : ℕ) → i < length xs → get_or xs i 0 < y) → Rises (xs ++ y ∷ [])
rises-push xs y rises above i j less low =
    let size : length (xs ++ y ∷ []) ≡ length xs + 1 = length-append xs (y ∷ []) in
    let here : get_or (xs ++ y ∷ []) i 0 ≡ get_or xs i 0 = get_or_append_left xs (y ∷ []) 0 i (omega arith) in
    elim (cases_lt j (length xs)) [
      | inl before ↦
          let there : get_or (xs ++ y ∷ []) j 0 ≡ get_or xs j 0 = get_or_append_left xs (y ∷ []) 0 j before in
          let h : get_or xs i 0 < get_or xs j 0 = rises i j less before in
          omega arith
      | inr last ↦
          let there : get_or (xs ++ y ∷ []) j 0 ≡ y = last-of xs y j (omega arith) in
          let h : get_or xs i 0 < y = above i (omega arith) in
          omega arith
    ]

module _ (n : ℕ) (marks : List Bool) (places numbers : List ℕ) (is : AreKeptTo n marks places numbers) where
  more : List ℕ
  more = numbers ++ length places ∷ []

  size-more : length more ≡ n + 1
  unfolding more
  size-more = length-append numbers (length places ∷ []) ∙ ap (λ k. k + 1) is.size

  old-number : (s : ℕ) → s < n → get_or more s 0 ≡ get_or numbers s 0
  unfolding more
  old-number s low = get_or_append_left numbers (length places ∷ []) 0 s (let e : length numbers ≡ n = is.size in omega arith)

  new-number : get_or more n 0 ≡ length places
  unfolding more
  new-number = last-of numbers (length places) n is.size

  pub kept-skip : get_or marks n false ≡ false → AreKeptTo (n + 1) marks places (numbers ++ length places ∷ [])
  unfolding more
  kept-skip unmarked = record {
    size = size-more;
    rising = is.rising;
    low = λ i low. let h : get_or places i 0 < n = is.low i low in omega arith;
    kept = is.kept;
    number_of = λ i low. old-number (get_or places i 0) (is.low i low) ∙ is.number_of i low;
    place = λ s low kept. elim (cases_eq s n) [
      | inl e ↦ let at : get_or marks s false ≡ false = ap (λ k. get_or marks k false) e ∙ unmarked in absurd (cc)
      | inr other ↦
          let below : s < n = omega arith in
          let it = is.place s below kept in
          (subst (λ k. k < length places) (sym (old-number s below)) it.0, ap (λ k. get_or places k 0) (old-number s below) ∙ it.1)
    ];
  }

  pub kept-more : get_or marks n false ≡ true → AreKeptTo (n + 1) marks (places ++ n ∷ []) (numbers ++ length places ∷ [])
  unfolding more
  kept-more marked = record {
    size = size-more;
    rising = rises-push places n is.rising is.low;
    low = λ i low. elim (cases_lt i (length places)) [
      | inl before ↦ let h : get_or places i 0 < n = is.low i before in let e : get_or (places ++ n ∷ []) i 0 ≡ get_or places i 0 = old i before in omega arith
      | inr last ↦ let e : get_or (places ++ n ∷ []) i 0 ≡ n = new i last low in omega arith
    ];
    kept = λ i low. elim (cases_lt i (length places)) [
      | inl before ↦ ap (λ k. get_or marks k false) (old i before) ∙ is.kept i before
      | inr last ↦ ap (λ k. get_or marks k false) (new i last low) ∙ marked
    ];
    number_of = λ i low. elim (cases_lt i (length places)) [
      | inl before ↦ ap (λ k. get_or more k 0) (old i before) ∙ (old-number (get_or places i 0) (is.low i before) ∙ is.number_of i before)
      | inr last ↦
          let e : i ≡ length places = at-end i last low in
          ap (λ k. get_or more k 0) (new i last low) ∙ (new-number ∙ sym e)
    ];
    place = λ s low kept. elim (cases_eq s n) [
      | inl e ↦
          let at : get_or more s 0 ≡ length places = ap (λ k. get_or more k 0) e ∙ new-number in
          let size : length (places ++ n ∷ []) ≡ length places + 1 = length-append places (n ∷ []) in
          let in_list : get_or more s 0 < length (places ++ n ∷ []) = omega arith in
          (in_list, ap (λ k. get_or (places ++ n ∷ []) k 0) at ∙ (last-of places n (length places) refl ∙ sym e))
      | inr other ↦
          let below : s < n = omega arith in
          let it = is.place s below kept in
          let h : get_or numbers s 0 < length places = it.0 in
          let e : get_or more s 0 ≡ get_or numbers s 0 = old-number s below in
          let size : length (places ++ n ∷ []) ≡ length places + 1 = length-append places (n ∷ []) in
          let in_list : get_or more s 0 < length (places ++ n ∷ []) = omega arith in
          (in_list, ap (λ k. get_or (places ++ n ∷ []) k 0) e ∙ (old (get_or numbers s 0) h ∙ it.1))
    ];
  }
    where
      old : (i : ℕ) → i < length places → get_or (places ++ n ∷ []) i 0 ≡ get_or places i 0
      old i before = get_or_append_left places (n ∷ []) 0 i before

      at-end : (i : ℕ) → length places ≤ i → i < length (places ++ n ∷ []) → i ≡ length places
      at-end i last low = let size : length (places ++ n ∷ []) ≡ length places + 1 = length-append places (n ∷ []) in omega arith

      new : (i : ℕ) → length places ≤ i → i < length (places ++ n ∷ []) → get_or (places ++ n ∷ []) i 0 ≡ n
      new i last low = let size : length (places ++ n ∷ []) ≡ length places + 1 = length-append places (n ∷ []) in last-of places n i (omega arith)

pub kept-all : (n : ℕ) (marks : List Bool) (places numbers : List ℕ) → AreKeptTo n marks places numbers → n ≡ length marks → AreKept marks places (λ s. get_or numbers s 0)
kept-all n marks places numbers is all = record {
  rising = is.rising;
  low = λ i low. subst (λ k. get_or places i 0 < k) all (is.low i low);
  kept = is.kept;
  number_of = is.number_of;
  place = λ s kept. is.place s (subst (λ k. s < k) (sym all) (in-range s kept)) kept;
}
  where
    in-range : (s : ℕ) → IsKept marks s → s < length marks
    in-range s kept = elim (cases_lt s (length marks)) [
      | inl low ↦ low
      | inr high ↦ let none : get_or marks s false ≡ false = get_or_past marks s false high in absurd (cc)
    ]

pub kept-none : (marks : List Bool) → AreKeptTo 0 marks [] []
kept-none marks = record {
  size = refl;
  rising = λ i j less low. absurd (omega arith);
  low = λ i low. absurd (omega arith);
  kept = λ i low. absurd (omega arith);
  number_of = λ i low. absurd (omega arith);
  place = λ s low kept. absurd (omega arith);
}
