-- Sets of states whose numbers rise.
use Rattle.std.proofs.Common.{◌≡◌, ◌≢◌, ◌↔◌, ◌⊎◌, inl, inr, ℕ, ◌<◌, ◌≤◌, ◌+◌, ◌-◌, Bool, List, ◌∷◌, refl, sym, ap, ◌∙◌, subst, arith, length, get_or, take, drop, Contains, IsTrue}
use Rattle.std.specs.Prelude.{min}
use Rattle.std.proofs.lemmas.List.{get_or_default, get_or-take, length-take, take-append-drop}
use Rattle.std.specs.List.{insert, remove}
use Rattle.std.proofs.lemmas.List.Edits.{get_or-insert_at, get_or-insert_below, get_or-insert_above, length-insert, get_or-remove_below, get_or-remove_above, length-remove}
use Rattle.std.proofs.lemmas.List.Elements.{Contains-append_cases, Contains-append_left, Contains-append_right}
use Rattle.std.specs.Ordering.{nat_cmp}
use Rattle.std.proofs.lemmas.Bool.{cases_eq, cases_lt}
use Rattle.std.specs.Prelude.{Result, MatchResult, Ok, Err, is_ok}
use Rattle.std.specs.List.Sorted.{IsBinarySearchResult}
use Rattle.std.proofs.lemmas.List.Sorted.{searched}
use Rattle.mls_automaton.specs.Sets.{Rises}
use Rattle.mls_automaton.proofs.Lists.{Contains-here, Contains-later, Contains-cases}

-- a later number is no lower
pub rises-order : (xs : List ℕ) → Rises xs → (i j : ℕ) → i ≤ j → j < length xs → get_or xs i 0 ≤ get_or xs j 0
rises-order xs rises i j low high =
    elim (cases_eq i j) [
      | inl same ↦ let e : i ≡ j = same in let h : get_or xs i 0 ≡ get_or xs j 0 = ap (λ k. get_or xs k 0) e in omega arith
      | inr other ↦ let less : i < j = omega arith in let h : get_or xs i 0 < get_or xs j 0 = rises i j less high in omega arith
    ]

-- what a binary search finds
pub set_searched : (xs : List ℕ) (s : ℕ) (r : Result ℕ ℕ) → Rises xs → IsBinarySearchResult (λ y. nat_cmp y s) xs r → MatchResult r (λ i. (i < length xs) × (get_or xs i 0 ≡ s)) (λ i. (i ≤ length xs) × ((k : ℕ) → k < i → get_or xs k 0 < s) × ((k : ℕ) → i ≤ k → k < length xs → s < get_or xs k 0))
set_searched xs s r rises found = searched xs s r found (rises-order xs rises)

-- at this place the set is divided: the numbers before it are lower than s, and the others are higher
pub record Divides (xs : List ℕ) (s i : ℕ) : Type 0 where
  pub in_range : i ≤ length xs
  pub low : (k : ℕ) → k < i → get_or xs k 0 < s
  pub high : (k : ℕ) → i ≤ k → k < length xs → s < get_or xs k 0

pub contains-place : (xs : List ℕ) (s : ℕ) → Contains xs s → (k : ℕ) × (k < length xs) × (get_or xs k 0 ≡ s)
contains-place xs s it = (it.0, it.1, get_or_default xs it.0 0 s it.1 ∙ it.2)

pub place-contains : (xs : List ℕ) (s k : ℕ) → k < length xs → get_or xs k 0 ≡ s → Contains xs s
place-contains xs s k low same = (k, low, get_or_default xs k s 0 low ∙ same)

pub divided-absent : (xs : List ℕ) (s i : ℕ) → Divides xs s i → Contains xs s → ⊥
divided-absent xs s i d it =
    let at : (k : ℕ) × (k < length xs) × (get_or xs k 0 ≡ s) = contains-place xs s it in
    let k : ℕ = at.0 in
    let in_list : at.0 < length xs = at.1 in
    let same : get_or xs at.0 0 ≡ s = at.2 in
    elim (cases_lt at.0 i) [
      | inl less ↦ let h : get_or xs at.0 0 < s = d.low at.0 less in absurd (omega arith)
      | inr more ↦ let h : s < get_or xs at.0 0 = d.high at.0 more in_list in absurd (omega arith)
    ]

get_or-inserted_above : (xs : List ℕ) (i : ℕ) (y : ℕ) (k : ℕ) → i < k → i ≤ length xs → get_or (insert xs i y) k 0 ≡ get_or xs (k - 1) 0
get_or-inserted_above xs i y k more low =
    let e : k ≡ (k - 1) + 1 = omega arith in
    ap (λ n. get_or (insert xs i y) n 0) e ∙ get_or-insert_above xs i y 0 (k - 1) (omega arith) low

pub rises-insert : (xs : List ℕ) (s i : ℕ) → Rises xs → Divides xs s i → Rises (insert xs i s)
rises-insert xs s i rises d j k less low =
    let size : length (insert xs i s) ≡ length xs + 1 = length-insert xs i s d.in_range in
    let at : get_or (insert xs i s) i 0 ≡ s = get_or-insert_at xs i s 0 d.in_range in
    elim (cases_lt j i) [
      | inl j-low ↦
          let here : get_or (insert xs i s) j 0 ≡ get_or xs j 0 = get_or-insert_below xs i s 0 j j-low d.in_range in
          let h : get_or xs j 0 < s = d.low j j-low in
          elim (cases_lt k i) [
            | inl k-low ↦
                let there : get_or (insert xs i s) k 0 ≡ get_or xs k 0 = get_or-insert_below xs i s 0 k k-low d.in_range in
                let g : get_or xs j 0 < get_or xs k 0 = rises j k less (omega arith) in
                omega arith
            | inr k-high ↦
                elim (cases_eq i k) [
                  | inl same ↦ let e : i ≡ k = same in let there : get_or (insert xs i s) k 0 ≡ s = ap (λ n. get_or (insert xs i s) n 0) (sym e) ∙ at in omega arith
                  | inr other ↦
                      let more : i < k = omega arith in
                      let there : get_or (insert xs i s) k 0 ≡ get_or xs (k - 1) 0 = get_or-inserted_above xs i s k more d.in_range in
                      let g : s < get_or xs (k - 1) 0 = d.high (k - 1) (omega arith) (omega arith) in
                      omega arith
                ]
          ]
      | inr j-high ↦
          let more : i < k = omega arith in
          let there : get_or (insert xs i s) k 0 ≡ get_or xs (k - 1) 0 = get_or-inserted_above xs i s k more d.in_range in
          elim (cases_eq i j) [
            | inl same ↦
                let e : i ≡ j = same in
                let here : get_or (insert xs i s) j 0 ≡ s = ap (λ n. get_or (insert xs i s) n 0) (sym e) ∙ at in
                let g : s < get_or xs (k - 1) 0 = d.high (k - 1) (omega arith) (omega arith) in
                omega arith
            | inr other ↦
                let j-more : i < j = omega arith in
                let here : get_or (insert xs i s) j 0 ≡ get_or xs (j - 1) 0 = get_or-inserted_above xs i s j j-more d.in_range in
                let g : get_or xs (j - 1) 0 < get_or xs (k - 1) 0 = rises (j - 1) (k - 1) (omega arith) (omega arith) in
                omega arith
          ]
    ]

module _ {X : Type 0} where
  pub members-insert : (xs : List X) (s : X) (i : ℕ) (j : X) → Contains (insert xs i s) j ↔ (j ≡ s) ⊎ Contains xs j
  members-insert xs s i j = (to, from)
    where
      to : Contains (insert xs i s) j → (j ≡ s) ⊎ Contains xs j
      to it =
          elim (Contains-append_cases (take i xs) (s ∷ drop i xs) j it) [
            | inl before ↦ inr (subst (λ ys. Contains ys j) (take-append-drop i xs) (Contains-append_left (take i xs) (drop i xs) j before))
            | inr behind ↦
                elim (Contains-cases s (drop i xs) j behind) [
                  | inl same ↦ inl (sym same)
                  | inr later ↦ inr (subst (λ ys. Contains ys j) (take-append-drop i xs) (Contains-append_right (take i xs) (drop i xs) j later))
                ]
          ]

      from : (j ≡ s) ⊎ Contains xs j → Contains (insert xs i s) j
      from (inl same) = Contains-append_right (take i xs) (s ∷ drop i xs) j (subst (λ y. Contains (s ∷ drop i xs) y) (sym same) (Contains-here s (drop i xs)))
      from (inr it) =
          elim (Contains-append_cases (take i xs) (drop i xs) j (subst (λ ys. Contains ys j) (sym (take-append-drop i xs)) it)) [
            | inl before ↦ Contains-append_left (take i xs) (s ∷ drop i xs) j before
            | inr behind ↦ Contains-append_right (take i xs) (s ∷ drop i xs) j (Contains-later s (drop i xs) j behind)
          ]

pub found-divides : (xs : List ℕ) (s i : ℕ) → Rises xs → IsBinarySearchResult (λ y. nat_cmp y s) xs (Err i) → Divides xs s i
found-divides xs s i rises found =
    let it : (i ≤ length xs) × ((k : ℕ) → k < i → get_or xs k 0 < s) × ((k : ℕ) → i ≤ k → k < length xs → s < get_or xs k 0) = set_searched xs s (Err i) rises found in
    record { in_range = it.0; low = it.1; high = it.2 }

-- where the search finds the number it is there
pub search-finds : (xs : List ℕ) (s : ℕ) (r : Result ℕ ℕ) → Rises xs → IsBinarySearchResult (λ y. nat_cmp y s) xs r → IsTrue (is_ok r) ↔ Contains xs s
search-finds xs s (Ok i) rises found =
    let it = set_searched xs s (Ok i) rises found in
    (λ h. place-contains xs s i it.0 it.1, λ h. refl)
search-finds xs s (Err i) rises found = (λ h. absurd (cc), λ it. absurd (divided-absent xs s i (found-divides xs s i rises found) it))

pub found-there : (xs : List ℕ) (s i : ℕ) → Rises xs → IsBinarySearchResult (λ y. nat_cmp y s) xs (Ok i) → (i < length xs) × (get_or xs i 0 ≡ s)
found-there xs s i rises found = set_searched xs s (Ok i) rises found

-- the other numbers than that at the place
pub rises-remove : (xs : List ℕ) (i : ℕ) → Rises xs → i < length xs → Rises (remove xs i)
rises-remove xs i rises in_list j k less low =
    let size : length (remove xs i) + 1 ≡ length xs = length-remove xs i in_list in
    elim (cases_lt j i) [
      | inl j-low ↦
          let here : get_or (remove xs i) j 0 ≡ get_or xs j 0 = get_or-remove_below xs i 0 j j-low in_list in
          elim (cases_lt k i) [
            | inl k-low ↦
                let there : get_or (remove xs i) k 0 ≡ get_or xs k 0 = get_or-remove_below xs i 0 k k-low in_list in
                let h : get_or xs j 0 < get_or xs k 0 = rises j k less (omega arith) in
                omega arith
            | inr k-high ↦
                let there : get_or (remove xs i) k 0 ≡ get_or xs (k + 1) 0 = get_or-remove_above xs i 0 k k-high in_list in
                let h : get_or xs j 0 < get_or xs (k + 1) 0 = rises j (k + 1) (omega arith) (omega arith) in
                omega arith
          ]
      | inr j-high ↦
          let k-high : i ≤ k = omega arith in
          let here : get_or (remove xs i) j 0 ≡ get_or xs (j + 1) 0 = get_or-remove_above xs i 0 j j-high in_list in
          let there : get_or (remove xs i) k 0 ≡ get_or xs (k + 1) 0 = get_or-remove_above xs i 0 k k-high in_list in
          let h : get_or xs (j + 1) 0 < get_or xs (k + 1) 0 = rises (j + 1) (k + 1) (omega arith) (omega arith) in
          omega arith
    ]

pub members-remove : (xs : List ℕ) (s i : ℕ) → Rises xs → i < length xs → get_or xs i 0 ≡ s → (j : ℕ) → Contains (remove xs i) j ↔ Contains xs j × (j ≢ s)
members-remove xs s i rises in_list at j = (to, from)
  where
    to : Contains (remove xs i) j → Contains xs j × (j ≢ s)
    to it =
        let size : length (remove xs i) + 1 ≡ length xs = length-remove xs i in_list in
        let place : (k : ℕ) × (k < length (remove xs i)) × (get_or (remove xs i) k 0 ≡ j) = contains-place (remove xs i) j it in
        let in_rest : place.0 < length (remove xs i) = place.1 in
        let same : get_or (remove xs i) place.0 0 ≡ j = place.2 in
        elim (cases_lt place.0 i) [
          | inl low ↦
              let here : get_or (remove xs i) place.0 0 ≡ get_or xs place.0 0 = get_or-remove_below xs i 0 place.0 low in_list in
              let h : get_or xs place.0 0 < get_or xs i 0 = rises place.0 i low in_list in
              (place-contains xs j place.0 (omega arith) (sym here ∙ same), λ e. let e2 : j ≡ s = e in absurd (omega arith))
          | inr high ↦
              let here : get_or (remove xs i) place.0 0 ≡ get_or xs (place.0 + 1) 0 = get_or-remove_above xs i 0 place.0 high in_list in
              let h : get_or xs i 0 < get_or xs (place.0 + 1) 0 = rises i (place.0 + 1) (omega arith) (omega arith) in
              (place-contains xs j (place.0 + 1) (omega arith) (sym here ∙ same), λ e. let e2 : j ≡ s = e in absurd (omega arith))
        ]

    from : Contains xs j × (j ≢ s) → Contains (remove xs i) j
    from (it, other) =
        let size : length (remove xs i) + 1 ≡ length xs = length-remove xs i in_list in
        let place : (k : ℕ) × (k < length xs) × (get_or xs k 0 ≡ j) = contains-place xs j it in
        let in_all : place.0 < length xs = place.1 in
        let same : get_or xs place.0 0 ≡ j = place.2 in
        elim (cases_lt place.0 i) [
          | inl low ↦ place-contains (remove xs i) j place.0 (omega arith) (get_or-remove_below xs i 0 place.0 low in_list ∙ same)
          | inr high ↦
              elim (cases_eq i place.0) [
                | inl here ↦ let e : i ≡ place.0 = here in absurd (other (sym same ∙ ap (λ n. get_or xs n 0) (sym e) ∙ at))
                | inr more ↦
                    let above : i < place.0 = omega arith in
                    let moved : get_or (remove xs i) (place.0 - 1) 0 ≡ get_or xs ((place.0 - 1) + 1) 0 = get_or-remove_above xs i 0 (place.0 - 1) (omega arith) in_list in
                    let back : (place.0 - 1) + 1 ≡ place.0 = omega arith in
                    place-contains (remove xs i) j (place.0 - 1) (omega arith) (moved ∙ ap (λ n. get_or xs n 0) back ∙ same)
              ]
        ]

-- at this place the numbers from s on begin
pub record Cuts (xs : List ℕ) (s i : ℕ) : Type 0 where
  pub low : (k : ℕ) → k < i → k < length xs → get_or xs k 0 < s
  pub high : (k : ℕ) → i ≤ k → k < length xs → s ≤ get_or xs k 0

pub found-cuts : (xs : List ℕ) (s : ℕ) (r : Result ℕ ℕ) → Rises xs → IsBinarySearchResult (λ y. nat_cmp y s) xs r → MatchResult r (Cuts xs s) (Cuts xs s)
found-cuts xs s (Ok i) rises found =
    let it : (i < length xs) × (get_or xs i 0 ≡ s) = set_searched xs s (Ok i) rises found in
    let at : get_or xs i 0 ≡ s = it.1 in
    record {
      low = λ k less in_list. let h : get_or xs k 0 < get_or xs i 0 = rises k i less it.0 in omega arith;
      high = λ k le in_list. let h : get_or xs i 0 ≤ get_or xs k 0 = rises-order xs rises i k le in_list in omega arith;
    }
found-cuts xs s (Err i) rises found =
    let it : (i ≤ length xs) × ((k : ℕ) → k < i → get_or xs k 0 < s) × ((k : ℕ) → i ≤ k → k < length xs → s < get_or xs k 0) = set_searched xs s (Err i) rises found in
    record {
      low = λ k less in_list. it.1 k less;
      high = λ k le in_list. let h : s < get_or xs k 0 = it.2 k le in_list in omega arith;
    }

taken-low : (xs : List ℕ) (i k : ℕ) → k < length (take i xs) → (k < i) × (k < length xs)
taken-low xs i k low = let size : length (take i xs) ≡ min i (length xs) = length-take i xs in (omega arith, omega arith)

pub members-take : (xs : List ℕ) (s i : ℕ) → Cuts xs s i → (j : ℕ) → Contains (take i xs) j ↔ Contains xs j × (j < s)
members-take xs s i cuts j = (to, from)
  where
    to : Contains (take i xs) j → Contains xs j × (j < s)
    to it =
        let place : (k : ℕ) × (k < length (take i xs)) × (get_or (take i xs) k 0 ≡ j) = contains-place (take i xs) j it in
        let both = taken-low xs i place.0 place.1 in
        let here : get_or (take i xs) place.0 0 ≡ get_or xs place.0 0 = get_or-take i xs place.0 0 both.0 in
        let same : get_or (take i xs) place.0 0 ≡ j = place.2 in
        let h : get_or xs place.0 0 < s = cuts.low place.0 both.0 both.1 in
        (place-contains xs j place.0 both.1 (sym here ∙ same), omega arith)

    from : Contains xs j × (j < s) → Contains (take i xs) j
    from (it, less) =
        let place : (k : ℕ) × (k < length xs) × (get_or xs k 0 ≡ j) = contains-place xs j it in
        let same : get_or xs place.0 0 ≡ j = place.2 in
        let in_list : place.0 < length xs = place.1 in
        let size : length (take i xs) ≡ min i (length xs) = length-take i xs in
        elim (cases_lt place.0 i) [
          | inl low ↦ place-contains (take i xs) j place.0 (omega arith) (get_or-take i xs place.0 0 low ∙ same)
          | inr high ↦ let h : s ≤ get_or xs place.0 0 = cuts.high place.0 high in_list in absurd (omega arith)
        ]

-- The same of lists that are equal: what was searched, what it was copied from, and what came of it.
module _ (xs ys : List ℕ) (s : ℕ) (same : ys ≡ xs) (rises : Rises xs) where
  IsFound : List ℕ → Result ℕ ℕ → Type 0
  IsFound list r = IsBinarySearchResult (λ y. nat_cmp y s) list r

  pub contains_of : (zs : List ℕ) (r : Result ℕ ℕ) (b : Bool) → zs ≡ xs → b ≡ is_ok r → IsBinarySearchResult (λ y. nat_cmp y s) ys r → IsTrue b ↔ Contains zs s
  unfolding IsFound
  contains_of zs r b e f found = rw (e, f) (search-finds xs s r rises (subst (λ l. IsFound l r) same found))

  pub rises-inserted : (zs : List ℕ) (i : ℕ) → zs ≡ insert xs i s → IsBinarySearchResult (λ y. nat_cmp y s) ys (Err i) → Rises zs
  unfolding IsFound
  rises-inserted zs i e found = rw e (rises-insert xs s i rises (found-divides xs s i rises (subst (λ l. IsFound l (Err i)) same found)))

  pub rises-removed : (zs : List ℕ) (i : ℕ) → zs ≡ remove xs i → IsBinarySearchResult (λ y. nat_cmp y s) ys (Ok i) → Rises zs
  unfolding IsFound
  rises-removed zs i e found = rw e (rises-remove xs i rises (found-there xs s i rises (subst (λ l. IsFound l (Ok i)) same found)).0)

  pub members-removed : (ws zs : List ℕ) (i : ℕ) → ws ≡ xs → zs ≡ remove xs i → IsBinarySearchResult (λ y. nat_cmp y s) ys (Ok i) → (j : ℕ) → Contains zs j ↔ Contains ws j × (j ≢ s)
  unfolding IsFound
  members-removed ws zs i w e found =
      let it : (i < length xs) × (get_or xs i 0 ≡ s) = found-there xs s i rises (subst (λ l. IsFound l (Ok i)) same found) in
      rw (e, w) (members-remove xs s i rises it.0 it.1)

  pub members-absent : (ws : List ℕ) (i : ℕ) → ws ≡ xs → IsBinarySearchResult (λ y. nat_cmp y s) ys (Err i) → (j : ℕ) → Contains ws j ↔ Contains ws j × (j ≢ s)
  unfolding IsFound
  members-absent ws i w found j =
      let divides : Divides xs s i = found-divides xs s i rises (subst (λ l. IsFound l (Err i)) same found) in
      (λ it. (it, λ e. divided-absent xs s i divides (subst (λ y. Contains xs y) e (subst (λ l. Contains l j) w it))), λ both. both.0)

-- where the search ends, the numbers from s on begin
pub cut : (xs ys : List ℕ) (s : ℕ) (r : Result ℕ ℕ) → ys ≡ xs → Rises xs → IsBinarySearchResult (λ y. nat_cmp y s) ys r → MatchResult r (Cuts xs s) (Cuts xs s)
cut xs ys s r same rises found = found-cuts xs s r rises (subst (λ l. IsBinarySearchResult (λ y. nat_cmp y s) l r) same found)

pub members-taken : (xs ws zs : List ℕ) (s i : ℕ) → ws ≡ xs → zs ≡ take i xs → Cuts xs s i → (j : ℕ) → Contains zs j ↔ Contains ws j × (j < s)
members-taken xs ws zs s i w e cuts = rw (e, w) (members-take xs s i cuts)

pub members-inserted : (xs ws zs : List ℕ) (s i : ℕ) → ws ≡ xs → zs ≡ insert xs i s → (j : ℕ) → Contains zs j ↔ (j ≡ s) ⊎ Contains ws j
members-inserted xs ws zs s i w e = rw (e, w) (members-insert xs s i)
