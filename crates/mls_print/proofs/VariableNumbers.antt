-- Which states have a variable, and which variables a set shows.
--     partner_low, positive_flows, negative_flows      the edges at a state
--     numbers_taken, numbers_left                      one round of the loop that numbers the variables
--     shown_places                                     the states that a set shows, by their numbers
use Rattle.std.proofs.Common.{◌≡◌, ◌≢◌, ◌↔◌, ◌⊎◌, inl, inr, ℕ, zero, suc, ◌+◌, ◌<◌, ◌≤◌, ◌==◌, Bool, true, false, ◌&&◌, List, [], ◌∷◌, ◌++◌, map, refl, sym, ap, ◌∙◌, subst, arith, length, get_or, take, slice_set, All, Contains, Some, None}
use Rattle.std.specs.Prelude.{Option, filter, is_some, unwrap_or, cond}
use Rattle.std.specs.List.{list_any, filter_map, cons_option}
use Rattle.std.specs.Option.{option_to_list}
use Rattle.std.proofs.lemmas.Bool.{cases_eq}
use Rattle.std.proofs.lemmas.Bool.Decides.{nat_tests}
use Rattle.std.proofs.lemmas.List.{take_more, length-set, get_or_default, get_or-set_same, get_or-set_other}
use Rattle.std.proofs.lemmas.List.Elements.{filter_map-append, All-contains, Contains-get_or, Contains-push_cases, Contains-append_cases, Contains-append_left, Contains-append_right}
use Rattle.mls_book.proofs.Lattice.{and_left, and_right, and_both}
use Rattle.mls_automaton.specs.declared.automaton.Polarity.{Polarity}
use Rattle.mls_automaton.specs.declared.automaton.Polarity.TheVariants.{Positive, Negative}
use Rattle.mls_automaton.specs.declared.automaton.Flow.{Flow}
use Rattle.mls_automaton.specs.Automata.{Automaton, polarity_at, flow, HasFlow, IsPartner, IsState}
use Rattle.mls_automaton.specs.Models.{IsClosed}
use Rattle.mls_automaton.proofs.Lists.{All-contained, Contains-here, Contains-later, Contains-cases, any_found, found_any}
use Rattle.mls_print.specs.Walks.{is_member, flows_into, shown_variables}
use Rattle.mls_print.specs.steps.Numbering.{IsNumbered}
use Rattle.mls_print.specs.steps.Rising.{AreRisingNumbers}
use Rattle.mls_print.specs.steps.Variables.{HasVariablesTo, HasVariables, HasPartner, IsCandidate}
use Rattle.mls_print.proofs.RisingSets.{same_rising}
use Rattle.mls_print.proofs.SetValues.{member-contains, contains-member}

is_positive : Polarity → Bool
is_positive Positive = true
is_positive Negative = false

unlike-signs : (p : Polarity) → p ≡ Positive → p ≡ Negative → ⊥
unfolding is_positive
unlike-signs p e e' = let yes : is_positive p ≡ true = ap is_positive e in let no : is_positive p ≡ false = ap is_positive e' in absurd (cc)

same-number : (m n : ℕ) → (m == n) ≡ true → m ≡ n
same-number m n e = grind (arith, nat_tests)

itself : (n : ℕ) → (n == n) ≡ true
itself n = grind (arith, nat_tests)

module _ (a : Automaton) (closed : IsClosed a) where
  pub partner_low : (s j : ℕ) → IsPartner a s j → j < length a.states
  partner_low s j (inl it) = (closed.positive (flow s j) it).in_range
  partner_low s j (inr it) = (closed.negative (flow j s) it).in_range

  -- an edge from a state to a member of a set
  flow-into : (set : List ℕ) (n p : ℕ) → HasFlow a n p → Contains set p → flows_into a set n ≡ true
  flow-into set n p it there =
      found_any (λ (f : Flow). (f.negative.0 == n) && is_member set f.positive.0) a.flows (flow n p) it
      (and_both (n == n) (is_member set p) (itself n) (contains-member set p there))

  into-flow : (set : List ℕ) (n : ℕ) → flows_into a set n ≡ true → (p : ℕ) × HasFlow a n p × Contains set p
  into-flow set n e =
      let found = any_found (λ (f : Flow). (f.negative.0 == n) && is_member set f.positive.0) a.flows e in
      let f : Flow = found.0 in
      let same : f.negative.0 ≡ n = same-number f.negative.0 n (and_left (f.negative.0 == n) (is_member set f.positive.0) found.2) in (
        f.positive.0,
        subst (λ n. HasFlow a n f.positive.0) same found.1,
        member-contains set f.positive.0 (and_right (f.negative.0 == n) (is_member set f.positive.0) found.2),
      )

  pub positive_flows : (order : List ℕ) (s : ℕ) → polarity_at a s ≡ Positive → flows_into a order s ≡ false
  positive_flows order s positive = go (flows_into a order s) refl
    where
      go : (b : Bool) → flows_into a order s ≡ b → b ≡ false
      go false e = refl
      go true e = let it = into-flow order s e in absurd (unlike-signs (polarity_at a s) positive (closed.negative (flow s it.0) it.1).polarity)

  pub negative_flows : (order : List ℕ) (numbers : List (Option ℕ)) → IsNumbered (length a.states) order numbers → (s : ℕ) → polarity_at a s ≡ Negative → (partners : List ℕ) → ((j : ℕ) → Contains partners j ↔ IsPartner a s j)
      → list_any (λ p. is_some (get_or numbers p None)) partners ≡ flows_into a order s
  negative_flows order numbers numbered s negative partners are = go (list_any (λ p. is_some (get_or numbers p None)) partners) refl (flows_into a order s) refl
    where
      some-there : (p : ℕ) → p < length a.states → is_some (get_or numbers p None) ≡ true → Contains order p
      some-there p low e = by (get_or numbers p None) refl e
        where
          by : (o : Option ℕ) → get_or numbers p None ≡ o → is_some o ≡ true → Contains order p
          by None is e = absurd (cc)
          by (Some k) is e = let at = numbered.found p k low is in subst (Contains order) at.1 (Contains-get_or order k 0 at.0)

      there-some : (p : ℕ) → Contains order p → is_some (get_or numbers p None) ≡ true
      there-some p it =
          let at : get_or order it.0 0 ≡ p = get_or_default order it.0 0 p it.1 ∙ it.2 in
          subst (λ p. is_some (get_or numbers p None) ≡ true) at (ap is_some (numbered.numbered it.0 it.1))

      edge : (p : ℕ) → IsPartner a s p → HasFlow a s p
      edge p (inl it) = it
      edge p (inr it) = absurd (unlike-signs (polarity_at a s) (closed.positive (flow p s) it).polarity negative)

      go : (b : Bool) → list_any (λ p. is_some (get_or numbers p None)) partners ≡ b → (c : Bool) → flows_into a order s ≡ c → b ≡ c
      go true e true e' = refl
      go false e false e' = refl
      go true e false e' =
          let found = any_found (λ p. is_some (get_or numbers p None)) partners e in
          let it : IsPartner a s found.0 = (are found.0).0 found.1 in
          let yes : flows_into a order s ≡ true = flow-into order s found.0 (edge found.0 it) (some-there found.0 (partner_low s found.0 it) found.2) in
          absurd (cc)
      go false e true e' =
          let it = into-flow order s e' in
          let yes : list_any (λ p. is_some (get_or numbers p None)) partners ≡ true = found_any (λ p. is_some (get_or numbers p None)) partners it.0 ((are it.0).1 (inl it.1)) (there-some it.0 it.2) in
          absurd (cc)

  -- one round of the loop that numbers the variables
  pub numbers_left : (i : ℕ) (order : List ℕ) (numbers : List (Option ℕ)) → i < length order → HasVariablesTo i a order numbers → flows_into a order (get_or order i 0) ≡ false → HasVariablesTo (i + 1) a order numbers
  numbers_left i order numbers low it none = record {
    size = it.size;
    found = λ s k below e. let at = it.found s k below e in (omega (arith, at.0), at.1, at.2);
    has = λ k below flows.
        elim (cases_eq k i) [
          | inl same ↦ let other : flows_into a order (get_or order i 0) ≡ true = subst (λ k. flows_into a order (get_or order k 0) ≡ true) same flows in absurd (cc)
          | inr other ↦ it.has k (omega arith) flows
        ];
  }

  pub numbers_taken : (i : ℕ) (order : List ℕ) (known numbers : List (Option ℕ)) → IsNumbered (length a.states) order known → i < length order → HasVariablesTo i a order numbers → flows_into a order (get_or order i 0) ≡ true → HasVariablesTo (i + 1) a order (slice_set numbers (get_or order i 0) (Some i))
  numbers_taken i order known numbers numbered low it flowing =
      let s : ℕ = get_or order i 0 in
      let inside : get_or order i 0 < length a.states = numbered.low i 0 low in
      let wide : get_or order i 0 < length numbers = omega (arith, inside, it.size) in record {
        size = length-set numbers s (Some i) ∙ it.size;
        found = λ j k below e.
            elim (cases_eq j (get_or order i 0)) [
              | inl same ↦
                  let here : get_or (slice_set numbers (get_or order i 0) (Some i)) (get_or order i 0) None ≡ Some i = get_or-set_same numbers (get_or order i 0) (Some i) None wide in
                  let there : get_or (slice_set numbers (get_or order i 0) (Some i)) (get_or order i 0) None ≡ Some k = subst (λ j. get_or (slice_set numbers (get_or order i 0) (Some i)) j None ≡ Some k) same e in
                  let equal : i ≡ k = ap (λ o. unwrap_or o 0) (sym here ∙ there) in
                  (omega (arith, equal), ap (λ k. get_or order k 0) (sym equal) ∙ sym same, subst (λ j. flows_into a order j ≡ true) (sym same) flowing)
              | inr other ↦
                  let at = it.found j k below (sym (get_or-set_other numbers (get_or order i 0) j (Some i) None other) ∙ e) in
                  (omega (arith, at.0), at.1, at.2)
            ];
        has = λ k below flows.
            elim (cases_eq k i) [
              | inl same ↦ subst (λ k. get_or (slice_set numbers (get_or order i 0) (Some i)) (get_or order k 0) None ≡ Some k) (sym same) (get_or-set_same numbers (get_or order i 0) (Some i) None wide)
              | inr other ↦
                  let less : k < i = omega arith in
                  let apart : get_or order k 0 ≢ get_or order i 0 = λ same.
                  let first : get_or known (get_or order k 0) None ≡ Some k = numbered.numbered k (omega arith) in
                  let second : get_or known (get_or order k 0) None ≡ Some i = subst (λ j. get_or known j None ≡ Some i) (sym same) (numbered.numbered i low) in
                  other (ap (λ o. unwrap_or o 0) (sym first ∙ second)) in
                  get_or-set_other numbers (get_or order i 0) (get_or order k 0) (Some i) None apart ∙ it.has k less flows
            ];
      }

-- either way
pub numbers_more : (a : Automaton) (closed : IsClosed a) (i s : ℕ) (order : List ℕ) (known numbers : List (Option ℕ)) → IsNumbered (length a.states) order known → i < length order → s ≡ get_or order i 0 → HasVariablesTo i a order numbers → (b : Bool) → b ≡ flows_into a order s → HasVariablesTo (i + 1) a order (cond b (slice_set numbers s (Some i)) numbers)
numbers_more a closed i s order known numbers numbered low read it b is = subst (λ s. HasVariablesTo (i + 1) a order (cond b (slice_set numbers s (Some i)) numbers)) (sym read) (go b (is ∙ ap (flows_into a order) read))
  where
    go : (b : Bool) → b ≡ flows_into a order (get_or order i 0) → HasVariablesTo (i + 1) a order (cond b (slice_set numbers (get_or order i 0) (Some i)) numbers)
    go true e = numbers_taken a closed i order known numbers numbered low it (sym e)
    go false e = numbers_left a closed i order numbers low it (sym e)

-- the places of the elements that pass a test
places : (ℕ → Bool) → ℕ → List ℕ → List ℕ
places P i [] = []
places P i (x ∷ xs) = cond (P x) (i ∷ places P (suc i) xs) (places P (suc i) xs)

places-low : (P : ℕ → Bool) (i : ℕ) (xs : List ℕ) → (k : ℕ) → Contains (places P i xs) k → i ≤ k
unfolding places
places-low P i [] k it = let low : it.0 < 0 = it.1 in absurd (omega arith)
places-low P i (x ∷ xs) k it = go (P x) it (places-low P (suc i) xs k)
  where
    go : (b : Bool) → Contains (cond b (i ∷ places P (suc i) xs) (places P (suc i) xs)) k → (Contains (places P (suc i) xs) k → suc i ≤ k) → i ≤ k
    go true it later =
        elim (Contains-cases i (places P (suc i) xs) k it) [
          | inl same ↦ omega arith
          | inr there ↦ let h : suc i ≤ k = later there in omega arith
        ]
    go false it later = let h : suc i ≤ k = later it in omega arith

places-rising : (P : ℕ → Bool) (i : ℕ) (xs : List ℕ) → AreRisingNumbers (places P i xs)
unfolding places
places-rising P i [] = tt
places-rising P i (x ∷ xs) = go (P x) (places-rising P (suc i) xs) (All-contained (λ k. i < k) (places P (suc i) xs) (λ k it. let h : suc i ≤ k = places-low P (suc i) xs k it in omega arith))
  where
    go : (b : Bool) → AreRisingNumbers (places P (suc i) xs) → All (λ k. i < k) (places P (suc i) xs) → AreRisingNumbers (cond b (i ∷ places P (suc i) xs) (places P (suc i) xs))
    go true later all = (all, later)
    go false later all = later

places-map : (P : ℕ → Bool) (g : ℕ → ℕ) (i : ℕ) (xs : List ℕ) → ((k : ℕ) → k < length xs → g (i + k) ≡ get_or xs k 0) → map g (places P i xs) ≡ filter P xs
unfolding places
places-map P g i [] at = refl
places-map P g i (x ∷ xs) at =
    go (P x) (let e : i + 0 ≡ i = omega arith in ap g (sym e) ∙ at 0 (omega arith))
    (places-map P g (suc i) xs (λ k low. let e : suc i + k ≡ i + suc k = omega arith in ap g e ∙ at (suc k) (omega arith)))
  where
    go : (b : Bool) → g i ≡ x → map g (places P (suc i) xs) ≡ filter P xs → map g (cond b (i ∷ places P (suc i) xs) (places P (suc i) xs)) ≡ cond b (x ∷ filter P xs) (filter P xs)
    go true here later = λ k. here k ∷ later k
    go false here later = later

places-has : (P : ℕ → Bool) (i : ℕ) (xs : List ℕ) (k : ℕ) → k < length xs → P (get_or xs k 0) ≡ true → Contains (places P i xs) (i + k)
unfolding places
places-has P i [] k low passes = absurd (omega arith)
places-has P i (x ∷ xs) zero low passes =
    let e : i ≡ i + 0 = omega arith in
    subst (Contains (places P i (x ∷ xs))) e (subst (λ b. Contains (cond b (i ∷ places P (suc i) xs) (places P (suc i) xs)) i) (sym passes) (Contains-here i (places P (suc i) xs)))
places-has P i (x ∷ xs) (suc k) low passes =
    let e : suc i + k ≡ i + suc k = omega arith in
    go (P x) (subst (Contains (places P (suc i) xs)) e (places-has P (suc i) xs k (omega arith) passes))
  where
    go : (b : Bool) → Contains (places P (suc i) xs) (i + suc k) → Contains (cond b (i ∷ places P (suc i) xs) (places P (suc i) xs)) (i + suc k)
    go true it = Contains-later i (places P (suc i) xs) (i + suc k) it
    go false it = it

places-only : (P : ℕ → Bool) (i : ℕ) (xs : List ℕ) (k : ℕ) → Contains (places P i xs) k → (n : ℕ) × (k ≡ i + n) × (n < length xs) × (P (get_or xs n 0) ≡ true)
unfolding places
places-only P i [] k it = let low : it.0 < 0 = it.1 in absurd (omega arith)
places-only P i (x ∷ xs) k it = go (P x) refl it (places-only P (suc i) xs k)
  where
    shift : ((n : ℕ) × (k ≡ suc i + n) × (n < length xs) × (P (get_or xs n 0) ≡ true)) → (n : ℕ) × (k ≡ i + n) × (n < suc (length xs)) × (P (get_or (x ∷ xs) n 0) ≡ true)
    shift found = let e : k ≡ suc i + found.0 = found.1 in (suc found.0, omega arith, omega (arith, found.2), found.3)

    go : (b : Bool) → P x ≡ b → Contains (cond b (i ∷ places P (suc i) xs) (places P (suc i) xs)) k → (Contains (places P (suc i) xs) k → (n : ℕ) × (k ≡ suc i + n) × (n < length xs) × (P (get_or xs n 0) ≡ true)) → (n : ℕ) × (k ≡ i + n) × (n < suc (length xs)) × (P (get_or (x ∷ xs) n 0) ≡ true)
    go true e it later =
        elim (Contains-cases i (places P (suc i) xs) k it) [
          | inl same ↦ (0, omega arith, omega arith, e)
          | inr there ↦ shift (later there)
        ]
    go false e it later = shift (later it)

-- the states at rising places, where these are the places of all that pass a test
rising-filter : (P : ℕ → Bool) (order ks : List ℕ) → AreRisingNumbers ks → ((k : ℕ) → Contains ks k → (k < length order) × (P (get_or order k 0) ≡ true)) → ((k : ℕ) → k < length order → P (get_or order k 0) ≡ true → Contains ks k) → map (λ k. get_or order k 0) ks ≡ filter P order
rising-filter P order ks rising only all =
    let same : ks ≡ places P 0 order =
    same_rising ks (places P 0 order) rising (places-rising P 0 order) (
      (λ k it. let at = only k it in let e : 0 + k ≡ k = omega arith in subst (Contains (places P 0 order)) e (places-has P 0 order k at.0 at.1)),
      (λ k it. let at = places-only P 0 order k it in let e : at.0 ≡ k = (let h : k ≡ 0 + at.0 = at.1 in omega arith) in subst (Contains ks) e (all at.0 at.2 at.3)),
    ) in
    ap (map (λ k. get_or order k 0)) same ∙ places-map P (λ k. get_or order k 0) 0 order (λ k low. let e : 0 + k ≡ k = omega arith in ap (λ k. get_or order k 0) e)

-- what is found under a function that may find nothing
found-back : (h : ℕ → Option ℕ) (xs : List ℕ) (y : ℕ) → Contains (filter_map h xs) y → (x : ℕ) × Contains xs x × (h x ≡ Some y)
found-back h [] y it = let low : it.0 < 0 = it.1 in absurd (omega arith)
found-back h (x ∷ xs) y it = go (h x) refl it (found-back h xs y)
  where
    go : (o : Option ℕ) → h x ≡ o → Contains (cons_option o (filter_map h xs)) y → (Contains (filter_map h xs) y → (x : ℕ) × Contains xs x × (h x ≡ Some y)) → (z : ℕ) × Contains (x ∷ xs) z × (h z ≡ Some y)
    go None e it later = let found = later it in (found.0, Contains-later x xs found.0 found.1, found.2)
    go (Some z) e it later =
        elim (Contains-cases z (filter_map h xs) y it) [
          | inl same ↦ (x, Contains-here x xs, e ∙ ap (λ z. Some z) same)
          | inr there ↦ let found = later there in (found.0, Contains-later x xs found.0 found.1, found.2)
        ]

found-there : (h : ℕ → Option ℕ) (xs : List ℕ) (x y : ℕ) → Contains xs x → h x ≡ Some y → Contains (filter_map h xs) y
found-there h [] x y it e = let low : it.0 < 0 = it.1 in absurd (omega arith)
found-there h (z ∷ xs) x y it e = go (h z) refl (Contains-cases z xs x it) (λ there. found-there h xs x y there e)
  where
    go : (o : Option ℕ) → h z ≡ o → (z ≡ x) ⊎ Contains xs x → (Contains xs x → Contains (filter_map h xs) y) → Contains (cons_option o (filter_map h xs)) y
    go None is (inl same) later = let none : is_some (h x) ≡ false = ap (λ z. is_some (h z)) (sym same) ∙ ap is_some is in let some : is_some (h x) ≡ true = ap is_some e in absurd (cc)
    go None is (inr there) later = later there
    go (Some k) is (inl same) later =
        let equal : k ≡ y = ap (λ o. unwrap_or o 0) (sym is ∙ (ap h same ∙ e)) in
        subst (Contains (k ∷ filter_map h xs)) equal (Contains-here k (filter_map h xs))
    go (Some k) is (inr there) later = Contains-later k (filter_map h xs) y (later there)

filter-both : (f g : ℕ → Bool) (xs : List ℕ) → filter f (filter g xs) ≡ filter (λ x. g x && f x) xs
filter-both f g [] = refl
filter-both f g (x ∷ rest) = go (g x) (f x) (filter-both f g rest)
  where
    go : (b c : Bool) → filter f (filter g rest) ≡ filter (λ x. g x && f x) rest → filter f (cond b (x ∷ filter g rest) (filter g rest)) ≡ cond (b && f x) (x ∷ filter (λ x. g x && f x) rest) (filter (λ x. g x && f x) rest)
    go true c later = λ i. cond (f x) (x ∷ later i) (later i)
    go false c later = later

module _ (a : Automaton) (closed : IsClosed a) (order : List ℕ) where
  -- the variable of a state is shown
  abbrev is_shown : Polarity → List ℕ → ℕ → Bool
  is_shown Positive set = flows_into a set
  is_shown Negative set = is_member set

  shown-filter : (p : Polarity) (set : List ℕ) → shown_variables a order p set ≡ filter (λ s. flows_into a order s && is_shown p set s) order
  shown-filter Positive set = filter-both (flows_into a set) (flows_into a order) order
  shown-filter Negative set = filter-both (is_member set) (flows_into a order) order

  candidate-shown : (p : Polarity) (set : List ℕ) (s : ℕ) → All (IsState a p) set → IsCandidate a p set s → flows_into a order s ≡ true → is_shown p set s ≡ true
  candidate-shown Negative set s all it flows = contains-member set s it
  candidate-shown Positive set s all it flows =
      let state = All-contains (IsState a Positive) set it.0 all it.1 in
      elim it.2 [
        | inl edge ↦ absurd (unlike-signs (polarity_at a it.0) state.polarity (closed.negative (flow it.0 s) edge).polarity)
        | inr edge ↦ flow-into a closed set s it.0 edge it.1
      ]

  shown-candidate : (p : Polarity) (set : List ℕ) (s : ℕ) → is_shown p set s ≡ true → IsCandidate a p set s
  shown-candidate Negative set s e = member-contains set s e
  shown-candidate Positive set s e = let it = into-flow a closed set s e in (it.0, it.2, inr it.1)

  pub candidate_low : (p : Polarity) (set : List ℕ) (s : ℕ) → All (IsState a p) set → IsCandidate a p set s → s < length a.states
  candidate_low Negative set s all it = (All-contains (IsState a Negative) set s all it).in_range
  candidate_low Positive set s all it = partner_low a closed it.0 s it.2

  module _ (numbers : List (Option ℕ)) (variables : HasVariables a order numbers) (p : Polarity) (set : List ℕ) (all : All (IsState a p) set) (candidates : List ℕ) (are : (j : ℕ) → Contains candidates j ↔ IsCandidate a p set j)
      (ks : List ℕ) (members : (k : ℕ) → Contains ks k ↔ Contains (filter_map (λ s. get_or numbers s None) candidates) k) where
    number-shown : (k : ℕ) → Contains ks k → (k < length order) × ((flows_into a order (get_or order k 0) && is_shown p set (get_or order k 0)) ≡ true)
    number-shown k it =
        let found = found-back (λ s. get_or numbers s None) candidates k ((members k).0 it) in
        let candidate : IsCandidate a p set found.0 = (are found.0).0 found.1 in
        let at = variables.found found.0 k (candidate_low p set found.0 all candidate) found.2 in
        let P : ℕ → Type 0 = λ s. (flows_into a order s && is_shown p set s) ≡ true in
        (at.0, subst P (sym at.1) (and_both (flows_into a order found.0) (is_shown p set found.0) at.2 (candidate-shown p set found.0 all candidate at.2)))

    shown-number : (k : ℕ) → k < length order → (flows_into a order (get_or order k 0) && is_shown p set (get_or order k 0)) ≡ true → Contains ks k
    shown-number k low e =
        let s : ℕ = get_or order k 0 in
        let flows : flows_into a order (get_or order k 0) ≡ true = and_left (flows_into a order (get_or order k 0)) (is_shown p set (get_or order k 0)) e in
        let shown : is_shown p set (get_or order k 0) ≡ true = and_right (flows_into a order (get_or order k 0)) (is_shown p set (get_or order k 0)) e in
        (members k).1 (found-there (λ s. get_or numbers s None) candidates s k ((are s).1 (shown-candidate p set s shown)) (variables.has k low flows))

    pub numbers_low : All (λ k. k < length order) ks
    numbers_low = All-contained (λ k. k < length order) ks (λ k it. (number-shown k it).0)

    pub shown_places : AreRisingNumbers ks → map (λ k. get_or order k 0) ks ≡ shown_variables a order p set
    shown_places rising = rising-filter (λ s. flows_into a order s && is_shown p set s) order ks rising number-shown shown-number ∙ sym (shown-filter p set)

-- one round of the loop over the partners
pub partners_more : (a : Automaton) (set : List ℕ) (i s : ℕ) (before here : List ℕ) → i < length set → s ≡ get_or set i s → ((j : ℕ) → Contains before j ↔ HasPartner a (take i set) j) → ((j : ℕ) → Contains here j ↔ IsPartner a s j) → (j : ℕ) → Contains (before ++ here) j ↔ HasPartner a (take (i + 1) set) j
partners_more a set i s before here low read was is j =
    let more : take (i + 1) set ≡ take i set ++ s ∷ [] = take_more set i s low ∙ ap (λ s. take i set ++ s ∷ []) (sym read) in
    subst (λ xs. Contains (before ++ here) j ↔ HasPartner a xs j) (sym more) (there, back)
  where
    there : Contains (before ++ here) j → HasPartner a (take i set ++ s ∷ []) j
    there it =
        elim (Contains-append_cases before here j it) [
          | inl old ↦ let had = (was j).0 old in (had.0, Contains-append_left (take i set) (s ∷ []) had.0 had.1, had.2)
          | inr new ↦ (s, Contains-append_right (take i set) (s ∷ []) s (Contains-here s []), (is j).0 new)
        ]

    back : HasPartner a (take i set ++ s ∷ []) j → Contains (before ++ here) j
    back it =
        elim (Contains-push_cases (take i set) s it.0 it.1) [
          | inl old ↦ Contains-append_left before here j ((was j).1 (it.0, old, it.2))
          | inr same ↦ Contains-append_right before here j ((is j).1 (subst (λ s. IsPartner a s j) (sym same) it.2))
        ]

-- one round of the loop over the candidates
pub found_more : (numbers : List (Option ℕ)) (states found : List ℕ) (i : ℕ) (d : Option ℕ) → i < length states → get_or states i 0 < length numbers → found ≡ filter_map (λ s. get_or numbers s None) (take i states) → found ++ option_to_list (get_or numbers (get_or states i 0) d) ≡ filter_map (λ s. get_or numbers s None) (take (i + 1) states)
found_more numbers states found i d low inside is =
    ap (λ f. f ++ option_to_list (get_or numbers (get_or states i 0) d)) is
    ∙ (ap (λ o. filter_map (λ s. get_or numbers s None) (take i states) ++ option_to_list o) (get_or_default numbers (get_or states i 0) d None inside)
    ∙ (ap (λ xs. filter_map (λ s. get_or numbers s None) (take i states) ++ xs) (go (get_or numbers (get_or states i 0) None))
    ∙ (sym (filter_map-append (λ s. get_or numbers s None) (take i states) (get_or states i 0 ∷ []))
    ∙ ap (filter_map (λ s. get_or numbers s None)) (sym (take_more states i 0 low)))))
  where
    go : (o : Option ℕ) → option_to_list o ≡ cons_option o []
    go None = refl
    go (Some x) = refl
