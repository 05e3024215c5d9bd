-- States that come into a table one after another, and go again.
use Rattle.std.proofs.Common.{◌≡◌, ◌≢◌, ◌↔◌, ◌⊎◌, inl, inr, ℕ, ◌+◌, ◌<◌, Bool, true, false, List, [], ◌∷◌, ◌++◌, Contains, get_or, length, length-append, refl, sym, ap, ◌∙◌, subst, arith}
use Rattle.std.specs.List.{IsDistinct}
use Rattle.std.specs.List.Sorted.{IsPermutation, IsSorted, IsStrictlyIncreasing}
use Rattle.std.specs.Ordering.{nat_cmp}
use Rattle.std.proofs.Common.{eqb}
use Rattle.std.proofs.Math.Seq.{get_or-append_seam}
use Rattle.std.proofs.lemmas.Bool.{cases_eq, cases_lt, eq-eqb, eqb-true, eqb-false}
use Rattle.std.proofs.lemmas.List.{get_or_append_left, get_or_default}
use Rattle.std.proofs.lemmas.List.Sorted.{Contains-permutation, IsPermutation-sym, IsNonDecreasingBy-from_sort}
use Rattle.std.proofs.lemmas.List.Kept.{AllPairs-from_increasing}
use Rattle.std.proofs.lemmas.Map.Keys.{IsDistinct-from_apart, IsDistinct-IsPermutation, IsStrictlyIncreasing-from_distinct}
use Rattle.std.proofs.lemmas.List.Elements.{Contains-append_cases, Contains-append_left, Contains-append_right}
use Rattle.mls_automaton.specs.declared.automaton.State.{State}
use Rattle.mls_automaton.specs.declared.automaton.Flow.{Flow}
use Rattle.mls_automaton.specs.Automata.{Automaton, HasFlow, empty_head, flow, head_at, polarity_at, state_at}
use Rattle.mls_automaton.specs.Reached.{HeadNames, Names}
use Rattle.mls_automaton.specs.Sets.{Rises}
use Rattle.mls_automaton.proofs.Lists.{Contains-here, Contains-cases}
use Rattle.mls_automaton.proofs.Passing.{states_more}
use Rattle.mls_automaton.proofs.Reaching.{named-in}
use Rattle.mls_automaton.proofs.RisingSets.{place-contains}
use Rattle.mls_biunify.specs.Live.{IsStateIn, free_state}
use Rattle.mls_biunify.specs.steps.Absorbing.{AddsCopy, AreDistinct, AreLoose, AreUnfilled, Claims, Fills, IsSameTable, RemovesStates}
use Rattle.mls_biunify.specs.steps.Tables.{InsertsState, IsNumbered, Numbered}
use Rattle.mls_biunify.proofs.Removals.{empty-names_none}
use Rattle.mls_biunify.proofs.TableSteps.{there-or_not}

-- so many states came
pub record AreClaiming (old now : Numbered) (numbers : List ℕ) (count : ℕ) : Type 0 where
  pub count_is : length numbers ≡ count
  pub distinct : AreDistinct numbers
  pub claims : Claims old now numbers

pub claiming-none : (t : Numbered) → AreClaiming t t [] 0
claiming-none t = record {
  count_is = refl;
  distinct = λ i j less low. absurd (omega arith);
  claims = record {
    were_free = λ j it. absurd (nothing j it);
    there = λ j. (λ it. inl it, λ it. elim it [ inl here ↦ here | inr none ↦ absurd (nothing j none) ]);
    empty = λ j it. absurd (nothing j it);
    others = λ j it. refl;
    flows = λ n p. (λ it. it, λ it. it);
  };
}
  where
    nothing : (j : ℕ) → Contains [] j → ⊥
    nothing j it = let low : it.0 < 0 = it.1 in omega arith

unlike : (b : Bool) → b ≡ true → b ≡ false → ⊥
unlike b is isnt = let e : true ≡ false = sym is ∙ isnt in cc

pub distinct-more : (xs : List ℕ) (s : ℕ) → AreDistinct xs → (Contains xs s → ⊥) → AreDistinct (xs ++ s ∷ [])
distinct-more xs s apart none i j less low same =
    let size : length (xs ++ s ∷ []) ≡ length xs + 1 = length-append xs (s ∷ []) in
    let first : get_or (xs ++ s ∷ []) i 0 ≡ get_or xs i 0 = get_or_append_left xs (s ∷ []) 0 i (omega arith) in
    elim (cases_lt j (length xs)) [
      | inl before ↦ apart i j less before (sym first ∙ (same ∙ get_or_append_left xs (s ∷ []) 0 j before))
      | inr last ↦
          let at : j ≡ length xs = omega arith in
          let here : get_or (xs ++ s ∷ []) j 0 ≡ s = ap (λ k. get_or (xs ++ s ∷ []) k 0) at ∙ get_or-append_seam xs s [] 0 in
          none (place-contains xs s i (omega arith) (sym first ∙ (same ∙ here)))
    ]

pub claiming-more : (old now new : Numbered) (numbers more : List ℕ) (count s : ℕ) → AreClaiming old now numbers count → InsertsState now new s free_state → more ≡ numbers ++ s ∷ [] → AreClaiming old new more (count + 1)
claiming-more old now new numbers more count s it inserts e = subst (λ xs. AreClaiming old new xs (count + 1)) (sym e) (record {
  count_is =
      let size : length (numbers ++ s ∷ []) ≡ length numbers + 1 = length-append numbers (s ∷ []) in
      let so_far : length numbers ≡ count = it.count_is in
      omega arith;
  distinct = distinct-more numbers s it.distinct (λ one. unlike (get_or now.there s false) ((it.claims.there s).1 (inr one)) inserts.was_free);
  claims = record {
    were_free = λ j one. elim (cases j one) [
      | inl before ↦ it.claims.were_free j before
      | inr same ↦ subst (λ k. get_or old.there k false ≡ false) (sym same) fresh
    ];
    there = λ j. (
      λ here. elim ((inserts.there j).0 here) [
        | inl before ↦ elim ((it.claims.there j).0 before) [ inl old_one ↦ inl old_one | inr one ↦ inr (Contains-append_left numbers (s ∷ []) j one) ]
        | inr same ↦ inr (Contains-append_right numbers (s ∷ []) j (subst (Contains (s ∷ [])) (sym same) (Contains-here s [])))
      ],
      λ either. (inserts.there j).1 (elim either [
        | inl old_one ↦ inl ((it.claims.there j).1 (inl old_one))
        | inr one ↦ elim (cases j one) [ inl before ↦ inl ((it.claims.there j).1 (inr before)) | inr same ↦ inr same ]
      ]),
    );
    empty = λ j one. elim (cases j one) [
      | inl before ↦ ap (λ (state : State). state.head) (inserts.others j ((it.claims.there j).1 (inr before))) ∙ it.claims.empty j before
      | inr same ↦ subst (λ k. head_at new.automaton k ≡ empty_head) (sym same) (ap (λ (state : State). state.head) inserts.here)
    ];
    others = λ j old_one. inserts.others j ((it.claims.there j).1 (inl old_one)) ∙ it.claims.others j old_one;
    flows = λ n p. (λ edge. (it.claims.flows n p).0 ((inserts.flows n p).0 edge), λ edge. (inserts.flows n p).1 ((it.claims.flows n p).1 edge));
  };
})
  where
    cases : (j : ℕ) → Contains (numbers ++ s ∷ []) j → Contains numbers j ⊎ (j ≡ s)
    cases j one = elim (Contains-append_cases numbers (s ∷ []) j one) [
      | inl before ↦ inl before
      | inr last ↦ elim (Contains-cases s [] j last) [
        | inl same ↦ inr (sym same)
        | inr none ↦ let low : none.0 < 0 = none.1 in absurd (omega arith)
      ]
    ]

    fresh : get_or old.there s false ≡ false
    fresh = elim (there-or_not old.there s) [
      | inl here ↦ absurd (unlike (get_or now.there s false) ((it.claims.there s).1 (inl here)) inserts.was_free)
      | inr free ↦ free
    ]

-- the same states, after a call that failed
pub claims-kept : (old now new : Numbered) (numbers : List ℕ) → new.automaton ≡ now.automaton → new.there ≡ now.there → Claims old now numbers → Claims old new numbers
claims-kept old now new numbers automaton there it = record {
  were_free = it.were_free;
  there = subst (λ (bits : List Bool). (j : ℕ) → get_or bits j false ≡ true ↔ (get_or old.there j false ≡ true) ⊎ Contains numbers j) (sym there) it.there;
  empty = subst (λ (a : Automaton). (s : ℕ) → Contains numbers s → head_at a s ≡ empty_head) (sym automaton) it.empty;
  others = subst (λ (a : Automaton). (j : ℕ) → get_or old.there j false ≡ true → state_at a j ≡ state_at old.automaton j) (sym automaton) it.others;
  flows = subst (λ (a : Automaton). (n p : ℕ) → HasFlow a n p ↔ HasFlow old.automaton n p) (sym automaton) it.flows;
}

-- what a table's heads and edges name is there
pub names-there : (t : Numbered) → IsNumbered t → (i j : ℕ) → Names t.automaton i j → get_or t.there j false ≡ true
names-there t is i j names =
    named-in (λ k. get_or t.there k false ≡ true) (polarity_at t.automaton i) (head_at t.automaton i)
    (states_more (IsStateIn t.automaton t.there) (λ p k. get_or t.there k false ≡ true) (λ p k it. it.there) (polarity_at t.automaton i) (head_at t.automaton i) (is.is.heads i))
    j names

-- states that came are named by nothing
pub claimed-loose : (old now : Numbered) (numbers : List ℕ) → IsNumbered old → Claims old now numbers → AreLoose now numbers
claimed-loose old now numbers is it = record {
  there = λ s one. (it.there s).1 (inr one);
  unnamed = λ j s here one names.
      elim ((it.there j).0 here) [
        | inl old_one ↦ unlike (get_or old.there s false) (names-there old is j s (subst (λ (state : State). HeadNames state.head s) (it.others j old_one) names)) (it.were_free s one)
        | inr new_one ↦ empty-names_none (head_at now.automaton j) s (it.empty j new_one) names
      ];
  unlinked = λ n p edge.
      let before : HasFlow old.automaton n p = (it.flows n p).0 edge in (
        λ one. unlike (get_or old.there n false) (is.is.negative n p before).there (it.were_free n one),
        λ one. unlike (get_or old.there p false) (is.is.positive n p before).there (it.were_free p one),
      );
}

pub same-bits : (a b : Bool) → (a ≡ true → b ≡ true) → (b ≡ true → a ≡ true) → a ≡ b
same-bits true b to from = sym (to refl)
same-bits false true to from = from refl
same-bits false false to from = refl

-- and when they are gone again, the table is as before
pub released : (old now new : Numbered) (numbers : List ℕ) → IsNumbered old → IsNumbered new → Claims old now numbers → RemovesStates now numbers new → IsSameTable old new
released old now new numbers is after it gone = record {
  there = there;
  states = λ s. elim (there-or_not old.there s) [
    | inl here ↦ gone.others s (not-one s here) ∙ it.others s here
    | inr free ↦ after.is.free s (there s ∙ free) ∙ sym (is.is.free s free)
  ];
  flows = λ n p. (
    λ edge. (it.flows n p).0 (subst (λ (flows : List Flow). Contains flows (flow n p)) gone.flows edge),
    λ edge. subst (λ (flows : List Flow). Contains flows (flow n p)) (sym gone.flows) ((it.flows n p).1 edge),
  );
}
  where
    not-one : (s : ℕ) → get_or old.there s false ≡ true → Contains numbers s → ⊥
    not-one s here one = unlike (get_or old.there s false) here (it.were_free s one)

    there : (s : ℕ) → get_or new.there s false ≡ get_or old.there s false
    there s = same-bits (get_or new.there s false) (get_or old.there s false)
        (λ here.
        let before = (gone.there s).0 here in
        elim ((it.there s).0 before.0) [ inl old_one ↦ old_one | inr one ↦ absurd (before.1 one) ])
        (λ here. (gone.there s).1 ((it.there s).1 (inl here), not-one s here))

-- the same numbers in another order
pub claims-sorted : (old now : Numbered) (xs ys : List ℕ) → IsPermutation xs ys → Claims old now xs → Claims old now ys
claims-sorted old now xs ys same it = record {
  were_free = λ j one. it.were_free j (back j one);
  there = λ j. (
    λ here. elim ((it.there j).0 here) [ inl old_one ↦ inl old_one | inr one ↦ inr (Contains-permutation xs ys j same one) ],
    λ either. (it.there j).1 (elim either [ inl old_one ↦ inl old_one | inr one ↦ inr (back j one) ]),
  );
  empty = λ j one. it.empty j (back j one);
  others = it.others;
  flows = it.flows;
}
  where
    back : (j : ℕ) → Contains ys j → Contains xs j
    back j one = Contains-permutation ys xs j (IsPermutation-sym xs ys same) one

apart-eqb : (a b : ℕ) → a ≢ b → eqb a b ≡ false
apart-eqb a b apart = go (eqb a b) refl
  where
    go : (t : Bool) → eqb a b ≡ t → eqb a b ≡ false
    go true e = absurd (apart (eqb-true a b e))
    go false e = e

-- numbers that are distinct and sorted rise
pub distinct-rise : (xs ys : List ℕ) → AreDistinct xs → IsPermutation xs ys → IsSorted nat_cmp ys → Rises ys
distinct-rise xs ys apart same sorted =
    let first : IsDistinct eqb xs = IsDistinct-from_apart eqb xs (λ i j d less low.
    apart-eqb (get_or xs i d) (get_or xs j d) (λ e. apart i j less low (get_or_default xs i 0 d (omega arith) ∙ (e ∙ get_or_default xs j d 0 low)))) in
    let second : IsDistinct eqb ys = IsDistinct-IsPermutation eqb eqb-flips xs ys same first in
    let up : IsStrictlyIncreasing ys = IsStrictlyIncreasing-from_distinct ys (IsNonDecreasingBy-from_sort (λ x. x) ys sorted) second in
    λ i j less low. AllPairs-from_increasing ys up i j 0 less low
  where
    eqb-flips : (x y : ℕ) → eqb x y ≡ eqb y x
    eqb-flips x y = go (eqb x y) refl
      where
        go : (t : Bool) → eqb x y ≡ t → eqb x y ≡ eqb y x
        go true e = e ∙ sym (eq-eqb y x (sym (eqb-true x y e)))
        go false e = e ∙ sym (apart-eqb y x (λ back. eqb-false x y e (sym back)))

-- numbers that rise are distinct
pub rising-distinct : (xs : List ℕ) → Rises xs → AreDistinct xs
rising-distinct xs rises i j less low same = let up : get_or xs i 0 < get_or xs j 0 = rises i j less low in omega arith

pub released-none : (old now failed new : Numbered) (numbers : List ℕ) → IsNumbered old → IsNumbered new → failed.automaton ≡ now.automaton → failed.there ≡ now.there → Claims old now numbers → RemovesStates failed numbers new → IsSameTable old new
released-none old now failed new numbers is after automaton there it gone = released old failed new numbers is after (claims-kept old now failed numbers automaton there it) gone

-- states that came and did not become a copy
pub unfilled-claims : (old mid new : Numbered) (numbers : List ℕ) → Claims old mid numbers → AreUnfilled mid new numbers → Claims old new numbers
unfilled-claims old mid new numbers it un = record {
  were_free = it.were_free;
  there = subst (λ (bits : List Bool). (j : ℕ) → get_or bits j false ≡ true ↔ (get_or old.there j false ≡ true) ⊎ Contains numbers j) (sym un.there) it.there;
  empty = un.empty;
  others = λ j here. un.others j (λ one. unlike (get_or old.there j false) here (it.were_free j one)) ∙ it.others j here;
  flows = λ n p. (λ edge. (it.flows n p).0 ((un.flows n p).0 edge), λ edge. (un.flows n p).1 ((it.flows n p).1 edge));
}

-- states that came and became a copy
pub added-copy : (old mid new : Numbered) (a : Automaton) (numbers : List ℕ) → Claims old mid numbers → Fills mid new a numbers → AddsCopy old new a numbers
added-copy old mid new a numbers it fills = record {
  were_free = it.were_free;
  there = subst (λ (bits : List Bool). (j : ℕ) → get_or bits j false ≡ true ↔ (get_or old.there j false ≡ true) ⊎ Contains numbers j) (sym fills.there) it.there;
  copies = fills.copies;
  others = λ j here. fills.others j (λ one. unlike (get_or old.there j false) here (it.were_free j one)) ∙ it.others j here;
  flows = λ n p. (
    λ edge. elim ((fills.flows n p).0 edge) [ inl before ↦ inl ((it.flows n p).0 before) | inr copied ↦ inr copied ],
    λ either. (fills.flows n p).1 (elim either [ inl before ↦ inl ((it.flows n p).1 before) | inr copied ↦ inr copied ]),
  );
}

pub rising-same : (xs : List ℕ) → Rises xs → (i k : ℕ) → i < length xs → k < length xs → get_or xs i 0 ≡ get_or xs k 0 → i ≡ k
rising-same xs rises i k low high e = elim (cases_lt i k) [
  | inl less ↦ absurd (rising-distinct xs rises i k less high e)
  | inr more ↦ elim (cases_eq i k) [
    | inl same ↦ same
    | inr other ↦ absurd (rising-distinct xs rises k i (omega arith) low (sym e))
  ]
]
