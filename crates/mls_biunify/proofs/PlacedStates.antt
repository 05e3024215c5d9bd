-- The scheme of the states that are reached, each under its place among their numbers.
use Rattle.std.proofs.Common.{◌≡◌, ◌↔◌, ◌⊎◌, inl, inr, ℕ, ◌+◌, ◌<◌, ◌≤◌, true, false, Bool, List, [], ◌∷◌, map, All, Contains, get_or, length, refl, sym, ap, ◌∙◌, subst, arith}
use Rattle.std.specs.List.Sorted.{IsBinarySearchResult, IsStrictlySortedBy}
use Rattle.std.specs.Ordering.{nat_cmp}
use Rattle.std.specs.Prelude.{Result, Ok, Err}
use Rattle.std.proofs.lemmas.Bool.{cases_lt}
use Rattle.std.proofs.lemmas.List.Elements.{All-contains, Contains-get_or}
use Rattle.std.proofs.lemmas.Map.Keys.{below_from_sorted}
use Rattle.mls_automaton.specs.declared.automaton.Polarity.{Polarity}
use Rattle.mls_automaton.specs.declared.automaton.Polarity.TheVariants.{Positive, Negative}
use Rattle.mls_automaton.specs.declared.automaton.Flow.{Flow}
use Rattle.mls_automaton.specs.declared.automaton.State.{State}
use Rattle.mls_automaton.specs.declared.scheme.EnvEntry.{EnvEntry}
use Rattle.mls_automaton.specs.declared.scheme.Scheme.{Scheme}
use Rattle.mls_automaton.specs.declared.state_set.StateId.{StateId}
use Rattle.mls_automaton.specs.Automata.{Automaton, HasFlow, IsState, empty_head, flow, head_at, polarity_at, state_at}
use Rattle.mls_automaton.specs.Embeddings.{renamed_state}
use Rattle.mls_automaton.specs.Environments.{BindersRise}
use Rattle.mls_automaton.specs.Reached.{KeepsReached}
use Rattle.mls_automaton.specs.Schemes.{IsScheme}
use Rattle.mls_automaton.specs.Sets.{Rises}
use Rattle.mls_automaton.specs.steps.Keeping.{AreKept, HasFlowsOf, renamed_entry}
use Rattle.mls_automaton.specs.steps.Numbers.{KeepsOrderInHead}
use Rattle.mls_automaton.specs.steps.Searching.{AreReached, InEntries}
use Rattle.mls_automaton.proofs.KeptSchemes.{is-kept, kept-scheme, kept-states, keeps-reached}
use Rattle.mls_automaton.proofs.Lists.{All-contained, Contains-cases, Contains-here, Contains-later, Contains-map, Contains-map_back}
use Rattle.mls_automaton.proofs.RisingSets.{contains-place, divided-absent, found-divides, found-there, place-contains, rises-order}
use Rattle.mls_solver.specs.Solutions.{scheme_over}
use Rattle.mls_biunify.specs.Live.{IsReachedFrom, IsStateIn}
use Rattle.mls_biunify.specs.steps.Keeping.{InRoots, marks_below}
use Rattle.mls_biunify.specs.steps.Placing.{HasPlaces, IsFlowTo, IsPlacedFlow, MayPlace, PlacesFlows}
use Rattle.mls_biunify.specs.steps.Renaming.{place_among}
use Rattle.mls_biunify.specs.steps.Tables.{IsNumbered, Numbered}
use Rattle.mls_biunify.proofs.Claiming.{rising-same}
use Rattle.mls_biunify.proofs.Collected.{Collected}
use Rattle.mls_biunify.proofs.FoundStates.{is-marked, marked-is, marks-length}
use Rattle.mls_biunify.proofs.Renames.{cut-place}
use Rattle.mls_biunify.proofs.Walking.{reached-scheme, reached-there, scheme-reached}

pub keys-rise : (keys list : List ℕ) → IsStrictlySortedBy nat_cmp keys → list ≡ keys → Rises list
keys-rise keys list sorted same = rw same (λ i j less low. below_from_sorted keys i j 0 sorted less low)

pub listed-reached : (a : Automaton) (roots : List StateId) (keys list : List ℕ) → list ≡ keys → ((s : ℕ) → Contains keys s ↔ IsReachedFrom a roots s) → (s : ℕ) → Contains list s ↔ IsReachedFrom a roots s
listed-reached a roots keys list same it = rw same it

-- one edge
pub place-found : (numbers : List ℕ) (target : ℕ) (r : Result ℕ ℕ) (j : ℕ) → r ≡ Ok j → Rises numbers → IsBinarySearchResult (λ y. nat_cmp y target) numbers r → (j < length numbers) × (get_or numbers j 0 ≡ target)
place-found numbers target r j e rises it = found-there numbers target j rises (subst (IsBinarySearchResult (λ y. nat_cmp y target) numbers) e it)

pub found-flow : (numbers : List ℕ) (place target j : ℕ) → Rises numbers → (j < length numbers) × (get_or numbers j 0 ≡ target) → (old new : Automaton) → ((n p : ℕ) → HasFlow new n p ↔ HasFlow old n p ⊎ ((n ≡ place) × (p ≡ j))) → (x : ℕ × ℕ) → HasFlow new x.0 x.1 ↔ (HasFlow old x.0 x.1 ⊎ IsFlowTo numbers place target x)
found-flow numbers place target j rises at old new adds x = (
  λ edge. elim ((adds x.0 x.1).0 edge) [
    | inl before ↦ inl before
    | inr one ↦ inr (one.0, subst (λ k. k < length numbers) (sym one.1) at.0, ap (λ k. get_or numbers k 0) one.1 ∙ at.1)
  ],
  λ both. (adds x.0 x.1).1 (elim both [
    | inl before ↦ inl before
    | inr one ↦ inr (one.0, rising-same numbers rises x.1 j one.1 at.0 (one.2 ∙ sym at.1))
  ]),
)

pub missing-flow : (numbers : List ℕ) (place target : ℕ) (r : Result ℕ ℕ) (i : ℕ) → r ≡ Err i → Rises numbers → IsBinarySearchResult (λ y. nat_cmp y target) numbers r → (a : Automaton) (x : ℕ × ℕ) → HasFlow a x.0 x.1 ↔ (HasFlow a x.0 x.1 ⊎ IsFlowTo numbers place target x)
missing-flow numbers place target r i e rises it a x = (
  λ edge. inl edge,
  λ both. elim both [
    | inl before ↦ before
    | inr one ↦ absurd (divided-absent numbers target i (found-divides numbers target i rises (subst (IsBinarySearchResult (λ y. nat_cmp y target) numbers) e it)) (place-contains numbers target x.1 one.1 one.2))
  ],
)

-- the edges from one place
pub number-there : (t : Numbered) (numbers : List ℕ) (i : ℕ) → All (λ s. get_or t.there s false ≡ true) numbers → i < length numbers → get_or t.there (get_or numbers i 0) false ≡ true
number-there t numbers i all low = all i 0 low

state-kept : (old new : Automaton) → new.states ≡ old.states → (p : Polarity) (s : ℕ) → IsState old p s → IsState new p s
state-kept old new e p s it = record {
  in_range = subst (λ (xs : List State). s < length xs) (sym e) it.in_range;
  polarity = ap (λ (xs : List State). (get_or xs s (record { polarity = Positive; head = empty_head })).polarity) e ∙ it.polarity;
}

pub places-kept : (t : Numbered) (numbers : List ℕ) (old new : Automaton) → new.states ≡ old.states → HasPlaces t numbers old → HasPlaces t numbers new
places-kept t numbers old new e places i low = state-kept old new e (polarity_at t.automaton (get_or numbers i 0)) i (places i low)

pub flow-may_place : (t : Numbered) → IsNumbered t → (numbers : List ℕ) (old now : Automaton) → now.states ≡ old.states → HasPlaces t numbers old → (place : ℕ) → place < length numbers → (p : ℕ) → HasFlow t.automaton (get_or numbers place 0) p → MayPlace numbers now place p
flow-may_place t is numbers old now e places place low p edge j low' same = (
  subst (λ q. IsState now q place) (is.is.negative (get_or numbers place 0) p edge).polarity (places-kept t numbers old now e places place low),
  subst (λ q. IsState now q j) (ap (polarity_at t.automaton) same ∙ (is.is.positive (get_or numbers place 0) p edge).polarity) (places-kept t numbers old now e places j low'),
)

pub flows-placed : (t : Numbered) (numbers : List ℕ) (place : ℕ) → place < length numbers → (old new : Automaton) → new.states ≡ old.states → (after slice : List ℕ) → slice ≡ after → ((p : ℕ) → Contains after p ↔ HasFlow t.automaton (get_or numbers place 0) p) → Collected (IsFlowTo numbers place) (λ x. HasFlow old x.0 x.1) (λ x. HasFlow new x.0 x.1) slice → PlacesFlows t numbers place old new
flows-placed t numbers place low old new states after slice same is_after it = record {
  states = states;
  flows = λ x. (
    λ edge.
        elim ((it x).0 edge) [
          | inl before ↦ inl before
          | inr given ↦
              let p : ℕ = given.0 in
              let edge : HasFlow t.automaton (get_or numbers place 0) p = (is_after p).0 (subst (λ (xs : List ℕ). Contains xs p) same given.1) in
              let one : IsFlowTo numbers place p x = given.2 in
              inr (
                one.0,
                (
                  subst (λ k. k < length numbers) (sym one.0) low,
                  one.1,
                  subst (λ k. HasFlow t.automaton (get_or numbers k 0) (get_or numbers x.1 0)) (sym one.0) (subst (HasFlow t.automaton (get_or numbers place 0)) (sym one.2) edge),
                ),
              )
        ],
    λ both.
        (it x).1 (elim both [
          | inl before ↦ inl before
          | inr one ↦
              let edge : HasFlow t.automaton (get_or numbers place 0) (get_or numbers x.1 0) = subst (λ k. HasFlow t.automaton (get_or numbers k 0) (get_or numbers x.1 0)) one.0 one.1.2 in
              inr (get_or numbers x.1 0, subst (λ (xs : List ℕ). Contains xs (get_or numbers x.1 0)) (sym same) ((is_after (get_or numbers x.1 0)).1 edge), (one.0, one.1.1, refl))
        ]),
  );
}

-- the edges from one place after another
pub placed-first : (t : Numbered) (numbers : List ℕ) (a : Automaton) → a.flows ≡ [] → (x : ℕ × ℕ) → HasFlow a x.0 x.1 ↔ ((x.0 < 0) × IsPlacedFlow t numbers x.0 x.1)
placed-first t numbers a e x = (
  λ edge.
      let none : Contains [] (flow x.0 x.1) = subst (λ (fs : List Flow). Contains fs (flow x.0 x.1)) e edge in
      let low : none.0 < 0 = none.1 in
      absurd (omega arith),
  λ both. let low : x.0 < 0 = both.0 in absurd (omega arith),
)

pub placed-more : (t : Numbered) (numbers : List ℕ) (n : ℕ) (old new : Automaton) → ((x : ℕ × ℕ) → HasFlow old x.0 x.1 ↔ ((x.0 < n) × IsPlacedFlow t numbers x.0 x.1)) → PlacesFlows t numbers n old new → (x : ℕ × ℕ) → HasFlow new x.0 x.1 ↔ ((x.0 < n + 1) × IsPlacedFlow t numbers x.0 x.1)
placed-more t numbers n old new so_far it x = (
  λ edge.
      elim ((it.flows x).0 edge) [
        | inl before ↦ let both = (so_far x).0 before in let low : x.0 < n = both.0 in (omega arith, both.1)
        | inr here ↦ let same : x.0 ≡ n = here.0 in (omega arith, here.1)
      ],
  λ both.
      (it.flows x).1 (elim (cases_lt x.0 n) [
        | inl low ↦ inl ((so_far x).1 (low, both.1))
        | inr high ↦
            let low : x.0 < n + 1 = both.0 in
            let same : x.0 ≡ n = omega arith in
            inr (same, both.1)
      ]),
)

pub placed-last : (t : Numbered) (numbers : List ℕ) (n : ℕ) (a : Automaton) → length numbers ≤ n → ((x : ℕ × ℕ) → HasFlow a x.0 x.1 ↔ ((x.0 < n) × IsPlacedFlow t numbers x.0 x.1)) → (i j : ℕ) → HasFlow a i j ↔ IsPlacedFlow t numbers i j
placed-last t numbers n a high it i j = (
  λ edge. ((it (i, j)).0 edge).1,
  λ both. let low : i < length numbers = both.0 in (it (i, j)).1 (omega arith, both),
)

-- the roots of a scheme
pub scheme-roots : (root : StateId) (env : List EnvEntry) (roots : List StateId) → roots ≡ root ∷ map (λ (entry : EnvEntry). entry.state) env → (j : ℕ) → InRoots roots j ↔ (root.0 ≡ j) ⊎ InEntries env j
scheme-roots root env roots same j = rw same (to, from)
  where
    states : List StateId
    states = map (λ (entry : EnvEntry). entry.state) env

    to : InRoots (root ∷ states) j → (root.0 ≡ j) ⊎ InEntries env j
    to it = elim (Contains-cases root states it.0 it.1) [
      | inl here ↦ inl (ap (λ (s : StateId). s.0) here ∙ it.2)
      | inr later ↦
          let back = Contains-map_back (λ (entry : EnvEntry). entry.state) env it.0 later in
          inr (back.0, back.1, ap (λ (s : StateId). s.0) back.2 ∙ it.2)
    ]

    from : (root.0 ≡ j) ⊎ InEntries env j → InRoots (root ∷ states) j
    from (inl here) = (root, Contains-here root states, here)
    from (inr it) = (it.0.state, Contains-later root states it.0.state (Contains-map (λ (entry : EnvEntry). entry.state) env it.0 it.1), it.2)

-- the roots are there
pub scheme-roots_there : (t : Numbered) (root : StateId) (env : List EnvEntry) (roots : List StateId) → roots ≡ root ∷ map (λ (entry : EnvEntry). entry.state) env → IsStateIn t.automaton t.there Positive root.0 → All (λ (entry : EnvEntry). IsStateIn t.automaton t.there Negative entry.state.0) env → All (λ (r : StateId). get_or t.there r.0 false ≡ true) roots
scheme-roots_there t root env roots same is_root is_env =
    All-contained (λ (r : StateId). get_or t.there r.0 false ≡ true) roots
    (λ r it. elim ((scheme-roots root env roots same r.0).0 (r, it, refl)) [
      | inl here ↦ subst (λ k. get_or t.there k false ≡ true) here is_root.there
      | inr one ↦ subst (λ k. get_or t.there k false ≡ true) one.2 (All-contains (λ (entry : EnvEntry). IsStateIn t.automaton t.there Negative entry.state.0) env one.0 is_env one.1).there
    ])

-- the scheme over the places
module _ (t : Numbered) (is : IsNumbered t) (root : StateId) (env : List EnvEntry) (rise : BindersRise env) (is_scheme : IsScheme (scheme_over t.automaton root.0 env)) (roots : List StateId) (are_roots : (j : ℕ) → InRoots roots j ↔ (root.0 ≡ j) ⊎ InEntries env j) (there : All (λ (r : StateId). get_or t.there r.0 false ≡ true) roots) (numbers : List ℕ) (rises : Rises numbers) (reached : (j : ℕ) → Contains numbers j ↔ IsReachedFrom t.automaton roots j) where
  here : (j : ℕ) → IsReachedFrom t.automaton roots j → get_or t.there j false ≡ true
  here = reached-there t is roots there

  abbrev s : Scheme
  s = scheme_over t.automaton root.0 env

  abbrev marks : List Bool
  marks = marks_below (length t.automaton.states) numbers

  in_range : (j : ℕ) → Contains numbers j → j < length t.automaton.states
  in_range j it = is.is.in_range j (here j ((reached j).0 it))

  are-reached : AreReached s marks
  are-reached = record {
    same_length = marks-length (length t.automaton.states) numbers;
    sound = λ j it. reached-scheme t.automaton root.0 env rise roots are_roots j ((reached j).0 (marked-is (length t.automaton.states) numbers j it).1);
    complete = λ j it.
        let one : Contains numbers j = (reached j).1 (scheme-reached t.automaton root.0 env rise roots are_roots j it) in
        is-marked (length t.automaton.states) numbers j (in_range j one) one;
  }

  place-is : (i : ℕ) → i < length numbers → place_among numbers (get_or numbers i 0) ≡ i
  place-is i low =
      cut-place numbers (get_or numbers i 0) i (omega arith)
      (record {
        low = λ k under small. rises k i under low;
        high = λ k over small. rises-order numbers rises i k over small;
      })

  are-kept : AreKept marks numbers (place_among numbers)
  are-kept = record {
    rising = rises;
    low = λ i low. subst (λ n. get_or numbers i 0 < n) (sym (marks-length (length t.automaton.states) numbers)) (in_range (get_or numbers i 0) (Contains-get_or numbers i 0 low));
    kept = λ i low. is-marked (length t.automaton.states) numbers (get_or numbers i 0) (in_range (get_or numbers i 0) (Contains-get_or numbers i 0 low)) (Contains-get_or numbers i 0 low);
    number_of = place-is;
    place = λ j it. placed j (contains-place numbers j (marked-is (length t.automaton.states) numbers j it).1);
  }
    where
      placed : (j : ℕ) → (k : ℕ) × (k < length numbers) × (get_or numbers k 0 ≡ j) → (place_among numbers j < length numbers) × (get_or numbers (place_among numbers j) 0 ≡ j)
      placed j at =
          let same : place_among numbers j ≡ at.0 = ap (place_among numbers) (sym at.2) ∙ place-is at.0 at.1 in (
            subst (λ k. k < length numbers) (sym same) at.1,
            ap (λ k. get_or numbers k 0) same ∙ at.2,
          )

  pub numbers-there : All (λ j. get_or t.there j false ≡ true) numbers
  numbers-there = All-contained (λ j. get_or t.there j false ≡ true) numbers (λ j it. here j ((reached j).0 it))

  pub numbers-order : All (λ j. KeepsOrderInHead (place_among numbers) (head_at t.automaton j)) numbers
  numbers-order k d low = (kept-states s marks numbers (place_among numbers) is_scheme are-reached are-kept k d low).1

  module _ (b : Automaton) (states : b.states ≡ map (λ j. renamed_state (place_among numbers) (state_at t.automaton j)) numbers) where
    pub has-places : HasPlaces t numbers b
    has-places i low =
        subst (IsState b (polarity_at t.automaton (get_or numbers i 0))) (place-is i low)
        (is-kept s marks numbers (place_among numbers) is_scheme are-reached are-kept b states (polarity_at t.automaton (get_or numbers i 0)) (get_or numbers i 0)
        (record { in_range = in_range (get_or numbers i 0) (Contains-get_or numbers i 0 low); polarity = refl })
        (are-kept.kept i low))

    module _ (flows : (n p : ℕ) → HasFlow b n p ↔ IsPlacedFlow t numbers n p) where
      flows-of : HasFlowsOf marks (place_among numbers) t.automaton.flows b
      flows-of n p = (
        λ edge.
            let it = (flows n p).0 edge in (
              flow (get_or numbers n 0) (get_or numbers p 0),
              it.2,
              record { negative_kept = are-kept.kept n it.0; positive_kept = are-kept.kept p it.1; negative = place-is n it.0; positive = place-is p it.1 },
            ),
        λ it.
            let first = are-kept.place it.0.negative.0 it.2.negative_kept in
            let second = are-kept.place it.0.positive.0 it.2.positive_kept in
            let low : n < length numbers = subst (λ k. k < length numbers) it.2.negative first.0 in
            let high : p < length numbers = subst (λ k. k < length numbers) it.2.positive second.0 in
            let at-n : get_or numbers n 0 ≡ it.0.negative.0 = ap (λ k. get_or numbers k 0) (sym it.2.negative) ∙ first.1 in
            let at-p : get_or numbers p 0 ≡ it.0.positive.0 = ap (λ k. get_or numbers k 0) (sym it.2.positive) ∙ second.1 in
            (flows n p).1 (low, high, subst (λ k. HasFlow t.automaton k (get_or numbers p 0)) (sym at-n) (subst (HasFlow t.automaton it.0.negative.0) (sym at-p) it.1)),
      )

      module _ (kept : Scheme) (same : kept.automaton ≡ b) (binders : kept.env ≡ map (renamed_entry (place_among numbers)) env) (at : kept.root.0 ≡ place_among numbers root.0) where
        pub frozen-scheme : IsScheme kept
        frozen-scheme = kept-scheme s marks numbers (place_among numbers) is_scheme are-reached are-kept b states flows-of kept same binders at

        pub frozen-keeps : KeepsReached kept s
        frozen-keeps = keeps-reached s marks numbers (place_among numbers) is_scheme are-reached are-kept b states flows-of kept same binders at
