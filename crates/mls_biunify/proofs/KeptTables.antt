-- States that nothing reaches are taken out.
use Rattle.std.proofs.Common.{◌≡◌, ◌↔◌, ◌⊎◌, inl, inr, ℕ, ◌+◌, ◌<◌, true, false, List, [], ◌∷◌, ◌++◌, take, All, Contains, get_or, length, refl, sym, ap, ◌∙◌, subst, arith}
use Rattle.std.proofs.lemmas.Bool.{cases_eq}
use Rattle.std.proofs.lemmas.List.Elements.{All-contains, Contains-append_cases, Contains-append_left, Contains-append_right, Contains-push, Contains-push_cases}
use Rattle.mls_automaton.specs.declared.automaton.Flow.{Flow}
use Rattle.mls_automaton.specs.declared.automaton.State.{State}
use Rattle.mls_automaton.specs.declared.state_set.StateId.{StateId}
use Rattle.mls_automaton.specs.Automata.{HasFlow, empty_head, flow, head_at, state_at}
use Rattle.mls_automaton.specs.Reached.{HeadNames, Names}
use Rattle.mls_automaton.proofs.Lists.{All-contained, Contains-cases, Contains-here, Contains-map, Contains-map_back}
use Rattle.mls_solver.specs.steps.Numbers.{ByOne}
use Rattle.mls_solver.proofs.Relating.{taken-before, taken-last, taken-cases}
use Rattle.mls_biunify.specs.Live.{IsReachedFrom, numbers_in, named as by-name, root as by-root}
use Rattle.mls_biunify.specs.steps.Absorbing.{AreLoose, RemovesStates}
use Rattle.mls_biunify.specs.steps.Keeping.{AddsCut, AreShortened, EmptiesHeads, InRoots, IsUnfound, KeepsStates, StaysAmong}
use Rattle.mls_biunify.specs.steps.Marking.{WasFound}
use Rattle.mls_biunify.specs.steps.Tables.{CutsEdges, IsNumbered, Numbered, SetsHead}
use Rattle.mls_biunify.specs.steps.TwoWay.{AreCuts}
use Rattle.mls_biunify.proofs.Claiming.{names-there}
use Rattle.mls_biunify.proofs.Filling.{same-states}
use Rattle.mls_biunify.proofs.FoundStates.{among-or_not}
use Rattle.mls_biunify.proofs.Removals.{empty-names_none, free-names_none}
use Rattle.mls_biunify.proofs.TableSteps.{there-or_not}
use Rattle.mls_biunify.proofs.Walking.{AreThere, reached-there}

-- one more number in a list
pub pushed-one : (old new : List ℕ) (s : ℕ) → new ≡ old ++ s ∷ [] → (j : ℕ) → Contains new j ↔ (j ≡ s) ⊎ Contains old j
pushed-one old new s is j = (
  λ it. elim (Contains-append_cases old (s ∷ []) j (subst (λ (xs : List ℕ). Contains xs j) is it)) [
    | inl before ↦ inr before
    | inr last ↦ inl (only j last)
  ],
  λ it. subst (λ (xs : List ℕ). Contains xs j) (sym is) (elim it [
    | inl same ↦ subst (Contains (old ++ s ∷ [])) (sym same) (Contains-append_right old (s ∷ []) s (Contains-here s []))
    | inr before ↦ Contains-append_left old (s ∷ []) j before
  ]),
)
  where
    only : (j : ℕ) → Contains (s ∷ []) j → j ≡ s
    only j last = elim (Contains-cases s [] j last) [ inl same ↦ sym same | inr later ↦ absurd (let low : later.0 < 0 = later.1 in omega arith) ]

-- a number that was found, and one that was not
pub unfound-none : (old found : List ℕ) (s : ℕ) → Contains found s → (j : ℕ) → Contains old j ↔ (Contains old j ⊎ ((j ≡ s) × (Contains found j → ⊥)))
unfound-none old found s was j = (λ it. inl it, λ it. elim it [ inl before ↦ before | inr one ↦ absurd (one.1 (subst (Contains found) (sym one.0) was)) ])

pub unfound-more : (old new found : List ℕ) (s : ℕ) → (Contains found s → ⊥) → ((j : ℕ) → Contains new j ↔ (j ≡ s) ⊎ Contains old j) → (j : ℕ) → Contains new j ↔ (Contains old j ⊎ ((j ≡ s) × (Contains found j → ⊥)))
unfound-more old new found s none more j = (
  λ it. elim ((more j).0 it) [ inl same ↦ inr (same, λ was. none (subst (Contains found) same was)) | inr before ↦ inl before ],
  λ it. (more j).1 (elim it [ inl before ↦ inr before | inr one ↦ inl one.0 ]),
)

pub unfound-all : (states found gone list : List ℕ) → list ≡ gone → ((j : ℕ) → Contains gone j ↔ Contains [] j ⊎ ByOne states (λ s k. (k ≡ s) × (Contains found k → ⊥)) j) → (j : ℕ) → Contains list j ↔ IsUnfound states found j
unfound-all states found gone list same it = rw same (λ j. (
  λ there. elim ((it j).0 there) [
    | inl none ↦ let low : none.0 < 0 = none.1 in absurd (omega arith)
    | inr by ↦ (subst (Contains states) (sym by.2.0) by.1, by.2.1)
  ],
  λ one. (it j).1 (inr (j, one.0, (refl, one.1))),
))

-- the heads of the first of these states are gone
pub emptied-none : (t : Numbered) (states : List ℕ) → EmptiesHeads t (take 0 states) t
emptied-none t states = record {
  there = refl;
  flows = refl;
  empty = λ s it. let low : it.0 < 0 = it.1 in absurd (omega arith);
  others = λ s none. refl;
}

pub emptied-more : (old now new : Numbered) (states : List ℕ) (i : ℕ) → i < length states → EmptiesHeads old (take i states) now → SetsHead now new (get_or states i 0) empty_head → EmptiesHeads old (take (i + 1) states) new
emptied-more old now new states i low so_far sets = record {
  there = sets.there ∙ so_far.there;
  flows = sets.flows ∙ so_far.flows;
  empty = λ s it. elim (cases_eq s (get_or states i 0)) [
    | inl same ↦ subst (λ k. head_at new.automaton k ≡ empty_head) (sym same) (ap (λ (state : State). state.head) sets.here)
    | inr other ↦
        ap (λ (state : State). state.head) (sets.others s other)
        ∙ elim (taken-cases states i 0 low s it) [ inl earlier ↦ so_far.empty s earlier | inr same ↦ absurd (other same) ]
  ];
  others = λ s none.
      sets.others s (λ same. none (subst (Contains (take (i + 1) states)) (sym same) (taken-last states i 0 low)))
      ∙ so_far.others s (λ it. none (taken-before states i 0 low s it));
}

-- what is left of the sets of the first of these states
pub shortened-none : (R : ℕ → ℕ → Type 0) (found : List ℕ) (kept : List StateId) (cuts : List (ℕ × List ℕ)) → cuts ≡ [] → AreShortened R found (take 0 kept) cuts
shortened-none R found kept cuts e = subst (AreShortened R found (take 0 kept)) (sym e) (record {
  listed = λ s set it. let low : it.0 < 0 = it.1 in absurd (omega arith);
  others = λ s j it none there. let low : it.1.0 < 0 = it.1.1 in absurd (omega arith);
})

module _ (R : ℕ → ℕ → Type 0) (found : List ℕ) (kept : List StateId) (i : ℕ) (low : i < length kept) where
  abbrev pub next : StateId
  next = get_or kept i (record { 0 = 0 })

  next-last : InRoots (take (i + 1) kept) next.0
  next-last = (next, taken-last kept i (record { 0 = 0 }) low, refl)

  pub shortened-more : (set : List ℕ) → ((j : ℕ) → Contains set j ↔ R next.0 j) → (old new : List (ℕ × List ℕ)) → AreShortened R found (take i kept) old → AddsCut next.0 set found old new → AreShortened R found (take (i + 1) kept) new
  shortened-more set is old new so_far adds = record {
    listed = λ s other it.
        elim (adds.listed s other it) [
          | inl before ↦
              let one = so_far.listed s other before in
              ((one.0.0, taken-before kept i (record { 0 = 0 }) low one.0.0 one.0.1, one.0.2), one.1)
          | inr here ↦ (
            subst (InRoots (take (i + 1) kept)) (sym here.0) next-last,
            λ j. (
              λ there. let both = (here.1 j).0 there in (subst (λ k. R k j) (sym here.0) ((is j).0 both.0), both.1),
              λ both. (here.1 j).1 ((is j).1 (subst (λ k. R k j) here.0 both.0), both.1),
            ),
          )
        ];
    others = λ s j it none there.
        elim (taken-cases kept i (record { 0 = 0 }) low it.0 it.1) [
          | inl earlier ↦ so_far.others s j (it.0, earlier, it.2) (λ other before. none other (adds.kept (s, other) before)) there
          | inr same ↦
              let is_next : s ≡ next.0 = sym it.2 ∙ ap (λ (state : StateId). state.0) same in
              elim adds.either [
                | inl one ↦ absurd (none one.0 (subst (λ k. Contains new (k, one.0)) (sym is_next) one.1))
                | inr all ↦ all j ((is j).1 (subst (λ k. R k j) is_next there))
              ]
        ];
  }

pub shortened-all : (R : ℕ → ℕ → Type 0) (found : List ℕ) (kept : List StateId) (i : ℕ) (cuts : List (ℕ × List ℕ)) → take i kept ≡ kept → AreShortened R found (take i kept) cuts → AreShortened R found kept cuts
shortened-all R found kept i cuts all it = subst (λ (xs : List StateId). AreShortened R found xs cuts) all it

-- a set that loses nothing, and what is left of one
pub cut-none : (s : ℕ) (set found : List ℕ) (cuts : List (ℕ × List ℕ)) → ((j : ℕ) → Contains set j → Contains found j) → AddsCut s set found cuts cuts
cut-none s set found cuts all = record { listed = λ t other it. inl it; kept = λ x it. it; either = inr all }

pub cut-one : (s : ℕ) (set found left : List ℕ) (old new : List (ℕ × List ℕ)) → ((j : ℕ) → Contains left j ↔ Contains set j × Contains found j) → new ≡ old ++ (s, left) ∷ [] → AddsCut s set found old new
cut-one s set found left old new is e = record {
  listed = λ t other it.
      elim (Contains-push_cases old (s, left) (t, other) (subst (λ (xs : List (ℕ × List ℕ)). Contains xs (t, other)) e it)) [
        | inl before ↦ inl before
        | inr same ↦ inr (
          sym (ap (λ (x : ℕ × List ℕ). x.0) same),
          subst (λ (xs : List ℕ). (j : ℕ) → Contains xs j ↔ Contains set j × Contains found j) (ap (λ (x : ℕ × List ℕ). x.1) same) is,
        )
      ];
  kept = λ x it. subst (λ (xs : List (ℕ × List ℕ)). Contains xs x) (sym e) (Contains-append_left old ((s, left) ∷ []) x it);
  either = inl (left, subst (λ (xs : List (ℕ × List ℕ)). Contains xs (s, left)) (sym e) (Contains-push old (s, left)));
}

-- all of the first of some states were found
pub found-first : (found states : List ℕ) (i : ℕ) → i < length states → All (WasFound found) (take i states) → WasFound found (get_or states i 0) → All (WasFound found) (take (i + 1) states)
found-first found states i low so_far here =
    All-contained (WasFound found) (take (i + 1) states)
    (λ j it. elim (taken-cases states i 0 low j it) [
      | inl earlier ↦ All-contains (WasFound found) (take i states) j so_far earlier
      | inr same ↦ subst (WasFound found) (sym same) here
    ])

-- those of the first of some states that were found
pub found-none : (left found : List ℕ) (s : ℕ) → (Contains found s → ⊥) → (j : ℕ) → Contains left j ↔ (Contains left j ⊎ ((j ≡ s) × Contains found j))
found-none left found s none j = (λ it. inl it, λ it. elim it [ inl before ↦ before | inr one ↦ absurd (none (subst (Contains found) one.0 one.1)) ])

pub found-more : (old new found : List ℕ) (s : ℕ) → Contains found s → ((j : ℕ) → Contains new j ↔ (j ≡ s) ⊎ Contains old j) → (j : ℕ) → Contains new j ↔ (Contains old j ⊎ ((j ≡ s) × Contains found j))
found-more old new found s was more j = (
  λ it. elim ((more j).0 it) [ inl same ↦ inr (same, subst (Contains found) (sym same) was) | inr before ↦ inl before ],
  λ it. (more j).1 (elim it [ inl before ↦ inr before | inr one ↦ inl one.0 ]),
)

pub found-all : (states found left : List ℕ) → ((j : ℕ) → Contains left j ↔ Contains [] j ⊎ ByOne states (λ s k. (k ≡ s) × Contains found k) j) → (j : ℕ) → Contains left j ↔ Contains states j × Contains found j
found-all states found left it j = (
  λ there. elim ((it j).0 there) [
    | inl none ↦ let low : none.0 < 0 = none.1 in absurd (omega arith)
    | inr by ↦ (subst (Contains states) (sym by.2.0) by.1, by.2.1)
  ],
  λ both. (it j).1 (inr (j, both.0, (refl, both.1))),
)

-- states that are there are taken out, with their edges
module _ (t : Numbered) (is : IsNumbered t) (gone : List ℕ) where
  module _ (here : (s : ℕ) → Contains gone s → get_or t.there s false ≡ true) (closed : (j s : ℕ) → Names t.automaton j s → Contains gone s → Contains gone j) (cut emptied : Numbered) (cuts : CutsEdges t gone cut) (empties : EmptiesHeads cut gone emptied) where
    same-there : emptied.there ≡ t.there
    same-there = empties.there ∙ cuts.there

    same-state : (s : ℕ) → (Contains gone s → ⊥) → state_at emptied.automaton s ≡ state_at t.automaton s
    same-state s none = empties.others s none ∙ same-states cut.automaton t.automaton cuts.states s

    left-edge : (n p : ℕ) → HasFlow emptied.automaton n p → HasFlow t.automaton n p × (Contains gone n → ⊥) × (Contains gone p → ⊥)
    left-edge n p edge = (cuts.flows n p).0 (subst (λ (flows : List Flow). Contains flows (flow n p)) empties.flows edge)

    -- no head names a state that goes, and no edge ends at one
    pub gone-loose : AreLoose emptied gone
    gone-loose = record {
      there = λ s it. ap (λ bits. get_or bits s false) same-there ∙ here s it;
      unnamed = λ j s _ it names.
          elim (among-or_not gone j) [
            | inl goes ↦ empty-names_none (head_at emptied.automaton j) s (empties.empty j goes) names
            | inr stays ↦ stays (closed j s (subst (λ (state : State). HeadNames state.head s) (same-state j stays) names) it)
          ];
      unlinked = λ n p edge. let left = left-edge n p edge in (left.1, left.2);
    }

    -- just what is there and does not go stays
    pub keeps-rest : (new : Numbered) → RemovesStates emptied gone new → (IsKept : ℕ → Type 0) → ((s : ℕ) → IsKept s ↔ (get_or t.there s false ≡ true) × (Contains gone s → ⊥)) → KeepsStates t IsKept new
    keeps-rest new removes IsKept kept = record {
      there = λ s. (
        λ it. let both = (removes.there s).0 it in (kept s).1 (sym (ap (λ bits. get_or bits s false) same-there) ∙ both.0, both.1),
        λ it. let both = (kept s).0 it in (removes.there s).1 (ap (λ bits. get_or bits s false) same-there ∙ both.0, both.1),
      );
      states = λ s it. let stays = ((kept s).0 it).1 in removes.others s stays ∙ same-state s stays;
      flows = λ n p. (
        λ edge.
            let left = left-edge n p (subst (λ (flows : List Flow). Contains flows (flow n p)) removes.flows edge) in (
              left.0,
              (kept n).1 ((is.is.negative n p left.0).there, left.1),
              (kept p).1 ((is.is.positive n p left.0).there, left.2),
            ),
        λ it.
            subst (λ (flows : List Flow). Contains flows (flow n p)) (sym removes.flows)
            (subst (λ (flows : List Flow). Contains flows (flow n p)) (sym empties.flows)
            ((cuts.flows n p).1 (it.0, ((kept n).0 it.1).1, ((kept p).0 it.2).1))),
      );
    }

-- those of some states that were not found
module _ (t : Numbered) (states : List ℕ) (all : All (λ s. get_or t.there s false ≡ true) states) (roots : List StateId) (heads : (s j : ℕ) → Names t.automaton s j → Contains states s ↔ Contains states j) (found : List ℕ) (reached : (s : ℕ) → Contains found s ↔ IsReachedFrom t.automaton roots s) (gone : List ℕ) (unfound : (s : ℕ) → Contains gone s ↔ IsUnfound states found s) where
  pub unfound-here : (s : ℕ) → Contains gone s → get_or t.there s false ≡ true
  unfound-here s it = All-contains (λ s. get_or t.there s false ≡ true) states s all ((unfound s).0 it).0

  pub unfound-there : All (λ s. get_or t.there s false ≡ true) gone
  unfound-there = All-contained (λ s. get_or t.there s false ≡ true) gone unfound-here

  pub unfound-closed : (j s : ℕ) → Names t.automaton j s → Contains gone s → Contains gone j
  unfound-closed j s names it =
      let one = (unfound s).0 it in
      (unfound j).1 ((heads j s names).1 one.0, λ was. one.1 ((reached s).1 (by-name ((reached j).0 was) names)))

  pub unfound-stays : (s : ℕ) → StaysAmong t states roots s ↔ (get_or t.there s false ≡ true) × (Contains gone s → ⊥)
  unfound-stays s = (
    λ it. (it.0, λ goes. let one = (unfound s).0 goes in elim it.1 [ inl was ↦ one.1 ((reached s).1 was) | inr other ↦ other one.0 ]),
    λ it. (it.0, elim (among-or_not found s) [ inl was ↦ inl ((reached s).0 was) | inr none ↦ inr (λ among. it.1 ((unfound s).1 (among, none))) ]),
  )

-- roots among states that are there
pub roots-of : (t : Numbered) (states : List ℕ) → All (λ s. get_or t.there s false ≡ true) states → (roots : List StateId) → All (λ (root : StateId). Contains states root.0) roots → AreThere t roots
roots-of t states all roots among =
    All-contained (λ (root : StateId). get_or t.there root.0 false ≡ true) roots
    (λ root it. All-contains (λ s. get_or t.there s false ≡ true) states root.0 all (All-contains (λ (root : StateId). Contains states root.0) roots root among it))

-- what is left of sets of which members go
module _ (t : Numbered) (is : IsNumbered t) (states : List ℕ) (all : All (λ s. get_or t.there s false ≡ true) states) (roots : List StateId) (among : All (λ (root : StateId). Contains states root.0) roots) (heads : (s j : ℕ) → Names t.automaton s j → Contains states s ↔ Contains states j) (found : List ℕ) (reached : (s : ℕ) → Contains found s ↔ IsReachedFrom t.automaton roots s) (gone : List ℕ) (unfound : (s : ℕ) → Contains gone s ↔ IsUnfound states found s) where
  -- heads do not leave the states
  pub reached-among : (s : ℕ) → IsReachedFrom t.automaton roots s → Contains states s
  reached-among s (by-root root it same) = subst (Contains states) same (All-contains (λ (root : StateId). Contains states root.0) roots root among it)
  reached-among s (by-name from names) = (heads _ _ names).0 (reached-among _ from)

  in-found : (kept : List StateId) → numbers_in kept ≡ found → (s : ℕ) → InRoots kept s → Contains found s
  in-found kept same s it = subst (λ (xs : List ℕ). Contains xs s) same (subst (Contains (numbers_in kept)) it.2 (Contains-map (λ (s : StateId). s.0) kept it.0 it.1))

  here : (kept : List StateId) → numbers_in kept ≡ found → (s : ℕ) → InRoots kept s → Contains states s
  here kept same s it = reached-among s ((reached s).0 (in-found kept same s it))

  pub found-there : (kept : List StateId) → numbers_in kept ≡ found → All (λ (s : StateId). get_or t.there s.0 false ≡ true) kept
  found-there kept same =
      All-contained (λ (s : StateId). get_or t.there s.0 false ≡ true) kept
      (λ s it. All-contains (λ s. get_or t.there s false ≡ true) states s.0 all (here kept same s.0 (s, it, refl)))

  pub cuts-of : (R : ℕ → ℕ → Type 0) → ((s j : ℕ) → R s j → Contains states s ↔ Contains states j) → (kept : List StateId) (cuts : List (ℕ × List ℕ)) → numbers_in kept ≡ found → AreShortened R found kept cuts → AreCuts gone t.limit R cuts
  cuts-of R stays kept cuts same short = record {
    low = λ s set it. is.low s (All-contains (λ s. get_or t.there s false ≡ true) states s all (here kept same s (short.listed s set it).0));
    listed = λ s set it j.
        let one = short.listed s set it in (
          λ there. let both = (one.1 j).0 there in (both.0, λ goes. ((unfound j).0 goes).1 both.1),
          λ both.
              (one.1 j).1 (
                both.0,
                elim (among-or_not found j) [
                  | inl was ↦ was
                  | inr none ↦ absurd (both.1 ((unfound j).1 ((stays s j both.0).0 (here kept same s one.0), none)))
                ],
              ),
        );
    others = λ s j keeps none there goes.
        let one = (unfound j).0 goes in
        let among : Contains states s = (stays s j there).1 one.0 in
        elim (among-or_not found s) [
          | inl was ↦ one.1 (short.others s j (Contains-map_back (λ (s : StateId). s.0) kept s (subst (λ (xs : List ℕ). Contains xs s) (sym same) was)) none there)
          | inr new ↦ keeps ((unfound s).1 (among, new))
        ];
  }

-- where the states are all that are there
module _ (t : Numbered) (is : IsNumbered t) (all list : List ℕ) (same : list ≡ all) (members : (s : ℕ) → Contains all s ↔ (get_or t.there s false ≡ true)) where
  pub all-there : All (λ s. get_or t.there s false ≡ true) list
  all-there = rw same (All-contained (λ s. get_or t.there s false ≡ true) all (λ s. (members s).0))

  pub all-heads : (s j : ℕ) → Names t.automaton s j → Contains list s ↔ Contains list j
  all-heads = rw same (λ s j names. (
    λ _. (members j).1 (names-there t is s j names),
    λ _. (members s).1 (elim (there-or_not t.there s) [ inl there ↦ there | inr free ↦ absurd (free-names_none t is s j free names) ]),
  ))

  pub all-roots : (roots : List StateId) → AreThere t roots → All (λ (root : StateId). Contains list root.0) roots
  all-roots roots there =
      All-contained (λ (root : StateId). Contains list root.0) roots
      (λ root it. subst (λ (xs : List ℕ). Contains xs root.0) (sym same) ((members root.0).1 (All-contains (λ (root : StateId). get_or t.there root.0 false ≡ true) roots root there it)))

  pub all-flows : (n p : ℕ) → HasFlow t.automaton n p → Contains list n ↔ Contains list p
  all-flows = rw same (λ n p edge. (
    λ _. (members p).1 (is.is.positive n p edge).there,
    λ _. (members n).1 (is.is.negative n p edge).there,
  ))

  pub all-kept : (roots : List StateId) → AreThere t roots → (new : Numbered) → KeepsStates t (StaysAmong t list roots) new → KeepsStates t (IsReachedFrom t.automaton roots) new
  all-kept roots there new it = record {
    there = λ s. (λ here. to s ((it.there s).0 here), λ reached. (it.there s).1 (from s reached));
    states = λ s reached. it.states s (from s reached);
    flows = λ n p. (
      λ edge. let both = (it.flows n p).0 edge in (both.0, to n both.1, to p both.2),
      λ both. (it.flows n p).1 (both.0, from n both.1, from p both.2),
    );
  }
    where
      to : (s : ℕ) → StaysAmong t list roots s → IsReachedFrom t.automaton roots s
      to s stays = elim stays.1 [ inl reached ↦ reached | inr other ↦ absurd (other (subst (λ (xs : List ℕ). Contains xs s) (sym same) ((members s).1 stays.0))) ]

      from : (s : ℕ) → IsReachedFrom t.automaton roots s → StaysAmong t list roots s
      from s reached = (reached-there t is roots there s reached, inl reached)
