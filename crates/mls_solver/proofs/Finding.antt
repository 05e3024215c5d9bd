-- Pairs by each of their states.
--     empty_more                                    an empty set more
--     set_more                                      a member more in one set
--     pairs_more, pairs_same, relates_more          a pair more, by its first state
--     index_more                                    a pair more, by its second state
use Rattle.std.proofs.Common.{◌≡◌, ◌≢◌, ◌⊎◌, inl, inr, true, ℕ, ◌<◌, List, [], ◌∷◌, ◌++◌, get_or, slice_set, length, zero, suc, refl, sym, ap, ◌∙◌, subst, arith, Contains}
use Rattle.std.specs.Prelude.{◌↔◌, Result, Ok, Err, OnOk, is_ok}
use Rattle.std.proofs.lemmas.Bool.{cases_eq}
use Rattle.std.proofs.lemmas.List.{get_or-set_same, get_or-set_other}
use Rattle.std.proofs.lemmas.List.Elements.{Contains-append_cases, Contains-append_left, Contains-append_right}
use Rattle.mls_automaton.proofs.Lists.{Contains-cases, Contains-here}
use Rattle.mls_solver.specs.Rooms.{Room, Holds}
use Rattle.mls_solver.specs.steps.Finding.{HasMember}
use Rattle.mls_solver.specs.steps.Growth.{Relates}
use Rattle.mls_solver.proofs.Relating.{Relates-kept, Relates-none}

empty_behind : (sets : List (List ℕ)) (k : ℕ) → get_or (sets ++ [] ∷ []) k [] ≡ get_or sets k []
empty_behind [] zero = refl
empty_behind [] (suc k) = refl
empty_behind (set ∷ sets) zero = refl
empty_behind (set ∷ sets) (suc k) = empty_behind sets k

-- an empty set more has no member
pub empty_more : (sets sets' : List (List ℕ)) → sets' ≡ sets ++ [] ∷ [] → (k m : ℕ) → HasMember sets' k m ↔ HasMember sets k m
empty_more sets sets' is k m =
    let same : get_or sets' k [] ≡ get_or sets k [] = ap (λ (xs : List (List ℕ)). get_or xs k []) is ∙ empty_behind sets k in
    (λ it. subst (λ (set : List ℕ). Contains set m) same it, λ it. subst (λ (set : List ℕ). Contains set m) (sym same) it)

-- a member more in one set
pub set_more : (sets : List (List ℕ)) (number member : ℕ) (more : List ℕ) → number < length sets → ((m : ℕ) → Contains more m ↔ (m ≡ member) ⊎ HasMember sets number m)
    → (k m : ℕ) → HasMember (slice_set sets number more) k m ↔ HasMember sets k m ⊎ ((k ≡ number) × (m ≡ member))
set_more sets number member more low are k m = go (cases_eq k number)
  where
    go : (k ≡ number) ⊎ (k ≢ number) → HasMember (slice_set sets number more) k m ↔ HasMember sets k m ⊎ ((k ≡ number) × (m ≡ member))
    go (inl same) =
        let here : get_or (slice_set sets number more) k [] ≡ more = ap (λ j. get_or (slice_set sets number more) j []) same ∙ get_or-set_same sets number more [] low in (
          λ it. elim ((are m).0 (subst (λ (xs : List ℕ). Contains xs m) here it)) [
            | inl is ↦ inr (same, is)
            | inr there ↦ inl (subst (λ j. HasMember sets j m) (sym same) there)
          ],
          λ both. subst (λ (xs : List ℕ). Contains xs m) (sym here) (elim both [
            | inl before ↦ (are m).1 (inr (subst (λ j. HasMember sets j m) same before))
            | inr is ↦ (are m).1 (inl is.1)
          ]),
        )
    go (inr apart) =
        let there : get_or (slice_set sets number more) k [] ≡ get_or sets k [] = get_or-set_other sets number k more [] apart in (
          λ it. inl (subst (λ (xs : List ℕ). Contains xs m) there it),
          λ both. elim both [
            | inl before ↦ subst (λ (xs : List ℕ). Contains xs m) (sym there) before
            | inr is ↦ absurd (apart is.0)
          ],
        )

-- a pair more
module _ (pairs : List (ℕ × ℕ)) (p n : ℕ) where
  abbrev longer : List (ℕ × ℕ)
  longer = pairs ++ (p, n) ∷ []

  pair_cases : (q m : ℕ) → Contains longer (q, m) → Contains pairs (q, m) ⊎ ((q ≡ p) × (m ≡ n))
  pair_cases q m it =
      elim (Contains-append_cases pairs ((p, n) ∷ []) (q, m) it) [
        | inl before ↦ inl before
        | inr last ↦
            elim (Contains-cases (p, n) [] (q, m) last) [
              | inl same ↦ inr (λ i. (sym same i).0, λ i. (sym same i).1)
              | inr none ↦ let low : none.0 < 0 = none.1 in absurd (omega arith)
            ]
      ]

  cases_pair : (q m : ℕ) → Contains pairs (q, m) ⊎ ((q ≡ p) × (m ≡ n)) → Contains longer (q, m)
  cases_pair q m (inl before) = Contains-append_left pairs ((p, n) ∷ []) (q, m) before
  cases_pair q m (inr same) =
      let pair : (q, m) ≡ (p, n) = λ i. (same.0 i, same.1 i) in
      Contains-append_right pairs ((p, n) ∷ []) (q, m) (subst (λ (x : ℕ × ℕ). Contains ((p, n) ∷ []) x) (sym pair) (Contains-here (p, n) []))

  pub relates_more : (old new : Room) → old.pairs ≡ pairs → new.pairs ≡ longer → new.positives ≡ old.positives → new.negatives ≡ old.negatives → new.rows ≡ old.rows → new.columns ≡ old.columns → Relates old new (λ q m. (q ≡ p) × (m ≡ n))
  relates_more old new is is' positives negatives rows columns = record {
    positives = positives;
    negatives = negatives;
    rows = rows;
    columns = columns;
    behind = ((p, n) ∷ [], is' ∙ ap (λ xs. xs ++ (p, n) ∷ []) (sym is));
    sound = λ q m it. elim (pair_cases q m (subst (λ xs. Contains xs (q, m)) is' it)) [
      | inl before ↦ inl (subst (λ xs. Contains xs (q, m)) (sym is) before)
      | inr same ↦ inr same
    ];
    complete = λ q m same. subst (λ xs. Contains xs (q, m)) (sym is') (cases_pair q m (inr same));
  }

-- a pair more, by its first state
module _ (pairs : List (ℕ × ℕ)) (forward forward' : List (List ℕ)) (p n : ℕ) (are : (q m : ℕ) → HasMember forward q m ↔ Contains pairs (q, m)) (more : (k m : ℕ) → HasMember forward' k m ↔ HasMember forward k m ⊎ ((k ≡ p) × (m ≡ n))) where
  pub pairs_more : (q m : ℕ) → HasMember forward' q m ↔ Contains (pairs ++ (p, n) ∷ []) (q, m)
  pairs_more q m = (
    λ it. cases_pair pairs p n q m (elim ((more q m).0 it) [ inl before ↦ inl ((are q m).0 before) | inr same ↦ inr same ]),
    λ it. (more q m).1 (elim (pair_cases pairs p n q m it) [ inl before ↦ inl ((are q m).1 before) | inr same ↦ inr same ]),
  )

  -- one that is there
  pub pairs_same : HasMember forward p n → (q m : ℕ) → HasMember forward' q m ↔ Contains pairs (q, m)
  pairs_same there q m = (
    λ it. elim ((more q m).0 it) [
      | inl before ↦ (are q m).0 before
      | inr same ↦ subst (λ k. Contains pairs (k, m)) (sym same.0) (subst (λ k. Contains pairs (p, k)) (sym same.1) ((are p n).0 there))
    ],
    λ it. (more q m).1 (inl ((are q m).1 it)),
  )

-- what an index finds is what the pairs of a room hold
pub by_pairs : (pairs pairs' : List (ℕ × ℕ)) → pairs ≡ pairs' → (p n : ℕ) (Found There : Type 0) → Found ↔ There → There ↔ Contains pairs (p, n) → Found ↔ Contains pairs' (p, n)
by_pairs pairs pairs' is p n Found There one two = (
  λ it. subst (λ (xs : List (ℕ × ℕ)). Contains xs (p, n)) is (two.0 (one.0 it)),
  λ it. one.1 (two.1 (subst (λ (xs : List (ℕ × ℕ)). Contains xs (p, n)) (sym is) it)),
)

-- a pair that is there is not added again
pub held_already : (room : Room) (pairs : List (ℕ × ℕ)) → pairs ≡ room.pairs → (p n : ℕ) → Contains pairs (p, n) → Relates room room (λ q m. (q ≡ p) × (m ≡ n))
held_already room pairs is p n there =
    let held : Holds room p n = subst (λ (xs : List (ℕ × ℕ)). Contains xs (p, n)) is there in
    Relates-none room (λ q m. (q ≡ p) × (m ≡ n)) (λ q m same. subst (λ k. Holds room k m) (sym same.0) (subst (λ k. Holds room p k) (sym same.1) held))

-- a pair more, by its second state
pub index_more : (old new : Room) (backward backward' : List (List ℕ)) (p n : ℕ) → Relates old new (λ q m. (q ≡ p) × (m ≡ n)) → ((q m : ℕ) → HasMember backward m q ↔ Holds old q m)
    → ((k m : ℕ) → HasMember backward' k m ↔ HasMember backward k m ⊎ ((k ≡ n) × (m ≡ p))) → (q m : ℕ) → HasMember backward' m q ↔ Holds new q m
index_more old new backward backward' p n it are more q m = (
  λ has. elim ((more m q).0 has) [
    | inl before ↦ Relates-kept old new (λ q m. (q ≡ p) × (m ≡ n)) it q m ((are q m).0 before)
    | inr same ↦ it.complete q m (same.1, same.0)
  ],
  λ held. (more m q).1 (elim (it.sound q m held) [ inl before ↦ inl ((are q m).1 before) | inr same ↦ inr (same.1, same.0) ]),
)

-- what a call ensures on success
pub on_ok : {E : Type 0} {X : Type 0} (result : Result X E) (P : Type 0) → is_ok result ≡ true → OnOk result P → P
on_ok (Ok x) P same it = it
on_ok (Err e) P same it = absurd (cc)
