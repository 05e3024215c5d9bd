-- The heads that settle a table.
use Rattle.std.proofs.Common.{◌≡◌, ◌↔◌, ◌⊎◌, inl, inr, ℕ, ◌<◌, ◌≤◌, true, false, List, [], ◌∷◌, ◌+◌, take, map, Contains, get_or, length, refl, sym, subst, arith, All}
use Rattle.std.proofs.lemmas.List.Elements.{Contains-append_left, Contains-push, Contains-push_cases}
use Rattle.mls_automaton.specs.declared.automaton.Polarity.{Polarity}
use Rattle.mls_automaton.specs.declared.automaton.Polarity.TheVariants.{Positive, Negative}
use Rattle.mls_automaton.specs.declared.automaton.Head.{Head}
use Rattle.mls_automaton.specs.Automata.{Automaton, HasFlow, head_at, polarity_at}
use Rattle.mls_automaton.specs.Heads.{IsSameParts, combined, parts_of}
use Rattle.mls_automaton.specs.Models.{HasRisingLabels}
use Rattle.mls_automaton.proofs.Lists.{All-contained, Contains-here, Contains-cases}
use Rattle.mls_solver.specs.Rooms.{Room, Holds}
use Rattle.mls_solver.specs.Solved.{ReachesBy}
use Rattle.mls_solver.specs.steps.Solving.{AreMembers, IsSolvedState}
use Rattle.mls_solver.proofs.FirstClashes.{pair_held}
use Rattle.mls_solver.proofs.Relating.{taken-cases}
use Rattle.mls_biunify.specs.Live.{IsStateIn}
use Rattle.mls_biunify.specs.steps.Settlement.{AddsHead, AreNewHeads, GivenBy, KeepsHead, TouchedBy}
use Rattle.mls_biunify.specs.steps.Tables.{HoldsThere, IsNumbered, Numbered}
use Rattle.mls_biunify.proofs.Collected.{both_put}

-- the states of a pair that was found are there
pub pair_there : (t : Numbered) (room : Room) → HoldsThere t room → (k : ℕ) → k < length room.pairs → (p n : ℕ) → (p, n) ≡ get_or room.pairs k (0, 0) → IsStateIn t.automaton t.there Positive p × IsStateIn t.automaton t.there Negative n
pair_there t room states k low p n e = states p n (pair_held room k p n low (sym e))

-- what a pair touches
pub pair_touches : (a : Automaton) (p n : ℕ) (pair : ℕ × ℕ) → (p, n) ≡ pair → (old mid new before after : List ℕ) → ((j : ℕ) → Contains mid j ↔ (Contains old j ⊎ Contains before j)) → ((j : ℕ) → Contains new j ↔ (Contains mid j ⊎ Contains after j)) → ((j : ℕ) → Contains before j ↔ HasFlow a j p) → ((j : ℕ) → Contains after j ↔ HasFlow a n j) → (j : ℕ) → Contains new j ↔ (Contains old j ⊎ TouchedBy a pair j)
pair_touches a p n pair e old mid new before after first second is_before is_after =
    both_put (Contains old) (Contains mid) (Contains new) (Contains before) (Contains after) (TouchedBy a pair) first second
    (λ j.
    subst (λ (x : ℕ × ℕ). TouchedBy a x j ↔ (Contains before j ⊎ Contains after j)) e (
      λ it. elim it [ inl edge ↦ inl ((is_before j).1 edge) | inr edge ↦ inr ((is_after j).1 edge) ],
      λ it. elim it [ inl there ↦ inl ((is_before j).0 there) | inr there ↦ inr ((is_after j).0 there) ],
    ))

-- the members of a state
module _ (a : Automaton) (room : Room) (s : ℕ) (one : List ℕ) (only : one ≡ s ∷ []) where
  is_one : (j : ℕ) → Contains one j → j ≡ s
  is_one j it =
      elim (Contains-cases s [] j (subst (λ (xs : List ℕ). Contains xs j) only it)) [
        | inl same ↦ sym same
        | inr none ↦ let low : none.0 < 0 = none.1 in absurd (omega arith)
      ]

  self : Contains one s
  self = subst (λ (xs : List ℕ). Contains xs s) (sym only) (Contains-here s [])

  pub positive-members : Positive ≡ polarity_at a s → (before partners all : List ℕ) → partners ≡ before → ((n : ℕ) → Contains before n ↔ HasFlow a n s) → ((j : ℕ) → Contains all j ↔ (Contains one j ⊎ GivenBy partners (λ n p. Holds room p n) j)) → AreMembers a (Holds room) s all
  positive-members sign before partners all same is_before it = record {
    self = (it s).1 (inl self);
    reached = λ j there.
        elim ((it j).0 there) [
          | inl this ↦ inl (is_one j this)
          | inr given ↦
              inr (subst (λ p. ReachesBy a (Holds room) p s j) sign
              (given.0, given.2, (is_before given.0).0 (subst (λ (xs : List ℕ). Contains xs given.0) same given.1)))
        ];
    reaching = λ j reach.
        let by : ReachesBy a (Holds room) Positive s j = subst (λ p. ReachesBy a (Holds room) p s j) (sym sign) reach in
        (it j).1 (inr (by.0, subst (λ (xs : List ℕ). Contains xs by.0) (sym same) ((is_before by.0).1 by.2), by.1));
  }

  pub negative-members : Negative ≡ polarity_at a s → (after partners all : List ℕ) → partners ≡ after → ((p : ℕ) → Contains after p ↔ HasFlow a s p) → ((j : ℕ) → Contains all j ↔ (Contains one j ⊎ GivenBy partners (λ p n. Holds room p n) j)) → AreMembers a (Holds room) s all
  negative-members sign after partners all same is_after it = record {
    self = (it s).1 (inl self);
    reached = λ j there.
        elim ((it j).0 there) [
          | inl this ↦ inl (is_one j this)
          | inr given ↦
              inr (subst (λ p. ReachesBy a (Holds room) p s j) sign
              (given.0, (is_after given.0).0 (subst (λ (xs : List ℕ). Contains xs given.0) same given.1), given.2))
        ];
    reaching = λ j reach.
        let by : ReachesBy a (Holds room) Negative s j = subst (λ p. ReachesBy a (Holds room) p s j) (sym sign) reach in
        (it j).1 (inr (by.0, subst (λ (xs : List ℕ). Contains xs by.0) (sym same) ((is_after by.0).1 by.1), by.2));
  }

-- the partners of a state are below the limit
pub partners_low : (t : Numbered) → IsNumbered t → (p : Polarity) (partners : List ℕ) (limit : ℕ) → t.limit ≤ limit → ((j : ℕ) → Contains partners j → IsStateIn t.automaton t.there p j) → All (λ j. j < limit) partners
partners_low t is p partners limit fits states =
    All-contained (λ j. j < limit) partners
    (λ j it. let low : j < t.limit = is.low j (states j it).there in omega arith)

-- the members of a state are there
pub members_there : (t : Numbered) (room : Room) → HoldsThere t room → (s : ℕ) → get_or t.there s false ≡ true → (members : List ℕ) → AreMembers t.automaton (Holds room) s members → All (λ j. get_or t.there j false ≡ true) members
members_there t room states s there members are =
    All-contained (λ j. get_or t.there j false ≡ true) members (λ j it. by (are.reached j it))
  where
    reach_there : (p : Polarity) (j : ℕ) → ReachesBy t.automaton (Holds room) p s j → get_or t.there j false ≡ true
    reach_there Positive j it = (states j it.0 it.1).0.there
    reach_there Negative j it = (states it.0 j it.2).1.there

    by : {j : ℕ} → (j ≡ s) ⊎ ReachesBy t.automaton (Holds room) (polarity_at t.automaton s) s j → get_or t.there j false ≡ true
    by {j} (inl same) = subst (λ k. get_or t.there k false ≡ true) (sym same) there
    by {j} (inr reach) = reach_there (polarity_at t.automaton s) j reach

-- the head of a state that is solved
pub solved_state : (a : Automaton) (R : ℕ → ℕ → Type 0) (s : ℕ) (p : Polarity) → p ≡ polarity_at a s → (members : List ℕ) → AreMembers a R s members → (items : List ℕ) → items ≡ members → (head : Head) → IsSameParts (parts_of head) (combined p (map (λ j. parts_of (head_at a j)) items)) → HasRisingLabels head.fields → IsSolvedState a R s (record { polarity = polarity_at a s; head = head })
solved_state a R s p sign members are items same head parts labels = record {
  polarity = refl;
  members = members;
  are = are;
  parts = subst (λ q. IsSameParts (parts_of head) (combined q (map (λ j. parts_of (head_at a j)) members))) sign (subst (λ (xs : List ℕ). IsSameParts (parts_of head) (combined p (map (λ j. parts_of (head_at a j)) xs))) same parts);
  labels = labels;
}

pub heads-none : (t : Numbered) (R : ℕ → ℕ → Type 0) (states : List ℕ) (heads : List (ℕ × Head)) → heads ≡ [] → AreNewHeads t R (take 0 states) heads
heads-none t R states heads e = record {
  each = λ s h it.
      let none : Contains [] (s, h) = subst (λ (xs : List (ℕ × Head)). Contains xs (s, h)) e it in
      let low : none.0 < 0 = none.1 in
      absurd (omega arith);
  all = λ s none. let low : none.0 < 0 = none.1 in absurd (omega arith);
}

pub heads-more : (t : Numbered) (R : ℕ → ℕ → Type 0) (states : List ℕ) (i : ℕ) → i < length states → (old new : List (ℕ × Head)) → get_or t.there (get_or states i 0) false ≡ true → AreNewHeads t R (take i states) old → AddsHead t R (get_or states i 0) old new → AreNewHeads t R (take (i + 1) states) new
heads-more t R states i low old new there so_far (inl keeps) = record {
  each = λ s h it. so_far.each s h (subst (λ (xs : List (ℕ × Head)). Contains xs (s, h)) keeps.0 it);
  all = λ s it.
      elim (taken-cases states i 0 low s it) [
        | inl earlier ↦
            elim (so_far.all s earlier) [
              | inl found ↦ inl (found.0, subst (λ (xs : List (ℕ × Head)). Contains xs (s, found.0)) (sym keeps.0) found.1)
              | inr own ↦ inr own
            ]
        | inr same ↦ inr (subst (KeepsHead t.automaton R) (sym same) keeps.1)
      ];
}
heads-more t R states i low old new there so_far (inr (h, e, solved)) = record {
  each = λ s k it.
      elim (Contains-push_cases old (get_or states i 0, h) (s, k) (subst (λ (xs : List (ℕ × Head)). Contains xs (s, k)) e it)) [
        | inl before ↦ so_far.each s k before
        | inr same ↦ (
          subst (λ (x : ℕ × Head). get_or t.there x.0 false ≡ true) same there,
          subst (λ (x : ℕ × Head). IsSolvedState t.automaton R x.0 (record { polarity = polarity_at t.automaton x.0; head = x.1 })) same solved,
        )
      ];
  all = λ s it.
      elim (taken-cases states i 0 low s it) [
        | inl earlier ↦
            elim (so_far.all s earlier) [
              | inl found ↦ inl (found.0, subst (λ (xs : List (ℕ × Head)). Contains xs (s, found.0)) (sym e) (Contains-append_left old ((get_or states i 0, h) ∷ []) (s, found.0) found.1))
              | inr own ↦ inr own
            ]
        | inr same ↦
            inl (h, subst (λ k. Contains new (k, h)) (sym same) (subst (λ (xs : List (ℕ × Head)). Contains xs (get_or states i 0, h)) (sym e) (Contains-push old (get_or states i 0, h))))
      ];
}
