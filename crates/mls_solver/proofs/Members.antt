-- The states whose old heads go into the new head of a state, found one after another.
use Rattle.std.proofs.Common.{◌≡◌, ◌⊎◌, inl, inr, ℕ, ◌+◌, ◌<◌, ◌==◌, Bool, true, false, List, [], ◌∷◌, refl, sym, subst, arith, length, Contains, All}
use Rattle.std.specs.Prelude.{◌↔◌}
use Rattle.std.proofs.lemmas.Bool.{eqb-true, eqb-false}
use Rattle.std.proofs.lemmas.List.Elements.{All-contains}
use Rattle.mls_automaton.specs.declared.automaton.Polarity.{Polarity}
use Rattle.mls_automaton.specs.declared.automaton.Polarity.TheVariants.{Positive, Negative}
use Rattle.mls_automaton.specs.Automata.{Automaton, polarity_at, HasFlow, IsPartner, IsState, flow}
use Rattle.mls_automaton.specs.Models.{IsClosed}
use Rattle.mls_automaton.proofs.Lists.{Contains-here, Contains-cases, All-contained}
use Rattle.mls_solver.specs.Solved.{ReachesBy}
use Rattle.mls_solver.specs.steps.Numbers.{Numbers, Inserts, ByOne}
use Rattle.mls_solver.proofs.NumberSteps.{Inserts-kept}
use Rattle.mls_solver.specs.steps.Solving.{AreMembers, IsTarget, IsSolvedFlow}

-- the one element of a list
pub only : (x y : ℕ) → Contains (x ∷ []) y → y ≡ x
only x y it =
    elim (Contains-cases x [] y it) [
      | inl same ↦ sym same
      | inr none ↦ let low : none.0 < 0 = none.1 in absurd (omega arith)
    ]

-- a number below the next one
last_or : (n j : ℕ) (b : Bool) → (j == n) ≡ b → j < n + 1 → (j < n) ⊎ (j ≡ n)
last_or n j true e low = inr (eqb-true j n e)
last_or n j false e low = let apart : j ≡ n → ⊥ = eqb-false j n e in inl (omega arith)

pub below_or_last : (n j : ℕ) → j < n + 1 → (j < n) ⊎ (j ≡ n)
below_or_last n j low = last_or n j (j == n) refl low

-- edges by their ends
module _ (a : Automaton) (closed : IsClosed a) where
  unlike : (s : ℕ) → polarity_at a s ≡ Positive → polarity_at a s ≡ Negative → ⊥
  unlike s e e' = cc

  pub partner_of_positive : (s j : ℕ) → polarity_at a s ≡ Positive → IsPartner a s j → HasFlow a j s
  partner_of_positive s j e (inl it) = absurd (unlike s e (closed.negative (flow s j) it).polarity)
  partner_of_positive s j e (inr it) = it

  pub partner_of_negative : (s j : ℕ) → polarity_at a s ≡ Negative → IsPartner a s j → HasFlow a s j
  partner_of_negative s j e (inl it) = it
  partner_of_negative s j e (inr it) = absurd (unlike s (closed.positive (flow j s) it).polarity e)

  -- a related pair beside an edge, by the other ends of the edges
  module _ (R : ℕ → ℕ → Type 0) (s : ℕ) (items partners : List ℕ) (same : items ≡ partners) (are : (k : ℕ) → Contains partners k ↔ IsPartner a s k) where
    to_partner : (k : ℕ) → Contains items k → IsPartner a s k
    to_partner k it = (are k).0 (subst (λ (xs : List ℕ). Contains xs k) same it)

    of_partner : (k : ℕ) → IsPartner a s k → Contains items k
    of_partner k it = subst (λ (xs : List ℕ). Contains xs k) (sym same) ((are k).1 it)

    pub reaches_positive : polarity_at a s ≡ Positive → (j : ℕ) → ByOne items (λ n p. R p n) j ↔ ReachesBy a R (polarity_at a s) s j
    reaches_positive e j =
        subst (λ p. ByOne items (λ n p. R p n) j ↔ ReachesBy a R p s j) (sym e) (
          λ one. (one.0, one.2, partner_of_positive s one.0 e (to_partner one.0 one.1)),
          λ reach. (reach.0, of_partner reach.0 (inr reach.2), reach.1),
        )

    pub reaches_negative : polarity_at a s ≡ Negative → (j : ℕ) → ByOne items (λ p n. R p n) j ↔ ReachesBy a R (polarity_at a s) s j
    reaches_negative e j =
        subst (λ p. ByOne items (λ p n. R p n) j ↔ ReachesBy a R p s j) (sym e) (
          λ one. (one.0, partner_of_negative s one.0 e (to_partner one.0 one.1), one.2),
          λ reach. (reach.0, of_partner reach.0 (inl reach.1), reach.2),
        )

module _ (a : Automaton) (IsRelated : ℕ → ℕ → Type 0) (s : ℕ) where
  -- what was marked: the state itself, and those that reach it
  pub members-marked : (cleared one marks : Numbers) → cleared.members ≡ [] → Inserts cleared one (λ y. y ≡ s) → Inserts one marks (ReachesBy a IsRelated (polarity_at a s) s) → AreMembers a IsRelated s marks.members
  members-marked cleared one marks empty first then = record {
    self = Inserts-kept one marks (ReachesBy a IsRelated (polarity_at a s) s) then s (first.complete s refl);
    reached = λ j it.
        elim (then.sound j it) [
          | inl before ↦
              elim (first.sound j before) [
                | inl old ↦
                    let there : Contains [] j = subst (λ (xs : List ℕ). Contains xs j) empty old in
                    let low : there.0 < 0 = there.1 in
                    absurd (omega arith)
                | inr same ↦ inl same
              ]
          | inr reach ↦ inr reach
        ];
    reaching = λ j reach. then.complete j reach;
  }

  pub members-none : ((j : ℕ) → IsPartner a s j → ⊥) → AreMembers a IsRelated s (s ∷ [])
  members-none alone = record {
    self = Contains-here s [];
    reached = λ j it. inl (only s j it);
    reaching = λ j it. absurd (go (polarity_at a s) j it);
  }
    where
      go : (p : Polarity) (j : ℕ) → ReachesBy a IsRelated p s j → ⊥
      go Positive j it = alone it.0 (inr it.2)
      go Negative j it = alone it.0 (inl it.1)

-- a state that reaches by related pairs of states is there, and has the same polarity
module _ (a : Automaton) (IsRelated : ℕ → ℕ → Type 0) (states : (p n : ℕ) → IsRelated p n → IsState a Positive p × IsState a Negative n) (s : ℕ) where
  pub reaching_state : (p : Polarity) (j : ℕ) → ReachesBy a IsRelated p s j → IsState a p j
  reaching_state Positive j it = (states j it.0 it.1).0
  reaching_state Negative j it = (states it.0 j it.2).1

  -- a state without edges has none in the solved automaton
  pub no_solved_flow : ((j : ℕ) → IsPartner a s j → ⊥) → (q : ℕ) → IsSolvedFlow a IsRelated s q → ⊥
  no_solved_flow alone q (inl it) = alone q (inl it)
  no_solved_flow alone q (inr it) = alone it.0 (inl it.2)

  pub members-state : (p : Polarity) → polarity_at a s ≡ p → s < length a.states → (members : List ℕ) → AreMembers a IsRelated s members → All (IsState a p) members
  members-state p e low members are = All-contained (IsState a p) members (λ j it. go j (are.reached j it))
    where
      go : (j : ℕ) → (j ≡ s) ⊎ ReachesBy a IsRelated (polarity_at a s) s j → IsState a p j
      go j (inl same) = subst (IsState a p) (sym same) (record { in_range = low; polarity = e })
      go j (inr reach) = subst (λ q. IsState a q j) e (reaching_state (polarity_at a s) j reach)

  pub members-low : s < length a.states → (members : List ℕ) → AreMembers a IsRelated s members → All (λ j. j < length a.states) members
  members-low low members are =
      All-contained (λ j. j < length a.states) members
      (λ j it. (All-contains (IsState a (polarity_at a s)) members j (members-state (polarity_at a s) refl low members are) it).in_range)

  -- the edges of the solved automaton from a negative state are those from its members
  module _ (negative : polarity_at a s ≡ Negative) (members : List ℕ) (are : AreMembers a IsRelated s members) where
    pub target-flow : (q : ℕ) → IsTarget a members q → IsSolvedFlow a IsRelated s q
    target-flow q it = go (are.reached it.0 it.1)
      where
        go : (it.0 ≡ s) ⊎ ReachesBy a IsRelated (polarity_at a s) s it.0 → IsSolvedFlow a IsRelated s q
        go (inl same) = inl (subst (λ m. HasFlow a m q) same it.2)
        go (inr reach) =
            let by : ReachesBy a IsRelated Negative s it.0 = subst (λ p. ReachesBy a IsRelated p s it.0) negative reach in
            inr (by.0, it.0, by.1, by.2, it.2)

    pub flow-target : (q : ℕ) → IsSolvedFlow a IsRelated s q → IsTarget a members q
    flow-target q (inl it) = (s, are.self, it)
    flow-target q (inr it) =
        let by : ReachesBy a IsRelated Negative s it.1 = (it.0, it.2, it.3) in
        (it.1, are.reaching it.1 (subst (λ p. ReachesBy a IsRelated p s it.1) (sym negative) by), it.4)
