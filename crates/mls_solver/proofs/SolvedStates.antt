-- The states of the solved automaton, made one after another, and its edges make it solved.
use Rattle.std.proofs.Common.{◌≡◌, ◌⊎◌, inl, inr, ℕ, ◌+◌, ◌<◌, ◌≤◌, List, [], ◌∷◌, ◌++◌, map, refl, sym, ap, ◌∙◌, subst, arith, length, get_or, Contains}
use Rattle.std.proofs.Math.Seq.{get_or-append_seam}
use Rattle.std.proofs.lemmas.Bool.{cases_lt}
use Rattle.std.proofs.lemmas.List.{length-append, get_or_append_left, get_or_past}
use Rattle.mls_automaton.specs.declared.automaton.Polarity.{Polarity}
use Rattle.mls_automaton.specs.declared.automaton.Polarity.TheVariants.{Positive}
use Rattle.mls_automaton.specs.declared.automaton.Head.{Head}
use Rattle.mls_automaton.specs.declared.automaton.State.{State}
use Rattle.mls_automaton.specs.Automata.{Automaton, HasFlow, IsState, empty_head, flow, polarity_at, head_at, state_at, with_state}
use Rattle.mls_automaton.specs.Heads.{parts_of, combined, IsSameParts}
use Rattle.mls_automaton.specs.Models.{HasRisingLabels, IsClosed}
use Rattle.mls_solver.specs.Solved.{IsSolved}
use Rattle.mls_solver.specs.steps.Solving.{AddsFlows, AreMembers, AreSolvedTo, IsSolvedFlow, IsSolvedState}
use Rattle.mls_automaton.proofs.CombinedHeads.{same_parts-self}
use Rattle.mls_solver.proofs.Members.{below_or_last, members-none}

abbrev none : State
none = record { polarity = Positive; head = empty_head }

module _ (a : Automaton) (R : ℕ → ℕ → Type 0) where
  pub states-first : AreSolvedTo a R 0 (record { states = []; flows = [] })
  states-first = record {
    size = refl;
    flows = refl;
    states = λ s low. absurd (omega arith);
  }

  pub states-more : (n : ℕ) (solved : Automaton) → AreSolvedTo a R n solved → (state : State) → IsSolvedState a R n state → AreSolvedTo a R (n + 1) (with_state solved state)
  states-more n solved so_far state it = record {
    size = length-append solved.states (state ∷ []) ∙ ap (λ k. k + 1) so_far.size;
    flows = so_far.flows;
    states = λ s low.
        elim (below_or_last n s low) [
          | inl less ↦
              let below : s < length solved.states = subst (λ k. s < k) (sym so_far.size) less in
              subst (IsSolvedState a R s) (sym (get_or_append_left solved.states (state ∷ []) none s below)) (so_far.states s less)
          | inr same ↦
              let last : get_or (solved.states ++ state ∷ []) s none ≡ state =
              ap (λ k. get_or (solved.states ++ state ∷ []) k none) (same ∙ sym so_far.size) ∙ get_or-append_seam solved.states state [] none in
              subst (λ x. IsSolvedState a R s x) (sym last) (subst (λ k. IsSolvedState a R k state) (sym same) it)
        ];
  }

  pub states-next : (n : ℕ) (old : Automaton) → AreSolvedTo a R n old → (new : Automaton) → (state : State) × (new ≡ with_state old state) × IsSolvedState a R n state → AreSolvedTo a R (n + 1) new
  states-next n old so_far new it = subst (AreSolvedTo a R (n + 1)) (sym it.1) (states-more n old so_far it.0 it.2)

  pub added_state : (s : ℕ) (p : Polarity) → p ≡ polarity_at a s → (members : List ℕ) → AreMembers a R s members → (items : List ℕ) → items ≡ members → (head : Head)
      → IsSameParts (parts_of head) (combined p (map (λ j. parts_of (head_at a j)) items)) → HasRisingLabels head.fields
      → (old new : Automaton) → new ≡ with_state old (record { polarity = p; head = head }) → (state : State) × (new ≡ with_state old state) × IsSolvedState a R s state
  added_state s p polarity members are items same head parts labels old new it = (
    record { polarity = p; head = head },
    it,
    record {
      polarity = polarity;
      members = members;
      are = are;
      parts = subst (λ q. IsSameParts (parts_of head) (combined q (map (λ j. parts_of (head_at a j)) members))) polarity (subst (λ (xs : List ℕ). IsSameParts (parts_of head) (combined p (map (λ j. parts_of (head_at a j)) xs))) same parts);
      labels = labels;
    },
  )

  -- they are states of the solved automaton
  pub same_states : (mid : Automaton) → AreSolvedTo a R (length a.states) mid → (p : Polarity) (s : ℕ) → IsState a p s → IsState mid p s
  same_states mid are p s state =
      let size : length mid.states ≡ length a.states = are.size in
      let low : s < length a.states = state.in_range in
      record { in_range = omega arith; polarity = (are.states s state.in_range).polarity ∙ state.polarity }

  -- past the end there are neither heads nor edges
  module _ (closed : IsClosed a) (s : ℕ) (high : length a.states ≤ s) where
    past : state_at a s ≡ none
    past = get_or_past a.states s none high

    alone : (j : ℕ) → HasFlow a s j ⊎ HasFlow a j s → ⊥
    alone j (inl it) = let low : s < length a.states = (closed.negative (flow s j) it).in_range in omega arith
    alone j (inr it) = let low : s < length a.states = (closed.positive (flow j s) it).in_range in omega arith

    pub state-past : IsSolvedState a R s none
    state-past = record {
      polarity = ap (λ (x : State). x.polarity) (sym past);
      members = s ∷ [];
      are = members-none a R s alone;
      parts = subst (λ (x : State). IsSameParts (parts_of empty_head) (combined x.polarity (parts_of x.head ∷ []))) (sym past) (same_parts-self (parts_of empty_head));
      labels = tt;
    }

  module _ (closed : IsClosed a) (mid solved : Automaton) (are : AreSolvedTo a R (length a.states) mid) (adds : AddsFlows mid solved (IsSolvedFlow a R)) where
    each : (s : ℕ) → IsSolvedState a R s (state_at solved s)
    each s = subst (λ (states : List State). IsSolvedState a R s (get_or states s none)) (sym adds.states) (go (cases_lt s (length a.states)))
      where
        go : (s < length a.states) ⊎ (length a.states ≤ s) → IsSolvedState a R s (state_at mid s)
        go (inl low) = are.states s low
        go (inr high) =
            let size : length mid.states ≡ length a.states = are.size in
            subst (IsSolvedState a R s) (sym (get_or_past mid.states s none (omega arith))) (state-past closed s high)

    no_flow : (n q : ℕ) → HasFlow mid n q → ⊥
    no_flow n q it =
        let there : Contains [] (flow n q) = subst (λ flows. Contains flows (flow n q)) are.flows it in
        let low : there.0 < 0 = there.1 in
        omega arith

    pub is-solved : IsSolved a R solved
    is-solved = record {
      same_length = ap (λ (states : List State). length states) adds.states ∙ are.size;
      polarity = λ s. (each s).polarity;
      flows = λ n q it. elim (adds.sound n q it) [ inl old ↦ absurd (no_flow n q old) | inr new ↦ new ];
      old_flows = λ n q it. adds.complete n q (inl it);
      new_flows = λ n q it. adds.complete n q (inr it);
      members = λ s. (each s).members;
      self = λ s. (each s).are.self;
      reached = λ s. (each s).are.reached;
      reaching = λ s. (each s).are.reaching;
      heads = λ s. (each s).parts;
    }

    pub labels-rise : (s : ℕ) → HasRisingLabels (head_at solved s).fields
    labels-rise s = (each s).labels
