-- The states of all sets, with the edges between them, are the deterministic form.
--     built_scheme         it is a scheme
--     built_determinised   it is the deterministic form
use Rattle.std.proofs.Common.{◌≡◌, inl, inr, ℕ, zero, suc, ◌<◌, ◌≤◌, List, [], ◌∷◌, map, sym, ap, ◌∙◌, subst, arith, length, get_or, All, Contains, Some, None}
use Rattle.std.specs.Prelude.{Option}
use Rattle.std.proofs.lemmas.Bool.{cases_lt}
use Rattle.std.proofs.lemmas.List.{get_or_past}
use Rattle.std.proofs.lemmas.List.Elements.{All-contains}
use Rattle.mls_automaton.specs.declared.automaton.Polarity.{Polarity}
use Rattle.mls_automaton.specs.declared.automaton.Polarity.TheVariants.{Positive, Negative}
use Rattle.mls_automaton.specs.declared.automaton.State.{State}
use Rattle.mls_automaton.specs.declared.scheme.EnvEntry.{EnvEntry}
use Rattle.mls_automaton.specs.declared.scheme.Scheme.{Scheme}
use Rattle.mls_automaton.specs.Automata.{Automaton, state_at, head_at, polarity_at, empty_head, flow, HasFlow, IsState}
use Rattle.mls_automaton.specs.Environments.{BindersRise}
use Rattle.mls_automaton.specs.Heads.{parts_of, combined, IsSameSet, IsSameOption, IsSameParts}
use Rattle.mls_automaton.specs.Models.{HasStatesIn, HasRisingLabels, HasSingleArms, HasSingleFields, IsClosed, IsDeterministic}
use Rattle.mls_automaton.specs.Reached.{IsReached, root, binder, named, Names}
use Rattle.mls_automaton.specs.Schemes.{state_of, IsScheme}
use Rattle.mls_automaton.proofs.Lists.{All-one}
use Rattle.mls_automaton.proofs.Passing.{states_all}
use Rattle.mls_automaton.proofs.Reaching.{entry-found}
use Rattle.mls_shape.specs.declared.register.Register.{Register}
use Rattle.mls_shape.specs.declared.register.SetState.{SetState}
use Rattle.mls_shape.specs.Determinised.{spread, IsDeterminised}
use Rattle.mls_shape.specs.steps.Registers.{key_in, sets_in, keys_in, key_at, number_in, IsRegister, IsAt, Grows, Numbers}
use Rattle.mls_shape.specs.steps.Building.{IsSetOf, IsStateOf, AreStatesOf}
use Rattle.mls_shape.specs.steps.Edges.{set_at, AddsFlows, IsEdge}
use Rattle.mls_shape.specs.steps.Entries.{HasEntryAt, NumbersEnv}
use Rattle.mls_shape.specs.steps.Built.{IsBuilt}
use Rattle.mls_automaton.proofs.CombinedHeads.{same_parts-trans}
use Rattle.mls_shape.proofs.Entries.{SameEntry, entry_env, entry_of, binders_rise}
use Rattle.mls_shape.proofs.NumberedStates.{row_in, row_labels, row_single, row_spread, members_at}
use Rattle.mls_shape.proofs.Registered.{at_kept, key_at-set, key_size}
use Rattle.mls_shape.proofs.RisingSets.{same_rising}

-- no two numbers have one set
pub one_number : (register : Register) → IsRegister register → (i j : ℕ) → i < length (sets_in register) → j < length (sets_in register)
    → (set_at (sets_in register) i).polarity ≡ (set_at (sets_in register) j).polarity
    → IsSameSet (members_at (sets_in register) i) (members_at (sets_in register) j)
    → i ≡ j
one_number register is i j low low' polarity same =
    let sets : List SetState = sets_in register in
    let members : members_at sets i ≡ members_at sets j = same_rising (members_at sets i) (members_at sets j) (is.rising i _ low) (is.rising j _ low') same in
    let size : length (keys_in register) ≡ length sets = key_size sets in
    let equal : key_in (set_at sets i) ≡ key_in (set_at sets j) = λ k. key_in (record { polarity = polarity k; members = members k }) in
    let first : key_at (keys_in register) i ≡ key_in (set_at sets i) = key_at-set sets i _ low in
    let second : key_at (keys_in register) j ≡ key_in (set_at sets j) = key_at-set sets j _ low' in
    let some : Some i ≡ Some j =
    sym (is.numbered i (omega arith)) ∙ (ap (number_in register) (first ∙ (equal ∙ sym second)) ∙ is.numbered j (omega arith)) in
    cc

-- the sets of the root and of the binders
pub numbered_root : (r n : ℕ) (members : List ℕ) (none sets : List SetState) → none ≡ [] → members ≡ r ∷ [] → Numbers Positive members none sets n → Numbers Positive (r ∷ []) [] sets n
numbered_root r n members none sets empty one it =
    subst (λ xs. Numbers Positive xs [] sets n) one (subst (λ (old : List SetState). Numbers Positive members old sets n) empty it)

pub first_sets : (s : Scheme) → IsScheme s → BindersRise s.env → (n : ℕ) (sets first : List SetState) (row : List EnvEntry) → Numbers Positive (s.root.0 ∷ []) [] sets n → NumbersEnv s.env sets first row → All (IsSetOf s.automaton) first
first_sets s is_s rises n sets first row one env k d low =
    elim (cases_lt k (length sets)) [
      | inl less ↦
          let same : k ≡ n = one.grows.such k (omega arith) less in
          let at = at_kept (HasEntryAt row) sets first env.grows n Positive (s.root.0 ∷ []) one.at in
          subst (IsSetOf s.automaton) (sym (ap (λ k. get_or first k d) same ∙ at.1 d)) (All-one (IsState s.automaton Positive) s.root.0 is_s.root)
      | inr more ↦
          let named = env.grows.such k more low in
          let it = entry_of first s.env row env.is named.0 named.1 in
          let at : get_or first k d ≡ record { polarity = Negative; members = it.0.state.0 ∷ [] } = ap (λ k. get_or first k d) (sym named.2) ∙ it.2.1 d in
          subst (IsSetOf s.automaton) (sym at) (All-one (IsState s.automaton Negative) it.0.state.0 (is_s.env it.0.binder it.0.state.0 (entry-found s.env rises it.0 it.1)))
    ]

module _ (s d : Scheme) (is_s : IsScheme s) (it : IsBuilt s d) where
  abbrev a : Automaton
  a = s.automaton

  abbrev e : Automaton
  e = d.automaton

  abbrev before : Automaton
  before = it.without_flows

  abbrev sets : List SetState
  sets = sets_in it.register

  abbrev first : List SetState
  first = it.of_binders

  abbrev states : AreStatesOf a first sets before
  states = it.states

  abbrev flows : AddsFlows before e (IsEdge a sets)
  flows = it.flows

  abbrev none : State
  none = record { polarity = Positive; head = empty_head }

  abbrev nothing : SetState
  nothing = record { polarity = Positive; members = [] }

  size : length e.states ≡ length sets
  size = ap length flows.states ∙ states.whole

  state_same : (j : ℕ) → state_at e j ≡ state_at before j
  state_same j = ap (λ states. get_or states j none) flows.states

  state_is : (j : ℕ) → j < length e.states → IsStateOf a sets (set_at sets j) (state_at e j)
  state_is j low =
      let e = size in
      let w = states.whole in
      subst (IsStateOf a sets (set_at sets j)) (sym (state_same j)) (states.building.states j nothing (omega arith))

  set_is : (j : ℕ) → j < length e.states → IsSetOf a (set_at sets j)
  set_is j low = states.building.each j nothing (let e = size in omega arith)

  -- the set of a number is its state
  at_state : (q : Polarity) (n : ℕ) (members : List ℕ) → IsAt sets n q members → IsState e q n
  at_state q n members at =
      let whole = size in
      let low : n < length sets = at.0 in
      record { in_range = omega arith; polarity = (state_is n (omega arith)).polarity ∙ ap (λ (set : SetState). set.polarity) (at.1 nothing) }

  abbrev Any : Polarity → ℕ → Type 0
  Any q n = Unit {0}

  empty_states : (q : Polarity) → HasStatesIn (IsState e) q empty_head
  empty_states q = record { function = tt; fields = tt }

  state_past : (j : ℕ) → length e.states ≤ j → state_at e j ≡ none
  state_past j more = get_or_past e.states j none more

  head_states : (j : ℕ) → HasStatesIn (IsState e) (polarity_at e j) (head_at e j)
  head_states j =
      elim (cases_lt j (length e.states)) [
        | inl less ↦
            let it = state_is j less in
            subst (λ q. HasStatesIn (IsState e) q (head_at e j)) (sym it.polarity)
            (row_in sets Any (IsState e) (λ q n members at each. at_state q n members at) (set_at sets j).polarity it.head (head_at e j)
            (states_all Any (λ q n. tt) (set_at sets j).polarity it.head) it.is)
        | inr more ↦ subst (λ (st : State). HasStatesIn (IsState e) st.polarity st.head) (sym (state_past j more)) (empty_states Positive)
      ]

  head_labels : (j : ℕ) → HasRisingLabels (head_at e j).fields
  head_labels j =
      elim (cases_lt j (length e.states)) [
        | inl less ↦ let it = state_is j less in row_labels sets (set_at sets j).polarity it.head (head_at e j) it.combined.labels it.is
        | inr more ↦ subst (λ (st : State). HasRisingLabels st.head.fields) (sym (state_past j more)) tt
      ]

  pub built_deterministic : IsDeterministic e
  built_deterministic j =
      elim (cases_lt j (length e.states)) [
        | inl less ↦ let it = state_is j less in row_single sets (set_at sets j).polarity it.head (head_at e j) it.is
        | inr more ↦ subst (λ (st : State). HasSingleArms st.head.function × HasSingleFields st.head.fields) (sym (state_past j more)) (tt, tt)
      ]

  -- the edges
  edge_is : (n p : ℕ) → HasFlow e n p → IsEdge a sets n p
  edge_is n p edge = elim (flows.sound n p edge) [
    | inl old ↦ absurd (no_flow (subst (λ fs. Contains fs (flow n p)) states.building.flows old))
    | inr new ↦ new
  ]
    where
      no_flow : Contains [] (flow n p) → ⊥
      no_flow there = let low : there.0 < 0 = there.1 in omega arith

  end_state : (q : Polarity) (n m : ℕ) → n < length sets → Contains (members_at sets n) m → polarity_at a m ≡ q → IsState e q n
  end_state q n m low there polarity =
      let whole = size in
      let member : IsState a (set_at sets n).polarity m = All-contains (IsState a (set_at sets n).polarity) (members_at sets n) m (set_is n (omega arith)) there in
      record { in_range = omega arith; polarity = (state_is n (omega arith)).polarity ∙ (sym member.polarity ∙ polarity) }

  edge_negative : (n p : ℕ) → HasFlow e n p → IsState e Negative n
  edge_negative n p edge = let it = edge_is n p edge in end_state Negative n it.from it.low it.in_first (is_s.automaton.negative (flow it.from it.to) it.flow).polarity

  edge_positive : (n p : ℕ) → HasFlow e n p → IsState e Positive p
  edge_positive n p edge = let it = edge_is n p edge in end_state Positive p it.to it.high it.in_second (is_s.automaton.positive (flow it.from it.to) it.flow).polarity

  pub built_closed : IsClosed e
  built_closed = record {
    heads = head_states;
    labels = head_labels;
    negative = λ f there. edge_negative f.negative.0 f.positive.0 there;
    positive = λ f there. edge_positive f.negative.0 f.positive.0 there;
  }

  -- the root and the binders
  first_more : Grows (λ k. (i : ℕ) × (i < k) × Names before i k) first sets
  first_more = states.building.more

  root_kept : IsAt sets d.root.0 Positive (s.root.0 ∷ [])
  root_kept =
      at_kept (λ k. (i : ℕ) × (i < k) × Names before i k) first sets first_more d.root.0 Positive (s.root.0 ∷ [])
      (at_kept (HasEntryAt d.env) it.of_root first it.env.grows d.root.0 Positive (s.root.0 ∷ []) it.root.at)

  entries : (x : ℕ) → IsSameOption (SameEntry first) (state_of s.env x) (state_of d.env x)
  entries x = entry_env first s.env d.env it.env.is x

  entry_kept : (n j : ℕ) → SameEntry first n j → IsAt sets j Negative (n ∷ [])
  entry_kept n j at = at_kept (λ k. (i : ℕ) × (i < k) × Names before i k) first sets first_more j Negative (n ∷ []) at

  binder_state : (o other : Option ℕ) → IsSameOption (SameEntry first) o other → (j : ℕ) → other ≡ Some j → IsState e Negative j
  binder_state None None same j found = absurd (cc)
  binder_state None (Some k) same j found = absurd same
  binder_state (Some n) None same j found = absurd same
  binder_state (Some n) (Some k) same j found =
      let is : k ≡ j = cc in
      subst (IsState e Negative) is (at_state Negative k (n ∷ []) (entry_kept n k same))

  pub built_scheme : IsScheme d
  built_scheme = record {
    automaton = built_closed;
    root = at_state Positive d.root.0 (s.root.0 ∷ []) root_kept;
    env = λ x j found. binder_state (state_of s.env x) (state_of d.env x) (entries x) j found;
  }

  same_members : (n j : ℕ) (q : Polarity) → IsAt sets j q (n ∷ []) → IsSameSet (members_at sets j) (n ∷ [])
  same_members n j q at =
      let same : members_at sets j ≡ n ∷ [] = ap (λ (set : SetState). set.members) (at.1 nothing) in
      (λ k there. subst (λ xs. Contains xs k) same there, λ k there. subst (λ xs. Contains xs k) (sym same) there)

  binder_same : (o other : Option ℕ) → IsSameOption (SameEntry first) o other → IsSameOption (λ n j. IsSameSet (members_at sets j) (n ∷ [])) o other
  binder_same None None same = tt
  binder_same None (Some k) same = absurd same
  binder_same (Some n) None same = absurd same
  binder_same (Some n) (Some k) same = same_members n k Negative (entry_kept n k same)

  -- each state is reached from an earlier one
  names_same : (i k : ℕ) → Names before i k → Names e i k
  names_same i k names = subst (λ (st : State). Names (record { states = st ∷ []; flows = [] }) 0 k) (sym (state_same i)) names

  first_reached : (k : ℕ) → k < length first → IsReached d k
  first_reached k low =
      elim (cases_lt k (length it.of_root)) [
        | inl less ↦ root (sym (it.root.grows.such k (omega arith) less))
        | inr more ↦
            let entry = it.env.grows.such k more low in
            binder entry.0.binder (subst (λ j. state_of d.env entry.0.binder ≡ Some j) entry.2 (entry-found d.env (binders_rise first s.env d.env it.env.is it.rises) entry.0 entry.1))
      ]

  reached_below : (n k : ℕ) → k < n → k < length sets → IsReached d k
  reached_below zero k below low = absurd (omega arith)
  reached_below (suc n) k below low =
      elim (cases_lt k (length first)) [
        | inl less ↦ first_reached k less
        | inr more ↦
            let it = first_more.such k more low in
            let earlier : it.0 < k = it.1 in
            named (reached_below n it.0 (omega arith) (omega arith)) (names_same it.0 k it.2)
      ]

  pub built_determinised : IsDeterminised s d
  built_determinised = record {
    members = members_at sets;
    states = λ j low. subst (λ q. All (IsState a q) (members_at sets j)) (sym (state_is j low).polarity) (set_is j low);
    distinct = λ i j low low' polarity same.
        let whole = size in
        one_number it.register it.is i j (omega arith) (omega arith) (sym (state_is i low).polarity ∙ (polarity ∙ (state_is j low').polarity)) same;
    deterministic = built_deterministic;
    heads = λ j low. heads j low;
    flows = λ n p is_n is_p. (
      λ edge. let it = edge_is n p edge in (it.from, it.to, it.in_first, it.in_second, it.flow),
      λ it. edge_of n p is_n is_p it.0 it.1 it.2 it.3 it.4,
    );
    root = same_members s.root.0 d.root.0 Positive root_kept;
    env = λ x. binder_same (state_of s.env x) (state_of d.env x) (entries x);
    reached = λ j low. reached_below (suc j) j (omega arith) (let whole = size in omega arith);
  }
    where
      heads : (j : ℕ) → j < length e.states → IsSameParts (spread (members_at sets) (parts_of (head_at e j))) (combined (polarity_at e j) (map (λ i. parts_of (head_at a i)) (members_at sets j)))
      heads j low =
          let it = state_is j low in
          subst (λ q. IsSameParts (spread (members_at sets) (parts_of (head_at e j))) (combined q (map (λ i. parts_of (head_at a i)) (members_at sets j)))) (sym it.polarity)
          (same_parts-trans (spread (members_at sets) (parts_of (head_at e j))) (parts_of it.head) (combined (set_at sets j).polarity (map (λ i. parts_of (head_at a i)) (members_at sets j)))
          (row_spread sets (set_at sets j).polarity it.head (head_at e j) it.is)
          it.combined.parts)

      edge_of : (n p : ℕ) → IsState e Negative n → IsState e Positive p → (m q : ℕ) → Contains (members_at sets n) m → Contains (members_at sets p) q → HasFlow a m q → HasFlow e n p
      edge_of n p is_n is_p m q in_n in_p edge =
          let whole = size in
          let low : n < length e.states = is_n.in_range in
          let high : p < length e.states = is_p.in_range in
          flows.complete n p
          (record {
            low = omega arith;
            high = omega arith;
            negative = sym (state_is n low).polarity ∙ is_n.polarity;
            from = m;
            to = q;
            in_first = in_n;
            in_second = in_p;
            flow = edge;
          })
