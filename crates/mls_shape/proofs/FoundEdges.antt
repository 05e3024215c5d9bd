-- How the edges of the deterministic form are found.
--     partner_low, holders_added, targets_none, targets_more, targets_all   the sets to which a set has edges
--     edge_of, of_edge, target_positive                                     they are those of the definition
--     flows_sorted, flows_of_set                                            the edges from one set
use Rattle.std.proofs.Common.{◌≡◌, ◌⊎◌, inl, inr, ℕ, ◌+◌, ◌<◌, ◌≤◌, List, [], ◌++◌, take, sym, ap, ◌∙◌, subst, arith, length, get_or, All, Contains}
use Rattle.std.specs.Prelude.{◌↔◌, OnOk, Result, Ok, Err}
use Rattle.std.specs.List.{flat_map}
use Rattle.std.specs.List.Sorted.{IsPermutation}
use Rattle.std.proofs.lemmas.List.{take_all, get_or_default}
use Rattle.std.proofs.lemmas.List.Elements.{All-contains, Contains-append_left, Contains-append_right, Contains-append_cases}
use Rattle.std.proofs.lemmas.List.Sorted.{IsPermutation-sym, Contains-permutation}
use Rattle.mls_automaton.specs.declared.automaton.Polarity.{Polarity}
use Rattle.mls_automaton.specs.declared.automaton.Polarity.TheVariants.{Positive, Negative}
use Rattle.mls_automaton.specs.Automata.{Automaton, HasFlow, IsPartner, IsState, flow, polarity_at}
use Rattle.mls_automaton.specs.Models.{IsClosed}
use Rattle.mls_automaton.proofs.Lists.{All-contained, Contains-flat_map, Contains-flat_map_back}
use Rattle.mls_shape.specs.declared.register.SetState.{SetState}
use Rattle.mls_shape.specs.steps.Building.{IsSetOf}
use Rattle.mls_shape.specs.steps.Edges.{set_at, AreStatesFor, AddsFlows, IsEdge, AreHolders, IsHolder, IsTarget}
use Rattle.mls_shape.proofs.Holders.{taken-before, taken-last, taken-cases}
use Rattle.mls_shape.proofs.AddedFlows.{flows-none, flows-same}

pub partner_low : (a : Automaton) → IsClosed a → (m q : ℕ) → IsPartner a m q → q < length a.states
partner_low a closed m q (inl to) = (closed.positive (flow m q) to).in_range
partner_low a closed m q (inr from) = (closed.negative (flow q m) from).in_range

module _ (a : Automaton) (holders : List (List ℕ)) where
  abbrev holders_at : ℕ → List ℕ
  holders_at q = get_or holders q []

  pub holders_added : (m : ℕ) (partners old new : List ℕ) → ((q : ℕ) → Contains partners q ↔ IsPartner a m q) → new ≡ old ++ flat_map holders_at partners → (j : ℕ) → Contains new j ↔ (Contains old j ⊎ IsHolder a holders m j)
  holders_added m partners old new are grown j = (
    (λ there.
        elim (Contains-append_cases old (flat_map holders_at partners) j (subst (λ xs. Contains xs j) grown there)) [
          | inl before ↦ inl before
          | inr more ↦ let it = Contains-flat_map_back holders_at partners j more in inr (it.0, (are it.0).0 it.1, it.2)
        ]),
    (λ it. subst (λ xs. Contains xs j) (sym grown)
        (elim it [
          | inl before ↦ Contains-append_left old (flat_map holders_at partners) j before
          | inr more ↦ Contains-append_right old (flat_map holders_at partners) j (Contains-flat_map holders_at partners more.0 j ((are more.0).1 more.1) more.2)
        ])),
  )

  pub holders_ok : {X E : Type 0} (m : ℕ) (partners list old new : List ℕ) (result : Result X E) → list ≡ partners → ((q : ℕ) → Contains partners q ↔ IsPartner a m q) → OnOk result (new ≡ old ++ flat_map holders_at list) → OnOk result ((j : ℕ) → Contains new j ↔ (Contains old j ⊎ IsHolder a holders m j))
  holders_ok m partners list old new (Ok done) same are grown = holders_added m partners old new are (grown ∙ ap (λ xs. old ++ flat_map holders_at xs) same)
  holders_ok m partners list old new (Err e) same are grown = tt

  pub partners_low : IsClosed a → length holders ≡ length a.states → (m : ℕ) (partners list : List ℕ) → list ≡ partners → ((q : ℕ) → Contains partners q ↔ IsPartner a m q) → All (λ q. q < length holders) list
  partners_low closed size m partners list same are =
      All-contained (λ q. q < length holders) list
      (λ q there.
      let low : q < length a.states = partner_low a closed m q ((are q).0 (subst (λ xs. Contains xs q) same there)) in
      omega arith)

  pub targets_none : (members : List ℕ) (j : ℕ) → Contains [] j ↔ IsTarget a holders (take 0 members) j
  targets_none members j = (
    (λ there. let low : there.0 < 0 = there.1 in absurd (omega arith)),
    (λ it. let low : it.1.0 < 0 = it.1.1 in absurd (omega arith)),
  )

  pub targets_more : (members : List ℕ) (i : ℕ) (old new : List ℕ) → i < length members → ((j : ℕ) → Contains old j ↔ IsTarget a holders (take i members) j) → ((j : ℕ) → Contains new j ↔ (Contains old j ⊎ IsHolder a holders (get_or members i 0) j)) → (j : ℕ) → Contains new j ↔ IsTarget a holders (take (i + 1) members) j
  targets_more members i old new low are adds j = (
    (λ there.
        elim ((adds j).0 there) [
          | inl before ↦ let it = (are j).0 before in (it.0, taken-before members i 0 low it.0 it.1, it.2)
          | inr more ↦ (get_or members i 0, taken-last members i 0 low, more)
        ]),
    (λ it.
        elim (taken-cases members i 0 low it.0 it.1) [
          | inl before ↦ (adds j).1 (inl ((are j).1 (it.0, before, it.2)))
          | inr last ↦ (adds j).1 (inr (subst (λ m. IsHolder a holders m j) last it.2))
        ]),
  )

  pub targets_all : (members : List ℕ) (i : ℕ) (targets : List ℕ) → length members ≤ i → ((j : ℕ) → Contains targets j ↔ IsTarget a holders (take i members) j) → (j : ℕ) → Contains targets j ↔ IsTarget a holders members j
  targets_all members i targets all are = subst (λ xs. (j : ℕ) → Contains targets j ↔ IsTarget a holders xs j) (take_all i members all) are

  -- the targets in rising order
  pub sorted_target : (members targets sorted : List ℕ) → ((j : ℕ) → Contains targets j ↔ IsTarget a holders members j) → IsPermutation targets sorted → (j : ℕ) → Contains sorted j → IsTarget a holders members j
  sorted_target members targets sorted are same j there = (are j).0 (Contains-permutation sorted targets j (IsPermutation-sym targets sorted same) there)

  pub flows_sorted : {X E : Type 0} (n : ℕ) (members targets sorted : List ℕ) → ((j : ℕ) → Contains targets j ↔ IsTarget a holders members j) → IsPermutation targets sorted → (old new : Automaton) (result : Result X E) → OnOk result (AddsFlows old new (λ m q. (m ≡ n) × Contains sorted q)) → OnOk result (AddsFlows old new (λ m q. (m ≡ n) × IsTarget a holders members q))
  flows_sorted n members targets sorted are same old new (Ok done) it =
      flows-same old new (λ m q. (m ≡ n) × Contains sorted q) (λ m q. (m ≡ n) × IsTarget a holders members q) it
      (λ m q there. (there.0, sorted_target members targets sorted are same q there.1))
      (λ m q target. (target.0, Contains-permutation targets sorted q same ((are q).1 target.1)))
  flows_sorted n members targets sorted are same old new (Err e) it = tt

-- the edges from one set, if it is negative
apart : (p : Polarity) → p ≡ Positive → p ≡ Negative → ⊥
apart p positive negative = cc

pub flows_positive : (old : Automaton) (p : Polarity) (IsNew : ℕ → ℕ → Type 0) (n : ℕ) → p ≡ Positive → AddsFlows old old (λ m q. (m ≡ n) × (p ≡ Negative) × IsNew m q)
flows_positive old p IsNew n positive = flows-none old (λ m q. (m ≡ n) × (p ≡ Negative) × IsNew m q) (λ m q it. apart p positive it.1)

pub flows_negative : {X E : Type 0} (old new : Automaton) (p : Polarity) (Target : ℕ → Type 0) (n : ℕ) (result : Result X E) → p ≡ Negative → OnOk result (AddsFlows old new (λ m q. (m ≡ n) × Target q)) → OnOk result (AddsFlows old new (λ m q. (m ≡ n) × (p ≡ Negative) × Target q))
flows_negative old new p Target n (Ok done) negative it =
    flows-same old new (λ m q. (m ≡ n) × Target q) (λ m q. (m ≡ n) × (p ≡ Negative) × Target q) it
    (λ m q there. (there.0, negative, there.1))
    (λ m q there. (there.0, there.2))
flows_negative old new p Target n (Err e) negative it = tt

pub set_is : (sets : List SetState) (n : ℕ) (set : SetState) → n < length sets → set ≡ get_or sets n set → set ≡ set_at sets n
set_is sets n set low is = is ∙ get_or_default sets n set (record { polarity = Positive; members = [] }) low

-- the edges are those of the definition
module _ (a : Automaton) (closed : IsClosed a) (sets : List SetState) (each : All (IsSetOf a) sets) (holders : List (List ℕ)) (are : AreHolders sets (length a.states) (length sets) holders) where
  abbrev Found : ℕ → ℕ → Type 0
  Found n j = ((set_at sets n).polarity ≡ Negative) × IsTarget a holders (set_at sets n).members j

  pub edge_of : (n j : ℕ) → n < length sets → Found n j → IsEdge a sets n j
  edge_of n j low it =
      let m : ℕ = it.1.0 in
      let q : ℕ = it.1.2.0 in
      let partner : IsPartner a m q = it.1.2.1 in
      let holds = (are.just j q (partner_low a closed m q partner)).0 it.1.2.2 in
      let state : IsState a (set_at sets n).polarity m = All-contains (IsState a (set_at sets n).polarity) (set_at sets n).members m (each n _ low) it.1.1 in
      record {
        low = low;
        high = holds.0;
        negative = it.0;
        from = m;
        to = q;
        in_first = it.1.1;
        in_second = holds.1;
        flow = outward m q (state.polarity ∙ it.0) partner;
      }
    where
      outward : (m q : ℕ) → polarity_at a m ≡ Negative → IsPartner a m q → HasFlow a m q
      outward m q negative (inl to) = to
      outward m q negative (inr from) = absurd (apart (polarity_at a m) (closed.positive (flow q m) from).polarity negative)

  pub of_edge : (n j : ℕ) → IsEdge a sets n j → Found n j
  of_edge n j it = (
    it.negative,
    (it.from, it.in_first, (it.to, inl it.flow, (are.just j it.to (closed.positive (flow it.from it.to) it.flow).in_range).1 (it.high, it.in_second))),
  )

  pub target_positive : (d : Automaton) → AreStatesFor sets d → (n j : ℕ) → n < length sets → Found n j → IsState d Positive j
  target_positive d states n j low it =
      let edge : IsEdge a sets n j = edge_of n j low it in
      let state : IsState a (set_at sets j).polarity edge.to = All-contains (IsState a (set_at sets j).polarity) (set_at sets j).members edge.to (each j _ edge.high) edge.in_second in
      let high : j < length sets = edge.high in
      let whole : length d.states ≡ length sets = states.size in
      record {
        in_range = omega arith;
        polarity = states.polarity j edge.high ∙ (sym state.polarity ∙ (closed.positive (flow edge.from edge.to) edge.flow).polarity);
      }
