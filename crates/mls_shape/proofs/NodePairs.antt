-- Nodes that stand for alike states, or for the same place of alike states.
--     nodes_related       they are in a relation of nodes and children
--     colours_together    and are together at the beginning
--     blocks_keep         so they are at the end
use Rattle.std.proofs.Common.{◌≡◌, ◌⊎◌, inl, inr, ℕ, ◌+◌, ◌-◌, ◌<◌, ◌≤◌, ◌==◌, Bool, true, ◌&&◌, ◌||◌, List, ◌++◌, refl, sym, ap, ◌∙◌, subst, arith, length, map, get_or, All, Contains}
use Rattle.std.specs.Prelude.{nat_lt, nat_le}
use Rattle.std.proofs.lemmas.Bool.{eqb-true, eq-eqb, le-leb, leb-true, lt-ltb, ltb-true}
use Rattle.std.proofs.lemmas.List.{get_or_append_left, get_or-append_right, get_or_default, get_or-map}
use Rattle.mls_book.proofs.Lattice.{and_left, and_right, and_both, or_left, or_right, or_cases}
use Rattle.mls_automaton.specs.Automata.{Automaton, head_at}
use Rattle.mls_automaton.specs.Models.{IsClosed, IsDeterministic}
use Rattle.mls_flow.specs.Admissible.{Holds}
use Rattle.mls_shape.specs.Alike.{IsAlikeness}
use Rattle.mls_shape.specs.declared.graph.Edge.{Edge}
use Rattle.mls_shape.specs.steps.Classes.{class_in, KeepsAlike}
use Rattle.mls_shape.specs.steps.Graphs.{children, colour, edge_at, AreEdges, AreParents, HasEndsBelow, IsParentBy}
use Rattle.mls_shape.specs.steps.Partitions.{listed, IsBisimulation, IsRefinement, KeepsTogether}
use Rattle.mls_shape.proofs.ChildrenAlike.{AreRelated, children_related}
use Rattle.mls_shape.proofs.Graphs.{edges_below}
use Rattle.mls_shape.proofs.Refining.{listed_low}

-- the place of an edge's node, and the state that is named there
abbrev place_of : ℕ → List Edge → ℕ → ℕ
place_of n edges x = (edge_at edges (x - n)).place

abbrev target_of : ℕ → List Edge → ℕ → ℕ
target_of n edges x = (edge_at edges (x - n)).target

module _ (n : ℕ) (edges : List Edge) (T : ℕ → ℕ → Type 0) where
  abbrev AreStates : ℕ → ℕ → Type 0
  AreStates x y = (x < n) × (y < n) × T x y

  record ArePlaces (x y : ℕ) : Type 0 where
    low : n ≤ x
    high : x < n + length edges
    low' : n ≤ y
    high' : y < n + length edges
    place : place_of n edges x ≡ place_of n edges y
    targets : T (target_of n edges x) (target_of n edges y)

  abbrev AreNodesOf : ℕ → ℕ → Type 0
  AreNodesOf x y = AreStates x y ⊎ ArePlaces x y

-- each child of the one has a counterpart
module _ (a : Automaton) (edges : List Edge) (are : AreEdges a (length a.states) edges) (below : All (HasEndsBelow (length a.states)) edges)
    (parents : List (List ℕ)) (just : AreParents (length a.states) edges (length edges) parents)
    (T : ℕ → ℕ → Type 0) (related : (x y : ℕ) → x < length a.states → y < length a.states → T x y → AreRelated T (children (head_at a x)) (children (head_at a y))) where
  abbrev n : ℕ
  n = length a.states

  abbrev Counterpart : ℕ → ℕ → Type 0
  Counterpart y child = (other : ℕ) × AreNodesOf n edges T child other × Contains (listed parents other) y

  there_is : (j : ℕ) → j < length edges → Contains edges (edge_at edges j)
  there_is j low = (j, low, get_or_default edges j (edge_at edges j) (record { source = 0; place = 0; target = 0 }) low)

  ends : (j : ℕ) → j < length edges → HasEndsBelow n (edge_at edges j)
  ends j low = below j (record { source = 0; place = 0; target = 0 }) low

  -- a place of a state
  place_found : (x y j : ℕ) → AreStates n edges T x y → j < length edges → x ≡ (edge_at edges j).source → Counterpart y (n + j)
  place_found x y j states low source =
      let e : Edge = edge_at edges j in
      let is = (are e).0 (there_is j low) in
      let pair : AreRelated T (children (head_at a e.source)) (children (head_at a y)) =
      subst (λ s. AreRelated T (children (head_at a s)) (children (head_at a y))) source (related x y states.0 states.1 states.2) in
      let inside : e.place < length (children (head_at a e.source)) = is.1.0 in
      let size : length (children (head_at a e.source)) ≡ length (children (head_at a y)) = pair.0 in
      let e' : Edge = record { source = y; place = e.place; target = get_or (children (head_at a y)) e.place 0 } in
      let found : Contains edges e' = (are e').1 (states.1, (omega arith, refl)) in
      let k : ℕ = found.0 in
      let low_k : k < length edges = found.1 in
      let at : edge_at edges k ≡ e' = get_or_default edges k (record { source = 0; place = 0; target = 0 }) e' low_k ∙ found.2 in
      let back : (n + j) - n ≡ j = omega arith in
      let back' : (n + k) - n ≡ k = omega arith in
      let sizes = just.size in (
        n + k,
        inr (record {
          low = omega arith;
          high = omega arith;
          low' = omega arith;
          high' = omega arith;
          place = ap (λ i. (edge_at edges i).place) back ∙ sym (ap (λ i. (edge_at edges i).place) back' ∙ ap (λ (e : Edge). e.place) at);
          targets =
              subst (λ t. T t (target_of n edges (n + k))) (is.1.1 ∙ sym (ap (λ i. (edge_at edges i).target) back))
              (subst (T (get_or (children (head_at a e.source)) e.place 0)) (sym (ap (λ i. (edge_at edges i).target) back' ∙ ap (λ (e : Edge). e.target) at))
              (pair.1 e.place inside));
        }),
        (just.just y (n + k) (omega arith)).1 (k, low_k, inr (sym (ap (λ (e : Edge). e.source) at), refl)),
      )

  -- the state at a place
  state_found : (x y j : ℕ) → ArePlaces n edges T x y → j < length edges → x ≡ n + j → Counterpart y (edge_at edges j).target
  state_found x y j places low at =
      let k : ℕ = y - n in
      let low' : n ≤ y = places.low' in
      let high' : y < n + length edges = places.high' in
      let low_k : k < length edges = omega arith in
      let at' : y ≡ n + k = omega arith in
      let back : x - n ≡ j = omega arith in
      let end : (edge_at edges k).target < n = (ends k low_k).1 in (
        (edge_at edges k).target,
        inl ((ends j low).1, end, subst (λ i. T (edge_at edges i).target (edge_at edges k).target) back places.targets),
        (just.just y (edge_at edges k).target (omega arith)).1 (k, low_k, inl (at', refl)),
      )

  counterpart : (x y child : ℕ) → AreNodesOf n edges T x y → Contains (listed parents child) x → Counterpart y child
  counterpart x y child nodes inside = go nodes ((just.just x child (let size = just.size in let low = listed_low parents child x inside in omega arith)).0 inside)
    where
      go : AreNodesOf n edges T x y → (j : ℕ) × (j < length edges) × IsParentBy (edge_at edges j) (n + j) x child → Counterpart y child
      go (inl states) it = elim it.2 [
        | inl by ↦ let low : x < n = states.0 in let at : x ≡ n + it.0 = by.0 in absurd (omega arith)
        | inr by ↦ subst (Counterpart y) (sym by.1) (place_found x y it.0 states it.1 by.0)
      ]
      go (inr places) it = elim it.2 [
        | inl by ↦ subst (Counterpart y) (sym by.1) (state_found x y it.0 places it.1 by.0)
        | inr by ↦
            let low : n ≤ x = places.low in
            let source : (edge_at edges it.0).source < n = (ends it.0 it.1).0 in
            let at : x ≡ (edge_at edges it.0).source = by.0 in
            absurd (omega arith)
      ]

turned : (n : ℕ) (edges : List Edge) (T : ℕ → ℕ → Type 0) (x y : ℕ) → AreNodesOf n edges T x y → AreNodesOf n edges (λ x y. T y x) y x
turned n edges T x y (inl states) = inl (states.1, states.0, states.2)
turned n edges T x y (inr places) = inr (record {
  low = places.low';
  high = places.high';
  low' = places.low;
  high' = places.high;
  place = sym places.place;
  targets = places.targets;
})

-- the relation as a table
module _ (n : ℕ) (edges : List Edge) (table : ℕ → ℕ → Bool) where
  abbrev is_place : ℕ → Bool
  is_place x = nat_le n x && nat_lt x (n + length edges)

  abbrev both_states : ℕ → ℕ → Bool
  both_states x y = nat_lt x n && (nat_lt y n && table x y)

  abbrev same_place : ℕ → ℕ → Bool
  same_place x y = (place_of n edges x == place_of n edges y) && table (target_of n edges x) (target_of n edges y)

  abbrev both_places : ℕ → ℕ → Bool
  both_places x y = is_place x && (is_place y && same_place x y)

  abbrev pub node_table : ℕ → ℕ → Bool
  node_table x y = both_states x y || both_places x y

  holds_nodes : (x y : ℕ) → node_table x y ≡ true → AreNodesOf n edges (Holds table) x y
  holds_nodes x y it =
      elim (or_cases (both_states x y) (both_places x y) it) [
        | inl states ↦
            let rest = and_right (nat_lt x n) (nat_lt y n && table x y) states in
            inl (ltb-true x n (and_left (nat_lt x n) (nat_lt y n && table x y) states), ltb-true y n (and_left (nat_lt y n) (table x y) rest), and_right (nat_lt y n) (table x y) rest)
        | inr places ↦
            let first = and_left (is_place x) (is_place y && same_place x y) places in
            let rest = and_right (is_place x) (is_place y && same_place x y) places in
            let second = and_left (is_place y) (same_place x y) rest in
            let same = and_right (is_place y) (same_place x y) rest in
            inr (record {
              low = leb-true n x (and_left (nat_le n x) (nat_lt x (n + length edges)) first);
              high = ltb-true x (n + length edges) (and_right (nat_le n x) (nat_lt x (n + length edges)) first);
              low' = leb-true n y (and_left (nat_le n y) (nat_lt y (n + length edges)) second);
              high' = ltb-true y (n + length edges) (and_right (nat_le n y) (nat_lt y (n + length edges)) second);
              place = eqb-true (place_of n edges x) (place_of n edges y) (and_left (place_of n edges x == place_of n edges y) (table (target_of n edges x) (target_of n edges y)) same);
              targets = and_right (place_of n edges x == place_of n edges y) (table (target_of n edges x) (target_of n edges y)) same;
            })
      ]

  nodes_hold : (x y : ℕ) → AreNodesOf n edges (Holds table) x y → node_table x y ≡ true
  nodes_hold x y (inl states) =
      or_left (both_states x y) (both_places x y)
      (and_both (nat_lt x n) (nat_lt y n && table x y) (lt-ltb x n states.0) (and_both (nat_lt y n) (table x y) (lt-ltb y n states.1) states.2))
  nodes_hold x y (inr places) =
      or_right (both_states x y) (both_places x y)
      (and_both (is_place x) (is_place y && same_place x y)
      (and_both (nat_le n x) (nat_lt x (n + length edges)) (le-leb n x places.low) (lt-ltb x (n + length edges) places.high))
      (and_both (is_place y) (same_place x y)
      (and_both (nat_le n y) (nat_lt y (n + length edges)) (le-leb n y places.low') (lt-ltb y (n + length edges) places.high'))
      (and_both (place_of n edges x == place_of n edges y) (table (target_of n edges x) (target_of n edges y)) (eq-eqb (place_of n edges x) (place_of n edges y) places.place) places.targets)))

-- a deterministic automaton and its graph
module _ (a : Automaton) (closed : IsClosed a) (single : IsDeterministic a) (edges : List Edge) (are : AreEdges a (length a.states) edges)
    (parents : List (List ℕ)) (just : AreParents (length a.states) edges (length edges) parents) where
  abbrev states : ℕ
  states = length a.states

  module _ (table : ℕ → ℕ → Bool) (alike : IsAlikeness a (Holds table)) where
    related : (x y : ℕ) → x < states → y < states → table x y ≡ true → AreRelated (Holds table) (children (head_at a x)) (children (head_at a y))
    related x y low low' it = children_related (Holds table) (head_at a x) (head_at a y) (closed.labels x) (closed.labels y) (single x) (single y) (alike x y low low' it).heads

    related_back : (y x : ℕ) → y < states → x < states → table x y ≡ true → AreRelated (λ y x. table x y ≡ true) (children (head_at a y)) (children (head_at a x))
    related_back y x low low' it =
        let pair = related x y low' low it in
        let size : length (children (head_at a x)) ≡ length (children (head_at a y)) = pair.0 in
        (sym size, λ i inside. pair.1 i (omega arith))

    inside_nodes : (x y : ℕ) → AreNodesOf states edges (Holds table) x y → (x < length parents) × (y < length parents)
    inside_nodes x y (inl both) = let size = just.size in let low : x < states = both.0 in let low' : y < states = both.1 in (omega arith, omega arith)
    inside_nodes x y (inr both) = let size = just.size in let high = both.high in let high' = both.high' in (omega arith, omega arith)

    pub nodes_related : IsBisimulation parents (Holds (node_table states edges table))
    nodes_related = record {
      low = λ x y it. inside_nodes x y (holds_nodes states edges table x y it);
      there = λ x y child it inside.
          let found = counterpart a edges are (edges_below a closed single edges are) parents just (Holds table) related x y child (holds_nodes states edges table x y it) inside in
          (found.0, nodes_hold states edges table child found.0 found.1, found.2);
      back = λ x y other it inside.
          let found = counterpart a edges are (edges_below a closed single edges are) parents just (λ y x. table x y ≡ true) related_back y x other (turned states edges (Holds table) x y (holds_nodes states edges table x y it)) inside in
          (found.0, nodes_hold states edges table found.0 other (turned states edges (λ y x. table x y ≡ true) other found.0 found.1), found.2);
    }

    module _ (classes : List ℕ) (count : ℕ) (colours : List ℕ) (size : length classes ≡ states) (keeps : KeepsAlike a classes) (is : colours ≡ classes ++ map (colour count) edges) where
      of_state : (x : ℕ) → x < states → class_in colours x ≡ class_in classes x
      of_state x low = ap (λ xs. class_in xs x) is ∙ get_or_append_left classes (map (colour count) edges) 0 x (omega arith)

      of_place : (x : ℕ) → states ≤ x → x < states + length edges → class_in colours x ≡ colour count (edge_at edges (x - states))
      of_place x low high =
          ap (λ xs. class_in xs x) is
          ∙ (get_or-append_right classes (map (colour count) edges) states x 0 size low
          ∙ get_or-map (colour count) edges (x - states) (record { source = 0; place = 0; target = 0 }) 0 (omega arith))

      together : (x y : ℕ) → AreNodesOf states edges (Holds table) x y → class_in colours x ≡ class_in colours y
      together x y (inl both) = of_state x both.0 ∙ (keeps x y both.0 both.1 (table, alike, both.2) ∙ sym (of_state y both.1))
      together x y (inr both) = of_place x both.low both.high ∙ (ap (λ p. count + p) both.place ∙ sym (of_place y both.low' both.high'))

      pub colours_together : KeepsTogether (Holds (node_table states edges table)) colours
      colours_together x y it = together x y (holds_nodes states edges table x y it)

  pub blocks_keep : (classes : List ℕ) (count : ℕ) (colours blocks : List ℕ) → length classes ≡ states → KeepsAlike a classes → colours ≡ classes ++ map (colour count) edges → IsRefinement parents colours blocks → KeepsAlike a blocks
  blocks_keep classes count colours blocks size keeps is refines x y low low' it =
      refines (node_table states edges it.0) (nodes_related it.0 it.1) (colours_together it.0 it.1 classes count colours size keeps is)
      x y (nodes_hold states edges it.0 x y (inl (low, low', it.2)))
