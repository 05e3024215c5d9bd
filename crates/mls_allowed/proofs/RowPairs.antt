-- The pairs of the rows that need no closed relation: what a node of a set, of an edge, or of a head is below or above.
--     set_below, set_above        a state and a join or meet of states that has it
--     value_below, value_above    the value of a negative state: a binder's use has the value as its type and as its requirement
--     edge_below                  the end of an edge: applications, projections and conditionals have a new state with an edge to their root
--     head_below                  a part of a positive head: functions, records and literals
use Rattle.std.proofs.Common.{◌≡◌, inl, inr, ℕ, Bool, List, [], Contains, refl}
use Rattle.mls_book.specs.declared.book.Node.{Node}
use Rattle.mls_automaton.specs.declared.automaton.Polarity.TheVariants.{Positive, Negative}
use Rattle.mls_automaton.specs.Automata.{Automaton, polarity_at, HasFlow}
use Rattle.mls_deriv.specs.declared.derivation.Mode.{Mode}
use Rattle.mls_layout.specs.Shown.{IsShown, based}
use Rattle.mls_layout.specs.Trees.{IsTree, IsPlaceIn}
use Rattle.mls_layout.specs.Layouts.{IsLayout, IsItself}
use Rattle.mls_allowed.proofs.Trees.{member_inside, member_below}

module _ (book : List Node) (claims : Mode → ℕ → ℕ → Type 0) (level : Bool) (mode : Mode) where
  abbrev Shown : ℕ → ℕ → Type 0
  Shown = IsShown book [] IsItself claims level mode

  pub set_below : (place : ℕ → ℕ) (xs : List ℕ) (q i : ℕ) → Contains xs q → IsTree book Positive (IsPlaceIn place xs) i → Shown (place q) i
  set_below place xs q i there t = member_inside book [] IsItself claims level Positive mode (place q) (place q) i (t.each (place q) (q, there, refl)) (based refl)

  pub set_above : (place : ℕ → ℕ) (xs : List ℕ) (n i : ℕ) → Contains xs n → IsTree book Negative (IsPlaceIn place xs) i → Shown i (place n)
  set_above place xs n i there t = member_below book [] IsItself claims level mode i (place n) (place n) (t.each (place n) (n, there, refl)) (based refl)

  module _ (a b : Automaton) (R IsPair : ℕ → ℕ → Type 0) (place type_place : ℕ → ℕ) (layout : IsLayout book a b R IsPair place type_place) where
    pub value_below : (n q : ℕ) → polarity_at a q ≡ Positive → HasFlow a n q → Shown (layout.value n) (place q)
    value_below n q is edge =
        member_inside book [] IsItself claims level Positive mode (layout.value n) (layout.value n) (place q)
        ((layout.positive q is).each (layout.value n) (inr (n, edge, refl))) (based refl)

    pub value_above : (n : ℕ) → polarity_at a n ≡ Negative → Shown (place n) (layout.value n)
    value_above n is = member_below book [] IsItself claims level mode (place n) (layout.value n) (layout.value n) ((layout.negative n is).each (layout.value n) (inr refl)) (based refl)

    pub edge_below : (n q : ℕ) → polarity_at a n ≡ Negative → polarity_at a q ≡ Positive → HasFlow a n q → Shown (place n) (place q)
    edge_below n q is_n is_q edge =
        member_below book [] IsItself claims level mode (place n) (layout.value n) (place q) ((layout.negative n is_n).each (layout.value n) (inr refl)) (value_below n q is_q edge)

    pub head_below : (q i : ℕ) → polarity_at a q ≡ Positive → Contains (layout.parts q) i → Shown i (place q)
    head_below q i is there = member_inside book [] IsItself claims level Positive mode i i (place q) ((layout.positive q is).each i (inl there)) (based refl)

    -- the codomain of the head that an application's function is below: its set is the state with the edge to the root
    pub set_below_edge : (xs : List ℕ) (n q i : ℕ) → Contains xs n → polarity_at a n ≡ Negative → polarity_at a q ≡ Positive → HasFlow a n q → IsTree book Negative (IsPlaceIn place xs) i → Shown i (place q)
    set_below_edge xs n q i there is_n is_q edge t =
        member_below book [] IsItself claims level mode i (place n) (place q) (t.each (place n) (n, there, refl)) (edge_below n q is_n is_q edge)
