-- The heads and edges that settle a table.
use Rattle.std.specs.Prelude.{◌≡◌, ◌↔◌, ◌⊎◌, ◌∷◌, ◌++◌, [], ℕ, true, false, List, length, map, Contains, get_or}
use Rattle.mls_automaton.specs.declared.automaton.Head.{Head}
use Rattle.mls_automaton.specs.Automata.{Automaton, HasFlow, head_at, polarity_at, state_at}
use Rattle.mls_automaton.specs.Heads.{IsSameParts, combined, parts_of}
use Rattle.mls_automaton.specs.Models.{HasRisingLabels, HasStatesIn}
use Rattle.mls_solver.specs.Solved.{IsNewFlow}
use Rattle.mls_solver.specs.steps.Solving.{AreMembers, IsSolvedState, IsSolvedFlow}
use Rattle.mls_biunify.specs.Live.{IsStateIn}
use Rattle.mls_biunify.specs.steps.Tables.{Numbered}

-- some element of the list gives it
abbrev pub GivenBy : {X Y : Type 0} → List X → (X → Y → Type 0) → Y → Type 0
GivenBy {X} xs By y = (x : X) × Contains xs x × By x y

-- the state has an edge to or from a state of the pair
abbrev pub TouchedBy : Automaton → ℕ × ℕ → ℕ → Type 0
TouchedBy a pair s = HasFlow a s pair.0 ⊎ HasFlow a pair.1 s

abbrev pub IsTouched : Automaton → List (ℕ × ℕ) → ℕ → Type 0
IsTouched a pairs s = GivenBy pairs (TouchedBy a) s

-- the state has the head of the solved automaton already
pub record KeepsHead (a : Automaton) (R : ℕ → ℕ → Type 0) (s : ℕ) : Type 0 where
  pub members : List ℕ
  pub are : AreMembers a R s members
  pub parts : IsSameParts (parts_of (head_at a s)) (combined (polarity_at a s) (map (λ j. parts_of (head_at a j)) members))

-- the state keeps its head, or its new one stands behind the others
abbrev pub AddsHead : Numbered → (ℕ → ℕ → Type 0) → ℕ → List (ℕ × Head) → List (ℕ × Head) → Type 0
AddsHead t R s old new =
    ((new ≡ old) × KeepsHead t.automaton R s)
    ⊎ ((h : Head) × (new ≡ old ++ (s, h) ∷ []) × IsSolvedState t.automaton R s (record { polarity = polarity_at t.automaton s; head = h }))

-- the new heads of these states, but of those that keep theirs
pub record AreNewHeads (t : Numbered) (R : ℕ → ℕ → Type 0) (states : List ℕ) (heads : List (ℕ × Head)) : Type 0 where
  pub each : (s : ℕ) (h : Head) → Contains heads (s, h)
      → (get_or t.there s false ≡ true)
      × IsSolvedState t.automaton R s (record { polarity = polarity_at t.automaton s; head = h })
  pub all : (s : ℕ) → Contains states s → ((h : Head) × Contains heads (s, h)) ⊎ KeepsHead t.automaton R s

-- all new edges and no others but some old ones
pub record AreNewEdges (a : Automaton) (R : ℕ → ℕ → Type 0) (edges : List (ℕ × ℕ)) : Type 0 where
  pub sound : (n q : ℕ) → Contains edges (n, q) → IsSolvedFlow a R n q
  pub complete : (n q : ℕ) → IsNewFlow a R n q → Contains edges (n, q)

-- Just these edges came. States and numbers are the same.
pub record AddsEdges (old new : Numbered) (IsNew : ℕ → ℕ → Type 0) : Type 0 where
  pub states : new.automaton.states ≡ old.automaton.states
  pub there : new.there ≡ old.there
  pub limit : new.limit ≡ old.limit
  pub flows : (n q : ℕ) → HasFlow new.automaton n q ↔ (HasFlow old.automaton n q ⊎ IsNew n q)

-- Each state for which the list has heads has one of these, and the others are the same.
pub record StoresHeads (old new : Numbered) (heads : List (ℕ × Head)) : Type 0 where
  pub there : new.there ≡ old.there
  pub flows : new.automaton.flows ≡ old.automaton.flows
  pub size : length new.automaton.states ≡ length old.automaton.states
  pub limit : new.limit ≡ old.limit
  pub stored : (s : ℕ) → ((h : Head) × Contains heads (s, h)
      × (state_at new.automaton s ≡ record { polarity = polarity_at old.automaton s; head = h }))
      ⊎ (((h : Head) → Contains heads (s, h) → ⊥) × (state_at new.automaton s ≡ state_at old.automaton s))

-- the first state has an edge to the positive state of the pair, so it gets the edges of its negative state
abbrev pub GetsEdges : Automaton → ℕ × ℕ → ℕ × ℕ → Type 0
GetsEdges a pair x = HasFlow a x.0 pair.0 × (x.1 ≡ pair.1)

-- The edge is there, and it is noted if it is new.
pub record Links (old new : Numbered) (noted more : List (ℕ × ℕ)) (n p : ℕ) : Type 0 where
  pub adds : AddsEdges old new (λ i j. (i ≡ n) × (j ≡ p))
  pub kept : (x : ℕ × ℕ) → Contains noted x → Contains more x
  pub new_noted : (x : ℕ × ℕ) → Contains more x → Contains noted x ⊎ ((x ≡ (n, p)) × (HasFlow old.automaton n p → ⊥))
  pub either : HasFlow old.automaton n p ⊎ Contains more (n, p)

-- the edges are gone
pub record Unlinks (old : Numbered) (edges : List (ℕ × ℕ)) (new : Numbered) : Type 0 where
  pub states : new.automaton.states ≡ old.automaton.states
  pub there : new.there ≡ old.there
  pub limit : new.limit ≡ old.limit
  pub flows : (i j : ℕ) → HasFlow new.automaton i j ↔ (HasFlow old.automaton i j × (Contains edges (i, j) → ⊥))

-- each of these states is there, and the head that goes to it names states that are there
abbrev pub AreFit : Numbered → List (ℕ × Head) → Type 0
AreFit t heads =
    (s : ℕ) (h : Head) → Contains heads (s, h)
    → (get_or t.there s false ≡ true) × HasStatesIn (IsStateIn t.automaton t.there) (polarity_at t.automaton s) h
    × HasRisingLabels h.fields
