-- Chains of direct pairs along edges, and how a search finds them.
use Rattle.std.specs.Prelude.{◌≡◌, ◌⊎◌, ℕ, ◌≤◌, length, take, Contains}
use Rattle.mls_automaton.specs.Automata.{Automaton, head_at, HasFlow}
use Rattle.mls_solver.specs.Relations.{IsRelated}
use Rattle.mls_solver.specs.Rooms.{Room, Holds}
use Rattle.mls_solver.specs.steps.Consequences.{ByHeads}

-- from the first state of a direct pair to the second state of a later one, with an edge between each and the next
pub data IsChained (a : Automaton) (IsDirect : ℕ → ℕ → Type 0) : ℕ → ℕ → Type 0 where
  single : {p n : ℕ} → IsDirect p n → IsChained a IsDirect p n
  onward : {p n q m : ℕ} → IsChained a IsDirect p n → HasFlow a n q → IsDirect q m → IsChained a IsDirect p m

-- what is related to a state with an edge to p, comes to be related to n
abbrev pub ByEdgeTo : Automaton → (ℕ → ℕ → Type 0) → ℕ → ℕ → ℕ → ℕ → Type 0
ByEdgeTo a IsRelated p n q m = (m ≡ n) × ((k : ℕ) × HasFlow a k p × IsRelated q k)

-- p comes to be related to what a state with an edge from n is related to
abbrev pub ByEdgeFrom : Automaton → (ℕ → ℕ → Type 0) → ℕ → ℕ → ℕ → ℕ → Type 0
ByEdgeFrom a IsRelated p n q m = (q ≡ p) × ((k : ℕ) × HasFlow a n k × IsRelated k m)

-- what leads to a direct pair, and the pair itself
abbrev pub ByDirect : Automaton → (ℕ → ℕ → Type 0) → ℕ → ℕ → ℕ → ℕ → Type 0
ByDirect a IsFound p n q m = ByEdgeTo a IsFound p n q m ⊎ ((q ≡ p) × (m ≡ n))

-- the pair is one of the first so many
abbrev pub HasTaken : Room → ℕ → ℕ → ℕ → Type 0
HasTaken room count p n = Contains (take count room.pairs) (p, n)

-- The first so many found pairs and the first so many direct ones were taken. What is direct is related, and what is
-- found is a chain of direct pairs.
pub record IsSearched (a : Automaton) (IsGoal : ℕ → ℕ → Type 0) (next next_direct : ℕ) (found direct : Room)
    : Type 0 where
  pub low : next ≤ length found.pairs
  pub direct_low : next_direct ≤ length direct.pairs
  pub goals : (p n : ℕ) → IsGoal p n → Holds direct p n
  pub related : (p n : ℕ) → Holds direct p n → IsRelated a IsGoal p n
  pub chained : (p n : ℕ) → Holds found p n → IsChained a (Holds direct) p n
  -- what follows from a taken pair by heads is direct
  pub heads : (p n q m : ℕ) → HasTaken found next p n → ByHeads (head_at a p) (head_at a n) q m → Holds direct q m
  -- a taken direct pair is found, and is gone on to from each taken found one
  pub direct_found : (p n : ℕ) → HasTaken direct next_direct p n → Holds found p n
  pub both_found : (p n q m : ℕ) → HasTaken found next p n → HasFlow a n q → HasTaken direct next_direct q m
      → Holds found p m
