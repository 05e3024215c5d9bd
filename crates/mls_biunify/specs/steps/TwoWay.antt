-- Pairs of numbers that are found from both of their ends.
use Rattle.std.specs.Prelude.{◌≡◌, ◌≢◌, ◌↔◌, ◌⊎◌, ℕ, ◌+◌, ◌<◌, List, [], ◌∷◌, ◌++◌, map, length, get_or, Contains}
use Rattle.mls_automaton.specs.declared.automaton.Flow.{Flow}
use Rattle.mls_automaton.specs.Automata.{flow}

-- for each number the second numbers of the pairs that begin with it, and the first numbers of those that end with it
pub record TwoWay : Type 0 where
  pub forward : List (List ℕ)
  pub backward : List (List ℕ)

abbrev pub HasPair : TwoWay → ℕ → ℕ → Type 0
HasPair t n p = Contains (get_or t.forward n []) p

-- both directions have the same pairs
pub record IsTwoWay (t : TwoWay) : Type 0 where
  pub same_length : length t.backward ≡ length t.forward
  pub back : (n p : ℕ) → HasPair t n p → Contains (get_or t.backward p []) n
  pub forth : (n p : ℕ) → Contains (get_or t.backward p []) n → HasPair t n p

-- the pairs as edges, where the first of the sets has this number
abbrev pub flows_from : ℕ → List (List ℕ) → List Flow
flows_from k [] = []
flows_from k (set ∷ rest) = map (flow k) set ++ flows_from (k + 1) rest

-- just this pair came
pub record AddsPair (old new : TwoWay) (n p : ℕ) : Type 0 where
  pub same_length : length new.forward ≡ length old.forward
  pub pairs : (i j : ℕ) → HasPair new i j ↔ (HasPair old i j ⊎ ((i ≡ n) × (j ≡ p)))

-- just this pair went
pub record RemovesPair (old new : TwoWay) (n p : ℕ) : Type 0 where
  pub same_length : length new.forward ≡ length old.forward
  pub pairs : (i j : ℕ) → HasPair new i j ↔ (HasPair old i j × ((i ≡ n) → (j ≡ p) → ⊥))

-- the pairs are the same, of as many numbers
pub record IsSamePairs (old new : TwoWay) : Type 0 where
  pub same_length : length new.forward ≡ length old.forward
  pub pairs : (i j : ℕ) → HasPair new i j ↔ HasPair old i j

-- there may be more numbers, and the pairs are the same
pub record IsGrown (old new : TwoWay) : Type 0 where
  pub pairs : (i j : ℕ) → HasPair new i j ↔ HasPair old i j
  pub flows : flows_from 0 new.forward ≡ flows_from 0 old.forward
  pub longer : (s : ℕ) → s < length old.forward → s < length new.forward

-- the set of this number is empty, and the others stay
pub record IsCleared (s : ℕ) (old new : List (List ℕ)) : Type 0 where
  pub same_length : length new ≡ length old
  pub empty : (j : ℕ) → Contains (get_or new s []) j → ⊥
  pub others : (i j : ℕ) → i ≢ s → Contains (get_or new i []) j ↔ Contains (get_or old i []) j

-- each number for which the list has sets has one of these, and the others have theirs
pub record StoresSets (old : List (List ℕ)) (changes : List (ℕ × List ℕ)) (new : List (List ℕ)) : Type 0 where
  pub same_length : length new ≡ length old
  pub stored : (s : ℕ) → ((set : List ℕ) × Contains changes (s, set) × (get_or new s [] ≡ set))
      ⊎ (((set : List ℕ) → Contains changes (s, set) → ⊥) × (get_or new s [] ≡ get_or old s []))

-- the sets of these numbers are empty, and the others stay
pub record EmptiesSets (old : List (List ℕ)) (numbers : List ℕ) (new : List (List ℕ)) : Type 0 where
  pub same_length : length new ≡ length old
  pub empty : (s j : ℕ) → Contains numbers s → Contains (get_or new s []) j → ⊥
  pub others : (s j : ℕ) → (Contains numbers s → ⊥) → Contains (get_or new s []) j ↔ Contains (get_or old s []) j

-- What is left of the sets of a relation when these numbers go: the list has the sets that lose a member, and perhaps
-- others.
pub record AreCuts (gone : List ℕ) (limit : ℕ) (R : ℕ → ℕ → Type 0) (cuts : List (ℕ × List ℕ)) : Type 0 where
  pub low : (s : ℕ) (set : List ℕ) → Contains cuts (s, set) → s < limit
  pub listed : (s : ℕ) (set : List ℕ) → Contains cuts (s, set) → (j : ℕ) → Contains set j ↔ R s j × (Contains gone j → ⊥)
  pub others : (s j : ℕ) → (Contains gone s → ⊥) → ((set : List ℕ) → Contains cuts (s, set) → ⊥) → R s j
      → Contains gone j → ⊥

-- just the pairs with none of these numbers are left
pub record LeavesPairs (gone : List ℕ) (old new : TwoWay) : Type 0 where
  pub same_length : length new.forward ≡ length old.forward
  pub pairs : (i j : ℕ) → HasPair new i j ↔ HasPair old i j × (Contains gone i → ⊥) × (Contains gone j → ⊥)
