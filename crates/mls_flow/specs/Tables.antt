-- Tables of flow, and when they are exact.
use Rattle.std.specs.Prelude.{◌↔◌, ℕ, Bool, true, false, List, [], ◌∷◌, Contains}
use Rattle.mls_book.specs.declared.book.Node.{Node}
use Rattle.mls_book.specs.Predicates.{Implies}
use Rattle.mls_book.specs.Passes.{passes}
use Rattle.mls_automaton.specs.declared.automaton.Polarity.TheVariants.{Positive, Negative}
use Rattle.mls_automaton.specs.declared.automaton.Flow.{Flow}
use Rattle.mls_automaton.specs.Automata.{Automaton, flow, IsState}
use Rattle.mls_automaton.specs.Schemes.{IsBookOf}
use Rattle.mls_flow.specs.Admissible.{IsAdmissible}

-- Pairs of a negative and a positive state of which it is known whether the one is below the other, and those of them
-- for which it is.
pub record Table : Type 0 where
  pub known : List Flow
  pub flows : List Flow

-- the pairs with a mark
abbrev pub marked : List Flow → List Bool → List Flow
marked (f ∷ list) (true ∷ marks) = f ∷ marked list marks
marked (f ∷ list) (false ∷ marks) = marked list marks
marked _ _ = []

-- the pairs for which the table says yes
abbrev pub IsFlow : Table → ℕ → ℕ → Type 0
IsFlow t n p = Contains t.flows (flow n p)

-- the table says yes of the pair exactly where it is in the greatest flow relation
abbrev pub IsExactAt : Automaton → Table → ℕ → ℕ → Type 0
IsExactAt a t n p = IsFlow t n p ↔ IsAdmissible a n p

-- and so exactly where the two are in order in each book of the automaton
abbrev pub IsExactInBooksAt : Automaton → Table → ℕ → ℕ → Type 0
IsExactInBooksAt a t n p =
    (variable : Flow → ℕ) (place : ℕ → ℕ) (nodes : List Node) → IsBookOf a variable place nodes
    → IsFlow t n p ↔ Implies (passes nodes (place n)) (passes nodes (place p))

-- what holds of each pair of a negative and a positive state
abbrev pub OfAllPairs : Automaton → (ℕ → ℕ → Type 0) → Type 0
OfAllPairs a Q = (n p : ℕ) → IsState a Negative n → IsState a Positive p → Q n p

-- and of each of these pairs
abbrev pub OfPairs : List Flow → (ℕ → ℕ → Type 0) → Type 0
OfPairs pairs Q = (n p : ℕ) → Contains pairs (flow n p) → Q n p
