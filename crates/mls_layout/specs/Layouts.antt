-- The nodes of one part of a term (the whole term, or the first part of a let): of the states of its constraint, and
-- of its type.
use Rattle.std.specs.Prelude.{◌≡◌, ◌⊎◌, ℕ, List, Contains}
use Rattle.mls_book.specs.declared.book.Node.{Node}
use Rattle.mls_book.specs.declared.book.Node.TheVariants as node
use Rattle.mls_book.specs.Books.{node_at}
use Rattle.mls_automaton.specs.declared.automaton.Polarity.TheVariants.{Positive, Negative}
use Rattle.mls_automaton.specs.Automata.{Automaton, polarity_at, head_at, HasFlow, IsState}
use Rattle.mls_automaton.specs.Heads.{parts_of}
use Rattle.mls_flow.specs.Admissible.{IsAdmissible}
use Rattle.mls_deriv.specs.declared.derivation.Mode.{Mode}
use Rattle.mls_layout.specs.Trees.{IsTree}
use Rattle.mls_layout.specs.Heads.{AreParts}

-- The nodes of a type that is read as an automaton: a state is the tree of the parts of its head and of its
-- variables, and an edge goes only between states with a common variable.
pub record IsTypeLayout (book : List Node) (b : Automaton) (place : ℕ → ℕ) : Type 0 where
  pub parts : ℕ → List ℕ
  pub variables : ℕ → List ℕ
  pub heads : (s : ℕ) → AreParts book place (polarity_at b s) (parts_of (head_at b s)) (parts s)
  pub are_variables : (s i : ℕ) → Contains (variables s) i → (x : ℕ) × (node_at book i ≡ node.Var x)
  pub tree : (s : ℕ) → IsTree book (polarity_at b s) (λ i. Contains (parts s) i ⊎ Contains (variables s) i) (place s)
  pub flows : (n p : ℕ) → HasFlow b n p → (i j x : ℕ) × Contains (variables n) i × Contains (variables p) j
      × (node_at book i ≡ node.Var x) × (node_at book j ≡ node.Var x)

-- What may flow in at a negative state of the constraint: the states of the type that it is paired with, the heads of
-- the states that are related to it, and the states of the type that those are paired with from which an edge goes to
-- such a state.
abbrev pub Enters : Automaton → (IsRelated : ℕ → ℕ → Type 0) → (IsPair : ℕ → ℕ → Type 0) → (parts : ℕ → List ℕ)
    → (type_place : ℕ → ℕ) → ℕ → ℕ → Type 0
Enters a IsRelated IsPair parts type_place n i =
    ((s : ℕ) × IsPair n s × (type_place s ≡ i))
    ⊎ (((p : ℕ) × IsRelated p n × Contains (parts p) i)
    ⊎ ((k p s : ℕ) × HasFlow a k p × IsRelated p n × IsPair k s × (type_place s ≡ i)))

-- The nodes of the states of a constraint, beside those of the type `b`. `value` is what may flow in at a negative
-- state; it has no variable of its own. A positive state is the join of its head and of the values of the states with
-- an edge to it; a negative state is the meet of its head and its value.
pub record IsLayout (book : List Node) (a b : Automaton) (IsRelated IsPair : ℕ → ℕ → Type 0) (place type_place : ℕ
    → ℕ) : Type 0 where
  pub type : IsTypeLayout book b type_place
  pub parts : ℕ → List ℕ
  pub value : ℕ → ℕ
  pub heads : (s : ℕ) → AreParts book place (polarity_at a s) (parts_of (head_at a s)) (parts s)
  pub values : (n : ℕ) → polarity_at a n ≡ Negative
      → IsTree book Positive (Enters a IsRelated IsPair parts type_place n) (value n)
  pub positive : (q : ℕ) → polarity_at a q ≡ Positive
      → IsTree book Positive (λ i. Contains (parts q) i ⊎ ((n : ℕ) × HasFlow a n q × (value n ≡ i))) (place q)
  pub negative : (n : ℕ) → polarity_at a n ≡ Negative
      → IsTree book Negative (λ i. Contains (parts n) i ⊎ (value n ≡ i)) (place n)

-- The pairs that the steps of the part claim: a related pair of states; a state and one of the type that it is paired
-- with; and two states of the type in order.
pub data IsPartClaim (a b : Automaton) (IsRelated IsPair : ℕ → ℕ → Type 0) (place type_place : ℕ → ℕ) (i j : ℕ) :
    Type 0 where
  related : (p n : ℕ) → IsRelated p n → place p ≡ i → place n ≡ j
      → IsPartClaim a b IsRelated IsPair place type_place i j
  below_type : (q s : ℕ) → IsPair q s → polarity_at a q ≡ Positive → place q ≡ i → type_place s ≡ j
      → IsPartClaim a b IsRelated IsPair place type_place i j
  above_type : (n s : ℕ) → IsPair n s → polarity_at a n ≡ Negative → type_place s ≡ i → place n ≡ j
      → IsPartClaim a b IsRelated IsPair place type_place i j
  in_type : (n p : ℕ) → IsAdmissible b n p → IsState b Negative n → IsState b Positive p → type_place n ≡ i
      → type_place p ≡ j → IsPartClaim a b IsRelated IsPair place type_place i j

-- in each mode: without `put` lines all modes read alike
abbrev pub PartClaims : (a b : Automaton) (IsRelated IsPair : ℕ → ℕ → Type 0) (place type_place : ℕ → ℕ) → Mode → ℕ
    → ℕ → Type 0
PartClaims a b IsRelated IsPair place type_place mode i j = IsPartClaim a b IsRelated IsPair place type_place i j

-- a node and itself, in each mode
abbrev pub IsItself : Mode → ℕ → ℕ → Type 0
IsItself mode i j = i ≡ j
