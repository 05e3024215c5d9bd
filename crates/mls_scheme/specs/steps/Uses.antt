-- Which tops of layers have each variable, one top after another.
use Rattle.std.specs.Prelude.{◌≡◌, ◌↔◌, ◌⊎◌, ℕ, ◌<◌, List, [], length, get_or, Contains, Option, Some}
use Rattle.mls_book.specs.declared.book.Node.{Node}
use Rattle.mls_book.specs.declared.book.Node.TheVariants as node
use Rattle.mls_book.specs.Books.{node_at}
use Rattle.mls_automaton.specs.declared.automaton.Polarity.{Polarity}
use Rattle.mls_automaton.specs.declared.automaton.Polarity.TheVariants.{Positive, Negative}
use Rattle.mls_scheme.specs.ReadAutomata.{HasVariable}
use Rattle.mls_scheme.specs.steps.Signs.{sign_at}

-- the tops that have a variable
abbrev pub uses_at : List (List ℕ) → ℕ → List ℕ
uses_at uses x = get_or uses x []

-- the variable is one of these atoms
abbrev pub IsAmong : List Node → List ℕ → ℕ → Type 0
IsAmong nodes atoms x = (j : ℕ) × Contains atoms j × (node_at nodes j ≡ node.Var x)

-- the top came to the uses of these variables
pub record AddsUses (IsUsed : ℕ → Type 0) (i : ℕ) (old new : List (List ℕ)) : Type 0 where
  pub size : length new ≡ length old
  pub uses : (x k : ℕ) → Contains (uses_at new x) k ↔ Contains (uses_at old x) k ⊎ (IsUsed x × (k ≡ i))

-- the variables of nodes are below this number
abbrev pub AreVariablesBelow : ℕ → List Node → Type 0
AreVariablesBelow vars nodes = (i x : ℕ) → i < length nodes → node_at nodes i ≡ node.Var x → x < vars

-- of the nodes below this number, the tops of this polarity that have each variable
pub record AreUsesTo (n : ℕ) (nodes : List Node) (signs : List (Option Polarity)) (p : Polarity) (vars : ℕ)
    (uses : List (List ℕ)) : Type 0 where
  pub size : length uses ≡ vars
  pub members : (x k : ℕ) → Contains (uses_at uses x) k ↔ (k < n) × (sign_at signs k ≡ Some p) × HasVariable nodes k x

-- of all nodes
abbrev pub AreUses : List Node → List (Option Polarity) → Polarity → ℕ → List (List ℕ) → Type 0
AreUses nodes signs p vars uses = AreUsesTo (length signs) nodes signs p vars uses

-- a variable has both states
abbrev pub IsUsedPair : List (List ℕ) → List (List ℕ) → ℕ → ℕ → ℕ → Type 0
IsUsedPair negative positive x n p = Contains (uses_at negative x) n × Contains (uses_at positive x) p

-- the two are tops, one negative and one positive, with a variable in common
abbrev pub IsEdge : List Node → List (Option Polarity) → ℕ → ℕ → Type 0
IsEdge nodes signs n p = (sign_at signs n ≡ Some Negative) × (sign_at signs p ≡ Some Positive)
    × ((x : ℕ) × HasVariable nodes n x × HasVariable nodes p x)
