-- Looking for the atoms of a node, one node after another.
use Rattle.std.specs.Prelude.{◌⊎◌, ℕ, ◌<◌, List, [], ◌∷◌, ◌++◌, ◌+◌, ◌-◌, length, All, Contains}
use Rattle.mls_book.specs.declared.book.Node.{Node}
use Rattle.mls_book.specs.declared.book.Node.TheVariants as node
use Rattle.mls_book.specs.Books.{node_at}
use Rattle.mls_automaton.specs.Heads.{IsSameSet}
use Rattle.mls_scheme.specs.ReadAutomata.{atoms}

-- the node, if it is an atom
abbrev pub atom_step : ℕ → Node → List ℕ
atom_step i (node.Join j k) = []
atom_step i (node.Meet j k) = []
atom_step i _ = i ∷ []

-- what is to be looked at behind it, the first last
abbrev pub left_step : Node → List ℕ
left_step (node.Join j k) = k.0 ∷ j.0 ∷ []
left_step (node.Meet j k) = k.0 ∷ j.0 ∷ []
left_step _ = []

-- no number stands there twice
abbrev pub AreDifferent : List ℕ → Type 0
AreDifferent [] = Unit {0}
AreDifferent (x ∷ rest) = (Contains rest x → ⊥) × AreDifferent rest

-- the atoms of the top, each once
pub record AreAtoms (nodes : List Node) (top : ℕ) (found : List ℕ) : Type 0 where
  pub same : IsSameSet found (atoms nodes top)
  pub once : AreDifferent found

-- The search met these nodes, found these atoms, and is to look at what is left: what is behind a node that was met was
-- met or is left.
pub record IsLooking (nodes : List Node) (top : ℕ) (met found left : List ℕ) : Type 0 where
  pub low : All (λ i. i < length nodes) left
  pub has_top : Contains met top ⊎ Contains left top
  pub next : (i j : ℕ) → Contains met i → Contains (left_step (node_at nodes i)) j → Contains met j ⊎ Contains left j
  pub atom : (i j : ℕ) → Contains met i → Contains (atom_step i (node_at nodes i)) j → Contains found j
  pub came : (j : ℕ) → Contains found j → Contains met j
  pub once : AreDifferent found
  pub sound : (j : ℕ) → Contains found j → Contains (atoms nodes top) j
  pub below : (i j : ℕ) → Contains left i → Contains (atoms nodes i) j → Contains (atoms nodes top) j

-- the atoms of all of these, as often as joins and meets lead to them
abbrev pub atoms_left : List Node → List ℕ → List ℕ
atoms_left nodes [] = []
atoms_left nodes (i ∷ rest) = atoms_left nodes rest ++ atoms nodes i

-- how much is left
abbrev pub measure : List Node → List ℕ → ℕ
measure nodes left = (length (atoms_left nodes left) + length (atoms_left nodes left)) - length left
