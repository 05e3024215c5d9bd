-- Looking for the tops of layers, one after another, each with its polarity.
use Rattle.std.specs.Prelude.{◌≡◌, ◌⊎◌, ℕ, ◌+◌, ◌<◌, Bool, true, List, [], ◌∷◌, ◌++◌, map, length, get_or, cond, is_some}
use Rattle.std.specs.Prelude.{set, All, Contains, IsTrue, Option, Some, None}
use Rattle.mls_book.specs.declared.book.Field.{Field}
use Rattle.mls_book.specs.declared.book.Node.{Node}
use Rattle.mls_book.specs.declared.book.Node.TheVariants as node
use Rattle.mls_book.specs.Books.{node_at}
use Rattle.mls_automaton.specs.declared.automaton.Polarity.{Polarity}
use Rattle.mls_automaton.specs.declared.automaton.Polarity.TheVariants.{Positive}
use Rattle.mls_automaton.specs.Automata.{opposite}
use Rattle.mls_scheme.specs.declared.signs.Task.{Task}
use Rattle.mls_scheme.specs.ReadAutomata.{atoms, AreTops, IsPolarised}
use Rattle.mls_scheme.specs.steps.Layers.{AreAtoms}

abbrev pub task : ℕ → Polarity → Task
task i p = record { node = i; sign = p }

abbrev pub field_tasks : Polarity → List Field → List Task
field_tasks p fields = map (λ (field : Field). task field.node.0 p) fields

-- the children of an atom, each with its polarity
abbrev pub child_tasks : Polarity → Node → List Task
child_tasks p (node.Arrow j k) = task j.0 (opposite p) ∷ task k.0 p ∷ []
child_tasks p (node.Rcd fields) = field_tasks p fields
child_tasks p _ = []

abbrev pub layer_tasks : List Node → Polarity → List ℕ → List Task
layer_tasks nodes p [] = []
layer_tasks nodes p (j ∷ rest) = child_tasks p (node_at nodes j) ++ layer_tasks nodes p rest

-- the children of the atoms of the task came to the work
abbrev pub AddsLayer : List Node → Task → List Task → List Task → Type 0
AddsLayer nodes t old new = (found : List ℕ) × AreAtoms nodes t.node found
    × (new ≡ old ++ layer_tasks nodes t.sign found)

-- the polarity that was found
abbrev pub sign_at : List (Option Polarity) → ℕ → Option Polarity
sign_at signs i = get_or signs i None

abbrev pub with_sign : List (Option Polarity) → Task → List (Option Polarity)
with_sign signs t = set signs t.node (Some t.sign)

-- the signs that were found are those of the node, wherever each node has one
abbrev pub AreTrueSigns : List Node → ℕ → (ℕ → Polarity → Type 0) → Type 0
AreTrueSigns nodes root Q = (sign : ℕ → Polarity) → IsPolarised sign nodes → sign root ≡ Positive
    → (i : ℕ) (p : Polarity) → Q i p → sign i ≡ p

-- each of these nodes is a top, whichever tops the book has
abbrev pub AreTopsAlways : List Node → ℕ → (ℕ → Polarity → Type 0) → Type 0
AreTopsAlways nodes root Q = (is_top : ℕ → Bool) → AreTops nodes root is_top → (i : ℕ) (p : Polarity) → Q i p
    → IsTrue (is_top i)

-- The tops that the root leads to have signs, and no other node: the root, and the children of the atoms of each.
pub record AreSigned (nodes : List Node) (root : ℕ) (signs : List (Option Polarity)) : Type 0 where
  pub size : length signs ≡ length nodes
  pub has_root : is_some (sign_at signs root) ≡ true
  pub next : (i : ℕ) (p : Polarity) → sign_at signs i ≡ Some p → (t : Task)
      → Contains (layer_tasks nodes p (atoms nodes i)) t → is_some (sign_at signs t.node) ≡ true
  pub signs_true : AreTrueSigns nodes root (λ i p. sign_at signs i ≡ Some p)
  pub least : AreTopsAlways nodes root (λ i p. sign_at signs i ≡ Some p)

-- the same on the way, where others are still to be looked at
pub record IsSigning (nodes : List Node) (root : ℕ) (signs : List (Option Polarity)) (work : List Task) : Type 0 where
  pub size : length signs ≡ length nodes
  pub low : All (λ (t : Task). t.node < length nodes) work
  pub has_root : (is_some (sign_at signs root) ≡ true) ⊎ Contains work (task root Positive)
  pub next : (i : ℕ) (p : Polarity) → sign_at signs i ≡ Some p → (t : Task)
      → Contains (layer_tasks nodes p (atoms nodes i)) t → (is_some (sign_at signs t.node) ≡ true) ⊎ Contains work t
  pub signs_true : AreTrueSigns nodes root (λ i p. sign_at signs i ≡ Some p)
  pub work_true : AreTrueSigns nodes root (λ i p. Contains work (task i p))
  pub least : AreTopsAlways nodes root (λ i p. sign_at signs i ≡ Some p)
  pub work_least : AreTopsAlways nodes root (λ i p. Contains work (task i p))

-- how much is left: what is still to be looked at, and for each node without a sign what it would add to that, and one
abbrev pub size_of : List Node → ℕ → ℕ
size_of nodes i = 1 + length (layer_tasks nodes Positive (atoms nodes i))

abbrev pub load : List Node → ℕ → List (Option Polarity) → ℕ
load nodes i [] = 0
load nodes i (o ∷ rest) = cond (is_some o) 0 (size_of nodes i) + load nodes (1 + i) rest

abbrev pub left_over : List Node → List (Option Polarity) → List Task → ℕ
left_over nodes signs work = load nodes 0 signs + length work
