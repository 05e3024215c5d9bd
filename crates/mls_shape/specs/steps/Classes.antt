-- How the states are put into classes of alike states, round by round.
use Rattle.std.specs.Prelude.{◌≡◌, ◌⊎◌, ◌↔◌, ℕ, ◌<◌, Bool, true, false, List, [], ◌∷◌, ◌++◌, length, get_or, Contains}
use Rattle.std.specs.Prelude.{Option, Some, None, cond, bytes_eq}
use Rattle.std.specs.List.{flat_map}
use Rattle.std.specs.BTreeMap.{get}
use Rattle.std.specs.Ordering.{nat_cmp}
use Rattle.std.specs.Cmp.Lexicographic.{slice_cmp}
use Rattle.mls_automaton.specs.declared.automaton.Arms.{Arms}
use Rattle.mls_automaton.specs.declared.automaton.FieldSet.{FieldSet}
use Rattle.mls_automaton.specs.declared.automaton.Head.{Head}
use Rattle.mls_automaton.specs.Automata.{Automaton, polarity_at, head_at, IsPartner}
use Rattle.mls_automaton.specs.Sets.{Rises}
use Rattle.mls_shape.specs.declared.classes.Classes.{Classes}
use Rattle.mls_shape.specs.declared.numbering.Numbering.{Numbering}
use Rattle.mls_shape.specs.Alike.{IsAlikePair, IsAlike}
use Rattle.mls_shape.specs.steps.Registers.{sign}

-- the class of a state; what is no state has class 0
abbrev pub class_in : List ℕ → ℕ → ℕ
class_in classes s = get_or classes s 0

-- the member of a set of one member
abbrev pub one_of : List ℕ → ℕ
one_of set = get_or set 0 0

-- what a head has, with classes in place of states, as numbers
abbrev pub bit_code : Bool → ℕ
bit_code false = 0
bit_code true = 1

abbrev pub function_code : (ℕ → ℕ) → Option Arms → List ℕ
function_code class None = 0 ∷ []
function_code class (Some arms) = 1 ∷ class (one_of arms.domain) ∷ class (one_of arms.codomain) ∷ []

abbrev pub field_code : (ℕ → ℕ) → FieldSet → List ℕ
field_code class field = length field.label ∷ field.label ++ class (one_of field.set) ∷ []

abbrev pub record_code : (ℕ → ℕ) → Option (List FieldSet) → List ℕ
record_code class None = 0 ∷ []
record_code class (Some fields) = 1 ∷ flat_map (field_code class) fields

abbrev pub head_code : (ℕ → ℕ) → Head → List ℕ
head_code class h = bit_code h.boolean ∷ bit_code h.integer ∷ function_code class h.function
    ++ record_code class h.fields

-- the key of a state: its polarity, its partners, and its head
pub record IsKeyOf (a : Automaton) (class : ℕ → ℕ) (s : ℕ) (key : List ℕ) : Type 0 where
  pub partners : List ℕ
  pub rises : Rises partners
  pub are : (j : ℕ) → Contains partners j ↔ IsPartner a s j
  pub is : key ≡ sign (polarity_at a s) ∷ length partners ∷ partners ++ head_code class (head_at a s)

-- the number of a key that was met
abbrev pub known_in : Numbering → List ℕ → Option ℕ
known_in numbering = get (slice_cmp nat_cmp) numbering.known

-- a key that was met before
pub record IsKnown (key : List ℕ) (number : ℕ) (old new : Numbering) : Type 0 where
  pub found : known_in old key ≡ Some number
  pub chosen : new.classes.chosen.items ≡ old.classes.chosen.items
  pub same : (other : List ℕ) → known_in new other ≡ known_in old other

-- a key that was not: it gets the next number, and the state is the chosen one of its class
pub record IsUnknown (key : List ℕ) (number : ℕ) (old new : Numbering) : Type 0 where
  pub absent : known_in old key ≡ None
  pub next : number ≡ length old.classes.chosen.items
  pub chosen : new.classes.chosen.items ≡ old.classes.chosen.items ++ length old.classes.numbers.items ∷ []
  pub added : (other : List ℕ) → known_in new other ≡ cond (bytes_eq key other) (Some number) (known_in old other)

-- the next state has this key
pub record AddsKey (key : List ℕ) (old new : Numbering) : Type 0 where
  pub number : ℕ
  pub numbers : new.classes.numbers.items ≡ old.classes.numbers.items ++ number ∷ []
  pub how : IsKnown key number old new ⊎ IsUnknown key number old new

-- the first n states have numbers by their keys
pub record IsNumbering (IsKey : ℕ → List ℕ → Type 0) (n : ℕ) (numbering : Numbering) : Type 0 where
  pub size : length numbering.classes.numbers.items ≡ n
  pub keyed : (s : ℕ) → s < n → (key : List ℕ) × IsKey s key
      × (known_in numbering key ≡ Some (class_in numbering.classes.numbers.items s))
  pub found : (key : List ℕ) (k : ℕ) → known_in numbering key ≡ Some k → (k < length numbering.classes.chosen.items)
      × IsKey (get_or numbering.classes.chosen.items k 0) key
  pub chosen : (k : ℕ) → k < length numbering.classes.chosen.items → (get_or numbering.classes.chosen.items k 0 < n)
      × (class_in numbering.classes.numbers.items (get_or numbering.classes.chosen.items k 0) ≡ k)

-- each state has a class, and each class a chosen state; two states have one class where they are such
pub record AreClassesBy (a : Automaton) (IsSuch : ℕ → ℕ → Type 0) (c : Classes) : Type 0 where
  pub size : length c.numbers.items ≡ length a.states
  pub low : (s : ℕ) → s < length a.states → class_in c.numbers.items s < length c.chosen.items
  pub chosen : (k : ℕ) → k < length c.chosen.items → (get_or c.chosen.items k 0 < length a.states)
      × (class_in c.numbers.items (get_or c.chosen.items k 0) ≡ k)
  pub classes : (i j : ℕ) → i < length a.states → j < length a.states
      → (class_in c.numbers.items i ≡ class_in c.numbers.items j) ↔ IsSuch i j

-- the states look alike by the classes so far
abbrev pub LookAlike : Automaton → List ℕ → ℕ → ℕ → Type 0
LookAlike a classes = IsAlikePair a (λ x y. class_in classes x ≡ class_in classes y)

abbrev pub AreClasses : Automaton → Classes → Type 0
AreClasses a = AreClassesBy a (IsAlike a)

-- alike states are in one class
abbrev pub KeepsAlike : Automaton → List ℕ → Type 0
KeepsAlike a classes = (x y : ℕ) → x < length a.states → y < length a.states → IsAlike a x y
    → class_in classes x ≡ class_in classes y

-- each state has its own number as its class
abbrev pub AreApart : List ℕ → Type 0
AreApart classes = (s : ℕ) → s < length classes → class_in classes s ≡ s
