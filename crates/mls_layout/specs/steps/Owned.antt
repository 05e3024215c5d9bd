-- The nodes of functions and records, and what is planned for the states of a part.
use Rattle.std.specs.Prelude.{◌≡◌, ℕ, ◌<◌, ◌+◌, List, [], ◌∷◌, ◌++◌, length, get_or, All, Option, Some, None, is_some}
use Rattle.mls_book.specs.declared.book.Field.{Field}
use Rattle.mls_book.specs.declared.book.NodeId.{NodeId}
use Rattle.mls_book.specs.declared.book.Node.{Node}
use Rattle.mls_book.specs.declared.book.Node.TheVariants as node
use Rattle.mls_book.specs.Books.{node_at, IsBook, HasChildrenBelow}
use Rattle.mls_automaton.specs.declared.automaton.Arms.{Arms}
use Rattle.mls_automaton.specs.declared.automaton.FieldSet.{FieldSet}
use Rattle.mls_automaton.specs.declared.automaton.Head.{Head}
use Rattle.mls_automaton.specs.declared.automaton.Polarity.{Polarity}
use Rattle.mls_automaton.specs.Automata.{Automaton, head_at, opposite, polarity_at}
use Rattle.mls_layout.specs.Trees.{IsPlaceIn}
use Rattle.mls_layout.specs.steps.Planned.{Planned, HasTree, end_of}
use Rattle.mls_layout.specs.steps.Sources.{count_if, own_before}

-- for each of the first states a tree of such members is planned
pub record HaveTrees (plan : Planned) (sign : ℕ → Polarity) (IsMember : ℕ → ℕ → Type 0) (n : ℕ) (nodes : List NodeId)
    : Type 0 where
  pub size : length nodes ≡ n
  pub tree : (s : ℕ) → s < n → (d : NodeId) → HasTree plan (sign s) (IsMember s) (get_or nodes s d).0

-- the fields have the labels of these, and the trees of their sets
abbrev pub AreFields : Planned → (ℕ → ℕ) → Polarity → List FieldSet → List Field → Type 0
AreFields plan place p [] [] = Unit {0}
AreFields plan place p (set ∷ sets) (field ∷ fields) =
    ((field.label ≡ set.label) × HasTree plan p (IsPlaceIn place set.set) field.node.0)
    × AreFields plan place p sets fields
AreFields plan place p _ _ = ⊥

-- the function, and the record
pub record IsFunction (plan : Planned) (place : ℕ → ℕ) (p : Polarity) (arms : Arms) (n : Node) : Type 0 where
  pub from : NodeId
  pub to : NodeId
  pub is : n ≡ node.Arrow from to
  pub domain : HasTree plan (opposite p) (IsPlaceIn place arms.domain) from.0
  pub codomain : HasTree plan p (IsPlaceIn place arms.codomain) to.0

pub record IsRecord (plan : Planned) (place : ℕ → ℕ) (p : Polarity) (sets : List FieldSet) (n : Node) : Type 0 where
  pub fields : List Field
  pub is : n ≡ node.Rcd fields
  pub are : AreFields plan place p sets fields

-- the node of a part of a head is added, where there is one
abbrev pub AddsFunction : Planned → (ℕ → ℕ) → Polarity → Option Arms → List Node → List Node → Type 0
AddsFunction plan place p None old new = new ≡ old
AddsFunction plan place p (Some arms) old new = (n : Node) × (new ≡ old ++ n ∷ []) × IsFunction plan place p arms n

abbrev pub AddsRecord : Planned → (ℕ → ℕ) → Polarity → Option (List FieldSet) → List Node → List Node → Type 0
AddsRecord plan place p None old new = new ≡ old
AddsRecord plan place p (Some sets) old new = (n : Node) × (new ≡ old ++ n ∷ []) × IsRecord plan place p sets n

-- the nodes of the parts of a head are added that are its own
pub record AddsOwn (plan : Planned) (place : ℕ → ℕ) (p : Polarity) (h : Head) (old new : List Node) : Type 0 where
  pub between : List Node
  pub function : AddsFunction plan place p h.function old between
  pub fields : AddsRecord plan place p h.fields between new

-- the nodes of a head's own parts stand in the book from this number on
pub record HasOwn (plan : Planned) (place : ℕ → ℕ) (p : Polarity) (h : Head) (book : List Node) (first : ℕ)
    : Type 0 where
  pub function : (arms : Arms) → h.function ≡ Some arms → IsFunction plan place p arms (node_at book first)
  pub fields : (sets : List FieldSet) → h.fields ≡ Some sets
      → IsRecord plan place p sets (node_at book (first + count_if (is_some h.function)))

-- The second book is the first and the own nodes of the first n states.
pub record AddsStates (plan : Planned) (place : ℕ → ℕ) (a : Automaton) (n : ℕ) (old new : List Node) : Type 0 where
  pub more : List Node
  pub longer : new ≡ old ++ more
  pub size : length new ≡ length old + own_before a n
  pub is_book : IsBook old → IsBook new
  pub low : All (HasChildrenBelow (end_of plan)) more
  pub own : (s : ℕ) → s < n
      → HasOwn plan place (polarity_at a s) (head_at a s) new (length old + own_before a s)
