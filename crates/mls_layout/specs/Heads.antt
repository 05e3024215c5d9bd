-- The nodes of the parts of a head.
use Rattle.std.specs.Prelude.{◌≡◌, ℕ, true, List, Contains, Option, Some, None}
use Rattle.mls_book.specs.declared.book.NodeId.{NodeId}
use Rattle.mls_book.specs.declared.book.Field.{Field}
use Rattle.mls_book.specs.declared.book.Node.{Node}
use Rattle.mls_book.specs.declared.book.Node.TheVariants as node
use Rattle.mls_book.specs.Books.{node_at, field_at}
use Rattle.mls_automaton.specs.declared.automaton.Polarity.{Polarity}
use Rattle.mls_automaton.specs.declared.automaton.Arms.{Arms}
use Rattle.mls_automaton.specs.Automata.{opposite}
use Rattle.mls_automaton.specs.Heads.{Parts}
use Rattle.mls_automaton.specs.declared.automaton.HeadKind.{HeadKind}
use Rattle.mls_automaton.specs.declared.automaton.HeadKind.TheVariants as kind
use Rattle.mls_layout.specs.Trees.{IsTree, IsPlaceIn}

-- a label's field is there where there is a set, and it is the tree of its states
abbrev pub IsFieldAt : List Node → (ℕ → ℕ) → Polarity → Option (List ℕ) → Option NodeId → Type 0
IsFieldAt book place p (Some set) (Some id) = IsTree book p (IsPlaceIn place set) id.0
IsFieldAt book place p None None = Unit {0}
IsFieldAt book place p _ _ = ⊥

-- the node is the function, from the states of the domain to those of the codomain
pub record IsFunctionAt (book : List Node) (place : ℕ → ℕ) (p : Polarity) (h : Parts) (i : ℕ) : Type 0 where
  pub arms : Arms
  pub has : h.function ≡ Some arms
  pub from : NodeId
  pub to : NodeId
  pub node : node_at book i ≡ node.Arrow from to
  pub domain : IsTree book (opposite p) (IsPlaceIn place arms.domain) from.0
  pub codomain : IsTree book p (IsPlaceIn place arms.codomain) to.0

-- the node is the record, with a field for each set
pub record IsRecordAt (book : List Node) (place : ℕ → ℕ) (p : Polarity) (h : Parts) (i : ℕ) : Type 0 where
  pub sets : List ℕ → Option (List ℕ)
  pub has : h.fields ≡ Some sets
  pub fields : List Field
  pub node : node_at book i ≡ node.Rcd fields
  pub field : (label : List ℕ) → IsFieldAt book place p (sets label) (field_at label fields)

-- the node is that of the part of this kind, where the states that it names stand at their places
abbrev pub IsKindAt : List Node → (ℕ → ℕ) → Polarity → Parts → HeadKind → ℕ → Type 0
IsKindAt book place p h kind.Bool i = (h.boolean ≡ true) × (node_at book i ≡ node.Bool)
IsKindAt book place p h kind.Int i = (h.integer ≡ true) × (node_at book i ≡ node.Int)
IsKindAt book place p h kind.Function i = IsFunctionAt book place p h i
IsKindAt book place p h kind.Rcd i = IsRecordAt book place p h i

-- the head has a part of this kind
abbrev pub HasKind : Parts → HeadKind → Type 0
HasKind h kind.Bool = h.boolean ≡ true
HasKind h kind.Int = h.integer ≡ true
HasKind h kind.Function = (arms : Arms) × (h.function ≡ Some arms)
HasKind h kind.Rcd = (sets : List ℕ → Option (List ℕ)) × (h.fields ≡ Some sets)

-- these nodes are those of the parts of the head
pub record AreParts (book : List Node) (place : ℕ → ℕ) (p : Polarity) (h : Parts) (parts : List ℕ) : Type 0 where
  pub all : (i : ℕ) → Contains parts i → (kind : HeadKind) × IsKindAt book place p h kind i
  pub each : (kind : HeadKind) → HasKind h kind → (i : ℕ) × Contains parts i × IsKindAt book place p h kind i

-- the states that a head names have the signs that their places demand
pub record HasSigns (sign : ℕ → Polarity) (p : Polarity) (h : Parts) : Type 0 where
  pub domain : (arms : Arms) → h.function ≡ Some arms → (s : ℕ) → Contains arms.domain s → sign s ≡ opposite p
  pub codomain : (arms : Arms) → h.function ≡ Some arms → (s : ℕ) → Contains arms.codomain s → sign s ≡ p
  pub field : (sets : List ℕ → Option (List ℕ)) → h.fields ≡ Some sets → (label : List ℕ) (set : List ℕ)
      → sets label ≡ Some set → (s : ℕ) → Contains set s → sign s ≡ p
