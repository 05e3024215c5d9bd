-- Layers of a book with one function and one record at most, as those of a printed type are, and the places of the
-- states of the automaton that is read from it.
use Rattle.std.specs.Prelude.{◌≡◌, ℕ, ◌+◌, ◌<◌, ◌^◌, Bool, true, false, IsTrue, if◌then◌else◌, List, [], length}
use Rattle.std.specs.Prelude.{All, Contains, Option, Some, None}
use Rattle.mls_book.specs.declared.book.Node.{Node}
use Rattle.mls_book.specs.declared.book.Node.TheVariants as node
use Rattle.mls_book.specs.Books.{node_at}
use Rattle.mls_automaton.specs.declared.automaton.Polarity.{Polarity}
use Rattle.mls_automaton.specs.declared.automaton.Arms.{Arms}
use Rattle.mls_automaton.specs.declared.automaton.FieldSet.{FieldSet}
use Rattle.mls_automaton.specs.declared.automaton.Head.{Head}
use Rattle.mls_automaton.specs.Sets.{Rises}
use Rattle.mls_automaton.specs.Automata.{Automaton, polarity_at, head_at}
use Rattle.mls_automaton.specs.Models.{HasRisingLabels, IsDeterministic}
use Rattle.mls_automaton.specs.declared.scheme.Scheme.{Scheme}
use Rattle.mls_automaton.specs.Schemes.{IsScheme}
use Rattle.mls_typetext.specs.declared.scheme.ReadScheme.{ReadScheme}
use Rattle.mls_typetext.specs.Texts.{IsTypeText}
use Rattle.mls_print.specs.Printed.{IsPrinted, HasNamedFields}
use Rattle.mls_scheme.specs.ReadAutomata.{atoms, IsReadFrom}
use Rattle.mls_deriv.specs.Steps.{HasFrom}
use Rattle.mls_layout.specs.Trees.{none_node}
use Rattle.mls_layout.specs.Layouts.{IsTypeLayout}

abbrev pub is_function : Node → Bool
is_function (node.Arrow j k) = true
is_function _ = false

abbrev pub is_record : Node → Bool
is_record (node.Rcd fields) = true
is_record _ = false

-- at most one atom of the node is such
abbrev pub HasOne : (Node → Bool) → List Node → ℕ → Type 0
HasOne is_such nodes i =
    (j k : ℕ) → Contains (atoms nodes i) j → Contains (atoms nodes i) k → IsTrue (is_such (node_at nodes j))
    → IsTrue (is_such (node_at nodes k)) → j ≡ k

-- the layer below the node has one function and one record at most
pub record HasOneEach (nodes : List Node) (i : ℕ) : Type 0 where
  pub function : HasOne is_function nodes i
  pub fields : HasOne is_record nodes i

-- so has the layer of each top
abbrev pub HaveOneEach : List Node → (is_top : ℕ → Bool) → Type 0
HaveOneEach nodes is_top = (i : ℕ) → IsTrue (is_top i) → HasOneEach nodes i

-- the node of no member for each polarity
abbrev pub AreNoneNodes : List Node → (Polarity → ℕ) → Type 0
AreNoneNodes book none = (p : Polarity) → (none p < length book) × (node_at book (none p) ≡ none_node p)

-- The node of a state, where the book that was read stands from node n on: a top has its own node, and any other state,
-- which has nothing, that of no member.
abbrev pub read_place : ℕ → (is_top : ℕ → Bool) → (none : Polarity → ℕ) → Automaton → ℕ → ℕ
read_place n is_top none b s = if is_top s then n + s else none (polarity_at b s)

-- the numbers of each set that a head names rise: of those of its function, and of those of its record
abbrev pub HasRisingArms : Option Arms → Type 0
HasRisingArms None = Unit {0}
HasRisingArms (Some arms) = Rises arms.domain × Rises arms.codomain

abbrev pub HasRisingFields : Option (List FieldSet) → Type 0
HasRisingFields None = Unit {0}
HasRisingFields (Some fields) = All (λ (field : FieldSet). Rises field.set) fields

pub record HasRisingSets (h : Head) : Type 0 where
  pub function : HasRisingArms h.function
  pub fields : HasRisingFields h.fields

-- Where each layer has one function and one record at most, the nodes are a layout of the automaton, in each book that
-- has them from node n on and nodes of no member.
abbrev pub ReadIsLaidOut : Type 0
ReadIsLaidOut =
    (nodes : List Node) (root : ℕ) (b : Automaton) (it : IsReadFrom nodes root b) → HaveOneEach nodes it.is_top
    → (book : List Node) (n : ℕ) → HasFrom book n nodes → (none : Polarity → ℕ) → AreNoneNodes book none
    → IsTypeLayout book b (read_place n it.is_top none b)
    × ((s : ℕ) → read_place n it.is_top none b s < length book)

-- and the automaton is deterministic
abbrev pub ReadIsDeterministic : Type 0
ReadIsDeterministic =
    (nodes : List Node) (root : ℕ) (b : Automaton) (it : IsReadFrom nodes root b) → HaveOneEach nodes it.is_top
    → ((s : ℕ) → HasRisingLabels (head_at b s).fields) → ((s : ℕ) → HasRisingSets (head_at b s)) → IsDeterministic b

-- each layer of the book that is read from the printed text of a scheme has one function and one record at most
abbrev pub PrintedHasOneEach : Type 0
PrintedHasOneEach =
    (s : Scheme) (text : List ℕ) (read : ReadScheme) → IsScheme s → HasNamedFields s.automaton → s.env ≡ []
    → IsPrinted s text → length text < 2 ^ 64 → IsTypeText text read → (i : ℕ) → i < length read.book
    → HasOneEach read.book i
