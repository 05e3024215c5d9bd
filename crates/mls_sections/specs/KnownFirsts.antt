-- What is known of the first parts of lets in a book, while parts are written one after another.
use Rattle.std.specs.Prelude.{◌≡◌, ℕ, ◌<◌, List, length, Contains, Some}
use Rattle.std.specs.BTreeMap.{BTreeMap, get}
use Rattle.std.specs.FinMap as env
use Rattle.std.specs.Ordering.{nat_cmp}
use Rattle.mls_book.specs.declared.book.Node.{Node}
use Rattle.mls_automaton.specs.declared.scheme.Scheme.{Scheme}
use Rattle.mls_automaton.specs.Environments.{BindersRise}
use Rattle.mls_automaton.specs.Schemes.{IsScheme}
use Rattle.mls_term.specs.declared.term.TermForm.TheVariants as form
use Rattle.mls_term.specs.declared.term.TermNode.{TermNode}
use Rattle.mls_deriv.specs.Steps.{env_of, form_at}
use Rattle.mls_layout.specs.declared.layout.Places.{Places}
use Rattle.mls_layout.specs.LaidOut.{node_of, place_of, IsTypeLaidOut}
use Rattle.mls_layout.specs.Lets.{FirstPart}
use Rattle.mls_parts.specs.Posings.{known_in}
use Rattle.mls_lines.specs.declared.known.FirstPart as known
use Rattle.mls_lines.specs.PlainParts.{type_binders}

-- The type of the first part of let k is known and stands in the book, with a variable for each edge.
pub record IsFirstKnown (book : List Node) (lets : BTreeMap ℕ Scheme) (k : ℕ) (part : known.FirstPart) : Type 0 where
  pub type : Scheme
  pub is_known : known_in lets k ≡ Some type
  pub is : IsScheme type
  pub rise : BindersRise type.env
  pub old : List Node
  pub places : Places
  pub laid : IsTypeLaidOut old type.automaton part.variable book (place_of places)
  pub inside : (s : ℕ) → place_of places s < length book
  pub root : part.root ≡ node_of places type.root.0
  pub env : part.env ≡ type_binders type places

abbrev pub AreFirstsKnown : List Node → (lets : BTreeMap ℕ Scheme) → BTreeMap ℕ known.FirstPart → Type 0
AreFirstsKnown book lets firsts =
    (k : ℕ) (part : known.FirstPart) → get nat_cmp firsts k ≡ Some part → IsFirstKnown book lets k part

-- the first part of a let, as the lines before have it: its step is that of a let line
pub record IsFirstSaid (nodes : List TermNode) (firsts : BTreeMap ℕ known.FirstPart) (lines : List (ℕ × ℕ))
    (first : FirstPart) : Type 0 where
  pub part : known.FirstPart
  pub there : get nat_cmp firsts first.number ≡ Some part
  pub said : env.find nat_cmp first.number lines ≡ Some part.step
  pub env : first.env ≡ env_of part.env
  pub type : first.type ≡ part.root.0
  pub node : ℕ
  pub second : ℕ
  pub is : form_at nodes node ≡ Some (form.Let first.number first.part second)

-- these are the first parts that are known, each with a let line
pub record AreFirstsSaid (nodes : List TermNode) (firsts : BTreeMap ℕ known.FirstPart) (lines : List (ℕ × ℕ))
    (said : List FirstPart) : Type 0 where
  pub each : (first : FirstPart) → Contains said first → IsFirstSaid nodes firsts lines first
  pub all : (k : ℕ) (part : known.FirstPart) → get nat_cmp firsts k ≡ Some part
      → (first : FirstPart) × Contains said first × (first.number ≡ k)
