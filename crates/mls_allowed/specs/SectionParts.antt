-- A section while its parts are written one after another.
use Rattle.std.specs.Prelude.{◌≡◌, ◌≢◌, ℕ, suc, ◌+◌, ◌<◌, List, [], ◌∷◌, ◌++◌, length, Some}
use Rattle.std.specs.BTreeMap.{BTreeMap, IsEmpty, Updates}
use Rattle.std.specs.Ordering.{nat_cmp}
use Rattle.mls_book.specs.declared.book.Node.{Node}
use Rattle.mls_book.specs.Books.{IsClosedBook}
use Rattle.mls_automaton.specs.declared.scheme.Scheme.{Scheme}
use Rattle.mls_automaton.specs.Environments.{BindersRise}
use Rattle.mls_automaton.specs.Schemes.{IsScheme}
use Rattle.mls_scheme.specs.ReadTypes.{IsEquivalentToRead, IsReadFromBook}
use Rattle.mls_term.specs.declared.term.TermForm.TheVariants as form
use Rattle.mls_term.specs.declared.term.TermNode.{TermNode}
use Rattle.mls_typetext.specs.declared.scheme.ReadScheme.{ReadScheme}
use Rattle.mls_deriv.specs.declared.derivation.SectionLine.TheVariants as line
use Rattle.mls_deriv.specs.Steps.{form_at, HasFrom}
use Rattle.mls_layout.specs.declared.layout.LaidOut.{LaidOut}
use Rattle.mls_layout.specs.declared.layout.Places.{Places}
use Rattle.mls_layout.specs.LaidOut.{node_of, place_of, IsLonger}
use Rattle.mls_parts.specs.declared.pose.KnownTypes.{KnownTypes}
use Rattle.mls_parts.specs.declared.pose.Posing.{Posing}
use Rattle.mls_parts.specs.declared.solve.Solution.{Solution}
use Rattle.mls_parts.specs.declared.split.TermPart.{TermPart}
use Rattle.mls_parts.specs.PartUses.{KnowTypes}
use Rattle.mls_parts.specs.PosedGoals.{constraint_of}
use Rattle.mls_parts.specs.Posings.{root_in}
use Rattle.mls_parts.specs.TermParts.{IsTermPart}
use Rattle.mls_typenodes.specs.OneEach.{HasOneEach}
use Rattle.mls_typenodes.specs.ReadPlaces.{IsReadLaid}
use Rattle.mls_lines.specs.declared.known.FirstPart.{FirstPart}
use Rattle.mls_lines.specs.declared.known.GlobalAt.{GlobalAt}
use Rattle.mls_lines.specs.declared.steps.Steps.{Steps}
use Rattle.mls_lines.specs.PlainLines.{HaveLowPlaces}
use Rattle.mls_lines.specs.PlainParts.{CanWritePart, WritesWhole, type_binders}
use Rattle.mls_allowed.specs.MadeFirsts.{around_states, IsFirstLaid, IsFirstType, IsNoFirst, IsPartLaidOut}
use Rattle.mls_allowed.specs.MadeFirsts.{IsPartSolved}

-- a section so far: its book and its steps, what is known of names and where their types stand, and the next variable
pub record SoFar : Type 0 where
  pub book : List Node
  pub steps : Steps
  pub known : KnownTypes
  pub globals : BTreeMap ℕ GlobalAt
  pub firsts : BTreeMap ℕ FirstPart
  pub variable : ℕ

-- A section without lines, whose book begins with the nodes of the type that was read; no first part is known.
pub record IsBegun (read : ReadScheme) (begun : SoFar) : Type 0 where
  pub lines : begun.steps.lines ≡ []
  pub count : begun.steps.count ≡ 0
  pub lets : IsEmpty begun.known.lets
  pub firsts : IsEmpty begun.firsts
  pub from : HasFrom begun.book 0 read.book

-- The part with this root is written: its constraint is solved, and laid out behind the nodes of its type, with which
-- the book `made` ends; then its lines are added, where they can be, and the last of its steps has this number.
pub record AddsPart (nodes : List TermNode) (r : ℕ) (part : TermPart) (old : SoFar) (made : List Node) (type : Scheme)
    (places : Places) (book : List Node) (steps : Steps) (number : ℕ) : Type 0 where
  pub is_part : IsTermPart nodes r part
  pub know : KnowTypes old.known.globals old.known.lets nodes part.nodes
  pub posing : Posing
  pub solution : Solution
  pub around : List ℕ
  pub solved : IsPartSolved nodes old.known part.nodes posing solution around
  pub type_longer : IsLonger old.book made
  pub laid : LaidOut
  pub is_laid : IsPartLaidOut made posing solution (root_in posing r) around type places laid
  pub writes : (parts : ℕ → List ℕ)
      → CanWritePart laid old.steps old.globals old.firsts (constraint_of posing) posing parts nodes part.nodes
      → HaveLowPlaces (length laid.book) places
      → WritesWhole old.globals old.firsts old.known.lets (constraint_of posing) posing parts nodes part.nodes laid
      old.steps steps book (type_binders type places) (place_of places type.root.0) number

-- The first part of a let is written, and its type becomes known; then comes the line that gives it to the let's name.
pub record AddsFirstPart (nodes : List TermNode) (r : ℕ) (old new : SoFar) : Type 0 where
  pub node : ℕ
  pub number : ℕ
  pub second : ℕ
  pub is : form_at nodes node ≡ Some (form.Let number r second)
  pub part : TermPart
  pub made : List Node
  pub type : Scheme
  pub places : Places
  pub steps : Steps
  pub step : ℕ
  pub adds : AddsPart nodes r part old made type places new.book steps step
  pub is_type : IsFirstType adds.solution.automaton (root_in adds.posing r)
      (around_states adds.posing adds.around) type
  pub rise : BindersRise type.env
  pub laid : IsFirstLaid old.book old.variable made new.variable type places
  pub lines : new.steps.lines ≡ steps.lines ++ line.Let number step ∷ []
  pub count : new.steps.count ≡ steps.count
  pub lets : Updates nat_cmp old.known.lets new.known.lets number (Some type)
  pub firsts : Updates nat_cmp old.firsts new.firsts number (Some (record {
    step = step;
    root = node_of places type.root.0;
    env = type_binders type places;
    variable = old.variable;
  }))
  pub types : new.known.globals ≡ old.known.globals
  pub globals : new.globals ≡ old.globals

-- The type of the whole term is the one that was read: its nodes stand at the beginning of the book, which stays
-- closed.
pub record IsWholeType (read : ReadScheme) (old made : List Node) (type : Scheme) (places : Places) : Type 0 where
  pub is : IsScheme type
  pub free : type.env ≡ []
  pub from : IsReadFromBook read type
  pub equivalent : IsEquivalentToRead read type
  pub closed : IsClosedBook old → IsClosedBook made
  pub laid : ((i : ℕ) → i < length read.book → HasOneEach read.book i) → IsReadLaid read made type places

-- The whole term is written, with the type that was read as its own.
pub record AddsWhole (nodes : List TermNode) (read : ReadScheme) (r : ℕ) (old new : SoFar) : Type 0 where
  pub is_last : suc r ≡ length nodes
  pub no_first : IsNoFirst nodes r
  pub part : TermPart
  pub made : List Node
  pub type : Scheme
  pub places : Places
  pub step : ℕ
  pub adds : AddsPart nodes r part old made type places new.book new.steps step
  pub is_type : IsWholeType read old.book made type places
  pub known : new.known ≡ old.known
  pub firsts : new.firsts ≡ old.firsts
  pub globals : new.globals ≡ old.globals

-- The parts with roots below this number are written, one after another.
pub data HaveCome (nodes : List TermNode) (read : ReadScheme) (begun : SoFar) : ℕ → SoFar → Type 0 where
  start : HaveCome nodes read begun 0 begun
  same : {r : ℕ} {old : SoFar} → HaveCome nodes read begun r old → IsNoFirst nodes r → (suc r ≢ length nodes)
      → HaveCome nodes read begun (r + 1) old
  more : {r : ℕ} {old new : SoFar} → HaveCome nodes read begun r old → AddsFirstPart nodes r old new
      → HaveCome nodes read begun (r + 1) new
  whole : {r : ℕ} {old new : SoFar} → HaveCome nodes read begun r old → AddsWhole nodes read r old new
      → HaveCome nodes read begun (r + 1) new
