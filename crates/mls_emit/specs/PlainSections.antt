-- A section of which the lines are written plainly, part by part.
use Rattle.std.specs.Prelude.{◌≡◌, ℕ, ◌≤◌, List, [], ◌∷◌, ◌++◌, length, Some}
use Rattle.std.specs.BTreeMap.{Updates}
use Rattle.std.specs.Ordering.{nat_cmp}
use Rattle.mls_book.specs.declared.book.Node.{Node}
use Rattle.mls_book.specs.Books.{IsClosedBook}
use Rattle.mls_automaton.specs.declared.scheme.Scheme.{Scheme}
use Rattle.mls_term.specs.declared.term.TermNode.{TermNode}
use Rattle.mls_typetext.specs.declared.scheme.ReadScheme.{ReadScheme}
use Rattle.mls_deriv.specs.declared.derivation.SectionLine.{SectionLine}
use Rattle.mls_deriv.specs.declared.derivation.SectionLine.TheVariants as line
use Rattle.mls_layout.specs.declared.layout.Places.{Places}
use Rattle.mls_layout.specs.LaidOut.{node_of}
use Rattle.mls_lines.specs.PlainParts.{type_binders}
use Rattle.mls_allowed.specs.SectionParts.{HaveCome, IsBegun, SoFar}
use Rattle.mls_emit.specs.declared.derive.section.Draft.{Draft}
use Rattle.mls_sections.specs.KnownNames.{AreNameTypes}
use Rattle.mls_emit.specs.Drafts.{AreGlobalsIn, HavePlaces, KnowGlobals, KnowsFirst}

-- what a draft has of its section
abbrev pub so_far : Draft → SoFar
so_far d = record {
  book = d.book;
  steps = d.steps;
  known = d.known;
  globals = d.globals;
  firsts = d.firsts;
  variable = d.variable;
}

-- The type of the first part of let k becomes known, with the number of its last step, and a line gives that step to
-- the name.
pub record NamesFirst (old new : SoFar) (k step variable : ℕ) (type : Scheme) (places : Places) : Type 0 where
  pub knows : KnowsFirst old.known.lets new.known.lets k type
  pub firsts : Updates nat_cmp old.firsts new.firsts k (Some (record {
    step = step;
    root = node_of places type.root.0;
    env = type_binders type places;
    variable = variable;
  }))
  pub lines : new.steps.lines ≡ old.steps.lines ++ line.Let k step ∷ []
  pub count : new.steps.count ≡ old.steps.count

-- What there is before the first part is written: a section without lines over a closed book, which knows the types of
-- all names of the environment that the term has, and their places in the book. The variables of first parts come
-- behind those of the type that was read.
pub record KnowsNames (reads : List ReadScheme) (nodes : List TermNode) (read : ReadScheme) (begun : SoFar) :
    Type 0 where
  pub begun_so : IsBegun read begun
  pub closed : IsClosedBook begun.book
  pub variables : read.vars ≤ begun.variable
  pub types : AreNameTypes reads begun.known.globals
  pub known : KnowGlobals nodes begun.known.globals (length nodes)
  pub globals : AreGlobalsIn reads begun.book begun.variable begun.globals
  pub places : HavePlaces nodes begun.globals (length nodes)

-- the parts with roots below this number are written, behind such a beginning
pub record HasParts (reads : List ReadScheme) (nodes : List TermNode) (read : ReadScheme) (r : ℕ) (now : SoFar) :
    Type 0 where
  pub begun : SoFar
  pub begins : KnowsNames reads nodes read begun
  pub come : HaveCome nodes read begun r now

-- all parts are written, and these are the nodes and the lines
pub record IsPlainSection (reads : List ReadScheme) (nodes : List TermNode) (read : ReadScheme) (book : List Node)
    (lines : List SectionLine) : Type 0 where
  pub last : SoFar
  pub parts : HasParts reads nodes read (length nodes) last
  pub book_is : book ≡ last.book
  pub lines_are : lines ≡ last.steps.lines
