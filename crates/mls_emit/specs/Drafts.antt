-- What is known of the names of a term while its section is written, part by part.
use Rattle.std.specs.Prelude.{◌≡◌, ◌⊎◌, ℕ, ◌<◌, ◌≤◌, List, [], length, All, IsSome, Some}
use Rattle.std.specs.BTreeMap.{BTreeMap, Updates, get}
use Rattle.std.specs.Ordering.{nat_cmp}
use Rattle.mls_book.specs.declared.book.Node.{Node}
use Rattle.mls_book.specs.Books.{IsClosedBook}
use Rattle.mls_automaton.specs.declared.scheme.Scheme.{Scheme}
use Rattle.mls_automaton.specs.Environments.{BindersRise}
use Rattle.mls_typetext.specs.declared.scheme.ReadScheme.{ReadScheme}
use Rattle.mls_scheme.specs.ReadTypes.{IsEquivalentToRead, IsReadFromBook}
use Rattle.mls_term.specs.declared.term.TermForm.{TermForm}
use Rattle.mls_term.specs.declared.term.TermForm.TheVariants as form
use Rattle.mls_term.specs.declared.term.TermNode.{TermNode}
use Rattle.mls_deriv.specs.Steps.{form_at}
use Rattle.mls_layout.specs.LaidOut.{IsLonger}
use Rattle.mls_parts.specs.declared.pose.KnownTypes.{KnownTypes}
use Rattle.mls_parts.specs.PartUses.{AreBehindFirsts, HasOwnType, HaveOwnLabels}
use Rattle.mls_parts.specs.PosedParts.{IsKnownType}
use Rattle.mls_parts.specs.Posings.{known_in}
use Rattle.mls_parts.specs.TreeNodes.{AreTreeNodes}
use Rattle.mls_lines.specs.declared.known.GlobalAt.{GlobalAt}
use Rattle.mls_allowed.specs.MadeFirsts.{AreAdded}
use Rattle.mls_sections.specs.KnownNames.{AreNameTypes, IsGlobalOf}

-- Nodes of one tree, in which no record has a label twice, and each use of a let's name stands behind the let's first
-- part.
pub record AreTermNodes (nodes : List TermNode) : Type 0 where
  pub tree : AreTreeNodes nodes
  pub labels : HaveOwnLabels nodes
  pub firsts : AreBehindFirsts nodes

-- the types that are known of names of the environment have no binders, and may be copied everywhere
abbrev pub HaveNoBinders : BTreeMap ℕ Scheme → Type 0
HaveNoBinders globals = (g : ℕ) (s : Scheme) → known_in globals g ≡ Some s → IsKnownType [] s

-- the second map knows the type of this name besides, read from its book, if the first one does not
pub record KnowsName (old new : BTreeMap ℕ Scheme) (g : ℕ) (read : ReadScheme) : Type 0 where
  pub there : IsSome (known_in new g)
  pub kept : (h : ℕ) → IsSome (known_in old h) → IsSome (known_in new h)
  pub back : (h : ℕ) (s : Scheme) → known_in new h ≡ Some s
      → (known_in old h ≡ Some s)
      ⊎ ((h ≡ g) × IsKnownType [] s × IsReadFromBook read s × IsEquivalentToRead read s)

-- a node of this form is none of the names of the environment but these
abbrev pub NamesOnly : List ReadScheme → TermForm → Type 0
NamesOnly reads f = (g : ℕ) → f ≡ form.Global g → g < length reads

-- nor is any of these nodes
abbrev pub NameOnly : List ReadScheme → List TermNode → Type 0
NameOnly reads nodes = All (λ (node : TermNode). NamesOnly reads node.form) nodes

-- the types are known of the names of the environment that stand among the first n nodes
abbrev pub KnowGlobals : List TermNode → BTreeMap ℕ Scheme → ℕ → Type 0
KnowGlobals nodes globals n =
    (i g : ℕ) → i < n → form_at nodes i ≡ Some (form.Global g) → IsSome (known_in globals g)

-- the types are known of the lets whose first parts have roots before node r
abbrev pub KnowFirsts : List TermNode → BTreeMap ℕ Scheme → ℕ → Type 0
KnowFirsts nodes lets r =
    (i k j l : ℕ) → form_at nodes i ≡ Some (form.Let k j l) → j < r → HasOwnType (known_in lets k)

-- What is known before the part with root r is written: the types of all names of the environment, and those of the
-- first parts before it, each of which was made of its part.
pub record KnowsBefore (nodes : List TermNode) (known : KnownTypes) (r : ℕ) : Type 0 where
  pub free : HaveNoBinders known.globals
  pub globals : KnowGlobals nodes known.globals (length nodes)
  pub firsts : KnowFirsts nodes known.lets r
  pub added : AreAdded nodes r known

-- The second map knows all names that the first one does, and that of a node of this form, if it is one of the
-- environment.
pub record KnowsForm (reads : List ReadScheme) (old new : BTreeMap ℕ Scheme) (f : TermForm) : Type 0 where
  pub types : AreNameTypes reads new
  pub there : (g : ℕ) → f ≡ form.Global g → IsSome (known_in new g)
  pub kept : (h : ℕ) → IsSome (known_in old h) → IsSome (known_in new h)

-- The type of name g stands in the book, and its variables are below this number.
pub record IsGlobalIn (reads : List ReadScheme) (book : List Node) (next g : ℕ) (global : GlobalAt) : Type 0 where
  pub of : IsGlobalOf book reads g global
  pub below : of.read.vars ≤ next

-- so do the types of all names of the environment that have places
abbrev pub AreGlobalsIn : List ReadScheme → List Node → (next : ℕ) → BTreeMap ℕ GlobalAt → Type 0
AreGlobalsIn reads book next globals =
    (g : ℕ) (global : GlobalAt) → get nat_cmp globals g ≡ Some global → IsGlobalIn reads book next g global

-- the names of the environment that stand among the first n nodes have places
abbrev pub HavePlaces : List TermNode → BTreeMap ℕ GlobalAt → ℕ → Type 0
HavePlaces nodes globals n =
    (i g : ℕ) → i < n → form_at nodes i ≡ Some (form.Global g) → IsSome (get nat_cmp globals g)

-- The second book is the first and more nodes, which leave it closed, and the number of the next variable is no less.
pub record IsGrown (old new : List Node) (before next : ℕ) : Type 0 where
  pub longer : IsLonger old new
  pub closed : IsClosedBook old → IsClosedBook new
  pub variable : before ≤ next

-- The second map has a place for each name that has one in the first, and for that of a node of this form, if it is one
-- of the environment.
pub record PlacesForm (reads : List ReadScheme) (book : List Node) (next : ℕ) (old new : BTreeMap ℕ GlobalAt)
    (f : TermForm) : Type 0 where
  pub globals : AreGlobalsIn reads book next new
  pub there : (g : ℕ) → f ≡ form.Global g → IsSome (get nat_cmp new g)
  pub kept : (h : ℕ) → IsSome (get nat_cmp old h) → IsSome (get nat_cmp new h)

-- The second map knows this type of the first part of let k besides.
pub record KnowsFirst (old new : BTreeMap ℕ Scheme) (k : ℕ) (scheme : Scheme) : Type 0 where
  pub updates : Updates nat_cmp old new k (Some scheme)
  pub own : HasOwnType (Some scheme)
  pub rise : BindersRise scheme.env
