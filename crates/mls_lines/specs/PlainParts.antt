-- What is written plainly for the nodes of a part, one after the other.
use Rattle.std.specs.Prelude.{◌≡◌, ℕ, List, [], ◌∷◌, ◌++◌, length, map, Contains, Option, Some, None}
use Rattle.std.specs.List.{flat_map}
use Rattle.std.specs.BTreeMap.{BTreeMap, get}
use Rattle.std.specs.Ordering.{nat_cmp}
use Rattle.mls_automaton.specs.declared.scheme.EnvEntry.{EnvEntry}
use Rattle.mls_automaton.specs.declared.scheme.Scheme.{Scheme}
use Rattle.mls_book.specs.declared.book.Node.{Node}
use Rattle.mls_book.specs.Books.{IsClosedBook}
use Rattle.mls_term.specs.declared.term.TermForm.{TermForm}
use Rattle.mls_term.specs.declared.term.TermNode.{TermNode}
use Rattle.mls_deriv.specs.declared.claim.Put.{Put}
use Rattle.mls_deriv.specs.declared.derivation.BinderNode.{BinderNode}
use Rattle.mls_deriv.specs.declared.derivation.StepLine.{StepLine}
use Rattle.mls_deriv.specs.Sections.{steps_of}
use Rattle.mls_deriv.specs.Steps.{form_at, Before}
use Rattle.mls_layout.specs.declared.layout.LaidOut.{LaidOut}
use Rattle.mls_layout.specs.declared.layout.Places.{Places}
use Rattle.mls_layout.specs.LaidOut as layout
use Rattle.mls_layout.specs.LaidOut.{place_of, IsLonger}
use Rattle.mls_layout.specs.Parts.{Constraint}
use Rattle.mls_layout.specs.Plans.{PlannedLine, planned_steps}
use Rattle.mls_layout.specs.Scopes.{entry}
use Rattle.mls_parts.specs.declared.pose.Posing.{Posing}
use Rattle.mls_parts.specs.PosedGoals.{IsPosedAt}
use Rattle.mls_parts.specs.PosedParts.{IsPartList}
use Rattle.mls_parts.specs.Posings.{binder_in, root_in}
use Rattle.mls_lines.specs.declared.known.FirstPart.{FirstPart}
use Rattle.mls_lines.specs.declared.known.GlobalAt.{GlobalAt}
use Rattle.mls_lines.specs.declared.steps.Steps.{Steps}
use Rattle.mls_lines.specs.declared.writer.Writer as state
use Rattle.mls_lines.specs.Conclusions.{Concluded, IsBrought}
use Rattle.mls_lines.specs.NodeLines.{NamesKnown}
use Rattle.mls_lines.specs.Puts.{ArePutsAt}
use Rattle.mls_lines.specs.Writings.{IsWriting}
use Rattle.mls_lines.specs.Stepping.{Adds, AreCounted}
use Rattle.mls_lines.specs.Writer.{concluded_in, Lengthens}
use Rattle.mls_lines.specs.PlainLines.{AreNamesOf, ArePutIn, HaveLowFirsts, HaveLowGlobals, HaveLowPlaces}
use Rattle.mls_lines.specs.PlainLines.{HaveRisingFirsts, IsSound, standing}

-- What there is before the lines of a part are written, behind these steps: the nodes of the part come once and each behind
-- its parts, they were posed, and the own nodes of states are parts of their heads. The book is closed, and the nodes of
-- states and those of the types of names are nodes of it.
pub record CanWritePart (laid : LaidOut) (steps : Steps) (globals : BTreeMap ℕ GlobalAt) (firsts : BTreeMap ℕ FirstPart)
    (c : Constraint) (p : Posing) (parts : ℕ → List ℕ) (nodes : List TermNode) (members : List ℕ) : Type 0 where
  pub list : IsPartList nodes members
  pub counted : AreCounted steps
  pub own_parts : layout.HasOwnParts laid.book laid.own laid.boolean laid.integer c.automaton parts
  pub rising : HaveRisingFirsts firsts
  pub closed : IsClosedBook laid.book
  pub places : HaveLowPlaces (length laid.book) laid.places
  pub low_firsts : HaveLowFirsts (length laid.book) firsts
  pub low_globals : HaveLowGlobals (length laid.book) globals
  pub posed : (i : ℕ) (f : TermForm) → Contains members i → form_at nodes i ≡ Some f → IsPosedAt c p f i

-- no node concludes anything yet
abbrev pub ConcludesNothing : state.Writer → Type 0
ConcludesNothing w = (i : ℕ) → get nat_cmp w.concluded i ≡ None

-- these variables are put in at the nodes
abbrev pub ArePutInAt : (ℕ → Option (List Put)) → NamesKnown → List ℕ → Type 0
ArePutInAt puts names members = (i : ℕ) → Contains members i → ArePutIn (puts i) (names.puts i)

-- The lines of the nodes of a part are added. They are written as is told of a part, in whatever longer book and whatever
-- is known of names, if these variables are put in at the nodes; and what a node concludes in the end is what it
-- concludes there.
pub record WritesPart (globals : BTreeMap ℕ GlobalAt) (firsts : BTreeMap ℕ FirstPart) (lets : BTreeMap ℕ Scheme)
    (c : Constraint) (p : Posing) (parts : ℕ → List ℕ) (nodes : List TermNode) (members : List ℕ)
    (old new : state.Writer) : Type 0 where
  pub puts : ℕ → Option (List Put)
  pub plan : ℕ → List PlannedLine
  pub of : ℕ → Concluded
  pub writing : (b : Before) → IsLonger new.laid.book b.book → b.term_nodes ≡ nodes → (names : NamesKnown)
      → AreNamesOf globals firsts names → ArePutInAt puts names members
      → (it : IsWriting b c (standing old p parts) names (steps_of old.steps.lines) members)
      × (it.plan ≡ plan) × (it.of ≡ of)
  pub puts_are : IsClosedBook old.laid.book → (i : ℕ) (f : TermForm) → Contains members i → form_at nodes i ≡ Some f
      → ArePutsAt new.laid.book old.laid.places p globals firsts lets i f (puts i)
  pub closed : IsClosedBook old.laid.book → IsClosedBook new.laid.book
  pub concluded : (i : ℕ) (own : Concluded) → concluded_in new i ≡ Some own → Contains members i × (of i ≡ own)
  pub keeps : Lengthens old.laid new.laid
  pub sound : IsSound new
  pub adds : Adds new.laid.book old.steps new.steps (flat_map plan members)

-- the binders of a type, with the nodes of their states
abbrev pub type_binders : Scheme → Places → List BinderNode
type_binders s places = map (λ (e : EnvEntry). entry e.binder (place_of places e.state.0)) s.env

-- The lines of a part are added behind these steps: those of its nodes, over what was laid out, and then those that bring
-- its root, which is the last node, to this environment and type. The last step has this number.
pub record WritesWhole (globals : BTreeMap ℕ GlobalAt) (firsts : BTreeMap ℕ FirstPart) (lets : BTreeMap ℕ Scheme)
    (c : Constraint) (p : Posing) (parts : ℕ → List ℕ) (nodes : List TermNode) (members : List ℕ) (laid : LaidOut)
    (begun new : Steps) (book : List Node) (d : List BinderNode) (type number : ℕ) : Type 0 where
  pub earlier : List ℕ
  pub root : ℕ
  pub last : members ≡ earlier ++ root ∷ []
  pub puts : ℕ → Option (List Put)
  pub plan : ℕ → List PlannedLine
  pub of : ℕ → Concluded
  pub writing : (b : Before) → IsLonger book b.book → b.term_nodes ≡ nodes → (names : NamesKnown)
      → AreNamesOf globals firsts names → ArePutInAt puts names members
      → (it : IsWriting b c (record { root = root_in p; binder = binder_in p; place = place_of laid.places; parts = parts })
      names (steps_of begun.lines) members)
      × (it.plan ≡ plan) × (it.of ≡ of)
  pub puts_are : IsClosedBook laid.book → (i : ℕ) (f : TermForm) → Contains members i → form_at nodes i ≡ Some f
      → ArePutsAt book laid.places p globals firsts lets i f (puts i)
  pub lines : List PlannedLine
  pub brought : IsBrought (of root) (length (steps_of begun.lines ++ planned_steps (flat_map plan members))) root d type
      lines number
  pub longer : IsLonger laid.book book
  pub closed : IsClosedBook book
  pub adds : Adds book begun new (flat_map plan members ++ lines)
