-- What is put in for the variables of a name's type at a use.
use Rattle.std.specs.Prelude.{◌≡◌, ◌⊎◌, ℕ, suc, ◌+◌, ◌<◌, List, [], ◌∷◌, length, slice_get, Contains, IsSome, Option}
use Rattle.std.specs.Prelude.{Some, None}
use Rattle.std.specs.BTreeMap.{BTreeMap, get}
use Rattle.std.specs.Ordering.{nat_cmp}
use Rattle.mls_book.specs.declared.book.Node.{Node}
use Rattle.mls_book.specs.Books.{IsBook, IsClosedBook}
use Rattle.mls_automaton.specs.declared.automaton.Flow.{Flow}
use Rattle.mls_automaton.specs.declared.automaton.Polarity.TheVariants.{Positive}
use Rattle.mls_automaton.specs.declared.scheme.EnvEntry.{EnvEntry}
use Rattle.mls_automaton.specs.declared.scheme.Scheme.{Scheme}
use Rattle.mls_deriv.specs.declared.claim.Put.{Put}
use Rattle.mls_deriv.specs.Pairs.{put_at}
use Rattle.mls_layout.specs.LaidOut.{place_of}
use Rattle.mls_layout.specs.Trees.{IsPlaceIn, IsTree}
use Rattle.mls_layout.specs.declared.layout.Places.{Places}
use Rattle.mls_parts.specs.MetCopies.{IsOfNoBinder}
use Rattle.mls_parts.specs.declared.pose.Posing.{Posing}
use Rattle.mls_parts.specs.Posings.{binder_in}
use Rattle.mls_lines.specs.declared.known.FirstPart.{FirstPart}
use Rattle.mls_lines.specs.declared.known.GlobalAt.{GlobalAt}
use Rattle.mls_lines.specs.Showing.{shown_by}
use Rattle.mls_layout.specs.LaidOut.{IsLonger}
use Rattle.mls_term.specs.declared.term.TermForm.{TermForm}
use Rattle.mls_term.specs.declared.term.TermForm.TheVariants as form

-- the variables of the list follow each other from this one on
abbrev pub FollowFrom : ℕ → List Put → Type 0
FollowFrom x [] = Unit {0}
FollowFrom x (put ∷ puts) = (put.variable ≡ x) × FollowFrom (suc x) puts

-- some variable has a node in both lists
abbrev pub ShareVariable : List Put → List Put → Type 0
ShareVariable puts others =
    (x m n : ℕ) × (put_at puts x ≡ Some m) × (put_at others x ≡ Some n)

-- the binders of these entries by their states
pub record AreByState (env : List EnvEntry) (binders : BTreeMap ℕ ℕ) : Type 0 where
  pub each : (entry : EnvEntry) → Contains env entry → IsSome (get nat_cmp binders entry.state.0)
  pub from : (s x : ℕ) → get nat_cmp binders s ≡ Some x
      → (entry : EnvEntry) × Contains env entry × (entry.state.0 ≡ s) × (entry.binder ≡ x)

-- The copy of a state of a known type, whose states are copied from the state `first` on: the state of a binder has
-- that of the binder around as its copy.
abbrev pub IsCopyIn : Posing → Scheme → (first s copy : ℕ) → Type 0
IsCopyIn p known first s copy =
    ((entry : EnvEntry) × Contains known.env entry × (entry.state.0 ≡ s) × (copy ≡ binder_in p entry.binder))
    ⊎ (IsOfNoBinder known s × (copy ≡ first + s))

-- the node is that of a copy of the state
abbrev pub IsNodeOfCopy : Places → Posing → Scheme → (first s node : ℕ) → Type 0
IsNodeOfCopy places p known first s node =
    (copy : ℕ) × IsCopyIn p known first s copy × (node ≡ place_of places copy)

-- The variables from this one on, in order, each with a node of which this holds.
abbrev pub ArePutsFrom : (Holds : ℕ → ℕ → Type 0) → ℕ → List Put → Type 0
ArePutsFrom Holds x [] = Unit {0}
ArePutsFrom Holds x (put ∷ puts) = (put.variable ≡ x) × Holds x put.node × ArePutsFrom Holds (suc x) puts

-- the node is one of the negative state of the edge that has this variable, where those of edges begin with `first`
abbrev pub IsPutOfEdge : (IsNode : ℕ → ℕ → Type 0) → List Flow → (first x node : ℕ) → Type 0
IsPutOfEdge IsNode edges first x node =
    (i : ℕ) × (edge : Flow) × (slice_get edges i ≡ Some edge) × (x ≡ first + i) × IsNode edge.negative.0 node

-- One variable for each edge, from this one on in order, with a node of its edge's negative state.
pub record ArePutsOfEdges (IsNode : ℕ → ℕ → Type 0) (edges : List Flow) (first : ℕ) (puts : List Put) : Type 0 where
  pub count : length puts ≡ length edges
  pub each : ArePutsFrom (IsPutOfEdge IsNode edges first) first puts

-- the node is the join of the nodes of these states
abbrev pub IsJoinOf : List Node → (place : ℕ → ℕ) → List ℕ → (node : ℕ) → Type 0
IsJoinOf book place states node = (node < length book) × IsTree book Positive (IsPlaceIn place states) node

-- The second book is the first and more nodes, in which the node is the join of the nodes of these states.
pub record AddsJoin (old new : List Node) (place : ℕ → ℕ) (states : List ℕ) (node : ℕ) : Type 0 where
  pub longer : IsLonger old new
  pub is_book : IsBook old → IsBook new
  pub closed : IsClosedBook old → IsClosedBook new
  pub join : IsJoinOf new place states node

-- As many variables, each with the join of the nodes of the states that show it.
pub record AreJoins (book : List Node) (place : ℕ → ℕ) (showing : BTreeMap ℕ (List ℕ)) (variables : ℕ)
    (puts : List Put) : Type 0 where
  pub count : length puts ≡ variables
  pub each : ArePutsFrom (λ x. IsJoinOf book place (shown_by showing x)) 0 puts

-- What is put in at a node for the type of a name of the environment, of which there is a copy at the node.
pub record ArePutsOfGlobal (book : List Node) (places : Places) (p : Posing) (node : ℕ) (global : GlobalAt)
    (puts : List Put) : Type 0 where
  pub first : ℕ
  pub copy : get nat_cmp p.copies node ≡ Some first
  pub joins : AreJoins book (λ s. place_of places (first + s)) global.showing global.variables puts

-- What is put in at a node for the type of the first part of let k, whose variables begin with this one, and of which
-- there is a copy at the node.
pub record ArePutsOfFirst (places : Places) (p : Posing) (lets : BTreeMap ℕ Scheme) (node k variable : ℕ)
    (puts : List Put) : Type 0 where
  pub known : Scheme
  pub is_known : get nat_cmp lets k ≡ Some known
  pub first : ℕ
  pub copy : get nat_cmp p.copies node ≡ Some first
  pub edges : ArePutsOfEdges (IsNodeOfCopy places p known first) known.automaton.flows variable puts

-- What is put in at a use of name g of the environment.
pub record PutsGlobal (book : List Node) (places : Places) (p : Posing) (globals : BTreeMap ℕ GlobalAt) (node g : ℕ)
    (puts : Option (List Put)) : Type 0 where
  pub own : List Put
  pub is : puts ≡ Some own
  pub global : GlobalAt
  pub known : get nat_cmp globals g ≡ Some global
  pub are : ArePutsOfGlobal book places p node global own

-- These variables are put in at the node for those of the first part of let k.
pub record PutsFirst (places : Places) (p : Posing) (lets : BTreeMap ℕ Scheme) (node k : ℕ) (part : FirstPart)
    (puts : Option (List Put)) : Type 0 where
  pub own : List Put
  pub is : puts ≡ Some own
  pub are : ArePutsOfFirst places p lets node k part.variable own

-- What is put in at a use of the name of let k.
pub record PutsInner (places : Places) (p : Posing) (firsts : BTreeMap ℕ FirstPart) (lets : BTreeMap ℕ Scheme)
    (node k : ℕ) (puts : Option (List Put)) : Type 0 where
  pub part : FirstPart
  pub known : get nat_cmp firsts k ≡ Some part
  pub first : PutsFirst places p lets node k part puts

-- What is put in at let k: nothing is asked where its first part needs no binders.
pub record PutsLet (places : Places) (p : Posing) (firsts : BTreeMap ℕ FirstPart) (lets : BTreeMap ℕ Scheme)
    (node k : ℕ) (puts : Option (List Put)) : Type 0 where
  pub part : FirstPart
  pub known : get nat_cmp firsts k ≡ Some part
  pub first : ((part.env ≡ []) × (puts ≡ None)) ⊎ PutsFirst places p lets node k part puts

-- What is put in at a node of this form: the variables of a name and of a let, and none at other nodes.
abbrev pub ArePutsAt : List Node → Places → Posing → BTreeMap ℕ GlobalAt → BTreeMap ℕ FirstPart → BTreeMap ℕ Scheme
    → (node : ℕ) → TermForm → Option (List Put) → Type 0
ArePutsAt book places p globals firsts lets node (form.Global g) puts = PutsGlobal book places p globals node g puts
ArePutsAt book places p globals firsts lets node (form.Inner k) puts = PutsInner places p firsts lets node k puts
ArePutsAt book places p globals firsts lets node (form.Let k j l) puts = PutsLet places p firsts lets node k puts
ArePutsAt book places p globals firsts lets node _ puts = puts ≡ None
