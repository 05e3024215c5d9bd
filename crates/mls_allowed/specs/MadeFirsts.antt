-- Types of first parts, as they become known one after another while a section is written.
use Rattle.std.specs.Prelude.{◌≡◌, ℕ, ◌<◌, ◌+◌, List, length, map, Some}
use Rattle.std.specs.BTreeMap.{BTreeMap, IsEmpty, Updates}
use Rattle.std.specs.Ordering.{nat_cmp}
use Rattle.mls_book.specs.declared.book.Node.{Node}
use Rattle.mls_book.specs.Books.{IsClosedBook}
use Rattle.mls_automaton.specs.declared.scheme.Scheme.{Scheme}
use Rattle.mls_automaton.specs.Automata.{Automaton}
use Rattle.mls_automaton.specs.Environments.{BindersRise}
use Rattle.mls_automaton.specs.Models.{IsClosed, IsDeterministic}
use Rattle.mls_automaton.specs.Schemes.{IsScheme}
use Rattle.mls_solver.specs.Relations.{IsGoal, IsRelated}
use Rattle.mls_solver.specs.Rooms.{Holds, HoldsJust, HoldsStates}
use Rattle.mls_solver.specs.Solved.{IsSolved}
use Rattle.mls_subsume.specs.declared.verdict.StatePair.{StatePair}
use Rattle.mls_subsume.specs.Verdicts.{DoesSubsume}
use Rattle.mls_term.specs.declared.term.TermForm.TheVariants as form
use Rattle.mls_term.specs.declared.term.TermNode.{TermNode}
use Rattle.mls_deriv.specs.Steps.{form_at}
use Rattle.mls_layout.specs.declared.layout.LaidOut.{LaidOut}
use Rattle.mls_layout.specs.declared.layout.Places.{Places}
use Rattle.mls_layout.specs.LaidOut.{place_of, IsTypeLaidOut, LaysOut}
use Rattle.mls_layout.specs.Walks.{AreMet}
use Rattle.mls_parts.specs.declared.binders.PartBinders.{PartBinders}
use Rattle.mls_parts.specs.declared.pose.KnownTypes.{KnownTypes}
use Rattle.mls_parts.specs.declared.pose.Posing.{Posing}
use Rattle.mls_parts.specs.declared.split.TermPart.{TermPart}
use Rattle.mls_parts.specs.PartBinders.{ArePartBinders}
use Rattle.mls_parts.specs.PartUses.{KnowTypes}
use Rattle.mls_parts.specs.PosedParts.{IsPartPosed}
use Rattle.mls_parts.specs.Posings.{binder_in, root_in}
use Rattle.mls_parts.specs.SolvedTypes.{HasBindersOf, solved_scheme}
use Rattle.mls_parts.specs.TermParts.{IsTermPart}
use Rattle.mls_parts.specs.declared.solve.Solution.{Solution}

-- binders with their states
abbrev pub around_states : Posing → List ℕ → List (ℕ × ℕ)
around_states p xs = map (λ x. (x, binder_in p x)) xs

-- the constraint of a part over the binders that it names, and what it is solved to, with the binders around the part
pub record IsPartSolved (nodes : List TermNode) (known : KnownTypes) (part : List ℕ) (p : Posing) (s : Solution)
    (around : List ℕ) : Type 0 where
  pub binders : PartBinders
  pub are_binders : ArePartBinders nodes known.lets part binders
  pub is_around : around ≡ binders.around
  pub posed : IsPartPosed nodes known.globals known.lets binders.all part p
  pub related : HoldsJust s.found (IsRelated p.automaton (IsGoal p.goals))
  pub states : HoldsStates p.automaton s.found
  pub solved : IsSolved p.automaton (Holds s.found) s.automaton
  pub closed : IsClosed s.automaton

-- A deterministic type with these binders and no others, which subsumes what the solved automaton gives the root and
-- these, as that subsumes it.
pub record IsFirstType (solved : Automaton) (root : ℕ) (binders : List (ℕ × ℕ)) (own : Scheme) : Type 0 where
  pub is : IsScheme own
  pub single : IsDeterministic own.automaton
  pub all : HasBindersOf (solved_scheme solved root binders) own
  pub same : HasBindersOf own (solved_scheme solved root binders)
  pub subsumes : DoesSubsume own (solved_scheme solved root binders)
  pub subsumed : DoesSubsume (solved_scheme solved root binders) own

-- The type of a first part is laid out behind the nodes of the first book, all its places are in the second, and its
-- variables, one for each edge, are numbered from `first` up to `next`.
pub record IsFirstLaid (old : List Node) (first : ℕ) (new : List Node) (next : ℕ) (type : Scheme) (places : Places) :
    Type 0 where
  pub closed : IsClosedBook old → IsClosedBook new
  pub inside : (s : ℕ) → place_of places s < length new
  pub layout : IsClosedBook old → IsTypeLaidOut old type.automaton first new (place_of places)
  pub variables : next ≡ first + length type.automaton.flows

-- the nodes of a part, laid out behind this book for the pairs that are met from the ends of its solved constraint and of
-- its type
pub record IsPartLaidOut (book : List Node) (p : Posing) (s : Solution) (root : ℕ) (around : List ℕ) (type : Scheme)
    (places : Places) (laid : LaidOut) : Type 0 where
  pub pairs : List StatePair
  pub met : AreMet (solved_scheme s.automaton root (around_states p around)) type pairs
  pub nodes : IsClosedBook book → LaysOut book p.automaton s.found pairs (place_of places) laid.book
      (place_of laid.places) laid.own laid.boolean laid.integer

-- The type that is known of a let was made of its first part, which has this root: the part has its constraint over the
-- binders that it names, which is solved; and the type is deterministic, has the binders around the part that it names
-- and no others, and subsumes what the solved constraint gives the part and these, as that subsumes it.
pub record IsFirstMade (nodes : List TermNode) (globals lets : BTreeMap ℕ Scheme) (r : ℕ) (own : Scheme) :
    Type 0 where
  pub part : TermPart
  pub is_part : IsTermPart nodes r part
  pub know : KnowTypes globals lets nodes part.nodes
  pub binders : PartBinders
  pub are_binders : ArePartBinders nodes lets part.nodes binders
  pub posing : Posing
  pub posed : IsPartPosed nodes globals lets binders.all part.nodes posing
  pub solved : Automaton
  pub is_solved : IsSolved posing.automaton (IsRelated posing.automaton (IsGoal posing.goals)) solved
  pub closed : IsClosed solved
  pub is : IsScheme own
  pub rise : BindersRise own.env
  pub single : IsDeterministic own.automaton
  pub all : HasBindersOf (solved_scheme solved (root_in posing r) (around_states posing binders.around)) own
  pub same : HasBindersOf own (solved_scheme solved (root_in posing r) (around_states posing binders.around))
  pub subsumes : DoesSubsume own (solved_scheme solved (root_in posing r) (around_states posing binders.around))
  pub subsumed : DoesSubsume (solved_scheme solved (root_in posing r) (around_states posing binders.around)) own

-- node r is the first part of no let
abbrev pub IsNoFirst : List TermNode → ℕ → Type 0
IsNoFirst nodes r = (i k l : ℕ) → form_at nodes i ≡ Some (form.Let k r l) → ⊥

-- the type of the first part with root r becomes known, which was made of it
pub record AddsFirst (nodes : List TermNode) (r : ℕ) (old new : KnownTypes) : Type 0 where
  pub node : ℕ
  pub number : ℕ
  pub second : ℕ
  pub is : form_at nodes node ≡ Some (form.Let number r second)
  pub scheme : Scheme
  pub made : IsFirstMade nodes old.globals old.lets r scheme
  pub updates : Updates nat_cmp old.lets new.lets number (Some scheme)
  pub globals : new.globals ≡ old.globals

-- What is known before node r: nothing of lets at first, and then the types of first parts, one root after another.
pub data AreAdded (nodes : List TermNode) : ℕ → KnownTypes → Type 0 where
  start : {known : KnownTypes} → IsEmpty known.lets → AreAdded nodes 0 known
  same : {r : ℕ} {known : KnownTypes} → AreAdded nodes r known → IsNoFirst nodes r → AreAdded nodes (r + 1) known
  more : {r : ℕ} {old new : KnownTypes} → AreAdded nodes r old → AddsFirst nodes r old new → AreAdded nodes (r + 1) new
