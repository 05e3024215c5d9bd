-- The first parts of lets, each with its solved constraint and the type that is known of the let's name.
use Rattle.std.specs.Prelude.{◌≡◌, ℕ, ◌+◌, ◌<◌, List, ◌∷◌, Contains, IsSome, Some}
use Rattle.std.specs.BTreeMap.{BTreeMap}
use Rattle.std.specs.FinMap as env
use Rattle.mls_book.specs.Schemes as book
use Rattle.mls_book.specs.Schemes.{Subsumes}
use Rattle.mls_automaton.specs.declared.scheme.EnvEntry.{EnvEntry}
use Rattle.mls_automaton.specs.declared.scheme.Scheme.{Scheme}
use Rattle.mls_automaton.specs.Automata.{Automaton}
use Rattle.mls_automaton.specs.Models.{IsClosed}
use Rattle.mls_automaton.specs.Schemes.{IsSchemeOf}
use Rattle.mls_solver.specs.Relations.{IsGoal, IsRelated}
use Rattle.mls_solver.specs.Solved.{IsSolved}
use Rattle.mls_term.specs.declared.term.TermNode.{TermNode}
use Rattle.mls_term.specs.declared.term.TermForm.TheVariants as form
use Rattle.mls_term.specs.Terms.{TermTree, TermFields, bound, inner, global, number, truth, fun, apply, make, project}
use Rattle.mls_term.specs.Terms.{choice, local, fix, no_field, a_field, before}
use Rattle.mls_term.specs.Derivations.{Known}
use Rattle.mls_deriv.specs.Steps.{form_at}
use Rattle.mls_layout.specs.PosedNodes.{IsNamed}
use Rattle.mls_parts.specs.declared.pose.Posing.{Posing}
use Rattle.mls_parts.specs.NodeTypes.{IsNodeOf, NeedsOnly}
use Rattle.mls_parts.specs.NumberedNodes.{IsPlaced}
use Rattle.mls_allowed.specs.PartTypes.{AreAround, solved_part}
use Rattle.mls_parts.specs.PartBinders.{NeedsBinder}
use Rattle.mls_parts.specs.PosedParts.{IsPartPosed}
use Rattle.mls_parts.specs.Posings.{known_in}
use Rattle.mls_allowed.specs.MadeFirsts.{IsFirstMade}

-- The part of this tree, whose first node has the number n, has its constraint, which is solved; the type subsumes what
-- it gives the part, and needs no binders but those around.
pub record HasFirstType (nodes : List TermNode) (globals lets : BTreeMap ℕ Scheme) (scope : List ℕ) (n : ℕ)
    (t : TermTree) (type : book.Scheme) : Type 0 where
  pub binders : List ℕ
  pub part : List ℕ
  pub posing : Posing
  pub posed : IsPartPosed nodes globals lets binders part posing
  pub root : Contains part (n + before t)
  pub inside : (i : ℕ) → Contains part i → IsNodeOf nodes (n + before t) i
  pub env : List EnvEntry
  pub around : AreAround posing binders scope env
  pub solved : Automaton
  pub is_solved : IsSolved posing.automaton (IsRelated posing.automaton (IsGoal posing.goals)) solved
  pub closed : IsClosed solved
  pub scheme : book.Scheme
  pub is_scheme : IsSchemeOf (solved_part posing (n + before t) env solved) scheme
  pub is : book.IsScheme type
  pub needs : NeedsOnly scope type
  pub subsumes : Subsumes type scheme

-- the binders around each let of a tree are in scope there
module _ (let_scope : ℕ → List ℕ) where
  abbrev mutual
    pub AreLetsIn : List ℕ → TermTree → Type 0
    AreLetsIn scope (bound at x) = Unit {0}
    AreLetsIn scope (inner at k) = Unit {0}
    AreLetsIn scope (global at g) = Unit {0}
    AreLetsIn scope (number at value) = Unit {0}
    AreLetsIn scope (truth at value) = Unit {0}
    AreLetsIn scope (fun at x e) = AreLetsIn (x ∷ scope) e
    AreLetsIn scope (apply at e f) = AreLetsIn scope e × AreLetsIn scope f
    AreLetsIn scope (make at fields) = AreFieldLetsIn scope fields
    AreLetsIn scope (project at e label) = AreLetsIn scope e
    AreLetsIn scope (choice at c e f) = AreLetsIn scope c × AreLetsIn scope e × AreLetsIn scope f
    AreLetsIn scope (local at k e f) = IsNamed let_scope scope k × AreLetsIn scope e × AreLetsIn scope f
    AreLetsIn scope (fix at x e) = AreLetsIn (x ∷ scope) e

    pub AreFieldLetsIn : List ℕ → TermFields → Type 0
    AreFieldLetsIn scope no_field = Unit {0}
    AreFieldLetsIn scope (a_field label e rest) = AreLetsIn scope e × AreFieldLetsIn scope rest

-- so is the first part of each let, where the binders around the let are in scope, and its type is known
abbrev pub HaveFirstTypes : List TermNode → Known → (globals lets : BTreeMap ℕ Scheme) → (let_scope : ℕ → List ℕ)
    → Type 0
HaveFirstTypes nodes known globals lets let_scope =
    (scope : List ℕ) (n at k : ℕ) (e f : TermTree) → IsPlaced nodes scope n (local at k e f) → IsNamed let_scope scope k
    → (type : book.Scheme) × (env.get known.lets k ≡ Some type) × HasFirstType nodes globals lets scope n e type

-- The types of the first parts before node r are known, and were made so; no other let has one. They need no binders
-- but those around their lets.
pub record AreFirstsMade (nodes : List TermNode) (globals lets : BTreeMap ℕ Scheme) (let_scope : ℕ → List ℕ) (r : ℕ) :
    Type 0 where
  pub made : (i k j l : ℕ) → form_at nodes i ≡ Some (form.Let k j l) → j < r
      → (own : Scheme) × (known_in lets k ≡ Some own) × IsFirstMade nodes globals lets j own
  pub only : (k : ℕ) → IsSome (known_in lets k)
      → (i j l : ℕ) × (form_at nodes i ≡ Some (form.Let k j l)) × (j < r)
  pub needs : (k x : ℕ) → NeedsBinder (known_in lets k) x → Contains (let_scope k) x

-- no two lets have one number
abbrev pub HaveOwnLets : List TermNode → Type 0
HaveOwnLets nodes = (i h k j l m o : ℕ) → form_at nodes i ≡ Some (form.Let k j l)
    → form_at nodes h ≡ Some (form.Let k m o) → i ≡ h

-- each known type of a let has a book
abbrev pub HaveBooks : Known → BTreeMap ℕ Scheme → Type 0
HaveBooks known lets = (k : ℕ) (s : Scheme) → known_in lets k ≡ Some s
    → (b : book.Scheme) × (env.get known.lets k ≡ Some b) × IsSchemeOf s b
