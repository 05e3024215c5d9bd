-- The constraint of a part, posed whole.
use Rattle.std.specs.Prelude.{◌≡◌, ◌≢◌, ℕ, ◌<◌, List, [], length, take, get_or, map, All, Contains, IsSome}
use Rattle.std.specs.Prelude.{Option, Some, None}
use Rattle.std.specs.BTreeMap.{BTreeMap, get, Updates}
use Rattle.std.specs.List.{AllPairs}
use Rattle.std.specs.Ordering.{nat_cmp}
use Rattle.mls_automaton.specs.declared.automaton.Polarity.TheVariants.{Negative, Positive}
use Rattle.mls_automaton.specs.declared.scheme.EnvEntry.{EnvEntry}
use Rattle.mls_automaton.specs.declared.scheme.Scheme.{Scheme}
use Rattle.mls_automaton.specs.Automata.{empty_head, with_state, IsState}
use Rattle.mls_automaton.specs.Models.{IsClosed}
use Rattle.mls_automaton.specs.Schemes.{state_of}
use Rattle.mls_solver.specs.declared.goal.Goal.{Goal}
use Rattle.mls_solver.specs.Relations.{IsGoal, IsGoalOf}
use Rattle.mls_term.specs.declared.term.Part.{Part}
use Rattle.mls_term.specs.declared.term.TermForm.{TermForm}
use Rattle.mls_term.specs.declared.term.TermForm.TheVariants as form
use Rattle.mls_term.specs.declared.term.TermNode.{TermNode}
use Rattle.mls_term.specs.Derivations.{Known}
use Rattle.mls_book.specs.Predicates.{Predicate}
use Rattle.mls_typing.specs.Typed.{IsType}
use Rattle.mls_deriv.specs.Steps.{form_at}
use Rattle.mls_parts.specs.declared.pose.Posing.{Posing}
use Rattle.mls_parts.specs.NodeTypes.{IsConditional, IsNodeTyped}
use Rattle.mls_parts.specs.MetCopies.{AreSeparate, IsUseMet}
use Rattle.mls_parts.specs.PosedCopies.{Extends, IsGood, IsUsePosed}
use Rattle.mls_parts.specs.PosedGoals.{constraint_of, IsPosedAt}
use Rattle.mls_parts.specs.PosedModels.{AreOver, HasModel}
use Rattle.mls_layout.specs.PosedNodes.{HasPartsIn, IsNodePosed}
use Rattle.mls_parts.specs.Posings.{binder_in, known_in, negative, root_in, size}

-- The second constraint has a state for this binder more, with nothing.
pub record AddsBinder (p q : Posing) (x : ℕ) : Type 0 where
  pub automaton : q.automaton ≡ with_state p.automaton (negative empty_head)
  pub binders : Updates nat_cmp p.binders q.binders x (Some (size p))
  pub goals : q.goals ≡ p.goals
  pub needs : q.needs ≡ p.needs
  pub roots : q.roots ≡ p.roots
  pub copies : q.copies ≡ p.copies
  pub results : q.results ≡ p.results

-- A constraint with a negative state for each of these binders, and nothing else.
pub record IsBegun (binders : List ℕ) (p : Posing) : Type 0 where
  pub states : p.automaton.states ≡ map (λ x. negative empty_head) binders
  pub flows : p.automaton.flows ≡ []
  pub goals : p.goals ≡ []
  pub needs : p.needs ≡ []
  pub no_root : (i : ℕ) → get nat_cmp p.roots i ≡ None
  pub no_copy : (i : ℕ) → get nat_cmp p.copies i ≡ None
  pub no_result : (i : ℕ) → get nat_cmp p.results i ≡ None
  pub there : (x : ℕ) → Contains binders x → IsSome (get nat_cmp p.binders x)
  pub back : (x s : ℕ) → get nat_cmp p.binders x ≡ Some s
      → (s < length binders) × ((d : ℕ) → get_or binders s d ≡ x)

-- A type that is known of a name, whose binders are among these. No two of them have one state, and no head names the
-- state of a binder.
pub record IsKnownType (binders : List ℕ) (known : Scheme) : Type 0 where
  pub closed : IsClosed known.automaton
  pub root : IsState known.automaton Positive known.root.0
  pub states : (entry : EnvEntry) → Contains known.env entry → IsState known.automaton Negative entry.state.0
  pub around : (entry : EnvEntry) → Contains known.env entry → Contains binders entry.binder
  pub found : (entry : EnvEntry) → Contains known.env entry → state_of known.env entry.binder ≡ Some entry.state.0
  pub separate : AreSeparate known

abbrev pub HasKnownType : List ℕ → Option Scheme → Type 0
HasKnownType binders None = ⊥
HasKnownType binders (Some s) = IsKnownType binders s

-- what a node has to be to be posed: its binder is one of these, its name has a known type, and its labels differ
module _ (binders : List ℕ) (globals lets : BTreeMap ℕ Scheme) where
  abbrev pub IsPosable : TermForm → Type 0
  IsPosable (form.Bound x) = Contains binders x
  IsPosable (form.Inner k) = HasKnownType binders (known_in lets k)
  IsPosable (form.Global g) = HasKnownType binders (known_in globals g)
  IsPosable (form.Fun x j) = Contains binders x
  IsPosable (form.Make parts) = AllPairs (λ x y. x ≢ y) (map (λ (part : Part). part.label) parts)
  IsPosable (form.Let k j l) = HasKnownType binders (known_in lets k)
  IsPosable (form.Rec x j) = Contains binders x
  IsPosable _ = Unit {0}

-- Nodes of a term, each once and each behind its parts.
pub record IsPartList (nodes : List TermNode) (part : List ℕ) : Type 0 where
  pub in_range : All (λ i. i < length nodes) part
  pub once : AllPairs (λ i j. i ≢ j) part
  pub behind : (k : ℕ) (f : TermForm) → k < length part → form_at nodes (get_or part k 0) ≡ Some f
      → HasPartsIn (Contains (take k part)) f

-- These nodes are posed, and no other, over a constraint that has a state for each binder. Wherever their types are as
-- the nodes ask, a model of that goes on to all.
pub record HavePosed (nodes : List TermNode) (globals lets : BTreeMap ℕ Scheme) (begun p : Posing) (done : List ℕ) :
    Type 0 where
  pub extends : Extends begun p
  pub good : IsGood p
  pub rooted : (i : ℕ) → Contains done i → IsSome (get nat_cmp p.roots i)
  pub only : (i : ℕ) → IsSome (get nat_cmp p.roots i) → Contains done i
  pub parts : (i : ℕ) (f : TermForm) → Contains done i → form_at nodes i ≡ Some f
      → HasPartsIn (λ j. IsSome (get nat_cmp p.roots j)) f
  pub results : (i n : ℕ) → get nat_cmp p.results i ≡ Some n → Contains done i × IsConditional nodes i
  pub posed : (i : ℕ) (f : TermForm) → Contains done i → form_at nodes i ≡ Some f
      → IsNodePosed p.automaton (IsGoal p.goals) (root_in p) (binder_in p)
      (IsUsePosed (known_in globals) (known_in lets) p) i f
  pub posed_at : (i : ℕ) (f : TermForm) → Contains done i → form_at nodes i ≡ Some f
      → IsPosedAt (constraint_of p) p f i
  pub models : (known : Known) → AreOver known globals lets → (type binder : ℕ → Predicate)
      → ((i : ℕ) → IsType (type i))
      → ((i : ℕ) (f : TermForm) → Contains done i → form_at nodes i ≡ Some f → IsNodeTyped nodes known type binder i f)
      → HasModel begun type binder → HasModel p type binder

-- each node of the part may be posed
abbrev pub ArePosable : List ℕ → List TermNode → List ℕ → (globals lets : BTreeMap ℕ Scheme) → Type 0
ArePosable binders nodes part globals lets = (i : ℕ) (f : TermForm) → Contains part i → form_at nodes i ≡ Some f
    → IsPosable binders globals lets f

-- The constraint of a part: it is closed, its goals go from positive to negative states, each node of the part is posed
-- with copies of the types of its names, whose first states are noted, the states of its goals stand where its form
-- says, and wherever the types of nodes and binders are as the nodes ask, it has a model that gives them.
pub record IsPartPosed (nodes : List TermNode) (globals lets : BTreeMap ℕ Scheme) (binders part : List ℕ) (p : Posing) :
    Type 0 where
  pub closed : IsClosed p.automaton
  pub goals : (g : Goal) → Contains p.goals g → IsGoalOf p.automaton g
  pub roots : (i : ℕ) → Contains part i → IsState p.automaton Positive (root_in p i)
  pub around : (x : ℕ) → Contains binders x → IsState p.automaton Negative (binder_in p x)
  pub rooted : (i : ℕ) → Contains part i → get nat_cmp p.roots i ≡ Some (root_in p i)
  pub bound : (x : ℕ) → Contains binders x → get nat_cmp p.binders x ≡ Some (binder_in p x)
  pub posed : (i : ℕ) (f : TermForm) → Contains part i → form_at nodes i ≡ Some f
      → IsNodePosed p.automaton (IsGoal p.goals) (root_in p) (binder_in p)
      (IsUseMet (known_in globals) (known_in lets) p.automaton (root_in p) (binder_in p) p.copies) i f
  pub posed_at : (i : ℕ) (f : TermForm) → Contains part i → form_at nodes i ≡ Some f
      → IsPosedAt (constraint_of p) p f i
  pub models : (known : Known) → AreOver known globals lets → (type binder : ℕ → Predicate)
      → ((i : ℕ) → IsType (type i)) → ((x : ℕ) → Contains binders x → IsType (binder x))
      → ((i : ℕ) (f : TermForm) → Contains part i → form_at nodes i ≡ Some f → IsNodeTyped nodes known type binder i f)
      → HasModel p type binder
