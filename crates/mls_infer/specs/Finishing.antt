-- The loop over the nodes in postorder: what a node takes of the schemes of finished parts, and what it answers.
use Rattle.std.specs.Prelude.{◌≡◌, ◌≢◌, ℕ, suc, ◌+◌, ◌<◌, List, [], ◌∷◌, length, slice_get, All, Contains, cond}
use Rattle.std.specs.Prelude.{Option, Some, None}
use Rattle.std.specs.BTreeMap.{BTreeMap, get}
use Rattle.std.specs.Ordering.{nat_cmp, eq_by_cmp}
use Rattle.std.specs.List.{AllPairs}
use Rattle.mls_book.specs.Schemes as book
use Rattle.mls_automaton.specs.declared.scheme.Scheme.{Scheme}
use Rattle.mls_term.specs.declared.term.TermForm.{TermForm}
use Rattle.mls_term.specs.declared.term.TermForm.TheVariants as form
use Rattle.mls_term.specs.declared.term.TermNode.{TermNode}
use Rattle.mls_term.specs.Terms.{TermTree, TermFields, bound, inner, global, number, truth, fun, apply, make, project}
use Rattle.mls_term.specs.Terms.{choice, local, fix, no_field, a_field, before}
use Rattle.mls_term.specs.Derivations.{IsBest}
use Rattle.mls_term.specs.WellFormed.{IsFirstNone}
use Rattle.mls_typing.specs.InferenceLaws.{at_start}
use Rattle.mls_typetext.specs.declared.scheme.Names.{Names}
use Rattle.mls_infer.specs.declared.fault.InferFault.{InferFault}
use Rattle.mls_infer.specs.declared.fault.InferFault.TheVariants as fault
use Rattle.mls_infer.specs.declared.fault.SiteKind.{SiteKind}
use Rattle.mls_infer.specs.declared.solve.NoSolution.{NoSolution}
use Rattle.mls_infer.specs.declared.solve.NoSolution.TheVariants as no_solution
use Rattle.mls_infer.specs.Constraints.{Constraint, HasStates, no_goals}
use Rattle.mls_infer.specs.Merges.{AreAlike, HaveSameTypes}
use Rattle.mls_infer.specs.Finished.{Finished, Has, HasEach}
use Rattle.mls_infer.specs.Forms.{IsBuilt, IsPosed, children}
use Rattle.mls_infer.specs.Inference.{IsKindAt, schemes_in}
use Rattle.mls_infer.specs.Solved.{TellsFirstClash}
use Rattle.mls_infer.specs.Steps.{IsReadAs, IsSolution, HasNoTypes}

-- Schemes of the names that are in scope: those of the environment, and for each let the root of its first part.
pub record Scope : Type 0 where
  pub globals : List book.Scheme
  pub first_of : ℕ → Option ℕ

-- the constraint of a node over the schemes of its parts, or over others with the same types
pub record HasConstraint (node : TermForm) (done : Finished) (c : Constraint) : Type 0 where
  pub schemes : List Scheme
  pub each : HasEach done (children node) schemes
  pub taken : List Scheme
  pub alike : AreAlike schemes taken
  pub is : IsPosed node taken c

-- the schemes of the parts of a node are there, each under a number of its own
pub record HasParts (node : TermForm) (done : Finished) : Type 0 where
  pub schemes : List Scheme
  pub each : HasEach done (children node) schemes
  pub are : All HasStates schemes
  pub distinct : AllPairs (λ i j. i ≢ j) (children node)
  pub built : IsBuilt node

-- a node can be inferred
abbrev pub CanStep : Scope → TermForm → Finished → Type 0
CanStep scope (form.Inner k) done = (i : ℕ) × (s : Scheme) × (scope.first_of k ≡ Some i) × Has done i s × HasStates s
CanStep scope (form.Global g) done = g < length scope.globals
CanStep scope node done = HasParts node done

-- a node is a known name with this scheme
pub data IsNamed (scope : Scope) (node : TermForm) (done : Finished) (s : Scheme) : Type 0 where
  is_copied : (k i : ℕ) → node ≡ form.Inner k → scope.first_of k ≡ Some i → Has done i s → IsNamed scope node done s
  is_read : (g : ℕ) (t : book.Scheme) → node ≡ form.Global g → slice_get scope.globals g ≡ Some t → IsReadAs s t
      → IsNamed scope node done s

-- the scheme of a node: one with the types of a known name, or a solution of its constraint
pub data IsAnswer (scope : Scope) (node : TermForm) (done : Finished) (s : Scheme) : Type 0 where
  is_named : (t : Scheme) → IsNamed scope node done t → HaveSameTypes (no_goals t) (no_goals s) → IsAnswer scope node done s
  is_solved : (c : Constraint) → HasConstraint node done c → IsSolution c s → IsAnswer scope node done s

-- schemes that were taken are gone; each other one is there, or another one with the same types
pub record KeepsBut (gone : List ℕ) (old new : Finished) : Type 0 where
  pub size : length new ≡ length old
  pub kept : (j : ℕ) (s : Scheme) → (Contains gone j → ⊥) → Has old j s
      → (t : Scheme) × Has new j t × HaveSameTypes (no_goals s) (no_goals t)

-- the scheme of a node is added behind the others, and its parts alone may be gone
pub record IsStep (scope : Scope) (node : TermForm) (old new : Finished) (s : Scheme) : Type 0 where
  pub answer : IsAnswer scope node old s
  pub states : HasStates s
  pub longer : length new ≡ suc (length old)
  pub added : Has new (length old) s
  pub kept : (j : ℕ) → j < length old → (Contains (children node) j → ⊥) → slice_get new j ≡ slice_get old j

-- the constraint of a node has no types, and this is the kind of its first clash
pub record IsStop (node : TermForm) (done : Finished) (m : SiteKind) : Type 0 where
  pub constraint : Constraint
  pub is : HasConstraint node done constraint
  pub none : HasNoTypes constraint
  pub first : TellsFirstClash constraint (no_solution.Clash m)

-- Whatever schemes the steps answer, each node that is left can be inferred; where one stops, `Fails` holds of its
-- number and kind, and in the end `Ends` holds.
module _ (scope : Scope) (Fails : ℕ → SiteKind → Type 0) (Ends : Finished → Type 0) where
  abbrev pub GoesOn : List TermNode → Finished → Type 0
  GoesOn [] done = Ends done
  GoesOn (node ∷ rest) done =
      CanStep scope node.form done
      × ((m : SiteKind) → IsStop node.form done m → Fails (length done) m)
      × ((new : Finished) (s : Scheme) → IsStep scope node.form done new s → GoesOn rest new)

-- for each let of a tree, whose first node has the number n, the root of its first part is known
abbrev mutual
  pub HasFirsts : (ℕ → Option ℕ) → ℕ → TermTree → Type 0
  HasFirsts firsts n (bound at x) = Unit {0}
  HasFirsts firsts n (inner at k) = Unit {0}
  HasFirsts firsts n (global at g) = Unit {0}
  HasFirsts firsts n (number at value) = Unit {0}
  HasFirsts firsts n (truth at value) = Unit {0}
  HasFirsts firsts n (fun at x e) = HasFirsts firsts n e
  HasFirsts firsts n (apply at f a) = HasFirsts firsts n f × HasFirsts firsts (n + suc (before f)) a
  HasFirsts firsts n (make at fields) = HaveFirsts firsts n fields
  HasFirsts firsts n (project at e label) = HasFirsts firsts n e
  HasFirsts firsts n (choice at c e f) =
      HasFirsts firsts n c × HasFirsts firsts (n + suc (before c)) e
      × HasFirsts firsts (n + suc (before c) + suc (before e)) f
  HasFirsts firsts n (local at k e f) =
      (firsts k ≡ Some (n + before e)) × HasFirsts firsts n e × HasFirsts firsts (n + suc (before e)) f
  HasFirsts firsts n (fix at x e) = HasFirsts firsts n e

  pub HaveFirsts : (ℕ → Option ℕ) → ℕ → TermFields → Type 0
  HaveFirsts firsts n no_field = Unit {0}
  HaveFirsts firsts n (a_field label e rest) = HasFirsts firsts n e × HaveFirsts firsts (n + suc (before e)) rest

-- the root of the first part of the let with this number, by the last node that is such a let
abbrev pub first_at : TermForm → ℕ → Option ℕ
first_at (form.Let j first second) k = cond (eq_by_cmp nat_cmp k j) (Some first) None
first_at node k = None

abbrev pub or_earlier : Option ℕ → Option ℕ → Option ℕ
or_earlier None earlier = earlier
or_earlier (Some i) earlier = Some i

abbrev pub first_in : List TermNode → ℕ → Option ℕ
first_in [] k = None
first_in (node ∷ rest) k = or_earlier (first_in rest k) (first_at node.form k)

-- the same scheme, which needs nothing of any binder
abbrev pub without_env : Scheme → Scheme
without_env s = record { automaton = s.automaton; env = []; root = s.root }

-- The whole expression is inferred: the scheme of its root is there, and without its environment it is a most general
-- one.
pub record IsInferred (globals : List book.Scheme) (whole : TermTree) (done : Finished) : Type 0 where
  pub scheme : Scheme
  pub there : Has done (before whole) scheme
  pub is : HasStates scheme
  pub best : (u : book.Scheme) → IsReadAs (without_env scheme) u → IsBest (at_start globals) whole u

-- the loop goes on with these nodes of an expression
abbrev pub GoesOnIn : Scope → TermTree → List TermNode → Finished → Type 0
GoesOnIn scope whole =
    GoesOn scope (λ i m. IsFirstNone scope.globals whole i × IsKindAt scope.globals whole i m)
    (IsInferred scope.globals whole)

-- As the program keeps them.

-- the names of an environment, and the roots of the first parts of lets
abbrev pub scope_of : Names → BTreeMap ℕ ℕ → Scope
scope_of names firsts = record { globals = schemes_in names; first_of = get nat_cmp firsts }

-- this is the scheme of the name of this number
pub record IsRead (globals : List book.Scheme) (g : ℕ) (s : Scheme) : Type 0 where
  pub book : book.Scheme
  pub there : slice_get globals g ≡ Some book
  pub read : IsReadAs s book
  pub states : HasStates s

-- the scheme of a node is known, and it is not yet among the others
pub record IsAnswerBy (scope : Scope) (node : TermForm) (done : Finished) (s : Scheme) : Type 0 where
  pub answer : IsAnswer scope node done s
  pub states : HasStates s

-- solving stopped at a node
abbrev pub StopsAt : TermForm → Finished → NoSolution → Type 0
StopsAt node done (no_solution.Clash m) = IsStop node done m
StopsAt node done no_solution.Memory = Unit {0}

-- a fault of the whole expression: its first node that has no scheme
abbrev pub FailsIn : List book.Scheme → TermTree → InferFault → Type 0
FailsIn globals whole (fault.NoScheme site) = IsFirstNone globals whole site.node
FailsIn globals whole fault.Memory = Unit {0}

-- and the kind of this node
abbrev pub HasKindIn : List book.Scheme → TermTree → InferFault → Type 0
HasKindIn globals whole (fault.NoScheme site) = IsKindAt globals whole site.node site.kind
HasKindIn globals whole fault.Memory = Unit {0}
