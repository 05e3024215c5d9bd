-- One step of inference: the constraint of an expression over schemes of its parts, and what solves it. This is all
-- that inference asks of automata: how they are solved and read is not said here.
use Rattle.std.specs.Prelude.{◌≡◌, ◌↔◌, ℕ, List, [], ◌∷◌, Some, slice_get}
use Rattle.std.specs.FinMap as finmap
use Rattle.mls_book.specs.Predicates.{Predicate}
use Rattle.mls_book.specs.Schemes as book
use Rattle.mls_automaton.specs.declared.automaton.FieldSet.{FieldSet}
use Rattle.mls_automaton.specs.declared.scheme.Scheme.{Scheme}
use Rattle.mls_term.specs.Terms.{TermTree, bound, inner, global, number, truth, fun, apply, make, project, choice, fix}
use Rattle.mls_term.specs.Derivations.{Known}
use Rattle.mls_typing.specs.Typed.{Allows}
use Rattle.mls_infer.specs.Constraints.{Constraint, HasTypes, HasStates, no_goals, joined, int_head, bool_head}
use Rattle.mls_infer.specs.Constraints.{AreStatesOf, bound_constraint, literal_constraint, fun_constraint, IsApplied}
use Rattle.mls_infer.specs.Constraints.{AreFieldsOf, make_constraint, project_constraint, choice_constraint}
use Rattle.mls_infer.specs.Constraints.{fix_constraint}

-- the scheme over a book allows just the types that models of the automaton give
pub record IsReadAs (s : Scheme) (t : book.Scheme) : Type 0 where
  pub is : book.IsScheme t
  pub just : (types : ℕ → Predicate) (f : Predicate) → HasTypes (no_goals s) types f ↔ Allows t types f

-- the scheme has just the types of the constraint, without goals: it is the solved automaton, or one that is made of it
-- with the same types
pub record IsSolution (c : Constraint) (s : Scheme) : Type 0 where
  pub states : HasStates s
  pub just : (types : ℕ → Predicate) (f : Predicate) → HasTypes c types f ↔ HasTypes (no_goals s) types f

-- the goals clash: no model satisfies them
abbrev pub HasNoTypes : Constraint → Type 0
HasNoTypes c = (types : ℕ → Predicate) (f : Predicate) → HasTypes c types f → ⊥

-- The constraint of an expression that is no let, over schemes of its parts: for a known name a copy of its scheme, or
-- one that is read from it.
abbrev pub IsConstraintOf : Known → TermTree → List Scheme → Constraint → Type 0
IsConstraintOf known (inner at k) [] c = (s : Scheme) × (t : book.Scheme) × (finmap.get known.lets k ≡ Some t)
    × HasStates s × IsReadAs s t × (c ≡ no_goals s)
IsConstraintOf known (global at g) [] c = (s : Scheme) × (t : book.Scheme) × (slice_get known.globals g ≡ Some t)
    × HasStates s × IsReadAs s t × (c ≡ no_goals s)
IsConstraintOf known (bound at x) [] c = c ≡ bound_constraint x
IsConstraintOf known (number at value) [] c = c ≡ literal_constraint int_head
IsConstraintOf known (truth at value) [] c = c ≡ literal_constraint bool_head
IsConstraintOf known (fun at x e) (s ∷ []) c =
    (domain : List ℕ) × AreStatesOf x s domain × (c ≡ fun_constraint domain x s)
IsConstraintOf known (apply at e e') (s ∷ t ∷ []) c = IsApplied s t c
IsConstraintOf known (make at parts) ss c = (fields : List FieldSet) × AreFieldsOf parts (joined ss).roots fields
    × (c ≡ make_constraint fields ss)
IsConstraintOf known (project at e label) (s ∷ []) c = c ≡ project_constraint label s
IsConstraintOf known (choice at e e1 e2) (r ∷ s ∷ t ∷ []) c = c ≡ choice_constraint r s t
IsConstraintOf known (fix at x e) (s ∷ []) c = c ≡ fix_constraint x s
IsConstraintOf known _ ss c = ⊥
