-- One step of inference: where the constraint of an expression is solved, the scheme that is read from the solution is best, and where it
-- has no model, the expression has no scheme.
--     constraint_row          the constraint has just the types of the row
--     solution_merged, solution_equivalent         other solutions
--     step_solves, step_unsolvable, let_solves     so a step is one of `Infers`
--     step_best, step_none, let_step               and what it says of the expression
use Rattle.std.proofs.Common.{◌≡◌, ◌↔◌, inl, inr, ℕ, false, List, [], ◌∷◌, sym, ◌∙◌, subst, Some}
use Rattle.std.specs.Prelude.{Option}
use Rattle.mls_book.specs.Predicates.{Predicate}
use Rattle.mls_book.specs.Schemes as book
use Rattle.mls_automaton.specs.declared.scheme.Scheme.{Scheme}
use Rattle.mls_term.specs.Terms.{TermTree, TermFields, bound, inner, global, number, truth, fun, apply, make, project, choice, local, fix, no_field, a_field}
use Rattle.mls_term.specs.Derivations.{Known, with_let, IsBest, HasNone}
use Rattle.mls_term.specs.WellFormed.{early_parts}
use Rattle.mls_term.specs.TypingLaws.{AreSchemes}
use Rattle.mls_typing.specs.Typed.{Allows, EachHas, OfBound, OfFun, OfApply, OfMake, OfProject, OfChoice, OfFix, OfLet}
use Rattle.mls_infer.specs.Constraints.{Constraint, HasTypes, HasStates, no_goals, int_head, bool_head, bound_constraint, literal_constraint, fun_constraint, apply_constraint, turned_constraint, make_constraint, project_constraint, choice_constraint, fix_constraint, let_constraint, IsMerged}
use Rattle.mls_typing.specs.Runs.{is_let, Row, Solves, IsUnsolvable}
use Rattle.mls_infer.specs.Steps.{IsReadAs, IsSolution, HasNoTypes, IsConstraintOf}
use Rattle.mls_typing.proofs.Rows.{both_ways, IsSame, fun_same, fix_same, apply_same, project_same, choice_same, let_same, make_same, AllBest, row_best, row_none, let_best}
use Rattle.mls_infer.proofs.ConstraintRows.{bound_row, number_row, truth_row, fun_row, fix_row, project_row}
use Rattle.mls_infer.proofs.SideBySide.{AllHaveStates}
use Rattle.mls_infer.proofs.JoinedRows.{apply_row, turned_row, choice_row, let_row}
use Rattle.mls_infer.proofs.MakeRow.{make_row}
use Rattle.mls_infer.proofs.Merging.{merged_row}
use Rattle.mls_typing.proofs.Instances.{Allows-equivalent}

-- each automaton is read as the scheme in its place
abbrev pub AllReadAs : List Scheme → List book.Scheme → Type 0
AllReadAs [] [] = Unit {0}
AllReadAs (s ∷ ss) (t ∷ ts) = IsReadAs s t × AllReadAs ss ts
AllReadAs _ _ = ⊥

other_way : {A B : Type 0} → A ↔ B → B ↔ A
other_way h = (h.1, h.0)

each_read : (parts : TermFields) (ss : List Scheme) (ts : List book.Scheme) → AllReadAs ss ts → (types : ℕ → Predicate) (fields : List ℕ → Option Predicate) → EachHas (λ s. HasTypes (no_goals s)) parts ss types fields ↔ EachHas Allows parts ts types fields
each_read no_field [] [] read types fields = (λ h. h, λ h. h)
each_read no_field [] (t ∷ ts) read types fields = absurd read
each_read no_field (s ∷ ss) [] read types fields = absurd read
each_read no_field (s ∷ ss) (t ∷ ts) read types fields = (λ h. absurd h, λ h. absurd h)
each_read (a_field label e rest) [] [] read types fields = (λ h. absurd h, λ h. absurd h)
each_read (a_field label e rest) [] (t ∷ ts) read types fields = absurd read
each_read (a_field label e rest) (s ∷ ss) [] read types fields = absurd read
each_read (a_field label e rest) (s ∷ ss) (t ∷ ts) read types fields =
    let later = each_read rest ss ts read.1 types fields in (
      λ h. ((h.0.0, h.0.1, (read.0.just types h.0.0).0 h.0.2), later.0 h.1),
      λ h. ((h.0.0, h.0.1, (read.0.just types h.0.0).1 h.0.2), later.1 h.1),
    )

same_constraint : (c d : Constraint) (Has : (ℕ → Predicate) → Predicate → Type 0) → c ≡ d → IsSame (HasTypes d) Has → IsSame (HasTypes c) Has
same_constraint c d Has is same = let P : Constraint → Type 0 = λ c. IsSame (HasTypes c) Has in subst P (sym is) same

-- a known name
module _ (A : book.Scheme → Type 0) where
  one_known : (o : Option book.Scheme) (s : book.Scheme) → o ≡ Some s → A s ↔ ((t : book.Scheme) × (o ≡ Some t) × A t)
  one_known o s is = (
    λ a. (s, is, a),
    λ h. let same : Some h.0 ≡ Some s = sym h.1 ∙ is in let same' : h.0 ≡ s = cc in subst A same' h.2,
  )

-- the constraint of an expression has just the types of its row
pub constraint_row : (known : Known) (t : TermTree) (ss : List Scheme) (ts : List book.Scheme) (c : Constraint) → AllHaveStates ss → AllReadAs ss ts → IsConstraintOf known t ss c → IsSame (HasTypes c) (Row known t ts)
constraint_row known (inner at k) [] [] c are read is =
    same_constraint c (no_goals is.0) (Row known (inner at k) []) is.5
    (λ types f. both_ways (is.4.just types f) (one_known (λ t. Allows t types f) _ is.1 is.2))
constraint_row known (global at g) [] [] c are read is =
    same_constraint c (no_goals is.0) (Row known (global at g) []) is.5
    (λ types f. both_ways (is.4.just types f) (one_known (λ t. Allows t types f) _ is.1 is.2))
constraint_row known (bound at x) [] [] c are read is = same_constraint c (bound_constraint x) (OfBound x) is (bound_row x)
constraint_row known (number at value) [] [] c are read is = same_constraint c (literal_constraint int_head) (Row known (number at value) []) is number_row
constraint_row known (truth at value) [] [] c are read is = same_constraint c (literal_constraint bool_head) (Row known (truth at value) []) is truth_row
constraint_row known (fun at x e) (s ∷ []) (t ∷ []) c are read is =
    same_constraint c (fun_constraint is.0 x s) (OfFun x (Allows t)) is.2
    (λ types f. both_ways (fun_row x s are.0 types f is.0 is.1) (fun_same x (HasTypes (no_goals s)) (Allows t) read.0.just types f))
constraint_row known (apply at e e') (s ∷ s' ∷ []) (t ∷ t' ∷ []) c are read is =
    elim is [
      | inl applied ↦ same_constraint c (apply_constraint s s') (OfApply (Allows t) (Allows t')) applied
          (λ types f. both_ways (apply_row s s' are.0 are.1.0 types f) (apply_same (HasTypes (no_goals s)) (Allows t) (HasTypes (no_goals s')) (Allows t') read.0.just read.1.0.just types f))
      | inr turned ↦ same_constraint c (turned_constraint s s') (OfApply (Allows t) (Allows t')) turned
          (λ types f. both_ways (turned_row s s' are.0 are.1.0 types f) (apply_same (HasTypes (no_goals s)) (Allows t) (HasTypes (no_goals s')) (Allows t') read.0.just read.1.0.just types f))
    ]
constraint_row known (make at parts) ss ts c are read is =
    same_constraint c (make_constraint is.0 ss) (OfMake parts (EachHas Allows parts ts)) is.2
    (λ types f. both_ways (make_row parts is.0 ss are is.1 types f) (make_same parts (EachHas (λ s. HasTypes (no_goals s)) parts ss) (EachHas Allows parts ts) (each_read parts ss ts read) types f))
constraint_row known (project at e label) (s ∷ []) (t ∷ []) c are read is =
    same_constraint c (project_constraint label s) (OfProject label (Allows t)) is
    (λ types f. both_ways (project_row label s are.0 types f) (project_same label (HasTypes (no_goals s)) (Allows t) read.0.just types f))
constraint_row known (choice at e e1 e2) (s ∷ s' ∷ s'' ∷ []) (t ∷ t' ∷ t'' ∷ []) c are read is =
    same_constraint c (choice_constraint s s' s'') (OfChoice (Allows t) (Allows t') (Allows t'')) is
    (λ types f.
    both_ways (choice_row s s' s'' are.0 are.1.0 are.1.1.0 types f)
    (choice_same (HasTypes (no_goals s)) (Allows t) (HasTypes (no_goals s')) (Allows t') (HasTypes (no_goals s'')) (Allows t'') read.0.just read.1.0.just read.1.1.0.just types f))
constraint_row known (fix at x e) (s ∷ []) (t ∷ []) c are read is =
    same_constraint c (fix_constraint x s) (OfFix x (Allows t)) is
    (λ types f. both_ways (fix_row x s are.0 types f) (fix_same x (HasTypes (no_goals s)) (Allows t) read.0.just types f))
-- a list of another length is none of its parts
constraint_row known (inner at k) [] (t ∷ ts) c are read is = absurd read
constraint_row known (inner at k) (s ∷ ss) ts c are read is = absurd is
constraint_row known (global at g) [] (t ∷ ts) c are read is = absurd read
constraint_row known (global at g) (s ∷ ss) ts c are read is = absurd is
constraint_row known (bound at x) [] (t ∷ ts) c are read is = absurd read
constraint_row known (bound at x) (s ∷ ss) ts c are read is = absurd is
constraint_row known (number at value) [] (t ∷ ts) c are read is = absurd read
constraint_row known (number at value) (s ∷ ss) ts c are read is = absurd is
constraint_row known (truth at value) [] (t ∷ ts) c are read is = absurd read
constraint_row known (truth at value) (s ∷ ss) ts c are read is = absurd is
constraint_row known (fun at x e) [] ts c are read is = absurd is
constraint_row known (fun at x e) (s ∷ []) [] c are read is = absurd read
constraint_row known (fun at x e) (s ∷ []) (t ∷ t' ∷ ts) c are read is = absurd read.1
constraint_row known (fun at x e) (s ∷ s' ∷ ss) ts c are read is = absurd is
constraint_row known (project at e label) [] ts c are read is = absurd is
constraint_row known (project at e label) (s ∷ []) [] c are read is = absurd read
constraint_row known (project at e label) (s ∷ []) (t ∷ t' ∷ ts) c are read is = absurd read.1
constraint_row known (project at e label) (s ∷ s' ∷ ss) ts c are read is = absurd is
constraint_row known (fix at x e) [] ts c are read is = absurd is
constraint_row known (fix at x e) (s ∷ []) [] c are read is = absurd read
constraint_row known (fix at x e) (s ∷ []) (t ∷ t' ∷ ts) c are read is = absurd read.1
constraint_row known (fix at x e) (s ∷ s' ∷ ss) ts c are read is = absurd is
constraint_row known (apply at e e') [] ts c are read is = absurd is
constraint_row known (apply at e e') (s ∷ []) ts c are read is = absurd is
constraint_row known (apply at e e') (s ∷ s' ∷ []) [] c are read is = absurd read
constraint_row known (apply at e e') (s ∷ s' ∷ []) (t ∷ []) c are read is = absurd read.1
constraint_row known (apply at e e') (s ∷ s' ∷ []) (t ∷ t' ∷ t'' ∷ ts) c are read is = absurd read.1.1
constraint_row known (apply at e e') (s ∷ s' ∷ s'' ∷ ss) ts c are read is = absurd is
constraint_row known (choice at e e1 e2) [] ts c are read is = absurd is
constraint_row known (choice at e e1 e2) (s ∷ []) ts c are read is = absurd is
constraint_row known (choice at e e1 e2) (s ∷ s' ∷ []) ts c are read is = absurd is
constraint_row known (choice at e e1 e2) (s ∷ s' ∷ s'' ∷ []) [] c are read is = absurd read
constraint_row known (choice at e e1 e2) (s ∷ s' ∷ s'' ∷ []) (t ∷ []) c are read is = absurd read.1
constraint_row known (choice at e e1 e2) (s ∷ s' ∷ s'' ∷ []) (t ∷ t' ∷ []) c are read is = absurd read.1.1
constraint_row known (choice at e e1 e2) (s ∷ s' ∷ s'' ∷ []) (t ∷ t' ∷ t'' ∷ u ∷ ts) c are read is = absurd read.1.1.1
constraint_row known (choice at e e1 e2) (s ∷ s' ∷ s'' ∷ u ∷ ss) ts c are read is = absurd is
constraint_row known (local at k e e') ss ts c are read is = absurd is

-- a solution of a constraint that has just these types, read, allows just these
module _ (c : Constraint) (Has : (ℕ → Predicate) → Predicate → Type 0) (same : IsSame (HasTypes c) Has) where
  pub solution_solves : (s : Scheme) (u : book.Scheme) → IsSolution c s → IsReadAs s u → Solves Has u
  solution_solves s u solution read = record {
    is = read.is;
    just = λ types f. both_ways (other_way (same types f)) (both_ways (solution.just types f) (read.just types f));
  }

  pub none_unsolvable : HasNoTypes c → IsUnsolvable Has
  none_unsolvable none types f h = none types f ((same types f).1 h)

-- a solution may be changed for one with the same types: with two states of a binder merged, or for one whose book is equivalent
pub solution_merged : (c : Constraint) (s t : Scheme) → IsSolution c s → HasStates t → IsMerged s t → IsSolution c t
solution_merged c s t solution states merged = record {
  states = states;
  just = λ types f. both_ways (solution.just types f) (merged_row s t solution.states merged types f);
}

pub solution_equivalent : (c : Constraint) (s t : Scheme) (b d : book.Scheme) → IsSolution c s → HasStates t → IsReadAs s b → IsReadAs t d → book.AreEquivalent b d → IsSolution c t
solution_equivalent c s t b d solution states read_s read_t same = record {
  states = states;
  just = λ types f. both_ways (solution.just types f) (both_ways (read_s.just types f) (both_ways (Allows-equivalent b d read_s.is read_t.is same types f) (other_way (read_t.just types f))));
}

module _ (known : Known) (t : TermTree) (ss : List Scheme) (ts : List book.Scheme) (c : Constraint) (are : AllHaveStates ss) (read : AllReadAs ss ts) (is : IsConstraintOf known t ss c) where
  pub step_solves : (s : Scheme) (u : book.Scheme) → IsSolution c s → IsReadAs s u → Solves (Row known t ts) u
  step_solves = solution_solves c (Row known t ts) (constraint_row known t ss ts c are read is)

  pub step_unsolvable : HasNoTypes c → IsUnsolvable (Row known t ts)
  step_unsolvable = none_unsolvable c (Row known t ts) (constraint_row known t ss ts c are read is)

  module _ (all : AreSchemes known) (n : ℕ) (plain : is_let t ≡ false) (best : AllBest known (early_parts n t) ts) where
    -- the solution is best
    pub step_best : (s : Scheme) (u : book.Scheme) → IsSolution c s → IsReadAs s u → IsBest known t u
    step_best s u solution read_as = row_best known all n t ts u plain best (step_solves s u solution read_as)

    -- where there is none, the expression has no scheme
    pub step_none : HasNoTypes c → HasNone known t
    step_none none = row_none known all n t ts plain best (step_unsolvable none)

-- a let
module _ (s s' : Scheme) (r r' : book.Scheme) (are : HasStates s) (are' : HasStates s') (read : IsReadAs s r) (read' : IsReadAs s' r') where
  pub let_solves : (w : Scheme) (u : book.Scheme) → IsSolution (let_constraint s s') w → IsReadAs w u → Solves (OfLet (Allows r) (Allows r')) u
  let_solves =
      solution_solves (let_constraint s s') (OfLet (Allows r) (Allows r'))
      (λ types f. both_ways (let_row s s' are are' types f) (let_same (HasTypes (no_goals s)) (Allows r) (HasTypes (no_goals s')) (Allows r') read.just read'.just types f))

  pub let_step : (known : Known) → AreSchemes known → (at k : ℕ) (e e' : TermTree) → IsBest known e r → IsBest (with_let known k r) e' r' → (w : Scheme) (u : book.Scheme) → IsSolution (let_constraint s s') w → IsReadAs w u → IsBest known (local at k e e') u
  let_step known all at k e e' best best' w u solution read_as = let_best known all at k e e' r r' u read.is best read'.is best' (let_solves w u solution read_as)
