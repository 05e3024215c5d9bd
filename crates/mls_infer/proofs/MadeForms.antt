-- The constraint of each form over schemes with the types of the parts has the types of the form over the table.
--     apply_same, project_same, choice_same, fix_same, fun_same, let_same, bound_same, number_same, truth_same
--     bound_field_same, bound_call_same
use Rattle.std.proofs.Common.{ℕ, List, [], ◌∷◌}
use Rattle.mls_automaton.specs.declared.scheme.EnvEntry.{EnvEntry}
use Rattle.mls_automaton.specs.declared.scheme.Scheme.{Scheme}
use Rattle.mls_automaton.specs.Automata.{Automaton}
use Rattle.mls_typing.specs.Typed.{OfApply, OfBound, OfChoice, OfFix, OfFun, OfLet, OfProject}
use Rattle.mls_infer.specs.Constraints.{AreStatesOf, HasStates, HasTypes, apply_constraint, bool_head, bound_constraint, bound_scheme, choice_constraint, fix_constraint, fun_constraint, id, int_head, let_constraint, literal_constraint, no_goals, project_constraint}
use Rattle.mls_infer.specs.Merges.{HaveSameTypes, over}
use Rattle.mls_infer.specs.Regions.{TablePart, part_over, part_types, scheme_at}
use Rattle.mls_infer.specs.TableRows.{IsApplicationAt, IsBoundAt, IsBoundCallAt, IsBoundFieldAt, IsChoiceAt, IsFunctionAt, IsLetAt, IsLiteralAt, IsProjectionAt, IsRecursionAt}
use Rattle.mls_infer.proofs.ClosedConstraints.{bound_closed}
use Rattle.mls_infer.proofs.ConstraintRows.{bound_row, fix_row, fun_row, number_row, project_row, truth_row}
use Rattle.mls_infer.proofs.JoinedRows.{apply_row, choice_row, let_row}
use Rattle.mls_infer.proofs.TableRows.{apply_in, bound_call_in, bound_field_in, bound_in, choice_in, fix_in, fun_in, let_in, number_in, project_in, truth_in}

-- the scheme has the types of the part in the table
pub record IsLike (a : Automaton) (part : TablePart) (s : Scheme) : Type 0 where
  pub states : HasStates s
  pub types : HaveSameTypes (no_goals s) (no_goals (scheme_at a part))

module _ (a : Automaton) (function argument : TablePart) (n p d : ℕ) (env : List EnvEntry) (is : IsApplicationAt a function argument n p d env) (s t : Scheme) (first : IsLike a function s) (second : IsLike a argument t) where
  pub apply_same : HaveSameTypes (apply_constraint s t) (over a env (id p) ((function.root.0, d) ∷ []))
  apply_same types f = (
    λ h.
        let it : OfApply (HasTypes (no_goals s)) (HasTypes (no_goals t)) types f = (apply_row s t first.states second.states types f).0 h in
        (apply_in a function argument n p d env is types f).1
        (record {
          domain = it.domain;
          codomain = it.codomain;
          domain_is = it.domain_is;
          codomain_is = it.codomain_is;
          function = (first.types types _).0 it.function;
          argument = (second.types types _).0 it.argument;
          below = it.below;
        }),
    λ h.
        let it : OfApply (part_types a function) (part_types a argument) types f = (apply_in a function argument n p d env is types f).0 h in
        (apply_row s t first.states second.states types f).1
        (record {
          domain = it.domain;
          codomain = it.codomain;
          domain_is = it.domain_is;
          codomain_is = it.codomain_is;
          function = (first.types types _).1 it.function;
          argument = (second.types types _).1 it.argument;
          below = it.below;
        }),
  )

module _ (a : Automaton) (body : TablePart) (label : List ℕ) (n p d : ℕ) (env : List EnvEntry) (is : IsProjectionAt a body label n p d env) (s : Scheme) (first : IsLike a body s) where
  pub project_same : HaveSameTypes (project_constraint label s) (over a env (id p) ((body.root.0, d) ∷ []))
  project_same types f = (
    λ h.
        let it : OfProject label (HasTypes (no_goals s)) types f = (project_row label s first.states types f).0 h in
        (project_in a body label n p d env is types f).1 (record { field = it.field; field_is = it.field_is; body = (first.types types _).0 it.body; below = it.below }),
    λ h.
        let it : OfProject label (part_types a body) types f = (project_in a body label n p d env is types f).0 h in
        (project_row label s first.states types f).1 (record { field = it.field; field_is = it.field_is; body = (first.types types _).1 it.body; below = it.below }),
  )

module _ (a : Automaton) (condition first second : TablePart) (n p d : ℕ) (env : List EnvEntry) (is : IsChoiceAt a condition first second n p d env) (r s t : Scheme)
    (like_r : IsLike a condition r) (like_s : IsLike a first s) (like_t : IsLike a second t) where
  pub choice_same : HaveSameTypes (choice_constraint r s t) (over a env (id p) ((condition.root.0, d) ∷ (first.root.0, n) ∷ (second.root.0, n) ∷ []))
  choice_same types f = (
    λ h.
        let it : OfChoice (HasTypes (no_goals r)) (HasTypes (no_goals s)) (HasTypes (no_goals t)) types f = (choice_row r s t like_r.states like_s.states like_t.states types f).0 h in
        (choice_in a condition first second n p d env is types f).1
        (record {
          branch = it.branch;
          branch_is = it.branch_is;
          condition = (like_r.types types _).0 it.condition;
          first = (like_s.types types _).0 it.first;
          second = (like_t.types types _).0 it.second;
          below = it.below;
        }),
    λ h.
        let it : OfChoice (part_types a condition) (part_types a first) (part_types a second) types f = (choice_in a condition first second n p d env is types f).0 h in
        (choice_row r s t like_r.states like_s.states like_t.states types f).1
        (record {
          branch = it.branch;
          branch_is = it.branch_is;
          condition = (like_r.types types _).1 it.condition;
          first = (like_s.types types _).1 it.first;
          second = (like_t.types types _).1 it.second;
          below = it.below;
        }),
  )

module _ (a : Automaton) (body : TablePart) (x : ℕ) (goals : List (ℕ × ℕ)) (env : List EnvEntry) (is : IsRecursionAt body x goals env) (s : Scheme) (first : IsLike a body s) where
  pub fix_same : HaveSameTypes (fix_constraint x s) (over a env body.root goals)
  fix_same types f = (
    λ h.
        let it : OfFix x (HasTypes (no_goals s)) types f = (fix_row x s first.states types f).0 h in
        (fix_in a body x goals env is types f).1 (record { body_type = it.body_type; is = it.is; body = (first.types _ _).0 it.body; below = it.below }),
    λ h.
        let it : OfFix x (part_types a body) types f = (fix_in a body x goals env is types f).0 h in
        (fix_row x s first.states types f).1 (record { body_type = it.body_type; is = it.is; body = (first.types _ _).1 it.body; below = it.below }),
  )

module _ (a : Automaton) (body : TablePart) (x r : ℕ) (domain : List ℕ) (env : List EnvEntry) (is : IsFunctionAt a body x r domain env) (s : Scheme) (first : IsLike a body s) (set : List ℕ) (are : AreStatesOf x s set) where
  pub fun_same : HaveSameTypes (fun_constraint set x s) (no_goals (part_over a env (id r)))
  fun_same types f = (
    λ h.
        let it : OfFun x (HasTypes (no_goals s)) types f = (fun_row x s first.states types f set are).0 h in
        (fun_in a body x r domain env is types f).1 (record { domain = it.domain; codomain = it.codomain; domain_is = it.domain_is; codomain_is = it.codomain_is; body = (first.types _ _).0 it.body; below = it.below }),
    λ h.
        let it : OfFun x (part_types a body) types f = (fun_in a body x r domain env is types f).0 h in
        (fun_row x s first.states types f set are).1 (record { domain = it.domain; codomain = it.codomain; domain_is = it.domain_is; codomain_is = it.codomain_is; body = (first.types _ _).1 it.body; below = it.below }),
  )

module _ (a : Automaton) (first second : TablePart) (env : List EnvEntry) (is : IsLetAt a first second env) (s t : Scheme) (like_s : IsLike a first s) (like_t : IsLike a second t) where
  pub let_same : HaveSameTypes (let_constraint s t) (no_goals (part_over a env second.root))
  let_same types f = (
    λ h.
        let it : OfLet (HasTypes (no_goals s)) (HasTypes (no_goals t)) types f = (let_row s t like_s.states like_t.states types f).0 h in
        (let_in a first second env is types f).1 (record { first = (like_s.types types _).0 it.first; second = (like_t.types types _).0 it.second }),
    λ h.
        let it : OfLet (part_types a first) (part_types a second) types f = (let_in a first second env is types f).0 h in
        (let_row s t like_s.states like_t.states types f).1 (record { first = (like_s.types types _).1 it.first; second = (like_t.types types _).1 it.second }),
  )

pub bound_same : (a : Automaton) (x n p : ℕ) (env : List EnvEntry) → IsBoundAt a x n p env → HaveSameTypes (bound_constraint x) (no_goals (part_over a env (id p)))
bound_same a x n p env is types f = (
  λ h. (bound_in a x n p env is types f).1 ((bound_row x types f).0 h),
  λ h. (bound_row x types f).1 ((bound_in a x n p env is types f).0 h),
)

module _ (a : Automaton) (x : ℕ) (label : List ℕ) (n p d : ℕ) (env : List EnvEntry) (is : IsBoundFieldAt a x label n p d env) where
  pub bound_field_same : HaveSameTypes (project_constraint label (bound_scheme x)) (no_goals (part_over a env (id p)))
  bound_field_same types f = (
    λ h.
        let it : OfProject label (HasTypes (bound_constraint x)) types f = (project_row label (bound_scheme x) (bound_closed x).states types f).0 h in
        (bound_field_in a x label n p d env is types f).1 (record { field = it.field; field_is = it.field_is; body = (bound_row x types _).0 it.body; below = it.below }),
    λ h.
        let it : OfProject label (OfBound x) types f = (bound_field_in a x label n p d env is types f).0 h in
        (project_row label (bound_scheme x) (bound_closed x).states types f).1 (record { field = it.field; field_is = it.field_is; body = (bound_row x types _).1 it.body; below = it.below }),
  )

module _ (a : Automaton) (argument : TablePart) (x n p d : ℕ) (env : List EnvEntry) (is : IsBoundCallAt a argument x n p d env) (t : Scheme) (second : IsLike a argument t) where
  pub bound_call_same : HaveSameTypes (apply_constraint (bound_scheme x) t) (no_goals (part_over a env (id p)))
  bound_call_same types f = (
    λ h.
        let it : OfApply (HasTypes (bound_constraint x)) (HasTypes (no_goals t)) types f = (apply_row (bound_scheme x) t (bound_closed x).states second.states types f).0 h in
        (bound_call_in a argument x n p d env is types f).1
        (record {
          domain = it.domain;
          codomain = it.codomain;
          domain_is = it.domain_is;
          codomain_is = it.codomain_is;
          function = (bound_row x types _).0 it.function;
          argument = (second.types types _).0 it.argument;
          below = it.below;
        }),
    λ h.
        let it : OfApply (OfBound x) (part_types a argument) types f = (bound_call_in a argument x n p d env is types f).0 h in
        (apply_row (bound_scheme x) t (bound_closed x).states second.states types f).1
        (record {
          domain = it.domain;
          codomain = it.codomain;
          domain_is = it.domain_is;
          codomain_is = it.codomain_is;
          function = (bound_row x types _).1 it.function;
          argument = (second.types types _).1 it.argument;
          below = it.below;
        }),
  )

pub number_same : (a : Automaton) (r : ℕ) (env : List EnvEntry) → IsLiteralAt a r int_head env → HaveSameTypes (literal_constraint int_head) (no_goals (part_over a env (id r)))
number_same a r env is types f = (
  λ h. (number_in a r env is types f).1 ((number_row types f).0 h),
  λ h. (number_row types f).1 ((number_in a r env is types f).0 h),
)

pub truth_same : (a : Automaton) (r : ℕ) (env : List EnvEntry) → IsLiteralAt a r bool_head env → HaveSameTypes (literal_constraint bool_head) (no_goals (part_over a env (id r)))
truth_same a r env is types f = (
  λ h. (truth_in a r env is types f).1 ((truth_row types f).0 h),
  λ h. (truth_row types f).1 ((truth_in a r env is types f).0 h),
)
