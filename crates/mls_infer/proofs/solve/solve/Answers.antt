use Rattle.std.proofs.Common.{rules, ◌≡◌, List, [], subst}
use Rattle.mls_solver.specs.declared.goal.Goal.{Goal}
use Rattle.mls_infer.specs.Posed.{constraint_of}
use Rattle.mls_infer.specs.Solved.{ClashesFirst, IsClashWithout, IsSolvedFor, TellsFirstClash}
use Rattle.mls_infer.proofs.MergedKinds.{first_told}
use Rattle.mls_infer.proofs.NumberedBinders.{open_answer, open_solution, open_without_goals}
use Rattle.mls_infer.proofs.solve.solve.Goals as goal

pub returns-then-is_empty-clause-solution : goal.returns-then-is_empty-clause-solution
returns-then-is_empty-clause-solution c =
    let none : c.args.c.goals ≡ [] = search rules in
    open_without_goals (constraint_of c.args.c).scheme c.args.c.goals c.requires.states none

pub returns-in_err-automaton-clause-none : goal.returns-in_err-automaton-clause-none
returns-in_err-automaton-clause-none c =
    let e = c.in_err-automaton.field-0.0 in
    let first : ClashesFirst c.args.c.automaton c.args.c.goals e =
    subst (λ (goals : List Goal). ClashesFirst c.args.c.automaton goals e) c.as_slice.ensures c.in_err-automaton.ensures.err in
    let none : IsClashWithout (constraint_of c.args.c) e =
    open_answer (constraint_of c.args.c).scheme c.args.c.goals c.requires.states c.requires.goals e first in
    search rules

pub returns-in_err-automaton-clause-first : goal.returns-in_err-automaton-clause-first
returns-in_err-automaton-clause-first c =
    let e = c.in_err-automaton.field-0.0 in
    let first : ClashesFirst c.args.c.automaton c.args.c.goals e =
    subst (λ (goals : List Goal). ClashesFirst c.args.c.automaton goals e) c.as_slice.ensures c.in_err-automaton.ensures.err in
    let told : TellsFirstClash (constraint_of c.args.c) e =
    first_told c.args.c c.requires.states.automaton c.requires.goals e first in
    search rules

pub returns-clause-solution : goal.returns-clause-solution
returns-clause-solution c =
    let is : IsSolvedFor c.args.c.automaton c.args.c.goals c.in_ok-automaton.automaton =
    subst (λ (goals : List Goal). IsSolvedFor c.args.c.automaton goals c.in_ok-automaton.automaton) c.as_slice.ensures c.in_ok-automaton.ensures.ok in
    open_solution (constraint_of c.args.c).scheme c.args.c.goals c.requires.states c.requires.goals c.in_ok-automaton.automaton is
