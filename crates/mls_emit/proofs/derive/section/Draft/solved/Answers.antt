use Rattle.std.proofs.Common.{ℕ, List, refl, subst, sym}
use Rattle.std.specs.Prelude.{All}
use Rattle.std.proofs.lemmas.List.Elements.{Contains-get_or}
use Rattle.mls_solver.specs.declared.goal.Goal.{Goal}
use Rattle.mls_solver.specs.Relations.{IsGoal, IsGoalOf, IsRelated}
use Rattle.mls_solver.specs.Rooms.{HoldsJust}
use Rattle.mls_parts.specs.PosedParts.{ArePosable, IsPartPosed}
use Rattle.mls_parts.proofs.SplitParts.{posable}
use Rattle.mls_emit.proofs.derive.section.Draft.solved.Goals as goal

-- where the types of its names are known, the nodes of a part may be posed
pub pose_part-requires-clause-posable : goal.pose_part-requires-clause-posable
pose_part-requires-clause-posable c =
    subst (λ (xs : List ℕ). ArePosable xs c.args.nodes.now c.args.list.now c.args.self.now.known.globals c.args.self.now.known.lets) (sym c.as_slice.ensures)
    (posable c.args.nodes.now c.args.self.now.known.globals c.args.self.now.known.lets c.args.list.now c.in_ok-binders.binders c.in_ok-binders.ensures c.requires.known c.requires.labels)

-- the parts of what is answered
pub returns : goal.returns
returns c = record {
  binders = c.in_ok-binders.binders;
  are_binders = c.in_ok-binders.ensures;
  is_around = refl;
  posed = subst (λ (xs : List ℕ). IsPartPosed c.args.nodes.now c.args.self.now.known.globals c.args.self.now.known.lets xs c.args.list.now c.in_ok-posing.posing) c.as_slice.ensures c.in_ok-posing.ensures;
  related = subst (λ (goals : List Goal). HoldsJust c.in_ok-solution.solution.found (IsRelated c.in_ok-posing.posing.automaton (IsGoal goals))) c.as_slice-2.ensures c.in_ok-solution.ensures.related;
  states = c.in_ok-solution.ensures.states;
  solved = c.in_ok-solution.ensures.solved;
  closed = c.in_ok-solution.ensures.closed;
}

pub solution_of-requires-clause-goals : goal.solution_of-requires-clause-goals
solution_of-requires-clause-goals c =
    subst (All (IsGoalOf c.in_ok-posing.posing.automaton)) (sym c.as_slice-2.ensures)
    (λ k d low. c.in_ok-posing.ensures.goals _ (Contains-get_or c.in_ok-posing.posing.goals k d low))
