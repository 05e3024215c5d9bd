use Rattle.std.proofs.Common.{◌∙◌, All, subst, sym}
use Rattle.mls_automaton.proofs.Refusals.{accepted}
use Rattle.mls_solver.specs.Relations.{IsGoal, IsRelated}
use Rattle.mls_solver.specs.Clashes.{HasNoClash}
use Rattle.mls_solver.specs.Rooms.{Holds, HoldsJust}
use Rattle.mls_solver.proofs.Answered.{on_ok, on_both}
use Rattle.mls_biunify.specs.Live.{IsLiveGoal, IsSolvedFor, Live}
use Rattle.mls_biunify.proofs.Lives.{relation_there, is_solved}
use Rattle.mls_biunify.proofs.live.Live.solve.Goals as goal

pub first_clash_of-requires : goal.first_clash_of-requires
first_clash_of-requires c =
    record {
      states = relation_there c.self.inside.table c.limit-limit.ensures.is c.args.goals.now (subst (λ (live : Live). All (IsLiveGoal live) c.args.goals.now) (sym c.self.view_is) c.requires.goals) c.relate.new.room
          (accepted c.relate.result (HoldsJust c.relate.new.room (IsRelated c.self.inside.table.automaton (IsGoal c.args.goals.now))) (sym c.is_err.ensures.value ∙ c.if-is_err.false) c.relate.ensures.relation) c.self.inside.is_ready;
    }

pub returns-clause-solved : goal.returns-clause-solved
returns-clause-solved c =
    on_ok c.refusal_of.result (HasNoClash c.self.inside.table.automaton (Holds c.relate.new.room)) (IsSolvedFor _ c.args.goals.now)
    (λ free. is_solved c.self.inside.table c.limit-limit.ensures.is c.args.goals.now (subst (λ (live : Live). All (IsLiveGoal live) c.args.goals.now) (sym c.self.view_is) c.requires.goals) c.relate.new.room
    (accepted c.relate.result (HoldsJust c.relate.new.room (IsRelated c.self.inside.table.automaton (IsGoal c.args.goals.now))) (sym c.is_err.ensures.value ∙ c.if-is_err.false) c.relate.ensures.relation) c.self.inside.is_ready free)
    (on_both c.refusal_of.result c.first_clash_of.result (HasNoClash c.self.inside.table.automaton (Holds c.relate.new.room)) c.refusal_of.ensures.ok c.first_clash_of.ensures.ok)
