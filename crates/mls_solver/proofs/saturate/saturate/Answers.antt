use Rattle.mls_solver.specs.Relations.{IsGoal, IsRelated}
use Rattle.mls_solver.specs.Rooms.{Holds}
use Rattle.mls_solver.proofs.Following.{goals_between, related_states}
use Rattle.mls_solver.proofs.FirstClashes.{answer-ok, answer-clash}
use Rattle.mls_solver.proofs.saturate.saturate.Goals as goal

pub first_clash-requires-clause-states : goal.first_clash-requires-clause-states
first_clash-requires-clause-states c p n held =
    let states = related_states c.args.a.now (IsGoal c.args.goals.now) c.requires.closed (goals_between c.args.a.now c.args.goals.now c.requires.goals) p n ((c.relate.ensures.relation p n).0 held) in
    (states.0.in_range, states.1.in_range)

pub returns-clause-states : goal.returns-clause-states
returns-clause-states c p n held =
    related_states c.args.a.now (IsGoal c.args.goals.now) c.requires.closed (goals_between c.args.a.now c.args.goals.now c.requires.goals) p n ((c.relate.ensures.relation p n).0 held)

pub returns-clause-ok : goal.returns-clause-ok
returns-clause-ok c =
    answer-ok c.args.a.now (Holds c.relate.new.room) (IsRelated c.args.a.now (IsGoal c.args.goals.now)) c.relate.ensures.relation c.first_clash.result c.first_clash.ensures.ok

pub returns-clause-clash : goal.returns-clause-clash
returns-clause-clash c =
    answer-clash c.args.a.now (Holds c.relate.new.room) (IsRelated c.args.a.now (IsGoal c.args.goals.now)) c.relate.ensures.relation c.first_clash.result c.first_clash.ensures.clash
