use Rattle.mls_solver.specs.Relations.{IsGoal, IsRelated}
use Rattle.mls_solver.specs.Rooms.{HoldsJust}
use Rattle.mls_solver.proofs.Following.{goals_between, related_states}
use Rattle.mls_solver.proofs.Searching.{goals_alone, from_goals}
use Rattle.mls_solver.proofs.search.search.Goals as goal

pub close-requires-clause-states : goal.close-requires-clause-states
close-requires-clause-states c p n held =
    goals_between c.args.a.now c.args.goals.now c.requires.goals p n
    (goals_alone c.new-direct.result c.add_goals.new.found (IsGoal c.args.goals.now) c.new-direct.ensures c.in_ok-add_goals.ensures p n held)

pub returns-clause-relation : goal.returns-clause-relation
returns-clause-relation c =
    from_goals c.args.a.now c.new-direct.result c.add_goals.new.found c.in_ok-found.found (IsGoal c.args.goals.now) c.new-direct.ensures c.in_ok-add_goals.ensures c.in_ok-found.ensures

pub returns-clause-states : goal.returns-clause-states
returns-clause-states c p n held =
    let just : HoldsJust c.in_ok-found.found (IsRelated c.args.a.now (IsGoal c.args.goals.now)) =
    from_goals c.args.a.now c.new-direct.result c.add_goals.new.found c.in_ok-found.found (IsGoal c.args.goals.now) c.new-direct.ensures c.in_ok-add_goals.ensures c.in_ok-found.ensures in
    related_states c.args.a.now (IsGoal c.args.goals.now) c.requires.closed (goals_between c.args.a.now c.args.goals.now c.requires.goals) p n ((just p n).0 held)
