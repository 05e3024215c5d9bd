use Rattle.std.proofs.Common.{◌<◌, List, ℕ, All, length, sym, subst}
use Rattle.mls_solver.specs.Rooms.{Holds}
use Rattle.mls_solver.specs.steps.Solving.{AreMembers}
use Rattle.mls_solver.proofs.Members.{members-marked, members-low}
use Rattle.mls_solver.proofs.materialise.members.Goals as goal

pub returns-clause-members : goal.returns-clause-members
returns-clause-members c =
    subst (AreMembers c.args.a.now (Holds c.args.room.now) c.args.s.0) (sym c.in_ok-members.ensures)
    (members-marked c.args.a.now (Holds c.args.room.now) c.args.s.0 c.clear.new.self c.insert.new.self c.mark_reaching.new.marks c.clear.ensures.members c.insert.ensures c.mark_reaching.ensures)

pub returns-clause-in_range : goal.returns-clause-in_range
returns-clause-in_range c =
    subst (λ (xs : List ℕ). All (λ j. j < length c.args.a.now.states) xs) (sym c.in_ok-members.ensures)
    (members-low c.args.a.now (Holds c.args.room.now) c.requires.states c.args.s.0 c.requires.in_range c.mark_reaching.new.marks.members
    (members-marked c.args.a.now (Holds c.args.room.now) c.args.s.0 c.clear.new.self c.insert.new.self c.mark_reaching.new.marks c.clear.ensures.members c.insert.ensures c.mark_reaching.ensures))
