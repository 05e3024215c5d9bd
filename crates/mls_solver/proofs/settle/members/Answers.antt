use Rattle.std.proofs.Common.{◌≡◌, ◌∷◌, [], refl, rules}
use Rattle.mls_automaton.specs.Automata.{polarity_at}
use Rattle.mls_solver.specs.Rooms.{Holds}
use Rattle.mls_solver.proofs.Members.{members-state}
use Rattle.mls_solver.proofs.Settling.{members-grown, members-same}
use Rattle.mls_solver.proofs.settle.members.Goals as goal

pub returns-clause-members : goal.returns-clause-members
returns-clause-members c =
    let one : c.push.new.self.items ≡ c.args.s.0 ∷ [] = search rules in
    members-same c.args.a.now (Holds c.args.found.now) c.args.s.0 c.add_reaching.new.members.items c.distinct.result.items c.distinct.ensures
    (members-grown c.args.a.now (Holds c.args.found.now) c.args.s.0 c.push.new.self.items c.add_reaching.new.members.items one c.in_ok-add_reaching.ensures)

pub returns-clause-states : goal.returns-clause-states
returns-clause-states c =
    let one : c.push.new.self.items ≡ c.args.s.0 ∷ [] = search rules in
    members-state c.args.a.now (Holds c.args.found.now) c.requires.states c.args.s.0 (polarity_at c.args.a.now c.args.s.0) refl c.requires.in_range c.distinct.result.items
    (members-same c.args.a.now (Holds c.args.found.now) c.args.s.0 c.add_reaching.new.members.items c.distinct.result.items c.distinct.ensures
    (members-grown c.args.a.now (Holds c.args.found.now) c.args.s.0 c.push.new.self.items c.add_reaching.new.members.items one c.in_ok-add_reaching.ensures))
