use Rattle.std.proofs.Common.{sym}
use Rattle.std.specs.Prelude.{Err, Ok}
use Rattle.mls_automaton.proofs.RisingSets.{cut, members-taken}
use Rattle.mls_automaton.proofs.state_set.StateSet.truncate.Goals as goal

pub returns-in-Ok-clause-members : goal.returns-in-Ok-clause-members
returns-in-Ok-clause-members c =
    members-taken c.self.inside.numbers.items c.args.self.now c.truncate.new.self.items c.args.states c.in-Ok.at (sym c.self.view_is) c.truncate.ensures.items
    (cut c.self.inside.numbers.items c.deref.result.now c.args.states (Ok c.in-Ok.at) c.deref.ensures c.self.invariant c.in-Ok.ensures.position)

pub returns-in-Err-clause-members : goal.returns-in-Err-clause-members
returns-in-Err-clause-members c =
    members-taken c.self.inside.numbers.items c.args.self.now c.truncate-in-Err.new.self.items c.args.states c.in-Err.at (sym c.self.view_is) c.truncate-in-Err.ensures.items
    (cut c.self.inside.numbers.items c.deref.result.now c.args.states (Err c.in-Err.at) c.deref.ensures c.self.invariant c.in-Err.ensures.position)
