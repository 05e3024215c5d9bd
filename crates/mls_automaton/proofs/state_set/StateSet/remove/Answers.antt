use Rattle.std.proofs.Common.{sym}
use Rattle.mls_automaton.proofs.RisingSets.{rises-removed, members-removed, members-absent}
use Rattle.mls_automaton.proofs.state_set.StateSet.remove.Goals as goal

pub invariant_of-self : goal.invariant_of-self
invariant_of-self c =
    rises-removed c.self.inside.numbers.items c.deref.result.now c.args.s.0 c.deref.ensures c.self.invariant
    c.remove.new.self.items c.in-Ok.at c.remove.ensures.items c.in-Ok.ensures.position

pub returns-in-Ok-clause-members : goal.returns-in-Ok-clause-members
returns-in-Ok-clause-members c =
    members-removed c.self.inside.numbers.items c.deref.result.now c.args.s.0 c.deref.ensures c.self.invariant
    c.args.self.now c.remove.new.self.items c.in-Ok.at (sym c.self.view_is) c.remove.ensures.items c.in-Ok.ensures.position

pub returns-in-Ok-clause-rises : goal.returns-in-Ok-clause-rises
returns-in-Ok-clause-rises c = invariant_of-self c

pub returns-in-Err-clause-members : goal.returns-in-Err-clause-members
returns-in-Err-clause-members c =
    members-absent c.self.inside.numbers.items c.deref.result.now c.args.s.0 c.deref.ensures c.self.invariant
    c.args.self.now c.in-Err.field-0 (sym c.self.view_is) c.in-Err.ensures.position
