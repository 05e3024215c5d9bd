use Rattle.std.proofs.Common.{sym}
use Rattle.mls_automaton.proofs.RisingSets.{rises-inserted, members-inserted}
use Rattle.mls_automaton.proofs.state_set.StateSet.insert.Goals as goal

pub invariant_of-self-in-Err : goal.invariant_of-self-in-Err
invariant_of-self-in-Err c =
    rises-inserted c.self.inside.numbers.items c.deref.result.now c.args.s.0 c.deref.ensures c.self.invariant
    c.insert.new.self.items c.in-Err.at c.in_ok-insert-in-Err.ensures.ok c.in-Err.ensures.position

pub returns-in_ok-insert-in-Err-clause-ok : goal.returns-in_ok-insert-in-Err-clause-ok
returns-in_ok-insert-in-Err-clause-ok c =
    members-inserted c.self.inside.numbers.items c.args.self.now c.insert.new.self.items c.args.s.0 c.in-Err.at (sym c.self.view_is) c.in_ok-insert-in-Err.ensures.ok

pub returns-in_ok-insert-in-Err-clause-rises : goal.returns-in_ok-insert-in-Err-clause-rises
returns-in_ok-insert-in-Err-clause-rises c = invariant_of-self-in-Err c
