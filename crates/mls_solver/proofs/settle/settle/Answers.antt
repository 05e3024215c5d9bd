use Rattle.std.proofs.Common.{List, All, subst, sym}
use Rattle.mls_solver.specs.declared.settle.Change.{Change}
use Rattle.mls_solver.specs.Rooms.{Holds}
use Rattle.mls_solver.specs.steps.Settling.{AreMade, IsFitting}
use Rattle.mls_automaton.proofs.Lists.{All-contained}
use Rattle.mls_solver.proofs.Settling.{fitting-change, made-closed, made-solved}
use Rattle.mls_solver.proofs.settle.settle.Goals as goal

pub changes-requires-clause-in_range : goal.changes-requires-clause-in_range
changes-requires-clause-in_range c s it = c.in_ok-states.ensures.in_range s it

pub change_all-requires : goal.change_all-requires
change_all-requires c =
    subst (λ (cs : List Change). All (IsFitting c.args.a.now) cs) (sym c.as_slice.ensures)
    (All-contained (IsFitting c.args.a.now) c.in_ok-made.made (λ d it. fitting-change c.args.a.now (Holds c.args.found.now) c.requires.closed d (c.in_ok-made.ensures.changes d it)))

pub returns-clause-solved : goal.returns-clause-solved
returns-clause-solved c =
    made-solved c.args.a.now c.requires.closed (Holds c.args.found.now) c.requires.states c.in_ok-made.made c.in_ok-made.ensures.changes
    (λ s it. c.in_ok-made.ensures.all s (c.in_ok-states.ensures.all s it))
    c.change_all.new.a (subst (λ (cs : List Change). AreMade c.args.a.now cs c.change_all.new.a) c.as_slice.ensures c.in_ok-change_all.ensures)

pub returns-clause-closed : goal.returns-clause-closed
returns-clause-closed c =
    made-closed c.args.a.now c.requires.closed (Holds c.args.found.now) c.requires.states c.in_ok-made.made c.in_ok-made.ensures.changes
    (λ s it. c.in_ok-made.ensures.all s (c.in_ok-states.ensures.all s it))
    c.change_all.new.a (subst (λ (cs : List Change). AreMade c.args.a.now cs c.change_all.new.a) c.as_slice.ensures c.in_ok-change_all.ensures)
