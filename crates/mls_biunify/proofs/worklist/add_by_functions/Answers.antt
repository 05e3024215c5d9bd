use Rattle.std.proofs.Common.{Some, Option, OnOk, subst, sym}
use Rattle.mls_automaton.specs.declared.automaton.Arms.{Arms}
use Rattle.mls_solver.specs.steps.Growth.{Relates}
use Rattle.mls_solver.specs.steps.Consequences.{ByFunctions}
use Rattle.mls_biunify.proofs.worklist.add_by_functions.Goals as goal

pub add_by_arms-requires : goal.add_by_arms-requires
add_by_arms-requires c p n by =
    c.requires p n
    (subst (λ (o : Option Arms). ByFunctions o c.args.lower.now p n) (sym c.in-Some.is) (subst (λ (o : Option Arms). ByFunctions (Some c.in-Some.arms) o p n) (sym c.in-Some-lower.is) by))

pub returns-in-Some-lower : goal.returns-in-Some-lower
returns-in-Some-lower c =
    subst (λ (o : Option Arms). OnOk c.add_by_arms.result (Relates c.args.room.now c.add_by_arms.new.room (ByFunctions o c.args.lower.now))) (sym c.in-Some.is)
    (subst (λ (o : Option Arms). OnOk c.add_by_arms.result (Relates c.args.room.now c.add_by_arms.new.room (ByFunctions (Some c.in-Some.arms) o))) (sym c.in-Some-lower.is) c.add_by_arms.ensures)
