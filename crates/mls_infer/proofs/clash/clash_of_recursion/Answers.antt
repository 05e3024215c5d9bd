use Rattle.std.proofs.Common.{sym, subst}
use Rattle.mls_infer.specs.Constraints.{Constraint}
use Rattle.mls_infer.specs.Solved.{TellsFirstClash}
use Rattle.mls_infer.specs.Steps.{HasNoTypes}
use Rattle.mls_infer.proofs.SameTables.{same_table_own}
use Rattle.mls_infer.proofs.clash.clash_of_recursion.Goals as goal

pub told-requires-clause-none : goal.told-requires-clause-none
told-requires-clause-none c =
    let it = c.in-Ok.ensures.constraint in
    subst (λ (d : Constraint). HasNoTypes d) (sym it.2) (c.requires.none it.0 it.1)

pub returns-in-Ok : goal.returns-in-Ok
returns-in-Ok c =
    let it = c.in-Ok.ensures.constraint in
    (it.0, it.1, subst (λ (d : Constraint). TellsFirstClash d c.told.result) it.2 c.told.ensures)

pub returns-in-Err : goal.returns-in-Err
returns-in-Err c =
    let own = same_table_own c.args.live.now c.ready-is_live.ensures.live in
    (c.args.live.now.table, own, tt)
