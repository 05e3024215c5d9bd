use Rattle.mls_flow.specs.Tables.{IsExactAt, IsExactInBooksAt}
use Rattle.mls_flow.proofs.Tabled.{all-known}
use Rattle.mls_flow.proofs.table.admissible.Goals as goal

pub returns-clause-admissible : goal.returns-clause-admissible
returns-clause-admissible c =
    all-known c.args.a.now (IsExactAt c.args.a.now c.in_ok-table.table) c.in_ok-table.table.known c.as_slice.result.now c.in_ok-pairs.pairs.items c.as_slice.ensures.value
    c.in_ok-table.ensures.known c.in_ok-pairs.ensures.all c.in_ok-table.ensures.admissible

pub returns-clause-below : goal.returns-clause-below
returns-clause-below c =
    all-known c.args.a.now (IsExactInBooksAt c.args.a.now c.in_ok-table.table) c.in_ok-table.table.known c.as_slice.result.now c.in_ok-pairs.pairs.items c.as_slice.ensures.value
    c.in_ok-table.ensures.known c.in_ok-pairs.ensures.all c.in_ok-table.ensures.below
