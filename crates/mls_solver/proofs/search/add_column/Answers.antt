use Rattle.mls_solver.proofs.Searching.{column_to}
use Rattle.mls_solver.proofs.search.add_column.Goals as goal

pub returns : goal.returns
returns c =
    column_to c.args.found.now c.relate_all_to.new.found c.args.from c.args.to c.above.result.now c.in_ok-positives.positives.items c.as_slice.result.now
    c.above.ensures c.in_ok-positives.ensures c.as_slice.ensures.value c.in_ok-relate_all_to.ensures
