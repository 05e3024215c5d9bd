use Rattle.mls_solver.specs.steps.Growth.{BySome}
use Rattle.mls_solver.specs.steps.Consequences.{ByField, ByRecords}
use Rattle.mls_solver.proofs.Relating.{Relates-same}
use Rattle.mls_solver.proofs.HeadRules.{by_records-to, by_records-from}
use Rattle.mls_solver.proofs.search.add_by_records.Goals as goal

pub returns-in-Some-lower : goal.returns-in-Some-lower
returns-in-Some-lower c =
    Relates-same c.args.found.now c.add_fields.new.found (BySome c.as_slice.result.now (ByField c.in-Some.fields)) (ByRecords c.args.upper.now c.args.lower.now) c.in_ok-add_fields.ensures
    (by_records-to c.args.upper.now c.args.lower.now c.in-Some.fields c.in-Some-lower.others c.as_slice.result.now c.in-Some.is c.in-Some-lower.is c.as_slice.ensures)
    (by_records-from c.args.upper.now c.args.lower.now c.in-Some.fields c.in-Some-lower.others c.as_slice.result.now c.in-Some.is c.in-Some-lower.is c.as_slice.ensures)
