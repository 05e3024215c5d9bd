use Rattle.mls_solver.specs.steps.Growth.{BySome}
use Rattle.mls_solver.specs.steps.Consequences.{ByField, ByRecords}
use Rattle.mls_solver.proofs.Relating.{Relates-same}
use Rattle.mls_solver.proofs.HeadRules.{by_records-to, by_records-from}
use Rattle.mls_solver.proofs.saturate.add_by_records.Goals as goal

pub add_fields-requires : goal.add_fields-requires
add_fields-requires c p n it = c.requires p n (by_records-to c.args.upper.now c.args.lower.now c.in-Some.fields c.in-Some-lower.others c.as_slice.result.now c.in-Some.is c.in-Some-lower.is c.as_slice.ensures p n it)

pub returns-in-Some-lower : goal.returns-in-Some-lower
returns-in-Some-lower c =
    Relates-same c.args.room.now c.add_fields.new.room (BySome c.as_slice.result.now (ByField c.in-Some.fields)) (ByRecords c.args.upper.now c.args.lower.now) c.add_fields.ensures
    (by_records-to c.args.upper.now c.args.lower.now c.in-Some.fields c.in-Some-lower.others c.as_slice.result.now c.in-Some.is c.in-Some-lower.is c.as_slice.ensures)
    (by_records-from c.args.upper.now c.args.lower.now c.in-Some.fields c.in-Some-lower.others c.as_slice.result.now c.in-Some.is c.in-Some-lower.is c.as_slice.ensures)
