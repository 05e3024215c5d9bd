use Rattle.mls_solver.proofs.FirstKinds.{lacking_found}
use Rattle.mls_solver.proofs.clash.first_lacking.Goals as goal

pub returns-in-Some-fields : goal.returns-in-Some-fields
returns-in-Some-fields c =
    lacking_found c.args.upper.now.fields c.args.lower.now.fields c.in-Some.fields c.in-Some-fields.others c.as_slice.result.now c.in-Some.is c.in-Some-fields.is c.as_slice.ensures
    c.first_lacking_field.result c.first_lacking_field.ensures
