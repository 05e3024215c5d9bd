use Rattle.mls_infer.specs.Posed.{constraint_of, scheme_in}
use Rattle.mls_infer.proofs.SameTables.{has_solution}
use Rattle.mls_infer.proofs.clash.told.Goals as goal

pub unreachable-requires : goal.unreachable-requires
unreachable-requires c = has_solution (constraint_of c.args.constraints) (scheme_in c.in-Ok.field-0) c.in-Ok.ensures.solution c.requires.none
