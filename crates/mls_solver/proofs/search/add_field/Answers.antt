use Rattle.std.proofs.Common.{Contains}
use Rattle.mls_solver.specs.steps.Consequences.{ByField}
use Rattle.mls_solver.proofs.Relating.{Relates-same}
use Rattle.mls_solver.proofs.HeadRules.{by_field-to, by_field-from}
use Rattle.mls_solver.proofs.search.add_field.Goals as goal

pub returns-in-Some : goal.returns-in-Some
returns-in-Some c =
    Relates-same c.args.found.now c.add_sets.new.found (λ p n. Contains c.as_slice.result.now p × Contains c.as_slice-in-Some.result.now n) (ByField c.args.fields.now c.args.other.now) c.in_ok-add_sets.ensures
    (λ p n it. by_field-to c.args.fields.now c.args.other.now c.in-Some.set.now c.in-Some.ensures c.as_slice.result.now c.as_slice-in-Some.result.now c.as_slice.ensures.members c.as_slice-in-Some.ensures.members p n it.0 it.1)
    (by_field-from c.args.fields.now c.args.other.now c.in-Some.set.now c.in-Some.ensures c.as_slice.result.now c.as_slice-in-Some.result.now c.as_slice.ensures.members c.as_slice-in-Some.ensures.members)
