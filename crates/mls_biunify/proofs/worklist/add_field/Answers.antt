use Rattle.std.proofs.Common.{Contains}
use Rattle.mls_solver.specs.steps.Growth.{Relates}
use Rattle.mls_solver.specs.steps.Consequences.{ByField}
use Rattle.mls_solver.proofs.Answered.{on_ok}
use Rattle.mls_solver.proofs.Relating.{Relates-same}
use Rattle.mls_solver.proofs.HeadRules.{by_field-to, by_field-from}
use Rattle.mls_biunify.proofs.worklist.add_field.Goals as goal

pub add_sets-requires : goal.add_sets-requires
add_sets-requires c p n left right = c.requires p n (by_field-to c.args.fields.now c.args.other.now c.in-Some.set.now c.in-Some.ensures c.as_slice.result.now c.as_slice-in-Some.result.now c.as_slice.ensures.members c.as_slice-in-Some.ensures.members p n left right)

pub returns-in-Some : goal.returns-in-Some
returns-in-Some c =
    on_ok c.add_sets.result (Relates c.args.room.now c.add_sets.new.room (λ p n. Contains c.as_slice.result.now p × Contains c.as_slice-in-Some.result.now n)) (Relates c.args.room.now c.add_sets.new.room (ByField c.args.fields.now c.args.other.now))
    (λ it.
    Relates-same c.args.room.now c.add_sets.new.room (λ p n. Contains c.as_slice.result.now p × Contains c.as_slice-in-Some.result.now n) (ByField c.args.fields.now c.args.other.now) it
    (λ p n it. by_field-to c.args.fields.now c.args.other.now c.in-Some.set.now c.in-Some.ensures c.as_slice.result.now c.as_slice-in-Some.result.now c.as_slice.ensures.members c.as_slice-in-Some.ensures.members p n it.0 it.1)
    (by_field-from c.args.fields.now c.args.other.now c.in-Some.set.now c.in-Some.ensures c.as_slice.result.now c.as_slice-in-Some.result.now c.as_slice.ensures.members c.as_slice-in-Some.ensures.members))
    c.add_sets.ensures
