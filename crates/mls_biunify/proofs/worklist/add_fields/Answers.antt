use Rattle.std.proofs.Common.{◌<◌, subst, sym}
use Rattle.mls_automaton.specs.declared.automaton.FieldSet.{FieldSet}
use Rattle.mls_solver.specs.steps.Growth.{Relates}
use Rattle.mls_solver.specs.steps.Consequences.{ByField}
use Rattle.mls_solver.proofs.Relating.{Relates-more, Relates-all}
use Rattle.mls_biunify.proofs.worklist.add_fields.Goals as goal

pub add_field-requires : goal.add_field-requires
add_field-requires c p n it =
    let in_range = c.requires p n (c.other-item.result, (c.loop-other.other-index, c.loop-other-test.true, sym c.other-item.is), it) in (
      subst (λ k. p < k) (sym c.loop-other.invariant.positives) in_range.0,
      subst (λ k. n < k) (sym c.loop-other.invariant.negatives) in_range.1,
    )

pub loop-other-preserved : goal.loop-other-preserved
loop-other-preserved c =
    Relates-more c.args.room.now c.loop-other.room c.add_field.new.room c.args.others.now c.loop-other.other-index c.other-item.result (ByField c.args.fields.now)
    c.loop-other-test.true c.loop-other.invariant
    (subst (λ (other : FieldSet). Relates c.loop-other.room c.add_field.new.room (ByField c.args.fields.now other)) c.other-item.is c.in_ok-add_field.ensures)

pub returns : goal.returns
returns c =
    Relates-all c.args.room.now c.loop-other.room c.args.others.now c.loop-other.other-index (ByField c.args.fields.now)
    c.loop-other-test.false c.loop-other.invariant
