use Rattle.std.proofs.Common.{◌∙◌, ◌<◌, ◌≤◌, sym, arith, length, take}
use Rattle.mls_flow.proofs.Needed.{single-at}
use Rattle.mls_subsume.specs.steps.Targets.{field_targets}
use Rattle.mls_subsume.proofs.Following.{follows-fields, follows-longer}
use Rattle.mls_subsume.proofs.explore.meet_fields.Goals as goal

pub meet_field-requires-clause-from : goal.meet_field-requires-clause-from
meet_field-requires-clause-from c =
    let low : c.args.from < length c.args.queue.now.met = c.requires.from in
    let grown : length c.args.queue.now.met ≤ length c.loop-field.queue.met =
    follows-longer c.args.queue.now.met c.loop-field.queue.met c.args.from (field_targets (take c.loop-field.field-index c.args.fields.now) c.args.others.now) c.loop-field.invariant.1 in
    omega arith

pub meet_field-requires-clause-general : goal.meet_field-requires-clause-general
meet_field-requires-clause-general c = single-at c.args.fields.now c.requires.general c.loop-field.field-index c.field-item.result c.loop-field-test.true (sym c.field-item.is)

pub loop-field-preserved : goal.loop-field-preserved
loop-field-preserved c = (
  c.in_ok-meet_field.ensures.states ∙ c.loop-field.invariant.0,
  follows-fields c.args.queue.now.met c.loop-field.queue.met c.meet_field.new.queue.met c.args.from c.args.fields.now c.args.others.now c.loop-field.field-index c.field-item.result
      c.loop-field-test.true c.field-item.is c.loop-field.invariant.1 c.in_ok-meet_field.ensures.follows,
)
