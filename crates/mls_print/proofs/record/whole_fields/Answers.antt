use Rattle.std.proofs.Common.{refl}
use Rattle.mls_print.specs.steps.Grouping.{fields_in}
use Rattle.mls_print.proofs.OneRecord.{wholes_more}
use Rattle.mls_print.proofs.record.whole_fields.Goals as goal

pub loop-field-preserved : goal.loop-field-preserved
loop-field-preserved c = wholes_more c.args.fields.now c.loop-field.field-index c.field-item.result (fields_in c.loop-field.joined) (fields_in c.push_whole.new.joined) c.loop-field-test.true c.field-item.is c.loop-field.invariant c.in_ok-push_whole.ensures
