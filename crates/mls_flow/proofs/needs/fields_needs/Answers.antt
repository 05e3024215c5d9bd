use Rattle.std.proofs.Common.{sym}
use Rattle.mls_flow.proofs.Needed.{single-at}
use Rattle.mls_flow.proofs.needs.fields_needs.Goals as goal

pub field_need-requires-clause-upper : goal.field_need-requires-clause-upper
field_need-requires-clause-upper c = single-at c.args.others.now c.requires.upper c.loop-other.other-index c.other-item.result c.loop-other-test.true (sym c.other-item.is)
