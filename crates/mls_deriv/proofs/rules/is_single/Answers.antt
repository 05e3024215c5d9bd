use Rattle.mls_deriv.proofs.CheckedRules.{single_field}
use Rattle.mls_deriv.proofs.rules.is_single.Goals as goal

pub returns-then-eq : goal.returns-then-eq
returns-then-eq c = single_field c.args.fields.now c.args.label.now c.args.node c.index-fields-0.result c.eq-then-eq.result c.if-fields-ne1.false c.index-fields-0.is c.if-eq.ensures c.eq-then-eq.ensures
