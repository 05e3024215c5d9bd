use Rattle.mls_modules.proofs.KnownTypes.{number_text, truth_text, pushed_five, operators_named, operators_mean}
use Rattle.mls_modules.proofs.types.operators.Goals as goal

pub type_of-requires : goal.type_of-requires
type_of-requires c = number_text

pub type_of-requires-4 : goal.type_of-requires-4
type_of-requires-4 c = truth_text

pub returns-clause-names : goal.returns-clause-names
returns-clause-names c =
    operators_named (record { schemes = c.push-5.new.self }) c.in_ok-type_of.field-0 c.in_ok-type_of-2.field-0 c.in_ok-type_of-3.field-0 c.in_ok-type_of-4.field-0 c.in_ok-type_of-5.field-0
    (pushed_five c.new-schemes.ensures c.in_ok-push.ensures.ok c.in_ok-push-2.ensures.ok c.in_ok-push-3.ensures.ok c.in_ok-push-4.ensures.ok c.in_ok-push-5.ensures.ok)
    c.in_ok-type_of.ensures c.in_ok-type_of-2.ensures c.in_ok-type_of-3.ensures c.in_ok-type_of-4.ensures c.in_ok-type_of-5.ensures

pub returns-clause-schemes : goal.returns-clause-schemes
returns-clause-schemes c =
    operators_mean (record { schemes = c.push-5.new.self }) c.in_ok-type_of.field-0 c.in_ok-type_of-2.field-0 c.in_ok-type_of-3.field-0 c.in_ok-type_of-4.field-0 c.in_ok-type_of-5.field-0
    (pushed_five c.new-schemes.ensures c.in_ok-push.ensures.ok c.in_ok-push-2.ensures.ok c.in_ok-push-3.ensures.ok c.in_ok-push-4.ensures.ok c.in_ok-push-5.ensures.ok)
    c.in_ok-type_of.ensures c.in_ok-type_of-2.ensures c.in_ok-type_of-3.ensures c.in_ok-type_of-4.ensures c.in_ok-type_of-5.ensures
