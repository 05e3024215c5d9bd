use Rattle.std.proofs.Common.{◌≡◌, ◌+◌, length, rules}
use Rattle.mls_automaton.proofs.BookSteps.{fields-next}
use Rattle.mls_automaton.proofs.scheme_book.fields_from.Goals as goal

pub loop-field-preserved : goal.loop-field-preserved
loop-field-preserved c =
    let number : c.in_ok-node.node ≡ c.loop-field.end + length c.field-item.result.set = search rules in
    fields-next c.args.next c.args.fields.now c.loop-field.field-index c.field-item.result c.loop-field.placed c.push.new.self c.in_ok-field_at.field-0 c.loop-field.end c.in_ok-node.node c.in_ok-end.end
    c.loop-field-test.true c.field-item.is c.loop-field.invariant.0 c.loop-field.invariant.1 number c.in_ok-field_at.ensures c.in_ok-push.ensures.ok c.in_ok-end.ensures
