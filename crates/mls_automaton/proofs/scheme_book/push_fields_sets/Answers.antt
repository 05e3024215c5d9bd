use Rattle.mls_automaton.specs.steps.BookParts.{place_at}
use Rattle.mls_automaton.proofs.BookSteps.{fields_sets-next}
use Rattle.mls_automaton.proofs.scheme_book.push_fields_sets.Goals as goal

pub loop-field-preserved : goal.loop-field-preserved
loop-field-preserved c =
    fields_sets-next c.args.polarity (place_at c.args.first) c.args.book.now c.args.fields.now c.loop-field.field-index c.field-item.result c.loop-field.book c.push_set.new.book
    c.loop-field-test.true c.field-item.is c.loop-field.invariant c.in_ok-push_set.ensures
