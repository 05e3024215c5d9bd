use Rattle.std.proofs.Common.{◌≡◌, [], reverse}
use Rattle.mls_reader.specs.steps.GivenTwice.{doubles_in}
use Rattle.mls_reader.proofs.doubles.first_double.Given as goal

abbrev pub invariant-loop-event : goal.invariant-loop-event
invariant-loop-event l =
    (goal.iterator-loop-event).can_next l.event-iterator
    × (goal.iterator-loop-event).is_finite l.event-iterator
    × (doubles_in [] [] [] l.fn.events.items ≡ doubles_in l.given.imports l.given.bindings (reverse l.given.records.items) l.event-iterator.rest.items)
