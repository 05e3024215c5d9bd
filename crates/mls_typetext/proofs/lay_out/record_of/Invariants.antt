use Rattle.std.proofs.Common.{◌≡◌, ◌++◌}
use Rattle.mls_typetext.specs.steps.Laying.{in_order}
use Rattle.mls_typetext.proofs.lay_out.record_of.Given as goal

abbrev pub invariant-loop-field : goal.invariant-loop-field
invariant-loop-field l =
    (goal.iterator-loop-field).can_next l.field-iterator
    × (goal.iterator-loop-field).is_finite l.field-iterator
    × (l.all ++ l.field-iterator.rest.items ≡ in_order l.fn.fields.items)
