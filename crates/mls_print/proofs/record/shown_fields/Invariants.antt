use Rattle.std.proofs.Common.{◌≡◌, ◌++◌}
use Rattle.mls_print.specs.steps.Grouping.{fields_in, entry_fields}
use Rattle.mls_print.proofs.record.shown_fields.Given as goal

abbrev pub invariant-loop-label : goal.invariant-loop-label
invariant-loop-label l = fields_in l.fields ++ entry_fields l.polarity l.records l.label-iterator ≡ entry_fields l.polarity l.records l.groups.entries
