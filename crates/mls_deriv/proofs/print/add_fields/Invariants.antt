use Rattle.std.proofs.Common.{◌≡◌, ◌++◌, drop}
use Rattle.std.specs.List.{flat_map}
use Rattle.mls_deriv.specs.Spellings.{field_words}
use Rattle.mls_deriv.proofs.print.add_fields.Given as goal

-- with what is left, the text is whole
abbrev pub invariant-loop-field : goal.invariant-loop-field
invariant-loop-field l = l.text.items ++ flat_map field_words (drop l.field-index l.fields) ≡ l.initial.text.items ++ flat_map field_words l.fields
