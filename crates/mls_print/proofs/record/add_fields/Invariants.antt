use Rattle.std.proofs.Common.{◌≡◌, ℕ, List, take}
use Rattle.mls_automaton.specs.Heads.{set_at}
use Rattle.mls_print.specs.steps.Grouping.{grown}
use Rattle.mls_print.proofs.Grouped.{at}
use Rattle.mls_print.proofs.record.add_fields.Given as goal

abbrev pub invariant-loop-field : goal.invariant-loop-field
invariant-loop-field l = (label : List ℕ) → at l.groups label ≡ grown (set_at (take l.field-index l.fields) label) (at l.initial.groups label)
