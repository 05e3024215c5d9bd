use Rattle.std.proofs.Common.{◌≡◌, ℕ, List, take}
use Rattle.mls_print.specs.steps.Grouping.{sets_at_label}
use Rattle.mls_print.proofs.Grouped.{at}
use Rattle.mls_print.proofs.record.grouped.Given as goal

abbrev pub invariant-loop-s : goal.invariant-loop-s
invariant-loop-s l = (label : List ℕ) → at l.groups label ≡ sets_at_label l.automaton label (take l.s-index l.set)
