use Rattle.std.proofs.Common.{ℕ, ◌<◌}
use Rattle.mls_automaton.specs.Automata.{head_at}
use Rattle.mls_print.specs.Printed.{HasNamedLabels}
use Rattle.mls_print.proofs.spelled.read_labels.Given as goal

abbrev pub invariant-loop-s : goal.invariant-loop-s
invariant-loop-s l = (i : ℕ) → i < l.s → HasNamedLabels (head_at l.automaton i).fields
