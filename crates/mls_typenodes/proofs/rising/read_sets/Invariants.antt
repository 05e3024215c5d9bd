use Rattle.std.proofs.Common.{ℕ, ◌<◌}
use Rattle.mls_automaton.specs.Automata.{head_at}
use Rattle.mls_typenodes.specs.OneEach.{HasRisingSets}
use Rattle.mls_typenodes.proofs.rising.read_sets.Given as goal

abbrev pub invariant-loop-s : goal.invariant-loop-s
invariant-loop-s l = (i : ℕ) → i < l.s → HasRisingSets (head_at l.automaton i)
