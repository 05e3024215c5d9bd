use Rattle.std.proofs.Common.{◌+◌, ◌-◌, length}
use Rattle.mls_automaton.specs.steps.Merging.{AreMerged}
use Rattle.mls_automaton.proofs.state_set.StateSet.union.Given as goal

abbrev pub invariant-loop-i : goal.invariant-loop-i
invariant-loop-i l = AreMerged l.first l.second l.i l.j l.both

abbrev pub decreases-loop-i : goal.decreases-loop-i
decreases-loop-i l = (length l.first + length l.second) - (l.i + l.j)
