use Rattle.std.proofs.Common.{◌≡◌, length}
use Rattle.mls_subsume.proofs.Exploring.{IsExploring}
use Rattle.mls_subsume.proofs.explore.explore.Given as goal

abbrev pub invariant-loop-next : goal.invariant-loop-next
invariant-loop-next l = (l.queue.states ≡ length l.general.automaton.states) × IsExploring l.general l.special l.queue.met l.next
