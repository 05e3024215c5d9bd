use Rattle.std.proofs.Common.{◌+◌, length}
use Rattle.mls_automaton.specs.steps.Combining.{IsLeft}
use Rattle.mls_automaton.proofs.combine.merge_fields.Given as goal

abbrev pub invariant-loop-other : goal.invariant-loop-other
invariant-loop-other l = IsLeft l.polarity l.fn.first l.fn.second l.one.items l.other.items l.both

abbrev pub decreases-loop-other : goal.decreases-loop-other
decreases-loop-other l = length l.one.items + length l.other.items
