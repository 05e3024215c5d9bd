use Rattle.std.proofs.Common.{length}
use Rattle.mls_automaton.proofs.combine.+combined_head.Given as goal

abbrev pub decreases-combined_head : goal.decreases-combined_head
decreases-combined_head l = length l.members.now
