use Rattle.std.proofs.Common.{length}
use Rattle.mls_infer.proofs.meets.+head_together.Given as goal

abbrev pub decreases-head_together : goal.decreases-head_together
decreases-head_together l = length l.entries.now
