use Rattle.std.proofs.Common.{◌<◌, take, All}
use Rattle.mls_shape.proofs.partition.bound_of.Given as goal

abbrev pub invariant-loop-block : goal.invariant-loop-block
invariant-loop-block l = All (λ b. b < l.count) (take l.block-index l.blocks)
