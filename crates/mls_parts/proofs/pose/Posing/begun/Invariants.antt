use Rattle.std.proofs.Common.{take}
use Rattle.mls_parts.specs.PosedParts.{IsBegun}
use Rattle.mls_parts.proofs.pose.Posing.begun.Given as goal

-- the binders so far
abbrev pub invariant-loop-binder : goal.invariant-loop-binder
invariant-loop-binder l = IsBegun (take l.binder-index l.binders) l.posing
