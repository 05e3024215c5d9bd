use Rattle.std.proofs.Common.{take}
use Rattle.mls_parts.specs.Posings.{AddsCopy, size}
use Rattle.mls_parts.proofs.pose.Posing.push_copy.Given as goal

-- the copy, with the binders so far
abbrev pub invariant-loop-entry : goal.invariant-loop-entry
invariant-loop-entry l = AddsCopy l.fn.self l.self (size l.fn.self) l.known (take l.entry-index l.known.env)
