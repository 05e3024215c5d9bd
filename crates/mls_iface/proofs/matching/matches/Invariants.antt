use Rattle.std.proofs.Common.{take}
use Rattle.mls_iface.specs.Matches.{Match}
use Rattle.mls_iface.proofs.matching.matches.Given as goal

-- the declarations before this one are matched
abbrev pub invariant-loop-val : goal.invariant-loop-val
invariant-loop-val l = Match l.signature.entries (take l.val-index l.interface.vals)
