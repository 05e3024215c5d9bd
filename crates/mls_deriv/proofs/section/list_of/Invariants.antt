use Rattle.std.proofs.Common.{◌≡◌, take}
use Rattle.mls_deriv.proofs.section.list_of.Given as goal

-- the bytes so far
abbrev pub invariant-loop-byte : goal.invariant-loop-byte
invariant-loop-byte l = l.list ≡ take l.byte-index l.bytes
