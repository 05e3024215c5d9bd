use Rattle.std.proofs.Common.{◌≡◌, take}
use Rattle.mls_emit.proofs.derive.copied_bytes.Given as goal

-- the bytes so far
abbrev pub invariant-loop-byte : goal.invariant-loop-byte
invariant-loop-byte l = l.copy ≡ take l.byte-index l.bytes
