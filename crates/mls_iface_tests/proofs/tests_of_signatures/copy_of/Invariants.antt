use Rattle.std.proofs.Common.{◌≡◌, take}
use Rattle.mls_iface_tests.proofs.tests_of_signatures.copy_of.Given as goal

abbrev pub invariant-loop-byte : goal.invariant-loop-byte
invariant-loop-byte l = l.copy ≡ take l.byte-index l.bytes
