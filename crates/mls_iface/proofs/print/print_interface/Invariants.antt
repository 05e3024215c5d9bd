use Rattle.std.proofs.Common.{◌≡◌, take}
use Rattle.mls_iface.specs.Signatures.{signature_text}
use Rattle.mls_iface.proofs.print.print_interface.Given as goal

-- the lines of the entries before this one
abbrev pub invariant-loop-entry : goal.invariant-loop-entry
invariant-loop-entry l = l.text.items ≡ signature_text (take l.entry-index l.signature.entries)
