use Rattle.std.proofs.Common.{take}
use Rattle.mls_lines.specs.Puts.{AreByState}
use Rattle.mls_lines.proofs.puts.binders_by_state.Given as goal

-- the binders of the entries so far
abbrev pub invariant-loop-entry : goal.invariant-loop-entry
invariant-loop-entry l = AreByState (take l.entry-index l.scheme.env) l.binders
