use Rattle.mls_deriv.proofs.Entries.{AreLess}
use Rattle.mls_deriv.proofs.steps.is_rising.Given as goal

-- the entries so far rise
abbrev pub invariant-loop-i : goal.invariant-loop-i
invariant-loop-i l = AreLess l.env l.i
