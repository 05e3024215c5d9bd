use Rattle.std.proofs.Common.{drop}
use Rattle.mls_deriv.specs.inner.Walks.{HavePassed}
use Rattle.mls_deriv.proofs.verify.verify_all.Given as goal

-- the sections so far are allowed
abbrev pub invariant-loop-i : goal.invariant-loop-i
invariant-loop-i l = HavePassed l.declared l.earlier.items l.count l.bindings (drop l.i l.bindings) l.sections (drop l.i l.sections)
