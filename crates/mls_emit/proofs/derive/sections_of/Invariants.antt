use Rattle.std.proofs.Common.{◌≡◌}
use Rattle.mls_emit.specs.declared.derive.Way.TheVariants.{Plain}
use Rattle.mls_emit.proofs.PlainSections.{HaveSections}
use Rattle.mls_emit.proofs.derive.sections_of.Given as goal

-- the sections so far
abbrev pub invariant-loop-k : goal.invariant-loop-k
invariant-loop-k l = HaveSections (l.way ≡ Plain) l.declared l.bindings l.entries l.k l.sections l.schemes
