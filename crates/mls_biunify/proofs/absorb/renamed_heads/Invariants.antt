use Rattle.mls_biunify.specs.steps.Absorbing.{AreRenamedHeads}
use Rattle.mls_biunify.proofs.absorb.renamed_heads.Given as goal

-- the heads of the first states
abbrev pub invariant-loop-i : goal.invariant-loop-i
invariant-loop-i l = AreRenamedHeads l.a l.numbers l.i l.heads.items
