use Rattle.std.proofs.Common.{◌≡◌, length}
use Rattle.mls_scheme.specs.steps.Uses.{AreUsesTo}
use Rattle.mls_scheme.proofs.uses.uses_of.Given as goal

-- the tops so far
abbrev pub invariant-loop-i : goal.invariant-loop-i
invariant-loop-i l = (l.visits.limit ≡ length l.book) × AreUsesTo l.i l.book l.signs l.p l.vars l.uses.items
