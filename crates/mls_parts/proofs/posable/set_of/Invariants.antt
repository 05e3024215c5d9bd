use Rattle.std.proofs.Common.{take}
use Rattle.std.specs.Ordering.{nat_cmp}
use Rattle.mls_layout.specs.steps.Posable.{HasJust}
use Rattle.mls_parts.proofs.posable.set_of.Given as goal

-- the numbers so far
abbrev pub invariant-loop-number : goal.invariant-loop-number
invariant-loop-number l = HasJust nat_cmp (take l.number-index l.numbers) l.set
