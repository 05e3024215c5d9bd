use Rattle.std.proofs.Common.{take}
use Rattle.mls_scheme.specs.steps.Uses.{AddsUses, IsAmong}
use Rattle.mls_scheme.proofs.uses.add_uses.Given as goal

-- the atoms so far
abbrev pub invariant-loop-j : goal.invariant-loop-j
invariant-loop-j l = AddsUses (IsAmong l.book (take l.j-index l.atoms)) l.i l.fn.uses.items l.uses.items
