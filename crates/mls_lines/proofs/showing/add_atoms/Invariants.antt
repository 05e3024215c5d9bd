use Rattle.std.proofs.Common.{take}
use Rattle.mls_scheme.specs.steps.Uses.{IsAmong}
use Rattle.mls_lines.specs.Showing.{AddsShown}
use Rattle.mls_lines.proofs.showing.add_atoms.Given as goal

-- the atoms so far
abbrev pub invariant-loop-j : goal.invariant-loop-j
invariant-loop-j l = AddsShown (IsAmong l.book (take l.j-index l.atoms)) l.state l.fn.showing l.showing
