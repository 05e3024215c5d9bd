use Rattle.std.proofs.Common.{take}
use Rattle.std.specs.Prelude.{All}
use Rattle.mls_deriv.specs.Texts.{LinesStand}
use Rattle.mls_deriv.proofs.printable.all_stand.Given as goal

-- the sections so far have texts
abbrev pub invariant-loop-section : goal.invariant-loop-section
invariant-loop-section l = All LinesStand (take l.section-index l.sections)
