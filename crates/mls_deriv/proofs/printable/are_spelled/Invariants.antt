use Rattle.std.proofs.Common.{take}
use Rattle.std.specs.Prelude.{All}
use Rattle.mls_deriv.specs.Texts.{IsSpelledSection}
use Rattle.mls_deriv.proofs.printable.are_spelled.Given as goal

-- the sections so far may be spelled
abbrev pub invariant-loop-section : goal.invariant-loop-section
invariant-loop-section l = All IsSpelledSection (take l.section-index l.sections)
