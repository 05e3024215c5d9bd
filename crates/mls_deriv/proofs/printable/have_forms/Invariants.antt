use Rattle.std.proofs.Common.{take}
use Rattle.std.specs.Prelude.{All}
use Rattle.mls_deriv.specs.Texts.{IsSectionForm}
use Rattle.mls_deriv.proofs.printable.have_forms.Given as goal

-- the sections so far have texts
abbrev pub invariant-loop-section : goal.invariant-loop-section
invariant-loop-section l = All IsSectionForm (take l.section-index l.sections)
