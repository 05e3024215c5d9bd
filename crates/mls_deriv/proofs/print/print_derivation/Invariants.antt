use Rattle.std.proofs.Common.{◌≡◌, ◌++◌, drop}
use Rattle.std.specs.List.{flat_map}
use Rattle.mls_deriv.specs.Spellings.{section_text, derivation_text}
use Rattle.mls_deriv.proofs.print.print_derivation.Given as goal

-- with what is left, the text is whole
abbrev pub invariant-loop-section : goal.invariant-loop-section
invariant-loop-section l = l.text.items ++ flat_map section_text (drop l.section-index l.derivation.sections) ≡ derivation_text l.derivation
