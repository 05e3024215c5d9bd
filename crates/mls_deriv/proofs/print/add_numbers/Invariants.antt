use Rattle.std.proofs.Common.{◌≡◌, ◌++◌, drop}
use Rattle.std.specs.List.{flat_map}
use Rattle.mls_deriv.specs.Spellings.{number_word}
use Rattle.mls_deriv.proofs.print.add_numbers.Given as goal

-- with what is left, the text is whole
abbrev pub invariant-loop-number : goal.invariant-loop-number
invariant-loop-number l = l.text.items ++ flat_map number_word (drop l.number-index l.numbers) ≡ l.initial.text.items ++ flat_map number_word l.numbers
