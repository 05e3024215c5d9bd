use Rattle.std.proofs.Common.{◌≡◌, ◌++◌, drop}
use Rattle.std.specs.List.{flat_map}
use Rattle.mls_deriv.specs.Spellings.{entry_words}
use Rattle.mls_deriv.proofs.print.add_env.Given as goal

-- with what is left, the text is whole
abbrev pub invariant-loop-entry : goal.invariant-loop-entry
invariant-loop-entry l = l.text.items ++ flat_map entry_words (drop l.entry-index l.env) ≡ l.initial.text.items ++ flat_map entry_words l.env
