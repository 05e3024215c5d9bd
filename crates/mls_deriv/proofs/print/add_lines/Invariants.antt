use Rattle.std.proofs.Common.{◌≡◌, ◌++◌, drop}
use Rattle.std.specs.List.{flat_map}
use Rattle.mls_deriv.specs.Spellings.{line_text}
use Rattle.mls_deriv.proofs.print.add_lines.Given as goal

-- with what is left, the text is whole
abbrev pub invariant-loop-line : goal.invariant-loop-line
invariant-loop-line l = l.text.items ++ flat_map line_text (drop l.line-index l.lines) ≡ l.initial.text.items ++ flat_map line_text l.lines
