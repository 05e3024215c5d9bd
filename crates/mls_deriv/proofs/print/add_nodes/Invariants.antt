use Rattle.std.proofs.Common.{◌≡◌, ◌++◌, drop}
use Rattle.std.specs.List.{flat_map}
use Rattle.mls_deriv.specs.Spellings.{node_line}
use Rattle.mls_deriv.proofs.print.add_nodes.Given as goal

-- with what is left, the text is whole
abbrev pub invariant-loop-i : goal.invariant-loop-i
invariant-loop-i l = l.text.items ++ flat_map node_line (drop l.i l.book) ≡ l.initial.text.items ++ flat_map node_line l.book
