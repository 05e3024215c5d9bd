use Rattle.std.proofs.Common.{◌≡◌, ◌++◌, map, take}
use Rattle.mls_deriv.specs.Steps.{raised}
use Rattle.mls_lines.proofs.copies.push_book.Given as goal

-- the copies of the nodes so far
abbrev pub invariant-loop-i : goal.invariant-loop-i
invariant-loop-i l = l.book ≡ l.initial.book ++ map (raised l.first) (take l.i l.other)
