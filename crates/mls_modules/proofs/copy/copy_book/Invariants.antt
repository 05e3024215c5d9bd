use Rattle.std.proofs.Common.{◌≡◌, take}
use Rattle.mls_modules.proofs.copy.copy_book.Given as goal

-- the nodes so far
abbrev pub invariant-loop-i : goal.invariant-loop-i
invariant-loop-i l = l.copy ≡ take l.i l.book
