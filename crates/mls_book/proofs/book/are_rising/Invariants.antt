use Rattle.mls_book.proofs.Rising.{AreLess}
use Rattle.mls_book.proofs.book.are_rising.Given as goal

-- the fields so far rise
abbrev pub invariant-loop-i : goal.invariant-loop-i
invariant-loop-i l = AreLess l.fields l.i
