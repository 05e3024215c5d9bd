use Rattle.std.proofs.Common.{◌≡◌, ◌<◌, ◌+◌, ℕ}
use Rattle.mls_book.specs.Books.{node_at}
use Rattle.mls_deriv.specs.Steps.{raised}
use Rattle.mls_deriv.proofs.rules.has_from.Given as goal

-- the nodes so far stand there
abbrev pub invariant-loop-i : goal.invariant-loop-i
invariant-loop-i l = (k : ℕ) → k < l.i → node_at l.book (l.n + k) ≡ raised l.n (node_at l.other k)
