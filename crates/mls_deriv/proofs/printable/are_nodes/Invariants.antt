use Rattle.std.proofs.Common.{ℕ, ◌<◌}
use Rattle.mls_book.specs.Books.{node_at}
use Rattle.mls_deriv.specs.Forms.{IsNodeForm}
use Rattle.mls_deriv.proofs.printable.are_nodes.Given as goal

-- the nodes so far have lines
abbrev pub invariant-loop-i : goal.invariant-loop-i
invariant-loop-i l = (k : ℕ) → k < l.i → IsNodeForm (node_at l.book k)
