use Rattle.std.proofs.Common.{◌≡◌, [], length, All}
use Rattle.mls_shape.proofs.edges.no_holders.Given as goal

abbrev pub invariant-loop : goal.invariant-loop
invariant-loop l = (length l.holders.items ≡ l.counter) × All (λ list. list ≡ []) l.holders.items
