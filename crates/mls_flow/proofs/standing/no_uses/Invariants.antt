use Rattle.std.proofs.Common.{◌≡◌, [], length, All}
use Rattle.mls_flow.proofs.standing.no_uses.Given as goal

abbrev pub invariant-loop : goal.invariant-loop
invariant-loop l = (length l.uses.items ≡ l.counter) × All (λ list. list ≡ []) l.uses.items
