use Rattle.std.proofs.Common.{◌≡◌, ℕ, [], length, get_or}
use Rattle.mls_layout.proofs.layout.partners.no_partners.Given as goal

abbrev pub invariant-loop : goal.invariant-loop
invariant-loop l = (length l.lists.items ≡ l.counter) × ((s : ℕ) → get_or l.lists.items s [] ≡ [])
