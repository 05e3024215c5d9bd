use Rattle.std.proofs.Common.{◌≡◌, ◌↔◌, ◌<◌, ℕ, true, false, Contains, get_or}
use Rattle.mls_biunify.proofs.table.Table.numbers.Given as goal

abbrev pub invariant-loop-s : goal.invariant-loop-s
invariant-loop-s l = (j : ℕ) → Contains l.set j ↔ ((j < l.s) × (get_or l.self.there j false ≡ true))
