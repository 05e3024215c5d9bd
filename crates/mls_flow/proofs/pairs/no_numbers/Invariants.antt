use Rattle.std.proofs.Common.{◌≡◌, length, ℕ}
use Rattle.std.specs.Prelude.{None}
use Rattle.mls_flow.specs.steps.Numbering.{number_in}
use Rattle.mls_flow.proofs.pairs.no_numbers.Given as goal

abbrev pub invariant-loop : goal.invariant-loop
invariant-loop l = (length l.rows.items ≡ l.counter) × ((n p : ℕ) → number_in l.rows.items n p ≡ None)
