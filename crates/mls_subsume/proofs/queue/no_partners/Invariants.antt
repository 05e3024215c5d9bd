use Rattle.std.proofs.Common.{◌≡◌, length, ℕ, []}
use Rattle.mls_subsume.specs.steps.Queues.{partners_at}
use Rattle.mls_subsume.proofs.queue.no_partners.Given as goal

abbrev pub invariant-loop : goal.invariant-loop
invariant-loop l = (length l.sets.items ≡ l.counter) × ((g : ℕ) → partners_at l.sets.items g ≡ [])
