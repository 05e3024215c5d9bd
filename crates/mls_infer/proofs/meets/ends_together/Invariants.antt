use Rattle.std.proofs.Common.{◌↔◌, ℕ, take, Contains}
use Rattle.mls_infer.specs.Meets.{HasFlowOfOne}
use Rattle.mls_infer.proofs.meets.ends_together.Given as goal

abbrev pub invariant-loop-entry : goal.invariant-loop-entry
invariant-loop-entry l = (p : ℕ) → Contains l.numbers.items p ↔ HasFlowOfOne l.live.table (take l.entry-index l.entries) p
