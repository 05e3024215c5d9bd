use Rattle.std.proofs.Common.{◌↔◌, ℕ, take, Contains}
use Rattle.mls_infer.proofs.meets.set_of.Given as goal

abbrev pub invariant-loop-s : goal.invariant-loop-s
invariant-loop-s l = (s : ℕ) → Contains l.set s ↔ Contains (take l.s-index l.numbers) s
