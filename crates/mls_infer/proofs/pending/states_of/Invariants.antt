use Rattle.std.proofs.Common.{◌↔◌, ℕ, take, Contains}
use Rattle.mls_infer.specs.Constraints.{states_of}
use Rattle.mls_infer.proofs.pending.states_of.Given as goal

abbrev pub invariant-loop-entry : goal.invariant-loop-entry
invariant-loop-entry l = (n : ℕ) → Contains l.set n ↔ Contains (states_of l.binder (take l.entry-index l.env)) n
