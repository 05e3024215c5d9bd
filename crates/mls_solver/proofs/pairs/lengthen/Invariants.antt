use Rattle.std.proofs.Common.{ℕ, ◌+◌, ◌-◌, length}
use Rattle.std.specs.Prelude.{◌↔◌}
use Rattle.mls_solver.specs.steps.Finding.{HasMember}
use Rattle.mls_solver.proofs.pairs.lengthen.Given as goal

-- the sets have the members that they had
abbrev pub invariant-loop-alloc : goal.invariant-loop-alloc
invariant-loop-alloc l = (k m : ℕ) → HasMember l.sets.items k m ↔ HasMember l.initial.sets.items k m

abbrev pub decreases-loop-alloc : goal.decreases-loop-alloc
decreases-loop-alloc l = (l.number + 1) - length l.sets.items
