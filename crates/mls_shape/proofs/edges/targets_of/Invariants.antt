use Rattle.std.proofs.Common.{◌↔◌, ℕ, take, Contains}
use Rattle.mls_shape.specs.steps.Edges.{IsTarget}
use Rattle.mls_shape.proofs.edges.targets_of.Given as goal

abbrev pub invariant-loop-m : goal.invariant-loop-m
invariant-loop-m l = (j : ℕ) → Contains l.targets.items j ↔ IsTarget l.a l.holders (take l.m-index l.members) j
