use Rattle.std.proofs.Common.{◌⊎◌, ℕ, [], take, Contains}
use Rattle.std.specs.Prelude.{◌↔◌}
use Rattle.mls_automaton.specs.Automata.{HasFlow}
use Rattle.mls_solver.specs.steps.Numbers.{ByOne}
use Rattle.mls_solver.proofs.settle.ends.Given as goal

abbrev pub invariant-loop-m : goal.invariant-loop-m
invariant-loop-m l = (j : ℕ) → Contains l.all j ↔ Contains [] j ⊎ ByOne (take l.m-index l.members) (HasFlow l.a) j
