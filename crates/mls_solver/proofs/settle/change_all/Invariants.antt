use Rattle.std.proofs.Common.{take}
use Rattle.mls_solver.specs.steps.Settling.{AreMade}
use Rattle.mls_solver.proofs.settle.change_all.Given as goal

abbrev pub invariant-loop-change : goal.invariant-loop-change
invariant-loop-change l = AreMade l.initial.a (take l.change-index l.changes) l.a
