use Rattle.std.proofs.Common.{take}
use Rattle.mls_automaton.specs.Automata.{HasFlow}
use Rattle.mls_solver.specs.steps.Numbers.{Inserts}
use Rattle.mls_solver.specs.steps.Numbers.{ByOne}
use Rattle.mls_solver.proofs.materialise.mark_targets.Given as goal

abbrev pub invariant-loop-m : goal.invariant-loop-m
invariant-loop-m l = Inserts l.initial.marks l.marks (ByOne (take l.m-index l.members) (HasFlow l.a))
