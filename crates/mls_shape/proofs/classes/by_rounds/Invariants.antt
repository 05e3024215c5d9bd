use Rattle.mls_shape.specs.steps.Classes.{KeepsAlike}
use Rattle.mls_shape.proofs.classes.by_rounds.Given as goal

-- alike states are in one class
abbrev pub invariant-loop : goal.invariant-loop
invariant-loop l = KeepsAlike l.a l.classes.items
