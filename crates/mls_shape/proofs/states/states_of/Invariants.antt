use Rattle.mls_shape.specs.steps.Registers.{IsRegister, sets_in}
use Rattle.mls_shape.specs.steps.Building.{IsBuilding}
use Rattle.mls_shape.proofs.states.states_of.Given as goal

abbrev pub invariant-loop : goal.invariant-loop
invariant-loop l = IsRegister l.register × IsBuilding l.a (sets_in l.initial.register) (sets_in l.register) l.d
