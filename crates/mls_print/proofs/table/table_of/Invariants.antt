use Rattle.mls_print.specs.steps.Building.{BeginsWith, IsBuilding}
use Rattle.mls_print.proofs.table.table_of.Given as goal

abbrev pub invariant-loop : goal.invariant-loop
invariant-loop l = IsBuilding l.automaton l.order.states.items l.builder × BeginsWith l.fn.root.0 l.builder
