use Rattle.mls_biunify.specs.steps.Copying.{AreCopiedStates}
use Rattle.mls_biunify.proofs.copy.copied_states.Given as goal

abbrev pub invariant-loop-s : goal.invariant-loop-s
invariant-loop-s l = AreCopiedStates l.table l.s l.copy
