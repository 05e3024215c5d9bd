use Rattle.mls_biunify.specs.steps.Absorbing.{AreSigned}
use Rattle.mls_biunify.proofs.absorb.set_polarities.Given as goal

abbrev pub invariant-loop-i : goal.invariant-loop-i
invariant-loop-i l = AreSigned l.initial.table l.a l.numbers l.i l.table
