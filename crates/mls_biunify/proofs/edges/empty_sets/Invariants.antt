use Rattle.std.proofs.Common.{take}
use Rattle.mls_biunify.specs.steps.TwoWay.{EmptiesSets}
use Rattle.mls_biunify.proofs.edges.empty_sets.Given as goal

abbrev pub invariant-loop-s : goal.invariant-loop-s
invariant-loop-s l = EmptiesSets l.initial.sets.items (take l.s-index l.numbers) l.sets.items
