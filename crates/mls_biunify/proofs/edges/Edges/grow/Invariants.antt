use Rattle.std.proofs.Common.{◌-◌, length}
use Rattle.mls_biunify.specs.steps.TwoWay.{IsGrown}
use Rattle.mls_biunify.proofs.edges.Edges.grow.Given as goal

abbrev pub invariant-loop-self : goal.invariant-loop-self
invariant-loop-self l = IsGrown l.initial.self l.self

abbrev pub decreases-loop-self : goal.decreases-loop-self
decreases-loop-self l = l.size - length l.self.forward
