use Rattle.mls_layout.specs.steps.Sources.{AreParted}
use Rattle.mls_layout.proofs.layout.parts.parts_of.Given as goal

-- the parts of the first states
abbrev pub invariant-loop-s : goal.invariant-loop-s
invariant-loop-s l = AreParted l.a l.leaves l.start l.s l.end l.nodes
