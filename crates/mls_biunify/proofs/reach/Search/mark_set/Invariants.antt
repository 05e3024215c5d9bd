use Rattle.std.proofs.Common.{take, Contains}
use Rattle.mls_biunify.specs.steps.Keeping.{Finds, walk_of}
use Rattle.mls_biunify.proofs.reach.Search.mark_set.Given as goal

-- the members so far
abbrev pub invariant-loop-s : goal.invariant-loop-s
invariant-loop-s g l = Finds (walk_of g.F.Found.members l.fn.self) (walk_of g.F.Found.members l.self) (Contains (take l.s-index l.s-items))
