use Rattle.std.proofs.Common.{take}
use Rattle.mls_biunify.specs.steps.Keeping.{Finds, InRoots, walk_of}
use Rattle.mls_biunify.proofs.reach.Search.mark_roots.Given as goal

-- the roots so far
abbrev pub invariant-loop-root : goal.invariant-loop-root
invariant-loop-root g l = Finds (walk_of g.F.Found.members l.fn.self) (walk_of g.F.Found.members l.self) (InRoots (take l.root-index l.roots))
