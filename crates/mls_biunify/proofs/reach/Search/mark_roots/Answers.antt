use Rattle.std.proofs.Common.{List, subst}
use Rattle.mls_automaton.specs.declared.state_set.StateId.{StateId}
use Rattle.mls_solver.proofs.Relating.{take-all}
use Rattle.mls_biunify.specs.steps.Keeping.{Finds, InRoots, walk_of}
use Rattle.mls_biunify.proofs.FoundStates.{finds-root}
use Rattle.mls_biunify.proofs.reach.Search.mark_roots.Goals as goal

pub loop-root-preserved : goal.loop-root-preserved
loop-root-preserved g c = finds-root (walk_of g.F.Found.members c.args.self.now) (walk_of g.F.Found.members c.loop-root.self) (walk_of g.F.Found.members c.mark.new.self) c.args.roots.now c.loop-root.root-index (record { 0 = 0 }) c.loop-root-test.true c.loop-root.invariant c.in_ok-mark.ensures

pub returns : goal.returns
returns g c = subst (λ (xs : List StateId). Finds (walk_of g.F.Found.members c.args.self.now) (walk_of g.F.Found.members c.loop-root.self) (InRoots xs)) (take-all c.args.roots.now c.loop-root.root-index c.loop-root-test.false) c.loop-root.invariant
