use Rattle.std.proofs.Common.{◌∙◌, ℕ, List, Contains, subst}
use Rattle.mls_solver.proofs.Relating.{take-all}
use Rattle.mls_biunify.specs.steps.Keeping.{Finds, walk_of}
use Rattle.mls_biunify.proofs.FoundStates.{finds-member}
use Rattle.mls_biunify.proofs.reach.Search.mark_set.Goals as goal

pub loop-s-preserved : goal.loop-s-preserved
loop-s-preserved g c = finds-member (walk_of g.F.Found.members c.args.self.now) (walk_of g.F.Found.members c.loop-s.self) (walk_of g.F.Found.members c.mark.new.self) c.as_slice-s-items.result.now c.loop-s.s-index c.loop-s-test.true c.loop-s.invariant c.in_ok-mark.ensures

pub returns : goal.returns
returns g c =
    subst (λ (xs : List ℕ). Finds (walk_of g.F.Found.members c.args.self.now) (walk_of g.F.Found.members c.loop-s.self) (Contains xs)) (take-all c.as_slice-s-items.result.now c.loop-s.s-index c.loop-s-test.false ∙ c.as_slice-s-items.ensures.members)
    c.loop-s.invariant
