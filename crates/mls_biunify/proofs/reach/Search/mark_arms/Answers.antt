use Rattle.std.proofs.Common.{inl, inr, Contains}
use Rattle.mls_automaton.specs.steps.Searching.{InArms}
use Rattle.mls_biunify.specs.steps.Keeping.{walk_of}
use Rattle.mls_biunify.proofs.FoundStates.{finds-both}
use Rattle.mls_biunify.proofs.reach.Search.mark_arms.Goals as goal

pub returns : goal.returns
returns g c =
    finds-both (walk_of g.F.Found.members c.args.self.now) (walk_of g.F.Found.members c.mark_set.new.self) (walk_of g.F.Found.members c.mark_set-2.new.self) (Contains c.args.arms.now.domain) (Contains c.args.arms.now.codomain) (InArms c.args.arms.now) c.in_ok-mark_set.ensures c.in_ok-mark_set-2.ensures
    (λ j it. inl it) (λ j it. inr it) (λ j it. it)
