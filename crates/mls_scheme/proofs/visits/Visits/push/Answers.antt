use Rattle.std.proofs.Common.{◌<◌, ◌∙◌, subst, sym, Contains}
use Rattle.mls_scheme.specs.steps.Visits.{Visited}
use Rattle.mls_scheme.proofs.PlacedNodes.{placed-more}
use Rattle.mls_scheme.proofs.visits.Visits.push.Goals as goal

pub invariant_of-self-2 : goal.invariant_of-self-2
invariant_of-self-2 c =
    placed-more c.self.inside.met.items c.self.inside.places.items c.push.new.self.items c.args.i c.len-place.result c.self.invariant
    (subst (λ (v : Visited). c.args.i < v.limit) (sym c.self.view_is) c.requires.in_range)
    (λ it. c.requires.new (subst (λ (v : Visited). Contains v.members c.args.i) c.self.view_is it))
    (c.len-place.ensures ∙ c.self.inside.met.ok.0) c.in_ok-push.ensures.items
