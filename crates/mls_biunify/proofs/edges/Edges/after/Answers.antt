use Rattle.std.proofs.Common.{◌≡◌, ◌∙◌, ℕ, ◌<◌, List, [], Contains, get_or, length, subst, sym}
use Rattle.std.proofs.lemmas.List.{get_or_default}
use Rattle.mls_biunify.specs.steps.TwoWay.{TwoWay}
use Rattle.mls_biunify.proofs.TwoWays.{set-low}
use Rattle.mls_biunify.proofs.edges.Edges.after.Goals as goal

pub returns-clause-low : goal.returns-clause-low
returns-clause-low c p it =
    let t : TwoWay = record { forward = c.self.inside.forward.items; backward = c.self.inside.backward.items } in
    let low : c.args.n < length t.forward = subst (λ (x : TwoWay). c.args.n < length x.forward) (sym c.self.view_is) c.requires in
    let same : c.index.result.now ≡ get_or t.forward c.args.n [] = c.index.ensures ∙ get_or_default t.forward c.args.n c.index.result.now [] low in
    subst (λ (x : TwoWay). p < length x.forward) c.self.view_is
    (set-low t c.self.invariant c.args.n p (subst (λ (xs : List ℕ). Contains xs p) same it)).1
