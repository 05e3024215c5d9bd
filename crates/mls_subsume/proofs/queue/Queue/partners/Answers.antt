use Rattle.std.proofs.Common.{◌≡◌, ◌<◌, ◌∙◌, sym, subst, length, Contains, []}
use Rattle.std.specs.Prelude.{◌↔◌}
use Rattle.std.proofs.lemmas.List.{get_or_default}
use Rattle.mls_subsume.specs.steps.Queues.{IsMet, Queue, met_of, partners_at}
use Rattle.mls_subsume.proofs.queue.Queue.partners.Goals as goal

pub returns : goal.returns
returns c = λ s.
    let low : c.args.general.0 < length c.self.inside.partners.items = subst (λ (q : Queue). c.args.general.0 < q.states) (sym c.self.view_is) c.requires in
    let is : c.index.result.now ≡ partners_at c.self.inside.partners.items c.args.general.0 =
    c.index.ensures ∙ get_or_default c.self.inside.partners.items c.args.general.0 c.index.result.now [] low in
    subst (λ (q : Queue). Contains c.index.result.now s ↔ IsMet q.met c.args.general.0 s) c.self.view_is
    (subst (λ xs. Contains xs s ↔ IsMet (met_of c.self.inside.visits.items) c.args.general.0 s) (sym is) (c.self.invariant.members c.args.general.0 s))
