use Rattle.std.proofs.Common.{◌≡◌, ◌<◌, ◌∙◌, ap, sym, subst, length}
use Rattle.std.proofs.lemmas.List.{get_or_default}
use Rattle.mls_subsume.specs.declared.queue.Visit.{Visit}
use Rattle.mls_subsume.specs.Searches.{met_at}
use Rattle.mls_subsume.specs.steps.Queues.{Queue, visit_at}
use Rattle.mls_subsume.proofs.Visits.{met_of-length, visit-general, visit-special}
use Rattle.mls_subsume.proofs.queue.Queue.pair.Goals as goal

pub index-requires : goal.index-requires
index-requires c =
    subst (λ n. c.args.number < n) (sym (ap (λ (q : Queue). length q.met) c.self.view_is) ∙ (met_of-length c.self.inside.visits.items ∙ sym c.self.inside.visits.ok.0)) c.requires

pub returns-clause-general : goal.returns-clause-general
returns-clause-general c =
    let low : c.args.number < length c.self.inside.visits.items =
    subst (λ n. c.args.number < n) (sym (ap (λ (q : Queue). length q.met) c.self.view_is) ∙ met_of-length c.self.inside.visits.items) c.requires in
    let is : c.index.result.now ≡ visit_at c.self.inside.visits.items c.args.number = c.index.ensures ∙ get_or_default c.self.inside.visits.items c.args.number c.index.result.now _ low in
    ap (λ (v : Visit). v.pair.general.0) is ∙ (sym (visit-general c.self.inside.visits.items c.args.number low) ∙ ap (λ (q : Queue). (met_at q.met c.args.number).general) c.self.view_is)

pub returns-clause-special : goal.returns-clause-special
returns-clause-special c =
    let low : c.args.number < length c.self.inside.visits.items =
    subst (λ n. c.args.number < n) (sym (ap (λ (q : Queue). length q.met) c.self.view_is) ∙ met_of-length c.self.inside.visits.items) c.requires in
    let is : c.index.result.now ≡ visit_at c.self.inside.visits.items c.args.number = c.index.ensures ∙ get_or_default c.self.inside.visits.items c.args.number c.index.result.now _ low in
    ap (λ (v : Visit). v.pair.special.0) is ∙ (sym (visit-special c.self.inside.visits.items c.args.number low) ∙ ap (λ (q : Queue). (met_at q.met c.args.number).special) c.self.view_is)
