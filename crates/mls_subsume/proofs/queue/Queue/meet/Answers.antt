use Rattle.std.proofs.Common.{◌≡◌, ◌<◌, ◌∙◌, inl, inr, refl, ap, sym, subst, length, List, [], ◌∷◌, ◌++◌, Contains, Some}
use Rattle.std.proofs.lemmas.List.{get_or_default}
use Rattle.mls_subsume.specs.declared.queue.Visit.{Visit}
use Rattle.mls_subsume.specs.steps.Queues.{IsMet, Queue, met_by, met_of, partners_at}
use Rattle.mls_subsume.proofs.Visits.{met_of-length, met_of-more, queue-added, queue-kept}
use Rattle.mls_subsume.proofs.queue.Queue.meet.Goals as goal

pub returns-then-contains-clause-met : goal.returns-then-contains-clause-met
returns-then-contains-clause-met c =
    let low : c.args.pair.general.0 < length c.self.inside.partners.items = subst (λ (q : Queue). c.args.pair.general.0 < q.states) (sym c.self.view_is) c.requires.state in
    let is : c.index.result.now ≡ partners_at c.self.inside.partners.items c.args.pair.general.0 =
    c.index.ensures ∙ get_or_default c.self.inside.partners.items c.args.pair.general.0 c.index.result.now [] low in
    inl (
      subst (λ (q : Queue). IsMet q.met c.args.pair.general.0 c.args.pair.special.0) c.self.view_is
          ((c.self.invariant.members c.args.pair.general.0 c.args.pair.special.0).0
          (subst (λ xs. Contains xs c.args.pair.special.0) is (c.contains.ensures.0 c.if-contains.true))),
      refl,
    )

pub invariant_of-self-in_err-note : goal.invariant_of-self-in_err-note
invariant_of-self-in_err-note c =
    queue-kept c.self.inside.visits.items c.reserve.new.self.items c.self.inside.partners.items c.note.new.partners.items c.self.invariant
    c.reserve.ensures.items c.in_err-note.ensures.err

pub invariant_of-self-2 : goal.invariant_of-self-2
invariant_of-self-2 c =
    let v : Visit = record { pair = c.args.pair; link = Some (record { from = c.args.from; step = c.args.step }) } in
    queue-added c.self.inside.visits.items c.push.new.self.items c.self.inside.partners.items c.note.new.partners.items v c.self.invariant
    (c.in_ok-push.ensures.items ∙ ap (λ (vs : List Visit). vs ++ v ∷ []) c.reserve.ensures.items)
    (subst (λ n. c.args.from < n) (sym (ap (λ (q : Queue). length q.met) c.self.view_is) ∙ met_of-length c.self.inside.visits.items) c.requires.from)
    c.in_ok-note.ensures.added

pub returns-clause-met : goal.returns-clause-met
returns-clause-met c =
    let v : Visit = record { pair = c.args.pair; link = Some (record { from = c.args.from; step = c.args.step }) } in
    inr (ap met_of (c.in_ok-push.ensures.items ∙ ap (λ (vs : List Visit). vs ++ v ∷ []) c.reserve.ensures.items)
    ∙ (met_of-more c.self.inside.visits.items v ∙ ap (λ (q : Queue). q.met ++ met_by q.met v ∷ []) c.self.view_is))
