use Rattle.std.proofs.Common.{◌≡◌, ◌<◌, ◌∙◌, ap, sym, subst, arith, length, reverse, List, [], ◌∷◌, ◌++◌, Some}
use Rattle.std.proofs.lemmas.List.{get_or_default}
use Rattle.mls_subsume.specs.declared.verdict.Step.{Step}
use Rattle.mls_subsume.specs.declared.queue.Visit.{Visit}
use Rattle.mls_subsume.specs.Searches.{met_at}
use Rattle.mls_subsume.specs.steps.Queues.{IsLinkBelow, met_of, visit_at}
use Rattle.mls_subsume.proofs.Visits.{back-end, back-more, visit-steps}
use Rattle.mls_subsume.proofs.queue.steps_back.Goals as goal

pub loop-at-preserved : goal.loop-at-preserved
loop-at-preserved c =
    let low : c.loop-at.at < length c.args.visits.now = c.loop-at.invariant.0 in
    let same : c.in_ok-copy.field-0 ≡ c.in-Some.link.step = c.in_ok-copy.ensures in
    let is : (visit_at c.args.visits.now c.loop-at.at).link ≡ Some c.in-Some.link =
    ap (λ (v : Visit). v.link) (sym (get_or_default c.args.visits.now c.loop-at.at c.index-visits-at.result _ low)) ∙ c.in-Some.is in
    let below : c.in-Some.link.from < c.loop-at.at = subst (IsLinkBelow c.loop-at.at) is (c.requires.linked c.loop-at.at low) in
    let pushed : c.push.new.self ≡ c.loop-at.steps ++ c.in-Some.link.step ∷ [] = c.in_ok-push.ensures.ok ∙ ap (λ (step : Step). c.loop-at.steps ++ step ∷ []) same in (
      omega arith,
      subst (λ (xs : List Step). (met_at (met_of c.args.visits.now) c.in-Some.link.from).steps ++ reverse xs ≡ (met_at (met_of c.args.visits.now) c.args.number).steps) (sym pushed)
          (back-more (met_at (met_of c.args.visits.now) c.args.number).steps (met_at (met_of c.args.visits.now) c.in-Some.link.from).steps c.in-Some.link.step c.loop-at.steps
          (subst (λ (xs : List Step). xs ++ reverse c.loop-at.steps ≡ (met_at (met_of c.args.visits.now) c.args.number).steps)
          (visit-steps c.args.visits.now c.loop-at.at low (Some c.in-Some.link) is below) c.loop-at.invariant.1)),
    )

pub returns : goal.returns
returns c =
    let low : c.loop-at.at < length c.args.visits.now = c.loop-at.invariant.0 in
    back-end c.args.visits.now c.loop-at.at low (met_at (met_of c.args.visits.now) c.args.number).steps c.loop-at.steps
    (λ link e. c.in_default.not-Some link (ap (λ (v : Visit). v.link) (get_or_default c.args.visits.now c.loop-at.at c.index-visits-at.result _ low) ∙ e)) c.loop-at.invariant.1
