use Rattle.std.proofs.Common.{◌<◌, ◌∙◌, ap, sym, subst, length}
use Rattle.mls_subsume.specs.steps.Queues.{Queue}
use Rattle.mls_subsume.proofs.Visits.{met_of-length}
use Rattle.mls_subsume.proofs.queue.Queue.steps.Goals as goal

pub steps_back-requires-clause-low : goal.steps_back-requires-clause-low
steps_back-requires-clause-low c =
    subst (λ n. c.args.number < n) (sym (ap (λ (q : Queue). length q.met) c.self.view_is) ∙ (met_of-length c.self.inside.visits.items ∙ ap length (sym c.as_slice.ensures.value))) c.requires
