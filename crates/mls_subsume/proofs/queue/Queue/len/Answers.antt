use Rattle.std.proofs.Common.{◌∙◌, ap, sym, length}
use Rattle.mls_subsume.specs.steps.Queues.{Queue}
use Rattle.mls_subsume.proofs.Visits.{met_of-length}
use Rattle.mls_subsume.proofs.queue.Queue.len.Goals as goal

pub returns : goal.returns
returns c = c.len.ensures ∙ (c.self.inside.visits.ok.0 ∙ (sym (met_of-length c.self.inside.visits.items) ∙ ap (λ (q : Queue). length q.met) c.self.view_is))
