use Rattle.mls_infer.specs.Pending.{part_in}
use Rattle.mls_infer.proofs.DoneSteps.{trimmed_in}
use Rattle.mls_infer.proofs.infer.fit.Goals as goal

pub returns-then-is_due : goal.returns-then-is_due
returns-then-is_due c = λ node first it.
    trimmed_in node first c.args.done.now.live c.trimmed.new.live c.args.done.now.nodes.items (part_in c.args.part) (part_in c.in_ok-kept.kept) c.in_ok-kept.ensures.live_new c.in_ok-kept.ensures.remade it
