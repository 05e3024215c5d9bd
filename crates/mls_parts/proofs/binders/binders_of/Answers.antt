use Rattle.mls_parts.proofs.PartBinders.{part_binders}
use Rattle.mls_parts.proofs.binders.binders_of.Goals as goal

pub returns : goal.returns
returns c = part_binders c.args.nodes.now c.args.lets.now c.args.part.now c.in_ok-met.met c.in_ok-binders.binders c.in_ok-met.ensures c.listed.ensures.ordered c.in_ok-binders.ensures.listed
