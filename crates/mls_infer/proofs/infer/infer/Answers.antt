use Rattle.mls_infer.specs.Inference.{schemes_in}
use Rattle.mls_infer.proofs.infer.infer.Goals as goal

pub infer_noting-requires-clause-uses : goal.infer_noting-requires-clause-uses
infer_noting-requires-clause-uses c = c.new-uses.ensures (schemes_in c.args.names.now)
