use Rattle.mls_infer.specs.Inference.{schemes_in}
use Rattle.mls_infer.proofs.environment.Environment.new.Goals as goal

pub invariant_of-result : goal.invariant_of-result
invariant_of-result c = (c.requires, c.new.ensures (schemes_in c.args.names))
