use Rattle.mls_infer.specs.Fields.{AreReads}
use Rattle.mls_infer.specs.Inference.{schemes_in}
use Rattle.mls_infer.proofs.reads.Uses.note_all.Given as goal

abbrev pub invariant-loop-node : goal.invariant-loop-node
invariant-loop-node l = AreReads (schemes_in l.names) l.self.reads
