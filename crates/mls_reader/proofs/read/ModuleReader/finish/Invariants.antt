use Rattle.std.proofs.Common.{length}
use Rattle.mls_reader.proofs.ReaderLoops.{EndSame}
use Rattle.mls_reader.proofs.read.ModuleReader.finish.Given as goal

abbrev pub invariant-loop-todo : goal.invariant-loop-todo
invariant-loop-todo l = EndSame l.initial.self l.self

abbrev pub decreases-loop-todo : goal.decreases-loop-todo
decreases-loop-todo l = length l.self.stack.items
