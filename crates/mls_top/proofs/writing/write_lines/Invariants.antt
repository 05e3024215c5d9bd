use Rattle.std.proofs.Common.{length}
use Rattle.mls_io.specs.Sinks.{Follows}
use Rattle.mls_top.specs.Writing.{AddsBefore}
use Rattle.mls_top.proofs.writing.write_lines.Given as goal

-- what stands before the rest was added
abbrev pub invariant-loop-left : goal.invariant-loop-left
invariant-loop-left g l = record {
  follows : Follows (g.K.Sink.written l.fn.sink) (g.K.Sink.written l.sink);
  added : AddsBefore (g.K.Sink.written l.fn.sink) (g.K.Sink.written l.sink) l.text l.left;
}

abbrev pub decreases-loop-left : goal.decreases-loop-left
decreases-loop-left g l = length l.left
