-- A turn appends what the write took, and leaves the rest.
use Rattle.std.proofs.Common.{◌++◌, take}
use Rattle.mls_io.proofs.OutputLaws.{Appends-then, split_more}
use Rattle.mls_io.proofs.output.write_whole.Goals as goal

pub loop-left-preserved-in-Ok : goal.loop-left-preserved-in-Ok
loop-left-preserved-in-Ok g c = record {
  taken = c.loop-left.invariant.taken ++ take c.in-Ok.n c.loop-left.left.now;
  parts = split_more c.args.piece.now c.loop-left.invariant.taken c.loop-left.left.now c.in-Ok.n c.loop-left.invariant.parts;
  adds = Appends-then (g.W.Write.contents c.args.writer.now) (g.W.Write.contents c.loop-left.writer) (g.W.Write.contents c.write.new.self) c.loop-left.invariant.taken (take c.in-Ok.n c.loop-left.left.now) c.loop-left.invariant.adds c.in-Ok.ensures.bytes;
}
