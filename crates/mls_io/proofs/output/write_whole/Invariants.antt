use Rattle.std.proofs.Common.{◌≡◌, ℕ, ◌+◌, List, ◌++◌, length}
use Rattle.std.specs.Io.KnownBytes.{Appends}
use Rattle.mls_io.proofs.output.write_whole.Given as goal

abbrev pub invariant-loop-left : goal.invariant-loop-left
invariant-loop-left g l = record {
  taken : List ℕ;
  parts : l.piece ≡ taken ++ l.left;
  adds : Appends (g.W.Write.contents l.initial.writer) (g.W.Write.contents l.writer) taken;
}

abbrev pub decreases-loop-left : goal.decreases-loop-left
decreases-loop-left g l = length l.left + l.retries
