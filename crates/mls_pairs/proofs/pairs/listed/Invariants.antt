use Rattle.std.proofs.Common.{length}
use Rattle.mls_pairs.specs.Lines.{IsTable}
use Rattle.mls_pairs.specs.steps.Rounds.{IsLeft}
use Rattle.mls_pairs.proofs.pairs.listed.Given as goal

-- what is left, and its table
abbrev pub invariant-loop-alloc : goal.invariant-loop-alloc
invariant-loop-alloc l = IsLeft l.book l.puts l.wanted l.found.pairs × IsTable l.puts l.found.pairs l.found.table

abbrev pub decreases-loop-alloc : goal.decreases-loop-alloc
decreases-loop-alloc l = length l.found.pairs
