use Rattle.std.proofs.Common.{◌≡◌, ◌++◌, take}
use Rattle.mls_pairs.specs.Lines.{pair_lines}
use Rattle.mls_pairs.proofs.lines.push_pairs.Given as goal

-- the lines of those so far
abbrev pub invariant-loop-pair : goal.invariant-loop-pair
invariant-loop-pair l = l.lines ≡ l.fn.lines ++ pair_lines (take l.pair-index l.pairs)
