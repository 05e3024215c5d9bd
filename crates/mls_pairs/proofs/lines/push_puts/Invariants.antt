use Rattle.std.proofs.Common.{◌≡◌, ◌++◌, take}
use Rattle.mls_pairs.specs.Lines.{put_lines}
use Rattle.mls_pairs.proofs.lines.push_puts.Given as goal

-- the lines of those so far
abbrev pub invariant-loop-put : goal.invariant-loop-put
invariant-loop-put l = l.lines ≡ l.fn.lines ++ put_lines (take l.put-index l.puts)
