use Rattle.std.proofs.Common.{◌≤◌, ◌-◌, length}
use Rattle.mls_lexer.proofs.Follows.{EndAt}
use Rattle.mls_lexer.proofs.scan.tokens.Given as goal

abbrev pub invariant-loop-start : goal.invariant-loop-start
invariant-loop-start l = record {
  so_far : EndAt l.text l.found.items l.end;
  within : l.end ≤ length l.text;
}

abbrev pub decreases-loop-start : goal.decreases-loop-start
decreases-loop-start l = length l.text - l.end
