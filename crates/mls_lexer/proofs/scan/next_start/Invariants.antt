use Rattle.std.proofs.Common.{◌≡◌, false, Some, take}
use Rattle.mls_lexer.specs.Tokens.{gap}
use Rattle.mls_lexer.proofs.scan.next_start.Given as goal

abbrev pub invariant-loop-count : goal.invariant-loop-count
invariant-loop-count l = gap false (take l.count l.byte-items) ≡ Some l.in_comment
