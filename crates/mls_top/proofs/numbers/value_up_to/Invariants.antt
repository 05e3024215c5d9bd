use Rattle.std.proofs.Common.{◌≡◌, ◌≤◌, take}
use Rattle.mls_lexer.specs.Tokens.{digits_value}
use Rattle.mls_top.proofs.numbers.value_up_to.Given as goal

-- the value is that of the digits so far, and not too great
abbrev pub invariant-loop-byte : goal.invariant-loop-byte
invariant-loop-byte l = record {
  value : l.value ≡ digits_value (take l.byte-index l.digits);
  small : l.value ≤ l.greatest;
}
