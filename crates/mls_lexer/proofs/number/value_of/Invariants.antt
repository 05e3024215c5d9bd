use Rattle.std.proofs.Common.{◌≡◌, ◌≤◌, take}
use Rattle.mls_lexer.specs.Tokens.{digits_value, largest_number}
use Rattle.mls_lexer.proofs.number.value_of.Given as goal

abbrev pub invariant-loop-byte : goal.invariant-loop-byte
invariant-loop-byte l = record {
  value : l.value ≡ digits_value (take l.byte-index l.digits);
  small : l.value ≤ largest_number;
}
