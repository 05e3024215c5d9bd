-- What the steps of the reader of tokens give.
use Rattle.std.specs.Prelude.{◌≡◌, ℕ, ◌<◌, ◌≤◌, List, length, slice_range, slice_index, Result, Ok, Err, IsTrue}
use Rattle.std.specs.Prelude.{IsFalse}
use Rattle.mls_lexer.specs.declared.token.Token.{Token}
use Rattle.mls_lexer.specs.declared.token.LexFault.{LexFault}
use Rattle.mls_lexer.specs.declared.token.LexFault.TheVariants.{BadByte, BigNumber, Memory}
use Rattle.mls_lexer.specs.Tokens.{begins_gap, IsGap, IsLongest, IsToken, is_number, digits_value, largest_number}

-- after separators from the one place on stands the byte with this number, which is none
pub record ComesNext (text : List ℕ) (from at : ℕ) : Type 0 where
  pub inside : (from ≤ at) × (at < length text)
  pub separated : IsGap (slice_range text from at)
  pub stop : IsFalse (begins_gap (slice_index text at))

-- the digits from the one place up to the other are a number that is too large
pub record IsBigNumber (text : List ℕ) (start end : ℕ) : Type 0 where
  pub within : (start < end) × (end ≤ length text)
  pub digits : IsTrue (is_number (slice_range text start end))
  pub longest : IsLongest text start end
  pub value : largest_number < digits_value (slice_range text start end)

-- what stands at a place where no separator begins: a token or a fault
abbrev pub StandsAt : List ℕ → ℕ → Result Token LexFault → Type 0
StandsAt text at (Ok token) = (token.start ≡ at) × IsToken text token
StandsAt text at (Err (BadByte place)) = (place ≡ at) × IsLongest text at at
StandsAt text at (Err (BigNumber place)) = (place ≡ at) × ((end : ℕ) × IsBigNumber text at end)
StandsAt text at (Err Memory) = ⊥
