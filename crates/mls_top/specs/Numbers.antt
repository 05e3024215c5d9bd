-- The numbers of command lines.
use Rattle.std.specs.Prelude.{ℕ, nat_le, ◌&&◌, if◌then◌else◌, Bool, List, length, Option, Some, None}
use Rattle.mls_lexer.specs.Tokens.{is_number, digits_value}

-- a word of one to ten digits, of which the first may be zeros
abbrev pub is_number_word : List ℕ → Bool
is_number_word word = is_number word && nat_le (length word) 10

-- a number is from `least` to `greatest`
abbrev pub is_between : (least greatest : ℕ) → ℕ → Bool
is_between least greatest value = nat_le least value && nat_le value greatest

-- the number from `least` to `greatest` that a word is
abbrev pub number_between : (least greatest : ℕ) → List ℕ → Option ℕ
number_between least greatest word =
    if is_number_word word && is_between least greatest (digits_value word) then Some (digits_value word) else None
