-- Words of digits.
use Rattle.std.proofs.Common.{◌≡◌, ℕ, ◌<◌, ◌≤◌, Bool, true, false, List, [], ◌∷◌, length, sym, ap, ◌∙◌, refl, arith}
use Rattle.std.specs.Prelude.{◌&&◌, nat_le}
use Rattle.std.proofs.lemmas.Bool.{le-leb}
use Rattle.std.specs.List.{list_all}
use Rattle.mls_lexer.specs.Tokens.{is_digit}
use Rattle.mls_top.specs.Numbers.{is_number_word}

and_true : (a b : Bool) → b ≡ true → a ≡ a && b
and_true true b is = sym is
and_true false b is = refl

pub number_word : (word : List ℕ) (digits : Bool) → digits ≡ list_all is_digit word → 0 < length word → length word ≤ 10 → digits ≡ is_number_word word
number_word [] digits is some few = absurd (omega arith)
number_word (first ∷ rest) digits is some few =
    let short : nat_le (length (first ∷ rest)) 10 ≡ true = le-leb (length (first ∷ rest)) 10 few in
    is ∙ and_true (list_all is_digit (first ∷ rest)) (nat_le (length (first ∷ rest)) 10) short
