-- What the code finds of words.
use Rattle.std.proofs.Common.{◌≡◌, ℕ, ◌+◌, ◌-◌, ◌*◌, ◌/◌, ◌%◌, ◌<◌, ◌≤◌, ◌^◌, List, [], ◌∷◌, ◌++◌, length, get_or, take, drop, Some, None, sym, ap, subst, ◌∙◌, refl, arith, append-nil, append_assoc, length-drop}
use Rattle.std.specs.Prelude.{decimal, Option}
use Rattle.std.specs.Char.{digit_value}
use Rattle.std.specs.Str.Parse.{AllDigits, digits_value}
use Rattle.std.proofs.lemmas.Fmt.{decimal_is_IsNumeral, digits_decimal}
use Rattle.std.proofs.lemmas.Int.Digits.{digits_value_more}
use Rattle.std.proofs.lemmas.List.{take_all, drop_more}
use Rattle.std.proofs.lemmas.Str.{digit_value_digit}
use Rattle.std.proofs.lemmas.Str.Parse.{digit_at, digits_value-take-le, numerals_by_value, tells_digits}
use Rattle.mls_book.specs.declared.book.Field.{Field}
use Rattle.mls_deriv.specs.declared.derivation.BinderNode.{BinderNode}
use Rattle.mls_deriv.specs.Forms.{IsWord}
use Rattle.mls_deriv.specs.inner.Clauses.{number_of}
use Rattle.mls_deriv.specs.inner.Guesses.{or_zero, value_of, env_guess, fields_guess}
use Rattle.mls_deriv.proofs.SpelledNumbers.{number_spelled, number_sound}

-- one digit more of a number: no product and no sum is too large
pub digit_more : (word : List ℕ) (i v d n : ℕ) → IsWord n → word ≡ decimal n → i < length word → v ≡ digits_value 10 (take i word) → d ≡ get_or word i 0 - 48 → (v * 10 % 2 ^ 64 + d) % 2 ^ 64 ≡ digits_value 10 (take (i + 1) word)
digit_more word i v d n low is within before digit =
    let digits : AllDigits 10 word = subst (AllDigits 10) (sym is) (digits_decimal (numerals_by_value (AllDigits 10) tells_digits) n low) in
    let whole : digits_value 10 word ≡ n = ap (digits_value 10) is ∙ (decimal_is_IsNumeral n low).1 in
    let more : digits_value 10 (take (i + 1) word) ≡ digits_value 10 (take i word) * 10 + digit_value (get_or word i 0) = digits_value_more 10 word i within in
    let value : digit_value (get_or word i 0) + 48 ≡ get_or word i 0 = digit_value_digit (get_or word i 0) (digit_at word i digits within) in
    let front : digits_value 10 (take (i + 1) word) ≤ digits_value 10 word = digits_value-take-le 10 word (i + 1) (omega arith) in
    let sum : v * 10 + d ≡ digits_value 10 (take (i + 1) word) = omega (arith, more, value, before, digit) in
    let fits : v * 10 + d < 18446744073709551616 = omega (arith, sum, front, whole, low) in
    let first : v * 10 % 18446744073709551616 ≡ v * 10 = omega (arith, fits) in
    let both : (v * 10 % 18446744073709551616 + d) % 18446744073709551616 ≡ v * 10 + d = omega (arith, first, fits) in
    both ∙ sum

-- no digit is left
pub digits_end : (word : List ℕ) (i v n : ℕ) → IsWord n → word ≡ decimal n → length word ≤ i → v ≡ digits_value 10 (take i word) → v ≡ n
digits_end word i v n low is all before = before ∙ (ap (digits_value 10) (take_all i word all ∙ is) ∙ (decimal_is_IsNumeral n low).1)

-- a word that the number spells has it as its value, and a word that its digits do not spell has none
pub value_same : (word : List ℕ) (n : ℕ) → IsWord n → decimal n ≡ word → n ≡ value_of word
value_same word n low is = sym (ap value_of (sym is) ∙ ap or_zero (number_spelled n low))

pub value_other : (word : List ℕ) (n : ℕ) → ((m : ℕ) → IsWord m → word ≡ decimal m → n ≡ m) → (decimal n ≡ word → ⊥) → 0 ≡ value_of word
value_other word n finds other = go (number_of word) refl
  where
    go : (o : Option ℕ) → number_of word ≡ o → 0 ≡ or_zero (number_of word)
    go None e = sym (ap or_zero e)
    go (Some m) e =
        let is = number_sound word m e in
        let same : n ≡ m = finds m is.0 (sym is.1) in
        absurd (other (ap decimal same ∙ is.1))

-- environments and fields, entry by entry
env_short : (ns : List ℕ) → length ns < 2 → env_guess ns ≡ []
env_short [] low = refl
env_short (b ∷ []) low = refl
env_short (b ∷ n ∷ rest) low = absurd (omega arith)

fields_short : (words : List (List ℕ)) → length words < 2 → fields_guess words ≡ []
fields_short [] low = refl
fields_short (label ∷ []) low = refl
fields_short (label ∷ number ∷ rest) low = absurd (omega arith)

pub env_more : (ns : List ℕ) (i : ℕ) (env new whole : List BinderNode) → i < length ns / 2 → env ++ env_guess (drop (2 * i) ns) ≡ whole
    → new ≡ env ++ record { binder = get_or ns (2 * i) 0; node = record { 0 = get_or ns (2 * i + 1) 0 } } ∷ [] → new ++ env_guess (drop (2 * (i + 1)) ns) ≡ whole
env_more ns i env new whole low is added =
    let one : drop (2 * i) ns ≡ get_or ns (2 * i) 0 ∷ drop (2 * i + 1) ns = drop_more ns (2 * i) 0 (omega arith) in
    let two : drop (2 * i + 1) ns ≡ get_or ns (2 * i + 1) 0 ∷ drop (2 * i + 1 + 1) ns = drop_more ns (2 * i + 1) 0 (omega arith) in
    let next : 2 * i + 1 + 1 ≡ 2 * (i + 1) = omega arith in
    let rest : drop (2 * i) ns ≡ get_or ns (2 * i) 0 ∷ get_or ns (2 * i + 1) 0 ∷ drop (2 * (i + 1)) ns =
    one ∙ ap (λ t. get_or ns (2 * i) 0 ∷ t) (two ∙ ap (λ k. get_or ns (2 * i + 1) 0 ∷ drop k ns) next) in
    let entry : BinderNode = record { binder = get_or ns (2 * i) 0; node = record { 0 = get_or ns (2 * i + 1) 0 } } in
    ap (λ e. e ++ env_guess (drop (2 * (i + 1)) ns)) added ∙ (append_assoc env (entry ∷ []) (env_guess (drop (2 * (i + 1)) ns)) ∙ (sym (ap (λ t. env ++ env_guess t) rest) ∙ is))

pub env_all : (ns : List ℕ) (i : ℕ) (env whole : List BinderNode) → length ns / 2 ≤ i → env ++ env_guess (drop (2 * i) ns) ≡ whole → env ≡ whole
env_all ns i env whole all is =
    let size : length (drop (2 * i) ns) ≡ length ns - 2 * i = length-drop (2 * i) ns in
    sym (append-nil env) ∙ (sym (ap (λ t. env ++ t) (env_short (drop (2 * i) ns) (omega arith))) ∙ is)

pub fields_all : (words : List (List ℕ)) (i : ℕ) (fields whole : List Field) → length words / 2 ≤ i → fields ++ fields_guess (drop (2 * i) words) ≡ whole → fields ≡ whole
fields_all words i fields whole all is =
    let size : length (drop (2 * i) words) ≡ length words - 2 * i = length-drop (2 * i) words in
    sym (append-nil fields) ∙ (sym (ap (λ t. fields ++ t) (fields_short (drop (2 * i) words) (omega arith))) ∙ is)
