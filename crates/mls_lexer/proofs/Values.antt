-- The value of digits.
use Rattle.std.proofs.Common.{◌≡◌, ℕ, ◌+◌, ◌-◌, ◌*◌, ◌<◌, ◌≤◌, List, [], ◌∷◌, ◌++◌, length, take, drop, get_or, fold, ap, ◌∙◌, refl, arith, take-append-drop}
use Rattle.std.proofs.lemmas.List.{take_more}
use Rattle.mls_lexer.specs.Tokens.{digits_value}

-- one digit more
next_value : ℕ → ℕ → ℕ
next_value value digit = 10 * value + (digit - 48)

value_after : ℕ → List ℕ → ℕ
value_after value digits = fold (λ value digit. 10 * value + (digit - 48)) value digits

fold-append : (value : ℕ) (xs ys : List ℕ) → value_after value (xs ++ ys) ≡ value_after (value_after value xs) ys
unfolding value_after
fold-append value [] ys = refl
fold-append value (x ∷ xs) ys = fold-append (10 * value + (x - 48)) xs ys

-- further digits do not make it smaller
after_more : (value : ℕ) (xs : List ℕ) → value ≤ value_after value xs
unfolding value_after
after_more value [] = omega arith
after_more value (x ∷ xs) = let h : 10 * value + (x - 48) ≤ value_after (10 * value + (x - 48)) xs = after_more (10 * value + (x - 48)) xs in omega arith

pub digits_value_push : (xs : List ℕ) (digit : ℕ) → digits_value (xs ++ digit ∷ []) ≡ 10 * digits_value xs + (digit - 48)
unfolding value_after
digits_value_push xs digit = fold-append 0 xs (digit ∷ [])

pub digits_value_more : (xs : List ℕ) (i : ℕ) → i < length xs → digits_value (take (i + 1) xs) ≡ 10 * digits_value (take i xs) + (get_or xs i 0 - 48)
digits_value_more xs i h = ap digits_value (take_more xs i 0 h) ∙ digits_value_push (take i xs) (get_or xs i 0)

-- the front of digits has no larger value
pub digits_value_front : (xs : List ℕ) (i : ℕ) → digits_value (take i xs) ≤ digits_value xs
unfolding value_after
digits_value_front xs i =
    let split : digits_value (take i xs ++ drop i xs) ≡ value_after (digits_value (take i xs)) (drop i xs) = fold-append 0 (take i xs) (drop i xs) in
    let whole : digits_value (take i xs ++ drop i xs) ≡ digits_value xs = ap digits_value (take-append-drop i xs) in
    let grows : digits_value (take i xs) ≤ value_after (digits_value (take i xs)) (drop i xs) = after_more (digits_value (take i xs)) (drop i xs) in
    omega arith
