-- The token or the fault at a place, from what the bytes there begin with.
use Rattle.std.proofs.Common.{◌≡◌, ℕ, suc, ◌+◌, ◌-◌, ◌<◌, ◌≤◌, Bool, true, false, not, ◌&&◌, cond, List, [], ◌∷◌, length, take, drop, get_or, take_while, slice_range, Option, Some, None, sym, ap, subst, ◌∙◌, refl, arith, rules, length-drop, drop-cons, one-add, get_or-drop, add-zero}
use Rattle.std.specs.List.{list_all, prefix_len}
use Rattle.std.proofs.lemmas.Bool.{and_from, and_left, and_right, cond-true, or_left}
use Rattle.std.proofs.lemmas.List.{take_rest}
use Rattle.std.proofs.lemmas.List.Folds.{length-prefix_len}
use Rattle.std.proofs.lemmas.List.Sums.{prefix_len-le-length}
use Rattle.mls_base.specs.Spelling.{is_spelled, is_lower, is_name_byte}
use Rattle.mls_lexer.specs.declared.token.Kind.{Kind}
use Rattle.mls_lexer.specs.declared.token.Kind.TheVariants.{Number}
use Rattle.mls_lexer.specs.Tokens.{is_digit, symbol_kind, word_kind, shape, digits_value, largest_number, IsLongest, IsToken}
use Rattle.mls_lexer.specs.steps.Scanning.{IsBigNumber}
use Rattle.mls_lexer.proofs.Shapes.{no_symbol, no_shape, no_symbol_lower, no_symbol_digit, lower-digit, digit-lower, is_number_kind, word-number, is_number-from_shape, symbol_kind_tested, shape-word, shape-number, shape-symbol}
use Rattle.mls_lexer.proofs.Longest.{is_short, IsLongest-by_next}

-- the front that passes
front_passes : (p : ℕ → Bool) (xs : List ℕ) → list_all p (take (prefix_len p xs) xs) ≡ true
front_passes p [] = refl
front_passes p (x ∷ xs) = by_first (p x) refl (front_passes p xs)
  where
    by_first : (first : Bool) → p x ≡ first → list_all p (take (prefix_len p xs) xs) ≡ true
        → list_all p (take (cond first (1 + prefix_len p xs) 0) (x ∷ xs)) ≡ true
    by_first true is later = rw one-add (and_from (p x) (list_all p (take (prefix_len p xs) xs)) is later)
    by_first false is later = refl

-- and the byte after it, which does not
front_stops : (p : ℕ → Bool) (xs : List ℕ) → prefix_len p xs < length xs → list_all p (take (suc (prefix_len p xs)) xs) ≡ false
front_stops p [] h = absurd (omega arith)
front_stops p (x ∷ xs) h = by_first (p x) refl h (front_stops p xs)
  where
    by_first : (first : Bool) → p x ≡ first → cond first (1 + prefix_len p xs) 0 < suc (length xs)
        → (prefix_len p xs < length xs → list_all p (take (suc (prefix_len p xs)) xs) ≡ false)
        → list_all p (take (suc (cond first (1 + prefix_len p xs) 0)) (x ∷ xs)) ≡ false
    by_first true is h later = rw one-add (and_right (p x) (list_all p (take (suc (prefix_len p xs)) xs)) (later (omega arith)))
    by_first false is h later = and_left (p x) (list_all p (take 0 xs)) is

-- a small letter with bytes that are not all of names has no shape
no_word : (first : ℕ) (rest : List ℕ) → is_lower first ≡ true → list_all is_name_byte rest ≡ false → shape (first ∷ rest) ≡ None
no_word first rest lower stops =
    no_shape (first ∷ rest)
    (and_right (is_lower first) (list_all is_name_byte (first ∷ rest)) (and_right (is_name_byte first) (list_all is_name_byte rest) stops))
    (and_left (is_digit first) (list_all is_digit rest) (lower-digit first lower))
    (no_symbol_lower first rest lower)

-- a digit with bytes that are not all digits
no_number : (first : ℕ) (rest : List ℕ) → is_digit first ≡ true → list_all is_digit rest ≡ false → shape (first ∷ rest) ≡ None
no_number first rest digit stops =
    no_shape (first ∷ rest)
    (and_left (is_lower first) (list_all is_name_byte (first ∷ rest)) (digit-lower first digit))
    (and_right (is_digit first) (list_all is_digit rest) stops)
    (no_symbol_digit first rest digit)

-- what begins with no small letter and no digit and is no symbol
no_other : (first : ℕ) (rest : List ℕ) → is_lower first ≡ false → is_digit first ≡ false → symbol_kind (first ∷ rest) ≡ None → shape (first ∷ rest) ≡ None
no_other first rest lower digit symbol =
    no_shape (first ∷ rest)
    (and_left (is_lower first) (list_all is_name_byte (first ∷ rest)) lower)
    (and_left (is_digit first) (list_all is_digit rest) digit)
    symbol

-- the first n bytes are the longest token that the bytes begin with
pub record IsFront (bytes : List ℕ) (n : ℕ) (kind : Kind) : Type 0 where
  pub some : 0 < n
  pub within : n ≤ length bytes
  pub shaped : shape (take n bytes) ≡ Some kind
  pub stops : n < length bytes → shape (take (suc n) bytes) ≡ None

-- bytes of names from a small letter on
word_cons : (first : ℕ) (rest : List ℕ) (kind : Kind) → is_lower first ≡ true
    → kind ≡ word_kind (first ∷ take (prefix_len is_name_byte rest) rest)
    → IsFront (first ∷ rest) (suc (prefix_len is_name_byte rest)) kind
word_cons first rest kind lower same =
    let name : is_name_byte first ≡ true = search (rules, or_left) in
    let spelled : is_spelled (first ∷ take (prefix_len is_name_byte rest) rest) ≡ true =
    and_from (is_lower first) (is_name_byte first && list_all is_name_byte (take (prefix_len is_name_byte rest) rest)) lower
    (and_from (is_name_byte first) (list_all is_name_byte (take (prefix_len is_name_byte rest) rest)) name (front_passes is_name_byte rest)) in
    record {
      some = omega arith;
      within = omega (arith, prefix_len-le-length is_name_byte rest);
      shaped = shape-word (first ∷ take (prefix_len is_name_byte rest) rest) spelled ∙ ap Some (sym same);
      stops = λ h. no_word first (take (suc (prefix_len is_name_byte rest)) rest) lower (front_stops is_name_byte rest (omega arith));
    }

number_cons : (first : ℕ) (rest : List ℕ) → is_digit first ≡ true → IsFront (first ∷ rest) (suc (prefix_len is_digit rest)) Number
number_cons first rest digit =
    record {
      some = omega arith;
      within = omega (arith, prefix_len-le-length is_digit rest);
      shaped = shape-number (first ∷ take (prefix_len is_digit rest) rest) (and_from (is_digit first) (list_all is_digit (take (prefix_len is_digit rest) rest)) digit (front_passes is_digit rest));
      stops = λ h. no_number first (take (suc (prefix_len is_digit rest)) rest) digit (front_stops is_digit rest (omega arith));
    }

-- how many bytes pass, where the first one does
front_cons : (p : ℕ → Bool) (first : ℕ) (rest : List ℕ) (n : ℕ) → p first ≡ true → n ≡ length (take_while p (first ∷ rest)) → n ≡ suc (prefix_len p rest)
front_cons p first rest n here is =
    is ∙ length-prefix_len p (first ∷ rest) ∙ cond-true (p first) (1 + prefix_len p rest) 0 here ∙ one-add (prefix_len p rest)

pub IsFront-word : (bytes : List ℕ) (n : ℕ) (kind : Kind) → 0 < length bytes → is_lower (get_or bytes 0 0) ≡ true
    → n ≡ length (take_while is_name_byte bytes) → kind ≡ word_kind (take n bytes) → IsFront bytes n kind
IsFront-word [] n kind some lower is same = absurd (omega arith)
IsFront-word (first ∷ rest) n kind some lower is same =
    let name : is_name_byte first ≡ true = search (rules, or_left) in
    let count = front_cons is_name_byte first rest n name is in
    subst (λ m. IsFront (first ∷ rest) m kind) (sym count)
    (word_cons first rest kind lower (same ∙ ap (λ m. word_kind (take m (first ∷ rest))) count))

pub IsFront-number : (bytes : List ℕ) (n : ℕ) → 0 < length bytes → is_digit (get_or bytes 0 0) ≡ true
    → n ≡ length (take_while is_digit bytes) → IsFront bytes n Number
IsFront-number [] n some digit is = absurd (omega arith)
IsFront-number (first ∷ rest) n some digit is =
    subst (λ m. IsFront (first ∷ rest) m Number) (sym (front_cons is_digit first rest n digit is)) (number_cons first rest digit)

pub digits_pass : (bytes : List ℕ) (n : ℕ) → n ≡ length (take_while is_digit bytes) → list_all is_digit (take n bytes) ≡ true
digits_pass bytes n is = ap (λ m. list_all is_digit (take m bytes)) (is ∙ length-prefix_len is_digit bytes) ∙ front_passes is_digit bytes

-- three bytes are no symbol
no_third : (first second third : ℕ) (rest : List ℕ) → is_lower first ≡ false → is_digit first ≡ false → shape (first ∷ second ∷ third ∷ rest) ≡ None
no_third first second third rest lower digit =
    no_other first (second ∷ third ∷ rest) lower digit (no_symbol is_short refl (first ∷ second ∷ third ∷ rest) refl)

pub IsFront-two : (bytes : List ℕ) (kind : Kind) → 1 < length bytes → is_lower (get_or bytes 0 0) ≡ false → is_digit (get_or bytes 0 0) ≡ false
    → symbol_kind (get_or bytes 0 0 ∷ get_or bytes 1 0 ∷ []) ≡ Some kind → IsFront bytes 2 kind
IsFront-two [] kind some lower digit symbol = absurd (omega arith)
IsFront-two (first ∷ []) kind some lower digit symbol = absurd (omega arith)
IsFront-two (first ∷ second ∷ []) kind some lower digit symbol =
    record { some = omega arith; within = omega arith; shaped = shape-symbol (first ∷ second ∷ []) kind symbol; stops = λ h. absurd (omega arith) }
IsFront-two (first ∷ second ∷ third ∷ rest) kind some lower digit symbol =
    record { some = omega arith; within = omega arith; shaped = shape-symbol (first ∷ second ∷ []) kind symbol; stops = λ h. no_third first second third [] lower digit }

pub IsFront-one : (bytes : List ℕ) (kind : Kind) → 0 < length bytes → is_lower (get_or bytes 0 0) ≡ false → is_digit (get_or bytes 0 0) ≡ false
    → symbol_kind (get_or bytes 0 0 ∷ []) ≡ Some kind
    → (1 < length bytes → symbol_kind (get_or bytes 0 0 ∷ get_or bytes 1 0 ∷ []) ≡ None)
    → IsFront bytes 1 kind
IsFront-one [] kind some lower digit symbol two = absurd (omega arith)
IsFront-one (first ∷ []) kind some lower digit symbol two =
    record { some = omega arith; within = omega arith; shaped = shape-symbol (first ∷ []) kind symbol; stops = λ h. absurd (omega arith) }
IsFront-one (first ∷ second ∷ rest) kind some lower digit symbol two =
    record { some = omega arith; within = omega arith; shaped = shape-symbol (first ∷ []) kind symbol; stops = λ h. no_other first (second ∷ []) lower digit (two (omega arith)) }

-- the longest token that the bytes from a place on begin with is a token of the text
module _ (text : List ℕ) (start n : ℕ) (kind : Kind) (front : IsFront (drop start text) n kind) where
  piece : slice_range text start (start + n) ≡ take n (drop start text)
  piece = let e : start + n - start ≡ n = omega arith in ap (λ m. take m (drop start text)) e

  pub front-shape : shape (slice_range text start (start + n)) ≡ Some kind
  front-shape = ap shape piece ∙ front.shaped

  pub front-within : (start < start + n) × (start + n ≤ length text)
  front-within =
      let some = front.some in let within = front.within in
      (omega arith, omega (arith, length-drop start text))

  pub front-longest : IsLongest text start (start + n)
  front-longest =
      IsLongest-by_next text start (start + n) (omega arith)
      (λ h. let e : suc (start + n) - start ≡ suc n = omega arith in
      ap (λ m. shape (take m (drop start text))) e ∙ front.stops (omega (arith, length-drop start text)))

  pub IsToken-front : (kind ≡ Number → digits_value (take n (drop start text)) ≤ largest_number)
      → IsToken text (record { kind = kind; start = start; end = start + n })
  IsToken-front value =
      record {
        bytes = front-shape;
        within = front-within;
        longest = front-longest;
        value = λ h. subst (λ bytes. digits_value bytes ≤ largest_number) (sym piece) (value h);
      }

-- no token begins where the first byte has no shape
pub IsLongest-none : (text : List ℕ) (start : ℕ) → start < length text
    → is_lower (get_or text start 0) ≡ false → is_digit (get_or text start 0) ≡ false → symbol_kind (get_or text start 0 ∷ []) ≡ None
    → IsLongest text start start
IsLongest-none text start inside lower digit symbol =
    IsLongest-by_next text start start (omega arith)
    (λ h. let e : suc start - start ≡ 1 = omega arith in
    ap (λ m. shape (take m (drop start text))) e
    ∙ ap (λ bytes. shape (take 1 bytes)) (drop-cons text start 0 inside)
    ∙ no_other (get_or text start 0) [] lower digit symbol)

-- what the functions of the reader count and compare at a place
module _ (text : List ℕ) (start : ℕ) (inside : start < length text) where
  some : 0 < length (drop start text)
  some = omega (arith, length-drop start text)

  first : get_or (drop start text) 0 0 ≡ get_or text start 0
  first = get_or-drop start text 0 0 ∙ ap (λ i. get_or text i 0) (add-zero start)

  first_at : (p : ℕ → Bool) (b : Bool) → p (get_or text start 0) ≡ b → p (get_or (drop start text) 0 0) ≡ b
  first_at p b h = ap p first ∙ h

  both_at : (kind : Option Kind) → symbol_kind (get_or text start 0 ∷ get_or text (start + 1) 0 ∷ []) ≡ kind
      → symbol_kind (get_or (drop start text) 0 0 ∷ get_or (drop start text) 1 0 ∷ []) ≡ kind
  both_at kind h = (λ i. symbol_kind (first i ∷ get_or-drop start text 1 0 i ∷ [])) ∙ h

  count_from : (p : ℕ → Bool) (n : ℕ) → n ≡ length (take_while p (take (length text - start) (drop start text))) → n ≡ length (take_while p (drop start text))
  count_from p n is = is ∙ ap (λ bytes. length (take_while p bytes)) (take_rest text start)

  pub word_token : (n : ℕ) (kind : Kind) → is_lower (get_or text start 0) ≡ true
      → n ≡ length (take_while is_name_byte (take (length text - start) (drop start text)))
      → kind ≡ word_kind (slice_range text start (start + n))
      → IsToken text (record { kind = kind; start = start; end = start + n })
  word_token n kind lower is same =
      let e : start + n - start ≡ n = omega arith in
      let front = IsFront-word (drop start text) n kind some (first_at is_lower true lower) (count_from is_name_byte n is) (same ∙ ap (λ m. word_kind (take m (drop start text))) e) in
      IsToken-front text start n kind front
      (λ number. let wrong : true ≡ false = sym (ap is_number_kind (sym same ∙ number)) ∙ word-number (slice_range text start (start + n)) in absurd (cc))

  number_front : (n : ℕ) → is_digit (get_or text start 0) ≡ true
      → n ≡ length (take_while is_digit (take (length text - start) (drop start text)))
      → IsFront (drop start text) n Number
  number_front n digit is = IsFront-number (drop start text) n some (first_at is_digit true digit) (count_from is_digit n is)

  pub number_digits : (n : ℕ) → n ≡ length (take_while is_digit (take (length text - start) (drop start text)))
      → list_all is_digit (slice_range text start (start + n)) ≡ true
  number_digits n is =
      let e : start + n - start ≡ n = omega arith in
      ap (λ m. list_all is_digit (take m (drop start text))) e ∙ digits_pass (drop start text) n (count_from is_digit n is)

  pub number_token : (n : ℕ) → is_digit (get_or text start 0) ≡ true
      → n ≡ length (take_while is_digit (take (length text - start) (drop start text)))
      → digits_value (slice_range text start (start + n)) ≤ largest_number
      → IsToken text (record { kind = Number; start = start; end = start + n })
  number_token n digit is small =
      let e : start + n - start ≡ n = omega arith in
      IsToken-front text start n Number (number_front n digit is)
      (λ h. subst (λ m. digits_value (take m (drop start text)) ≤ largest_number) e small)

  pub big_number : (n : ℕ) → is_digit (get_or text start 0) ≡ true
      → n ≡ length (take_while is_digit (take (length text - start) (drop start text)))
      → largest_number < digits_value (slice_range text start (start + n))
      → IsBigNumber text start (start + n)
  big_number n digit is large =
      let front = number_front n digit is in
      record {
        within = front-within text start n Number front;
        digits = is_number-from_shape (slice_range text start (start + n)) (front-shape text start n Number front);
        longest = front-longest text start n Number front;
        value = large;
      }

  symbol_token : (n : ℕ) (kind : Kind) (bytes : List ℕ) → symbol_kind bytes ≡ Some kind → IsFront (drop start text) n kind
      → IsToken text (record { kind = kind; start = start; end = start + n })
  symbol_token n kind bytes symbol front =
      IsToken-front text start n kind front
      (λ number. let wrong : not (is_number_kind Number) ≡ true = ap (λ k. not (is_number_kind k)) (sym number) ∙ symbol_kind_tested (λ k. not (is_number_kind k)) refl bytes kind symbol in absurd (cc))

  pub two_token : (kind : Kind) → start + 1 < length text → is_lower (get_or text start 0) ≡ false → is_digit (get_or text start 0) ≡ false
      → symbol_kind (get_or text start 0 ∷ get_or text (start + 1) 0 ∷ []) ≡ Some kind
      → IsToken text (record { kind = kind; start = start; end = start + 2 })
  two_token kind more lower digit symbol =
      symbol_token 2 kind (get_or text start 0 ∷ get_or text (start + 1) 0 ∷ []) symbol
      (IsFront-two (drop start text) kind (omega (arith, length-drop start text)) (first_at is_lower false lower) (first_at is_digit false digit)
      (both_at (Some kind) symbol))

  pub one_token : (kind : Kind) → is_lower (get_or text start 0) ≡ false → is_digit (get_or text start 0) ≡ false
      → symbol_kind (get_or text start 0 ∷ []) ≡ Some kind
      → (start + 1 < length text → symbol_kind (get_or text start 0 ∷ get_or text (start + 1) 0 ∷ []) ≡ None)
      → IsToken text (record { kind = kind; start = start; end = start + 1 })
  one_token kind lower digit symbol two =
      symbol_token 1 kind (get_or text start 0 ∷ []) symbol
      (IsFront-one (drop start text) kind some (first_at is_lower false lower) (first_at is_digit false digit)
      (ap (λ byte. symbol_kind (byte ∷ [])) first ∙ symbol)
      (λ h. both_at None (two (omega (arith, length-drop start text)))))
