-- What is written token by token is read back, and what is read can be written.
use Rattle.std.proofs.Common.{◌≡◌, ℕ, ◌+◌, ◌%◌, ◌^◌, ◌<◌, ◌≤◌, true, List, [], ◌∷◌, ◌++◌, map, drop, slice_range, decimal, All, Some, ap, subst, ◌∙◌, refl, arith, append-nil}
use Rattle.std.specs.List.{list_all}
use Rattle.std.proofs.lemmas.Bool.{and_from}
use Rattle.std.proofs.lemmas.Bool.Decides.{nat_tests}
use Rattle.std.proofs.lemmas.Fmt.{decimal_by_steps}
use Rattle.std.proofs.lemmas.List.Elements.{All-head, All-tail, All-map}
use Rattle.std.proofs.lemmas.List.Folds.{list_all-append}
use Rattle.mls_base.specs.Spelling.{IsName}
use Rattle.mls_lexer.specs.declared.token.Kind.{Kind}
use Rattle.mls_lexer.specs.declared.token.Kind.TheVariants.{Name, Number}
use Rattle.mls_lexer.specs.declared.token.Token.{Token}
use Rattle.mls_lexer.specs.Tokens.{is_digit, is_number, IsLastGap, shape, digits_value, largest_number, IsToken, Terminal, name, number, word, terminal, terminal_of, HasTerminals}
use Rattle.mls_lexer.specs.Spellings.{spelling, IsTerminal, spelled, spaced}
use Rattle.mls_lexer.proofs.Shapes.{IsName-from_shape, shape-name, shape-number}
use Rattle.mls_lexer.proofs.Follows.{Follow-all}
use Rattle.mls_lexer.proofs.Values.{digits_value_push}
use Rattle.mls_lexer.proofs.Terminals.{StopsBefore-plain, HasTerminals-nil, HasTerminals-space, HasTerminals-token, shape-spelling, terminal-fixed, kind-fixed}

-- digits of this value
record IsDecimal (value : ℕ) (bytes : List ℕ) : Type 0 where
  digits : is_number bytes ≡ true
  same : digits_value bytes ≡ value

number_push : (digits : List ℕ) (digit : ℕ) → is_number digits ≡ true → is_digit digit ≡ true → is_number (digits ++ digit ∷ []) ≡ true
number_push [] digit h k = absurd (cc)
number_push (first ∷ rest) digit h k = list_all-append is_digit (first ∷ rest) (digit ∷ []) ∙ and_from (list_all is_digit (first ∷ rest)) (list_all is_digit (digit ∷ [])) h (and_from (is_digit digit) true k refl)

low_digit : (n : ℕ) → n < 10 → is_digit (48 + n) ≡ true
low_digit n h = grind (arith, nat_tests)

decimal_is : (n : ℕ) → n < 2 ^ 64 → IsDecimal n (decimal n)
decimal_is =
    decimal_by_steps IsDecimal
    (λ n low. record { digits = and_from (is_digit (48 + n)) true (low_digit n low) refl; same = omega arith })
    (λ n digits high front. record {
      digits = number_push digits (48 + n % 10) front.digits (low_digit (n % 10) (omega arith));
      same = let same = front.same in omega (arith, digits_value_push digits (48 + n % 10));
    })

-- what is written of a terminal is a token that is just it
record IsWritten (x : Terminal) (bytes : List ℕ) : Type 0 where
  kind : Kind
  shaped : shape bytes ≡ Some kind
  value : kind ≡ Number → digits_value bytes ≤ largest_number
  back : terminal_of kind bytes ≡ x

written_of : (x : Terminal) → IsTerminal x → IsWritten x (spelled x)
written_of (name bytes) h = record { kind = Name; shaped = shape-name bytes h; value = λ number. absurd (cc); back = refl }
written_of (number value) h =
    let digits = decimal_is value (omega arith) in
    record {
      kind = Number;
      shaped = shape-number (decimal value) digits.digits;
      value = λ same. let is = digits.same in omega arith;
      back = ap number digits.same;
    }
written_of (word kind) h =
    record {
      kind = kind;
      shaped = shape-spelling kind h;
      value = λ number. absurd (kind-fixed kind h number);
      back = terminal-fixed kind (spelling kind) h;
    }

-- a token with a space after it, and a token at the end
pub HasTerminals-then_space : (bytes rest : List ℕ) (kind : Kind) (xs : List Terminal) → shape bytes ≡ Some kind
    → (kind ≡ Number → digits_value bytes ≤ largest_number) → HasTerminals rest xs
    → HasTerminals (bytes ++ (32 ∷ rest)) (terminal_of kind bytes ∷ xs)
HasTerminals-then_space bytes rest kind xs shaped value h =
    HasTerminals-token bytes (32 ∷ rest) kind xs shaped value (StopsBefore-plain bytes 32 rest kind shaped refl refl) (HasTerminals-space 32 rest xs refl h)

pub HasTerminals-last : (bytes : List ℕ) (kind : Kind) → shape bytes ≡ Some kind
    → (kind ≡ Number → digits_value bytes ≤ largest_number) → HasTerminals bytes (terminal_of kind bytes ∷ [])
HasTerminals-last bytes kind shaped value =
    subst (λ text. HasTerminals text (terminal_of kind bytes ∷ [])) (append-nil bytes) (HasTerminals-token bytes [] kind [] shaped value tt HasTerminals-nil)

-- a terminal as it is written, with a space behind it
terminal_then_space : (x : Terminal) (rest : List ℕ) (xs : List Terminal) → IsTerminal x → HasTerminals rest xs → HasTerminals (spelled x ++ (32 ∷ rest)) (x ∷ xs)
terminal_then_space x rest xs is h =
    let it = written_of x is in
    subst (λ y. HasTerminals (spelled x ++ (32 ∷ rest)) (y ∷ xs)) it.back (HasTerminals-then_space (spelled x) rest it.kind xs it.shaped it.value h)

terminal_last : (x : Terminal) → IsTerminal x → HasTerminals (spelled x) (x ∷ [])
terminal_last x is =
    let it = written_of x is in
    subst (λ y. HasTerminals (spelled x) (y ∷ [])) it.back (HasTerminals-last (spelled x) it.kind it.shaped it.value)

pub written_is_read : (xs : List Terminal) → All IsTerminal xs → HasTerminals (spaced (map spelled xs)) xs
written_is_read [] all = HasTerminals-nil
written_is_read (x ∷ []) all = terminal_last x (All-head IsTerminal x [] all)
written_is_read (x ∷ y ∷ xs) all =
    terminal_then_space x (spaced (map spelled (y ∷ xs))) (y ∷ xs) (All-head IsTerminal x (y ∷ xs) all)
    (written_is_read (y ∷ xs) (All-tail IsTerminal x (y ∷ xs) all))

-- a token is a terminal
IsTerminal-shape : (kind : Kind) (bytes : List ℕ) → shape bytes ≡ Some kind → (kind ≡ Number → digits_value bytes ≤ largest_number) → IsTerminal (terminal_of kind bytes)
IsTerminal-shape Name bytes shaped value = IsName-from_shape bytes shaped
IsTerminal-shape Number bytes shaped value = value refl
IsTerminal-shape _ bytes shaped value = refl

pub IsTerminal-token : (text : List ℕ) (token : Token) → IsToken text token → IsTerminal (terminal text token)
IsTerminal-token text token it = IsTerminal-shape token.kind (slice_range text token.start token.end) it.bytes it.value

-- the bytes of a token of this kind are a name
pub IsName-token : (text : List ℕ) (token : Token) → IsToken text token → token.kind ≡ Name → IsName (slice_range text token.start token.end)
IsName-token text token it is = IsName-from_shape (slice_range text token.start token.end) (it.bytes ∙ ap Some is)

pub tokens_are_terminals : (text : List ℕ) (xs : List Terminal) → HasTerminals text xs → All IsTerminal xs
tokens_are_terminals text xs h =
    subst (All IsTerminal) h.2
    (All-map IsTerminal (terminal text) h.0
    (λ k d inside. IsTerminal-token text _ (Follow-all text 0 h.0 (λ q. IsLastGap (drop q text)) h.1 k d inside)))
