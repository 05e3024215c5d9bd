-- What bytes have the shape of a token.
use Rattle.std.proofs.Common.{◌≡◌, ℕ, Bool, true, false, not, ◌||◌, cond, List, [], ◌∷◌, length, find, bytes_eq, Option, Some, None, is_some, option_map, unwrap_or, zip, sym, ap, ◌∙◌, refl, arith}
use Rattle.std.specs.List.{list_all, list_any}
use Rattle.std.proofs.lemmas.Bool.{and_parts, and_left, cond-true, cond-false, not-true}
use Rattle.std.proofs.lemmas.Bool.Decides.{nat_tests}
use Rattle.std.proofs.lemmas.Slice.Eq.{bytes_eq-Decides}
use Rattle.mls_base.specs.Spelling.{IsName, is_spelled, is_reserved, reserved_words, is_lower, is_name_byte, begins_lower}
use Rattle.mls_lexer.specs.declared.token.Kind.{Kind}
use Rattle.mls_lexer.specs.declared.token.Kind.TheVariants.{Name, Number}
use Rattle.mls_lexer.specs.Tokens.{is_digit, is_number, symbols, symbol_kind, reserved_kinds, word_kind, shape}

-- an entry that was found has the bytes, and what all entries pass
find_tested : (test : List ℕ × Kind → Bool) (table : List (List ℕ × Kind)) (bytes : List ℕ) (entry : List ℕ × Kind)
    → list_all test table ≡ true → find (λ row. bytes_eq bytes row.0) table ≡ Some entry
    → (bytes ≡ entry.0) × (test entry ≡ true)
find_tested test [] bytes entry all found = absurd (cc)
find_tested test (row ∷ table) bytes entry all found =
    let parts = and_parts (test row) (list_all test table) all in
    by_first (bytes_eq bytes row.0) refl found (λ later. find_tested test table bytes entry parts.1 later)
  where
    by_first : (same : Bool) → bytes_eq bytes row.0 ≡ same
        → cond same (Some row) (find (λ row. bytes_eq bytes row.0) table) ≡ Some entry
        → (find (λ row. bytes_eq bytes row.0) table ≡ Some entry → (bytes ≡ entry.0) × (test entry ≡ true))
        → (bytes ≡ entry.0) × (test entry ≡ true)
    by_first true is found later =
        let same : row ≡ entry = cc in
        (((bytes_eq-Decides bytes row.0).0 is ∙ ap (λ (r : List ℕ × Kind). r.0) same), sym (ap test same) ∙ (and_parts (test row) (list_all test table) all).0)
    by_first false is found later = later found

-- a mapped option that is there
map_some : {X Y : Type 0} (f : X → Y) (o : Option X) (y : Y) → option_map f o ≡ Some y → (x : X) × (o ≡ Some x) × (f x ≡ y)
map_some f None y h = absurd (cc)
map_some f (Some x) y h = (x, refl, cc)

-- what all symbols pass, bytes with a kind of symbol pass
pub symbol_tested : (test : List ℕ → Bool) → list_all (λ symbol. test symbol.0) symbols ≡ true
    → (bytes : List ℕ) (kind : Kind) → symbol_kind bytes ≡ Some kind → test bytes ≡ true
unfolding symbol_kind
symbol_tested test all bytes kind h =
    let some = map_some (λ (symbol : List ℕ × Kind). symbol.1) (find (λ symbol. bytes_eq bytes symbol.0) symbols) kind h in
    let found = find_tested (λ symbol. test symbol.0) symbols bytes some.0 all some.1 in
    ap test found.0 ∙ found.1

-- so bytes that fail it are no symbol
pub no_symbol : (test : List ℕ → Bool) → list_all (λ symbol. test symbol.0) symbols ≡ true
    → (bytes : List ℕ) → test bytes ≡ false → symbol_kind bytes ≡ None
no_symbol test all bytes fails = by_kind (symbol_kind bytes) refl
  where
    by_kind : (kind : Option Kind) → symbol_kind bytes ≡ kind → kind ≡ None
    by_kind None is = refl
    by_kind (Some kind) is = absurd (cc (symbol_tested test all bytes kind is))

-- the first byte is a digit
abbrev pub begins_digit : List ℕ → Bool
begins_digit [] = false
begins_digit (first ∷ rest) = is_digit first

-- a small letter is no digit
pub lower-digit : (byte : ℕ) → is_lower byte ≡ true → is_digit byte ≡ false
lower-digit byte h = grind (arith, nat_tests)

pub digit-lower : (byte : ℕ) → is_digit byte ≡ true → is_lower byte ≡ false
digit-lower byte h = grind (arith, nat_tests)

-- no symbol begins with a small letter or a digit
pub no_symbol_lower : (first : ℕ) (rest : List ℕ) → is_lower first ≡ true → symbol_kind (first ∷ rest) ≡ None
no_symbol_lower first rest h = no_symbol (λ bytes. not (begins_lower bytes)) refl (first ∷ rest) (ap not h)

pub no_symbol_digit : (first : ℕ) (rest : List ℕ) → is_digit first ≡ true → symbol_kind (first ∷ rest) ≡ None
no_symbol_digit first rest h = no_symbol (λ bytes. not (begins_digit bytes)) refl (first ∷ rest) (ap not h)

-- bytes that are no word, no number and no symbol have no shape
pub no_shape : (bytes : List ℕ) → is_spelled bytes ≡ false → is_number bytes ≡ false → symbol_kind bytes ≡ None → shape bytes ≡ None
no_shape bytes word number symbol =
    cond-false (is_spelled bytes) (Some (word_kind bytes)) (cond (is_number bytes) (Some Number) (symbol_kind bytes)) word
    ∙ cond-false (is_number bytes) (Some Number) (symbol_kind bytes) number ∙ symbol

-- what gives bytes their shape
pub data IsShaped (bytes : List ℕ) (kind : Kind) : Type 0 where
  a_word : is_spelled bytes ≡ true → word_kind bytes ≡ kind → IsShaped bytes kind
  a_number : is_number bytes ≡ true → Number ≡ kind → IsShaped bytes kind
  a_symbol : symbol_kind bytes ≡ Some kind → IsShaped bytes kind

pub IsShaped-from_shape : (bytes : List ℕ) (kind : Kind) → shape bytes ≡ Some kind → IsShaped bytes kind
IsShaped-from_shape bytes kind h = by_word (is_spelled bytes) refl h
  where
    by_number : (number : Bool) → is_number bytes ≡ number → cond number (Some Number) (symbol_kind bytes) ≡ Some kind → IsShaped bytes kind
    by_number true is h = a_number is (cc)
    by_number false is h = a_symbol h

    by_word : (word : Bool) → is_spelled bytes ≡ word
        → cond word (Some (word_kind bytes)) (cond (is_number bytes) (Some Number) (symbol_kind bytes)) ≡ Some kind → IsShaped bytes kind
    by_word true is h = a_word is (cc)
    by_word false is h = by_number (is_number bytes) refl h

-- a number is no word
number-word : (bytes : List ℕ) → is_number bytes ≡ true → is_spelled bytes ≡ false
number-word [] h = refl
number-word (first ∷ rest) h =
    let digit : is_digit first ≡ true = (and_parts (is_digit first) (list_all is_digit rest) h).0 in
    and_left (is_lower first) (list_all is_name_byte (first ∷ rest)) (digit-lower first digit)

-- a symbol is no word and no number
symbol-word : (bytes : List ℕ) (kind : Kind) → symbol_kind bytes ≡ Some kind → is_spelled bytes ≡ false
symbol-word bytes kind h = not-true (is_spelled bytes) (symbol_tested (λ bytes. not (is_spelled bytes)) refl bytes kind h)

symbol-number : (bytes : List ℕ) (kind : Kind) → symbol_kind bytes ≡ Some kind → is_number bytes ≡ false
symbol-number bytes kind h = not-true (is_number bytes) (symbol_tested (λ bytes. not (is_number bytes)) refl bytes kind h)

pub shape-word : (bytes : List ℕ) → is_spelled bytes ≡ true → shape bytes ≡ Some (word_kind bytes)
shape-word bytes h = cond-true (is_spelled bytes) (Some (word_kind bytes)) (cond (is_number bytes) (Some Number) (symbol_kind bytes)) h

pub shape-number : (bytes : List ℕ) → is_number bytes ≡ true → shape bytes ≡ Some Number
shape-number bytes h =
    cond-false (is_spelled bytes) (Some (word_kind bytes)) (cond (is_number bytes) (Some Number) (symbol_kind bytes)) (number-word bytes h)
    ∙ cond-true (is_number bytes) (Some Number) (symbol_kind bytes) h

pub shape-symbol : (bytes : List ℕ) (kind : Kind) → symbol_kind bytes ≡ Some kind → shape bytes ≡ Some kind
shape-symbol bytes kind h =
    cond-false (is_spelled bytes) (Some (word_kind bytes)) (cond (is_number bytes) (Some Number) (symbol_kind bytes)) (symbol-word bytes kind h)
    ∙ cond-false (is_number bytes) (Some Number) (symbol_kind bytes) (symbol-number bytes kind h) ∙ h

pub shape-from_IsShaped : (bytes : List ℕ) (kind : Kind) → IsShaped bytes kind → shape bytes ≡ Some kind
shape-from_IsShaped bytes kind (a_word h k) = shape-word bytes h ∙ ap Some k
shape-from_IsShaped bytes kind (a_number h k) = shape-number bytes h ∙ ap Some k
shape-from_IsShaped bytes kind (a_symbol h) = shape-symbol bytes kind h

-- no bytes at all are no token
pub shape-nil : shape [] ≡ None
unfolding symbol_kind
shape-nil = refl

-- a row of two lists beside each other is found where the first list has a word that passes
find_zip : (test : List ℕ → Bool) (words : List (List ℕ)) (kinds : List Kind) → length words ≡ length kinds
    → is_some (find (λ row. test row.0) (zip words kinds)) ≡ list_any test words
find_zip test [] kinds same = refl
find_zip test (word ∷ words) [] same = absurd (omega arith)
find_zip test (word ∷ words) (kind ∷ kinds) same = by_first (test word) (find_zip test words kinds (omega arith))
  where
    by_first : (first : Bool) → is_some (find (λ row. test row.0) (zip words kinds)) ≡ list_any test words
        → is_some (cond first (Some (word, kind)) (find (λ row. test row.0) (zip words kinds))) ≡ (first || list_any test words)
    by_first true later = refl
    by_first false later = later

-- the row of a reserved word
word_row : List ℕ → Option (List ℕ × Kind)
word_row bytes = find (λ row. bytes_eq bytes row.0) (zip reserved_words reserved_kinds)

reserved-row : (bytes : List ℕ) → is_some (word_row bytes) ≡ is_reserved bytes
unfolding is_reserved word_row
reserved-row bytes = find_zip (bytes_eq bytes) reserved_words reserved_kinds refl

kind-row : (bytes : List ℕ) → word_kind bytes ≡ unwrap_or (option_map (λ (row : List ℕ × Kind). row.1) (word_row bytes)) Name
unfolding word_kind word_row
kind-row bytes = refl

-- what the kinds of all reserved words pass
row_tested : (test : Kind → Bool) → list_all (λ row. test row.1) (zip reserved_words reserved_kinds) ≡ true
    → (bytes : List ℕ) (row : List ℕ × Kind) → word_row bytes ≡ Some row → test row.1 ≡ true
unfolding word_row
row_tested test all bytes row h = (find_tested (λ row. test row.1) (zip reserved_words reserved_kinds) bytes row all h).1

-- a name's kind is that of a word that is not reserved
abbrev is_name_kind : Kind → Bool
is_name_kind Name = true
is_name_kind _ = false

abbrev pub is_number_kind : Kind → Bool
is_number_kind Number = true
is_number_kind _ = false

pub kind-free : (bytes : List ℕ) → is_reserved bytes ≡ false → word_kind bytes ≡ Name
kind-free bytes free = by_row (word_row bytes) refl
  where
    by_row : (row : Option (List ℕ × Kind)) → word_row bytes ≡ row → word_kind bytes ≡ Name
    by_row None is = kind-row bytes ∙ ap (λ (o : Option (List ℕ × Kind)). unwrap_or (option_map (λ (row : List ℕ × Kind). row.1) o) Name) is
    by_row (Some row) is =
        let some : true ≡ false = ap (λ (o : Option (List ℕ × Kind)). is_some o) (sym is) ∙ reserved-row bytes ∙ free in
        absurd (cc)

pub free-kind : (bytes : List ℕ) → word_kind bytes ≡ Name → is_reserved bytes ≡ false
free-kind bytes name = by_row (word_row bytes) refl
  where
    by_row : (row : Option (List ℕ × Kind)) → word_row bytes ≡ row → is_reserved bytes ≡ false
    by_row None is = sym (reserved-row bytes) ∙ ap (λ (o : Option (List ℕ × Kind)). is_some o) is
    by_row (Some row) is =
        let kind : word_kind bytes ≡ row.1 = kind-row bytes ∙ ap (λ (o : Option (List ℕ × Kind)). unwrap_or (option_map (λ (row : List ℕ × Kind). row.1) o) Name) is in
        let other : not (is_name_kind row.1) ≡ true = row_tested (λ kind. not (is_name_kind kind)) refl bytes row is in
        let is_name : row.1 ≡ Name = sym kind ∙ name in
        let wrong : false ≡ true = sym (ap (λ k. not (is_name_kind k)) is_name) ∙ other in
        absurd (cc)

-- a word is no number
pub word-number : (bytes : List ℕ) → is_number_kind (word_kind bytes) ≡ false
word-number bytes = by_row (word_row bytes) refl
  where
    by_row : (row : Option (List ℕ × Kind)) → word_row bytes ≡ row → is_number_kind (word_kind bytes) ≡ false
    by_row None is = ap is_number_kind (kind-row bytes ∙ ap (λ (o : Option (List ℕ × Kind)). unwrap_or (option_map (λ (row : List ℕ × Kind). row.1) o) Name) is)
    by_row (Some row) is =
        ap is_number_kind (kind-row bytes ∙ ap (λ (o : Option (List ℕ × Kind)). unwrap_or (option_map (λ (row : List ℕ × Kind). row.1) o) Name) is)
        ∙ not-true (is_number_kind row.1) (row_tested (λ kind. not (is_number_kind kind)) refl bytes row is)

-- what the kinds of all symbols pass
pub symbol_kind_tested : (test : Kind → Bool) → list_all (λ symbol. test symbol.1) symbols ≡ true
    → (bytes : List ℕ) (kind : Kind) → symbol_kind bytes ≡ Some kind → test kind ≡ true
unfolding symbol_kind
symbol_kind_tested test all bytes kind h =
    let some = map_some (λ (symbol : List ℕ × Kind). symbol.1) (find (λ symbol. bytes_eq bytes symbol.0) symbols) kind h in
    sym (ap test some.2) ∙ (find_tested (λ symbol. test symbol.1) symbols bytes some.0 all some.1).1

-- bytes have the shape of a name exactly if they are one
pub IsName-from_shape : (bytes : List ℕ) → shape bytes ≡ Some Name → IsName bytes
IsName-from_shape bytes h = by_shape (IsShaped-from_shape bytes Name h)
  where
    by_shape : IsShaped bytes Name → IsName bytes
    by_shape (a_word word kind) = record { spelled = word; free = free-kind bytes kind }
    by_shape (a_number number kind) = absurd (cc)
    by_shape (a_symbol symbol) =
        let other : false ≡ true = symbol_kind_tested (λ kind. not (is_name_kind kind)) refl bytes Name symbol in
        absurd (cc)

pub shape-name : (bytes : List ℕ) → IsName bytes → shape bytes ≡ Some Name
shape-name bytes h = shape-word bytes h.spelled ∙ ap Some (kind-free bytes h.free)

-- bytes have the shape of a number exactly if they are digits
pub is_number-from_shape : (bytes : List ℕ) → shape bytes ≡ Some Number → is_number bytes ≡ true
is_number-from_shape bytes h = by_shape (IsShaped-from_shape bytes Number h)
  where
    by_shape : IsShaped bytes Number → is_number bytes ≡ true
    by_shape (a_word word kind) =
        let wrong : true ≡ false = sym (ap is_number_kind kind) ∙ word-number bytes in
        absurd (cc)
    by_shape (a_number number kind) = number
    by_shape (a_symbol symbol) =
        let other : false ≡ true = symbol_kind_tested (λ kind. not (is_number_kind kind)) refl bytes Number symbol in
        absurd (cc)

pub digits-from_number : (bytes : List ℕ) → is_number bytes ≡ true → list_all is_digit bytes ≡ true
digits-from_number [] h = refl
digits-from_number (first ∷ rest) h = h
