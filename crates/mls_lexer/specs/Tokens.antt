-- The tokens of a text, its first fault, and the places of its bytes.
use Rattle.std.specs.Prelude.{◌≡◌, ℕ, ◌+◌, ◌-◌, ◌*◌, ◌<◌, ◌≤◌, Bool, true, false, not, ◌&&◌, ◌||◌, nat_le, ◌==◌}
use Rattle.std.specs.Prelude.{if◌then◌else◌, List, [], ◌∷◌, map, length, reverse, take, drop, slice_range, slice_index}
use Rattle.std.specs.Prelude.{slice_get, fold, find, take_while, count_by, codes, bytes_eq, Option, Some, None}
use Rattle.std.specs.Prelude.{unwrap_or, option_map, IsSome, IsTrue, IsFalse}
use Rattle.std.specs.List.{list_all, zip}
use Rattle.mls_base.specs.Spelling.{reserved_words, is_spelled}
use Rattle.mls_lexer.specs.declared.token.Token.{Token}
use Rattle.mls_lexer.specs.declared.token.LexFault.{LexFault}
use Rattle.mls_lexer.specs.declared.token.LexFault.TheVariants.{BadByte, BigNumber}
use Rattle.mls_lexer.specs.declared.token.Kind.{Kind}
use Rattle.mls_lexer.specs.declared.token.Kind.TheVariants.{Name, Number, WordAnd, WordBool, WordBot, WordElse}
use Rattle.mls_lexer.specs.declared.token.Kind.TheVariants.{WordFalse, WordFormat, WordFun, WordIf, WordImport, WordIn}
use Rattle.mls_lexer.specs.declared.token.Kind.TheVariants.{WordInt, WordLet, WordRec, WordThen, WordTop, WordTrue}
use Rattle.mls_lexer.specs.declared.token.Kind.TheVariants.{WordType, WordVal, Equals, DoubleEquals, Arrow, BraceLeft}
use Rattle.mls_lexer.specs.declared.token.Kind.TheVariants.{BraceRight, ParenLeft, ParenRight, Comma, Dot, Colon, Plus}
use Rattle.mls_lexer.specs.declared.token.Kind.TheVariants.{Minus, Star, Less, Bar, Amp}

-- a space, a tab, a newline or a carriage return
abbrev pub is_space : ℕ → Bool
is_space byte = (byte == 32) || (byte == 9) || (byte == 10) || (byte == 13)

-- a byte with which a separator begins: a space, or the `#` of a comment
abbrev pub begins_gap : ℕ → Bool
begins_gap byte = is_space byte || (byte == 35)

-- a byte `0` to `9`
abbrev pub is_digit : ℕ → Bool
is_digit byte = nat_le 48 byte && nat_le byte 57

-- Separators from the front on: spaces, and comments, each from `#` to before the next newline.
-- The first argument says whether a comment is open before them, the answer whether one is open after them.
-- There is none where something else stands among them.
abbrev pub gap : Bool → List ℕ → Option Bool
gap in_comment [] = Some in_comment
gap true (byte ∷ rest) = gap (not (byte == 10)) rest
gap false (byte ∷ rest) = if is_space byte then gap false rest else (if byte == 35 then gap true rest else None)

-- separators before a token: nothing but spaces and whole comments
abbrev pub IsGap : List ℕ → Type 0
IsGap bytes = gap false bytes ≡ Some false

-- separators at the end of a text, where the last comment may be open
abbrev pub IsLastGap : List ℕ → Type 0
IsLastGap bytes = IsSome (gap false bytes)

-- the kinds of the reserved words, in the order of the words
abbrev pub reserved_kinds : List Kind
reserved_kinds =
    WordAnd ∷ WordBool ∷ WordBot ∷ WordElse ∷ WordFalse ∷ WordFormat ∷ WordFun ∷ WordIf
    ∷ WordImport ∷ WordIn ∷ WordInt ∷ WordLet ∷ WordRec ∷ WordThen ∷ WordTop ∷ WordTrue
    ∷ WordType ∷ WordVal ∷ []

-- the kind of a reserved word, and of any other word the kind of a name
unfoldable pub word_kind : List ℕ → Kind
word_kind bytes =
    unwrap_or (option_map (λ word. word.1) (find (λ word. bytes_eq bytes word.0) (zip reserved_words reserved_kinds)))
    Name

-- the symbols with their kinds
abbrev pub symbols : List (List ℕ × Kind)
symbols =
    (codes "=", Equals) ∷ (codes "==", DoubleEquals) ∷ (codes "->", Arrow) ∷ (codes "{", BraceLeft)
    ∷ (codes "}", BraceRight)
    ∷ (codes "(", ParenLeft) ∷ (codes ")", ParenRight) ∷ (codes ",", Comma) ∷ (codes ".", Dot) ∷ (codes ":", Colon)
    ∷ (codes "+", Plus) ∷ (codes "-", Minus) ∷ (codes "*", Star) ∷ (codes "<", Less) ∷ (codes "|", Bar)
    ∷ (codes "&", Amp) ∷ []

-- the kind of a symbol
unfoldable pub symbol_kind : List ℕ → Option Kind
symbol_kind bytes = option_map (λ symbol. symbol.1) (find (λ symbol. bytes_eq bytes symbol.0) symbols)

-- one or more digits
abbrev pub is_number : List ℕ → Bool
is_number [] = false
is_number (first ∷ rest) = list_all is_digit (first ∷ rest)

-- the kind of these bytes as one token, whatever a number's value; none where they are no token
abbrev pub shape : List ℕ → Option Kind
shape bytes =
    if is_spelled bytes then Some (word_kind bytes) else (if is_number bytes then Some Number else symbol_kind bytes)

-- the value of digits, the first of which counts most
abbrev pub digits_value : List ℕ → ℕ
digits_value digits = fold (λ value digit. 10 * value + (digit - 48)) 0 digits

-- the largest number of a text
abbrev pub largest_number : ℕ
largest_number = 9223372036854775807

-- no longer piece of the text from `start` on than the one up to `end` is a token
abbrev pub IsLongest : List ℕ → ℕ → ℕ → Type 0
IsLongest text start end =
    (further : ℕ) → end < further → further ≤ length text → shape (slice_range text start further) ≡ None

-- a token of a text, which is the longest from its place
pub record IsToken (text : List ℕ) (token : Token) : Type 0 where
  pub bytes : shape (slice_range text token.start token.end) ≡ Some token.kind
  pub within : (token.start < token.end) × (token.end ≤ length text)
  pub longest : IsLongest text token.start token.end
  pub value : token.kind ≡ Number → digits_value (slice_range text token.start token.end) ≤ largest_number

-- from the place on these tokens follow, each after separators, and what follows them has the property
abbrev pub Follow : List ℕ → ℕ → List Token → (ℕ → Type 0) → Type 0
Follow text place [] Rest = Rest place
Follow text place (token ∷ tokens) Rest =
    (place ≤ token.start) × IsGap (slice_range text place token.start) × IsToken text token
    × Follow text token.end tokens Rest

-- these are the tokens of the text
abbrev pub IsTokens : List ℕ → List Token → Type 0
IsTokens text tokens = Follow text 0 tokens (λ place. IsLastGap (drop place text))

-- after these tokens and separators comes the byte with this number
abbrev pub Reaches : List ℕ → List Token → ℕ → Type 0
Reaches text tokens at =
    Follow text 0 tokens (λ place. (place ≤ at) × (at < length text) × IsGap (slice_range text place at))

-- this is the first fault of the text: what stands before it are tokens and separators
pub data HasTokenFault (text : List ℕ) : LexFault → Type 0 where
  -- a byte that is no separator and with which no token begins
  bad_byte : (tokens : List Token) (at : ℕ) → Reaches text tokens at
      → IsFalse (begins_gap (slice_index text at))
      → IsLongest text at at
      → HasTokenFault text (BadByte at)
  -- a number that is too large, at its first digit
  big_number : (tokens : List Token) (at end : ℕ) → Reaches text tokens at
      → end ≤ length text → IsTrue (is_number (slice_range text at end)) → IsLongest text at end
      → largest_number < digits_value (slice_range text at end)
      → HasTokenFault text (BigNumber at)

-- a token without its place, as grammars see it
pub data Terminal : Type 0 where
  -- the bytes of a name
  name : List ℕ → Terminal
  -- the value of a number
  number : ℕ → Terminal
  -- a reserved word or a symbol
  word : Kind → Terminal

-- bytes of this kind without their place
abbrev pub terminal_of : Kind → List ℕ → Terminal
terminal_of Name bytes = name bytes
terminal_of Number bytes = number (digits_value bytes)
terminal_of kind bytes = word kind

-- a token of a text without its place
abbrev pub terminal : List ℕ → Token → Terminal
terminal text token = terminal_of token.kind (slice_range text token.start token.end)

-- tokens of a text without their places
abbrev pub terminals : List ℕ → List Token → List Terminal
terminals text tokens = map (λ token. terminal text token) tokens

-- the place of token k, and 0 past the last
abbrev pub place_of : List Token → ℕ → ℕ
place_of tokens k = unwrap_or (option_map (λ token. token.start) (slice_get tokens k)) 0

-- the text has tokens, and without their places they are these
abbrev pub HasTerminals : List ℕ → List Terminal → Type 0
HasTerminals text xs = (tokens : List Token) × IsTokens text tokens × (terminals text tokens ≡ xs)

-- the line of a place: 1 and the number of newlines before it
abbrev pub line_of : List ℕ → ℕ → ℕ
line_of text at = 1 + count_by (λ byte. byte == 10) (take at text)

-- the column of a place: 1 and the number of bytes between the last newline before it, or the start, and it
abbrev pub column_of : List ℕ → ℕ → ℕ
column_of text at = 1 + length (take_while (λ byte. not (byte == 10)) (reverse (take at text)))
