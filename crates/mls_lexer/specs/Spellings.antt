-- How tokens are spelled.
use Rattle.std.specs.Prelude.{ℕ, ◌≤◌, Bool, true, false, List, [], ◌∷◌, ◌++◌, codes, decimal, IsTrue}
use Rattle.mls_base.specs.Spelling.{IsName}
use Rattle.mls_lexer.specs.declared.token.Kind.{Kind}
use Rattle.mls_lexer.specs.declared.token.Kind.TheVariants.{Name, Number, WordAnd, WordBool, WordBot, WordElse}
use Rattle.mls_lexer.specs.declared.token.Kind.TheVariants.{WordFalse, WordFormat, WordFun, WordIf, WordImport, WordIn}
use Rattle.mls_lexer.specs.declared.token.Kind.TheVariants.{WordInt, WordLet, WordRec, WordThen, WordTop, WordTrue}
use Rattle.mls_lexer.specs.declared.token.Kind.TheVariants.{WordType, WordVal, Equals, DoubleEquals, Arrow, BraceLeft}
use Rattle.mls_lexer.specs.declared.token.Kind.TheVariants.{BraceRight, ParenLeft, ParenRight, Comma, Dot, Colon, Plus}
use Rattle.mls_lexer.specs.declared.token.Kind.TheVariants.{Minus, Star, Less, Bar, Amp}
use Rattle.mls_lexer.specs.Tokens.{Terminal, name, number, word, largest_number}

-- the kinds whose tokens have one spelling: all but names and numbers
abbrev pub is_fixed : Kind → Bool
is_fixed Name = false
is_fixed Number = false
is_fixed _ = true

-- the bytes of a reserved word or a symbol; none for names and numbers
abbrev pub spelling : Kind → List ℕ
spelling Name = []
spelling Number = []
spelling WordAnd = codes "and"
spelling WordBool = codes "bool"
spelling WordBot = codes "bot"
spelling WordElse = codes "else"
spelling WordFalse = codes "false"
spelling WordFormat = codes "format"
spelling WordFun = codes "fun"
spelling WordIf = codes "if"
spelling WordImport = codes "import"
spelling WordIn = codes "in"
spelling WordInt = codes "int"
spelling WordLet = codes "let"
spelling WordRec = codes "rec"
spelling WordThen = codes "then"
spelling WordTop = codes "top"
spelling WordTrue = codes "true"
spelling WordType = codes "type"
spelling WordVal = codes "val"
spelling Equals = codes "="
spelling DoubleEquals = codes "=="
spelling Arrow = codes "->"
spelling BraceLeft = codes "{"
spelling BraceRight = codes "}"
spelling ParenLeft = codes "("
spelling ParenRight = codes ")"
spelling Comma = codes ","
spelling Dot = codes "."
spelling Colon = codes ":"
spelling Plus = codes "+"
spelling Minus = codes "-"
spelling Star = codes "*"
spelling Less = codes "<"
spelling Bar = codes "|"
spelling Amp = codes "&"

-- what a token can be without its place
abbrev pub IsTerminal : Terminal → Type 0
IsTerminal (name bytes) = IsName bytes
IsTerminal (number value) = value ≤ largest_number
IsTerminal (word kind) = IsTrue (is_fixed kind)

-- how it is written
abbrev pub spelled : Terminal → List ℕ
spelled (name bytes) = bytes
spelled (number value) = decimal value
spelled (word kind) = spelling kind

-- pieces of a text one after another, with one space between
abbrev pub spaced : List (List ℕ) → List ℕ
spaced [] = []
spaced (piece ∷ []) = piece
spaced (piece ∷ next ∷ pieces) = piece ++ (32 ∷ spaced (next ∷ pieces))
