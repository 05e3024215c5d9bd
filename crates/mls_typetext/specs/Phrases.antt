-- The grammar of types: a family of phrases, with one constructor for each alternative.
use Rattle.std.specs.Prelude.{ℕ, ◌+◌, List, ◌∷◌}
use Rattle.mls_lexer.specs.declared.token.Kind.TheVariants as kind
use Rattle.mls_lexer.specs.Tokens.{Terminal, name, word}

-- what a phrase is a phrase of
pub data Sort : Type 0 where
  whole codomain join join_tail meet meet_tail atom fields more_fields : Sort

pub data Phrase : Sort → Type 0 where
  -- type := 'rec' NAME '.' type | join codomain
  recursive : (x : List ℕ) → Phrase whole → Phrase whole
  joined : Phrase join → Phrase codomain → Phrase whole
  -- codomain := nothing | '->' type
  no_codomain : Phrase codomain
  to : Phrase whole → Phrase codomain
  -- join := meet join_tail, join_tail := nothing | '|' meet join_tail
  joins : Phrase meet → Phrase join_tail → Phrase join
  no_join : Phrase join_tail
  or : Phrase meet → Phrase join_tail → Phrase join_tail
  -- meet := atom meet_tail, meet_tail := nothing | '&' atom meet_tail
  meets : Phrase atom → Phrase meet_tail → Phrase meet
  no_meet : Phrase meet_tail
  and : Phrase atom → Phrase meet_tail → Phrase meet_tail
  -- atom := NAME | 'bool' | 'int' | 'top' | 'bot' | '(' type ')' | '{' fields
  named : (x : List ℕ) → Phrase atom
  boolean integer top bot : Phrase atom
  parens : Phrase whole → Phrase atom
  braces : Phrase fields → Phrase atom
  -- fields := '}' | NAME ':' type more_fields, more_fields := '}' | ',' NAME ':' type more_fields
  no_field : Phrase fields
  first_field : (label : List ℕ) → Phrase whole → Phrase more_fields → Phrase fields
  last_field : Phrase more_fields
  next_field : (label : List ℕ) → Phrase whole → Phrase more_fields → Phrase more_fields

-- what a phrase spells, before the terminals that follow it
unfoldable pub yields : {s : Sort} → Phrase s → List Terminal → List Terminal
yields (recursive x t) rest = word kind.WordRec ∷ name x ∷ word kind.Dot ∷ yields t rest
yields (joined j c) rest = yields j (yields c rest)
yields no_codomain rest = rest
yields (to t) rest = word kind.Arrow ∷ yields t rest
yields (joins m t) rest = yields m (yields t rest)
yields no_join rest = rest
yields (or m t) rest = word kind.Bar ∷ yields m (yields t rest)
yields (meets a t) rest = yields a (yields t rest)
yields no_meet rest = rest
yields (and a t) rest = word kind.Amp ∷ yields a (yields t rest)
yields (named x) rest = name x ∷ rest
yields boolean rest = word kind.WordBool ∷ rest
yields integer rest = word kind.WordInt ∷ rest
yields top rest = word kind.WordTop ∷ rest
yields bot rest = word kind.WordBot ∷ rest
yields (parens t) rest = word kind.ParenLeft ∷ yields t (word kind.ParenRight ∷ rest)
yields (braces f) rest = word kind.BraceLeft ∷ yields f rest
yields no_field rest = word kind.BraceRight ∷ rest
yields (first_field label t f) rest = name label ∷ word kind.Colon ∷ yields t (yields f rest)
yields last_field rest = word kind.BraceRight ∷ rest
yields (next_field label t f) rest = word kind.Comma ∷ name label ∷ word kind.Colon ∷ yields t (yields f rest)

-- how many terminals a phrase spells
unfoldable pub width : {s : Sort} → Phrase s → ℕ
width (recursive x t) = 3 + width t
width (joined j c) = width j + width c
width no_codomain = 0
width (to t) = 1 + width t
width (joins m t) = width m + width t
width no_join = 0
width (or m t) = 1 + (width m + width t)
width (meets a t) = width a + width t
width no_meet = 0
width (and a t) = 1 + (width a + width t)
width (named x) = 1
width boolean = 1
width integer = 1
width top = 1
width bot = 1
width (parens t) = 1 + (width t + 1)
width (braces f) = 1 + width f
width no_field = 1
width (first_field label t f) = 2 + (width t + width f)
width last_field = 1
width (next_field label t f) = 3 + (width t + width f)
