-- The grammar of interfaces, and what declarations are read as.
use Rattle.std.specs.Prelude.{◌≡◌, ℕ, ◌+◌, List, [], ◌∷◌, ◌++◌}
use Rattle.mls_lexer.specs.declared.token.Kind.TheVariants as kind
use Rattle.mls_lexer.specs.Tokens.{Terminal, name, word}
use Rattle.mls_typetext.specs.Phrases.{Phrase, whole, yields, width}
use Rattle.mls_typetext.specs.Trees.{meaning}
use Rattle.mls_typetext.specs.Texts.{read_of}
use Rattle.mls_iface.specs.declared.interface.Val.{Val}

-- declaration := 'val' NAME ':' type
pub record Declaration : Type 0 where
  pub declared : List ℕ
  pub type : Phrase whole

-- interface := declaration*; what declarations spell
unfoldable pub spelled : List Declaration → List Terminal
spelled [] = []
spelled (d ∷ ds) = word kind.WordVal ∷ name d.declared ∷ word kind.Colon ∷ yields d.type (spelled ds)

-- terminals are an interface
abbrev pub IsInterface : List Terminal → Type 0
IsInterface ts = (ds : List Declaration) × (spelled ds ≡ ts)

-- terminals begin an interface: with some more they are one
abbrev pub BeginsInterface : List Terminal → Type 0
BeginsInterface ts = (more : List Terminal) × IsInterface (ts ++ more)

-- the token behind a declaration that begins at token k
abbrev pub behind : ℕ → Declaration → ℕ
behind k d = k + 3 + width d.type

-- what declarations are read as, the first of which begins at token k, where token i has the place `place i`
unfoldable pub vals_of : (place : ℕ → ℕ) → ℕ → List Declaration → List Val
vals_of place k [] = []
vals_of place k (d ∷ ds) =
    record { name = d.declared; at = place (k + 1); scheme = read_of (meaning place (k + 3) d.type) }
    ∷ vals_of place (behind k d) ds
