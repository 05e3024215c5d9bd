-- The terminals of a text with their places.
use Rattle.std.specs.Prelude.{ℕ, List, map}
use Rattle.mls_lexer.specs.declared.token.Token.{Token}
use Rattle.mls_lexer.specs.Tokens.{Terminal, terminal}

-- a terminal with its place
abbrev pub Placed : Type 0
Placed = ℕ × Terminal

-- the terminals of tokens, each with the place of its token
abbrev pub placed : List ℕ → List Token → List Placed
placed text tokens = map (λ token. (token.start, terminal text token)) tokens
