-- The terminals of tokens with their places, by the numbers of the tokens.
use Rattle.std.proofs.Common.{◌≡◌, ℕ, zero, suc, ◌+◌, List, [], ◌∷◌, take, drop, refl, sym, ap, ◌∙◌, arith}
use Rattle.mls_lexer.specs.declared.token.Token.{Token}
use Rattle.mls_lexer.specs.Tokens.{Terminal, terminal, terminals, place_of}
use Rattle.mls_lexer.specs.steps.Placed.{Placed, placed}

-- terminals with places, where the first has number k
abbrev pub placed_from : (place : ℕ → ℕ) → ℕ → List Terminal → List Placed
placed_from place k [] = []
placed_from place k (t ∷ ts) = (place k, t) ∷ placed_from place (k + 1) ts

-- places counted from the second token on
later : (place : ℕ → ℕ) (k n : ℕ) (ts : List Terminal) → n ≡ suc k → placed_from place n ts ≡ placed_from (λ i. place (suc i)) k ts
later place k n [] e = refl
later place k n (t ∷ ts) e = λ i. (place (e i), t) ∷ later place (k + 1) (n + 1) ts (omega arith) i

-- the terminals of all tokens
pub tokens-placed : (text : List ℕ) (tokens : List Token) → placed text tokens ≡ placed_from (place_of tokens) 0 (terminals text tokens)
tokens-placed text [] = refl
tokens-placed text (token ∷ tokens) =
    ap (λ us. (token.start, terminal text token) ∷ us) (tokens-placed text tokens ∙ sym (later (place_of (token ∷ tokens)) 0 1 (terminals text tokens) refl))

first-placed : (text : List ℕ) (tokens : List Token) (n : ℕ) → placed text (take n tokens) ≡ placed_from (place_of tokens) 0 (terminals text (take n tokens))
first-placed text [] zero = refl
first-placed text [] (suc n) = refl
first-placed text (token ∷ tokens) zero = refl
first-placed text (token ∷ tokens) (suc n) =
    ap (λ us. (token.start, terminal text token) ∷ us) (first-placed text tokens n ∙ sym (later (place_of (token ∷ tokens)) 0 1 (terminals text (take n tokens)) refl))

-- the terminals of n tokens from a token on
pub some-placed : (text : List ℕ) (tokens : List Token) (from n : ℕ)
    → placed text (take n (drop from tokens)) ≡ placed_from (place_of tokens) from (terminals text (take n (drop from tokens)))
some-placed text tokens zero n = first-placed text tokens n
some-placed text [] (suc from) zero = refl
some-placed text [] (suc from) (suc n) = refl
some-placed text (token ∷ tokens) (suc from) n =
    some-placed text tokens from n ∙ sym (later (place_of (token ∷ tokens)) from (suc from) (terminals text (take n (drop from tokens))) refl)
