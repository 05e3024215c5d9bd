-- What is told of the tokens of a type are the pieces of its tree.
use Rattle.std.proofs.Common.{◌≡◌, ℕ, List, [], take, drop, sym, ap, ◌∙◌}
use Rattle.std.proofs.lemmas.List.{drop-map, take-map}
use Rattle.mls_lexer.specs.declared.token.Token.{Token}
use Rattle.mls_lexer.specs.Tokens.{terminal, terminals, place_of}
use Rattle.mls_typetext.specs.Phrases.{Phrase, whole, yields}
use Rattle.mls_typetext.specs.Trees.{meaning}
use Rattle.mls_typetext.specs.steps.Pieces.{postorder}
use Rattle.mls_lexer.specs.steps.Placed.{placed}
use Rattle.mls_typetext.specs.steps.PieceMachine.{told_of}
use Rattle.mls_typetext.proofs.Builds.{built}
use Rattle.mls_lexer.proofs.Places.{placed_from, some-placed}
use Rattle.mls_typetext.proofs.Placed.{spells-whole}

-- so of tokens from a token on that are a type
pub told-pieces : (text : List ℕ) (tokens : List Token) (from n : ℕ) (p : Phrase whole) → yields p [] ≡ take n (drop from (terminals text tokens))
    → told_of (placed text (take n (drop from tokens))) ≡ postorder (meaning (place_of tokens) from p)
told-pieces text tokens from n p spelled =
    let same : terminals text (take n (drop from tokens)) ≡ yields p [] =
    sym (take-map (λ (token : Token). terminal text token) n (drop from tokens))
    ∙ (ap (take n) (sym (drop-map (λ (token : Token). terminal text token) from tokens)) ∙ sym spelled) in
    ap told_of
    (some-placed text tokens from n
    ∙ (ap (placed_from (place_of tokens) from) same
    ∙ sym (spells-whole (place_of tokens) from p)))
    ∙ built (place_of tokens) from p
