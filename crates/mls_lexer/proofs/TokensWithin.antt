-- The places of tokens, and of a fault of tokens, lie within the text.
use Rattle.std.proofs.Common.{◌≡◌, ℕ, zero, suc, ◌<◌, ◌≤◌, List, [], ◌∷◌, length, Some, ap, arith}
use Rattle.std.specs.Prelude.{slice_get, option_map, unwrap_or}
use Rattle.mls_lexer.specs.declared.token.LexFault.{LexFault}
use Rattle.mls_lexer.specs.declared.token.LexFault.TheVariants.{BadByte, BigNumber, Memory}
use Rattle.mls_lexer.specs.declared.token.Token.{Token}
use Rattle.mls_lexer.specs.Tokens.{Follow, IsTokens, HasTokenFault, bad_byte, big_number, place_of}

token-within : (text : List ℕ) (tokens : List Token) (from : ℕ) (Rest : ℕ → Type 0) → Follow text from tokens Rest → (k : ℕ) → unwrap_or (option_map (λ token. token.start) (slice_get tokens k)) 0 ≤ length text
token-within text [] from Rest h k = omega arith
token-within text (t ∷ ts) from Rest h zero =
    let within = h.2.within in
    let a = within.0 in
    let b = within.1 in
    omega arith
token-within text (t ∷ ts) from Rest h (suc k) = token-within text ts t.end Rest h.3 k

pub place-within : (text : List ℕ) (tokens : List Token) → IsTokens text tokens → (k : ℕ) → place_of tokens k ≤ length text
place-within text tokens h k = token-within text tokens 0 _ h k

pub start-within : (text : List ℕ) (tokens : List Token) (k : ℕ) (token : Token) → IsTokens text tokens → slice_get tokens k ≡ Some token → token.start ≤ length text
start-within text tokens k token are at =
    let is : place_of tokens k ≡ token.start = ap (λ found. unwrap_or (option_map (λ (token : Token). token.start) found) 0) at in
    let low = place-within text tokens are k in
    omega arith

reaches-within : (text : List ℕ) (tokens : List Token) (from at : ℕ) (P : ℕ → Type 0) → ((place : ℕ) → P place → at < length text) → Follow text from tokens P → at < length text
reaches-within text [] from at P low h = low from h
reaches-within text (t ∷ ts) from at P low h = reaches-within text ts t.end at P low h.3

-- where a fault of tokens stands, and 0 for want of memory
abbrev pub lex_place : LexFault → ℕ
lex_place (BadByte at) = at
lex_place (BigNumber at) = at
lex_place Memory = 0

pub token_fault-within : (text : List ℕ) (fault : LexFault) → HasTokenFault text fault → lex_place fault ≤ length text
token_fault-within text _ (bad_byte tokens at reaches begins longest) = let low = reaches-within text tokens 0 at _ (λ place h. h.1) reaches in omega arith
token_fault-within text _ (big_number tokens at end reaches within number longest large) = let low = reaches-within text tokens 0 at _ (λ place h. h.1) reaches in omega arith
