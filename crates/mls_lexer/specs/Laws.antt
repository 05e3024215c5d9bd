-- The laws of tokens: with them a text has exactly one list of tokens or exactly one first fault.
use Rattle.std.specs.Prelude.{◌≡◌, ◌⊎◌, ℕ, List, map, All}
use Rattle.mls_lexer.specs.declared.token.Token.{Token}
use Rattle.mls_lexer.specs.declared.token.LexFault.{LexFault}
use Rattle.mls_lexer.specs.Tokens.{Terminal, IsTokens, HasTokenFault, HasTerminals}
use Rattle.mls_lexer.specs.Spellings.{IsTerminal, spelled, spaced}

-- a text has one list of tokens
abbrev pub OneReading : Type 0
OneReading =
    (text : List ℕ) (tokens others : List Token) → IsTokens text tokens → IsTokens text others → tokens ≡ others

-- a text that has tokens has no fault
abbrev pub NoFaultBesideTokens : Type 0
NoFaultBesideTokens =
    (text : List ℕ) (tokens : List Token) (fault : LexFault) → IsTokens text tokens → HasTokenFault text fault → ⊥

-- a text has one first fault
abbrev pub OneFirstFault : Type 0
OneFirstFault =
    (text : List ℕ) (fault other : LexFault) → HasTokenFault text fault → HasTokenFault text other → fault ≡ other

-- and every text has the one or the other
abbrev pub TokensOrFault : Type 0
TokensOrFault =
    (text : List ℕ) → ((tokens : List Token) × IsTokens text tokens) ⊎ ((fault : LexFault) × HasTokenFault text fault)

-- without their places the tokens of a text are names, numbers up to the largest, reserved words and symbols
abbrev pub TokensAreTerminals : Type 0
TokensAreTerminals = (text : List ℕ) (xs : List Terminal) → HasTerminals text xs → All IsTerminal xs

-- and any list of such is read from what it is written as, with a space between one and the next
abbrev pub WrittenIsRead : Type 0
WrittenIsRead = (xs : List Terminal) → All IsTerminal xs → HasTerminals (spaced (map spelled xs)) xs
