-- How a text is shown to have its tokens, on one example: from its end, token by token.
use Rattle.std.proofs.Common.{[], ◌∷◌, codes, refl}
use Rattle.mls_base.specs.Spelling.{IsName, is_reserved}
use Rattle.mls_lexer.specs.declared.token.Kind.TheVariants.{BraceLeft, BraceRight, Colon, WordInt}
use Rattle.mls_lexer.specs.Tokens.{HasTerminals, name, word}
use Rattle.mls_lexer.proofs.Terminals.{HasTerminals-closed, HasTerminals-name_off, HasTerminals-space, HasTerminals-fixed, HasTerminals-nil, StopsBefore-names}

a_name : IsName (codes "l")
unfolding is_reserved
a_name = record { spelled = refl; free = refl }

a_record : HasTerminals (codes "{l: int}") (word BraceLeft ∷ name (codes "l") ∷ word Colon ∷ word WordInt ∷ word BraceRight ∷ [])
a_record =
    HasTerminals-closed BraceLeft (codes "l: int}") _ refl
    (HasTerminals-name_off (codes "l") (codes ": int}") _ a_name refl
    (HasTerminals-closed Colon (codes " int}") _ refl
    (HasTerminals-space 32 (codes "int}") _ refl
    (HasTerminals-fixed WordInt (codes "}") _ refl (StopsBefore-names (codes "int") (codes "}") refl refl)
    (HasTerminals-closed BraceRight [] [] refl HasTerminals-nil)))))
