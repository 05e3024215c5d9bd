-- What a phrase spells, and what follows it.
use Rattle.std.proofs.Common.{◌≡◌, List, ◌∷◌, ◌++◌, refl, ap, ◌∙◌}
use Rattle.mls_lexer.specs.declared.token.Kind.TheVariants as kind
use Rattle.mls_lexer.specs.Tokens.{Terminal, name, word}
use Rattle.mls_typetext.specs.Phrases.{Sort, Phrase, recursive, joined, no_codomain, to, joins, no_join, or, meets, no_meet, and, named, boolean, integer, top, bot, parens, braces, no_field, first_field, last_field, next_field, yields}

-- terminals behind what follows a phrase stand behind all
pub yields-append : {s : Sort} (p : Phrase s) (xs rest : List Terminal) → yields p (xs ++ rest) ≡ yields p xs ++ rest
unfolding yields
yields-append (recursive x t) xs rest = ap (λ ts. word kind.WordRec ∷ name x ∷ word kind.Dot ∷ ts) (yields-append t xs rest)
yields-append (joined j c) xs rest = ap (yields j) (yields-append c xs rest) ∙ yields-append j (yields c xs) rest
yields-append no_codomain xs rest = refl
yields-append (to t) xs rest = ap (λ ts. word kind.Arrow ∷ ts) (yields-append t xs rest)
yields-append (joins m t) xs rest = ap (yields m) (yields-append t xs rest) ∙ yields-append m (yields t xs) rest
yields-append no_join xs rest = refl
yields-append (or m t) xs rest = ap (λ ts. word kind.Bar ∷ ts) (ap (yields m) (yields-append t xs rest) ∙ yields-append m (yields t xs) rest)
yields-append (meets a t) xs rest = ap (yields a) (yields-append t xs rest) ∙ yields-append a (yields t xs) rest
yields-append no_meet xs rest = refl
yields-append (and a t) xs rest = ap (λ ts. word kind.Amp ∷ ts) (ap (yields a) (yields-append t xs rest) ∙ yields-append a (yields t xs) rest)
yields-append (named x) xs rest = refl
yields-append boolean xs rest = refl
yields-append integer xs rest = refl
yields-append top xs rest = refl
yields-append bot xs rest = refl
yields-append (parens t) xs rest = ap (λ ts. word kind.ParenLeft ∷ ts) (yields-append t (word kind.ParenRight ∷ xs) rest)
yields-append (braces f) xs rest = ap (λ ts. word kind.BraceLeft ∷ ts) (yields-append f xs rest)
yields-append no_field xs rest = refl
yields-append (first_field label t f) xs rest =
    ap (λ ts. name label ∷ word kind.Colon ∷ ts) (ap (yields t) (yields-append f xs rest) ∙ yields-append t (yields f xs) rest)
yields-append last_field xs rest = refl
yields-append (next_field label t f) xs rest =
    ap (λ ts. word kind.Comma ∷ name label ∷ word kind.Colon ∷ ts)
    (ap (yields t) (yields-append f xs rest) ∙ yields-append t (yields f xs) rest)
