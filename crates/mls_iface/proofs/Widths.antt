-- How many terminals a phrase of the grammar of types spells.
--     width-yields
use Rattle.std.proofs.Common.{◌≡◌, ◌+◌, List, ◌∷◌, length, arith}
use Rattle.mls_lexer.specs.declared.token.Kind.TheVariants as kind
use Rattle.mls_lexer.specs.Tokens.{Terminal, word}
use Rattle.mls_typetext.specs.Phrases.{Sort, Phrase, recursive, joined, no_codomain, to, joins, no_join, or, meets, no_meet, and, named, boolean, integer, top, bot, parens, braces, no_field, first_field, last_field, next_field, yields, width}

pub width-yields : {s : Sort} (p : Phrase s) (rest : List Terminal) → length (yields p rest) ≡ width p + length rest
unfolding yields width
width-yields (recursive x t) rest = let one = width-yields t rest in omega arith
width-yields (joined j c) rest = let one = width-yields j (yields c rest) in let two = width-yields c rest in omega arith
width-yields no_codomain rest = omega arith
width-yields (to t) rest = let one = width-yields t rest in omega arith
width-yields (joins m t) rest = let one = width-yields m (yields t rest) in let two = width-yields t rest in omega arith
width-yields no_join rest = omega arith
width-yields (or m t) rest = let one = width-yields m (yields t rest) in let two = width-yields t rest in omega arith
width-yields (meets a t) rest = let one = width-yields a (yields t rest) in let two = width-yields t rest in omega arith
width-yields no_meet rest = omega arith
width-yields (and a t) rest = let one = width-yields a (yields t rest) in let two = width-yields t rest in omega arith
width-yields (named x) rest = omega arith
width-yields boolean rest = omega arith
width-yields integer rest = omega arith
width-yields top rest = omega arith
width-yields bot rest = omega arith
width-yields (parens t) rest = let one = width-yields t (word kind.ParenRight ∷ rest) in omega arith
width-yields (braces f) rest = let one = width-yields f rest in omega arith
width-yields no_field rest = omega arith
width-yields (first_field label t f) rest = let one = width-yields t (yields f rest) in let two = width-yields f rest in omega arith
width-yields last_field rest = omega arith
width-yields (next_field label t f) rest = let one = width-yields t (yields f rest) in let two = width-yields f rest in omega arith
