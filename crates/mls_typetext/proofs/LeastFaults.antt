-- The first fault of a tree in the order of the text has the least place.
use Rattle.std.proofs.Common.{◌≡◌, ℕ, ◌+◌, ◌-◌, ◌<◌, ◌≤◌, true, List, [], ◌∷◌, length, take, drop, ap, subst, arith, length-take, length-drop}
use Rattle.std.specs.Prelude.{min}
use Rattle.std.proofs.Math.Nat.{min-le_right}
use Rattle.std.proofs.lemmas.List.{length-map}
use Rattle.mls_lexer.specs.declared.token.Kind.TheVariants as kind
use Rattle.mls_lexer.specs.declared.token.Token.{Token}
use Rattle.mls_lexer.specs.Tokens.{Terminal, word, terminal, terminals, place_of}
use Rattle.mls_lexer.proofs.TextOrder.{Rises, places_rise, rises-least}
use Rattle.mls_typetext.specs.Phrases.{Sort, whole, Phrase, recursive, joined, no_codomain, to, joins, no_join, or, meets, no_meet, and, named, boolean, integer, top, bot, parens, braces, no_field, first_field, last_field, next_field, yields, width}
use Rattle.mls_typetext.specs.Stops.{tree_place}
use Rattle.mls_typetext.specs.Laws.{FirstIsLeast}
use Rattle.mls_typetext.proofs.FaultsRise.{meaning-rises}

width-yields : {s : Sort} (p : Phrase s) (rest : List Terminal) → length (yields p rest) ≡ width p + length rest
unfolding yields width
width-yields (recursive x t) rest = let one = width-yields t rest in omega arith
width-yields (joined j c) rest = let one = width-yields j (yields c rest) in let two = width-yields c rest in omega arith
width-yields no_codomain rest = omega arith
width-yields (to t) rest = let one = width-yields t rest in omega arith
width-yields (joins m t) rest = let one = width-yields m (yields t rest) in let two = width-yields t rest in omega arith
width-yields no_join rest = omega arith
width-yields (or m t) rest = let one = width-yields m (yields t rest) in let two = width-yields t rest in omega arith
width-yields (meets a t) rest = let one = width-yields a (yields t rest) in let two = width-yields t rest in omega arith
width-yields no_meet rest = omega arith
width-yields (and a t) rest = let one = width-yields a (yields t rest) in let two = width-yields t rest in omega arith
width-yields (named x) rest = omega arith
width-yields boolean rest = omega arith
width-yields integer rest = omega arith
width-yields top rest = omega arith
width-yields bot rest = omega arith
width-yields (parens t) rest = let one = width-yields t (word kind.ParenRight ∷ rest) in omega arith
width-yields (braces f) rest = let one = width-yields f rest in omega arith
width-yields no_field rest = omega arith
width-yields (first_field label t f) rest = let one = width-yields t (yields f rest) in let two = width-yields f rest in omega arith
width-yields last_field rest = omega arith
width-yields (next_field label t f) rest = let one = width-yields t (yields f rest) in let two = width-yields f rest in omega arith

-- a phrase that is spelled by some of the tokens from a number on ends within them
width-within : (text : List ℕ) (tokens : List Token) (from count : ℕ) (p : Phrase whole) → yields p [] ≡ take count (drop from (terminals text tokens))
    → 0 < width p → from + width p ≤ length tokens
width-within text tokens from count p spelled some =
    let all = width-yields p [] in
    let same = ap length spelled in
    let rest : length (drop from (terminals text tokens)) ≡ length (terminals text tokens) - from = length-drop from (terminals text tokens) in
    let size : length (terminals text tokens) ≡ length tokens = length-map tokens (λ (token : Token). terminal text token) in
    let front = length-take count (drop from (terminals text tokens)) in
    let low : min count (length (drop from (terminals text tokens))) ≤ length (drop from (terminals text tokens)) = min-le_right count (length (drop from (terminals text tokens))) in
    omega arith

pub first_is_least : FirstIsLeast
first_is_least text tokens from count p fault later are spelled first =
    rises-least tree_place (place_of tokens) from (from + width p) fault later
    (subst (Rises tree_place (place_of tokens) from (from + width p)) first
    (meaning-rises (place_of tokens) from (from + width p) p (omega arith) true [] 0))
    (λ i j begins less low. places_rise text tokens are i j less (let within = width-within text tokens from count p spelled (omega arith) in omega arith))
