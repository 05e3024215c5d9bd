-- A phrase has as many terminals as its width says.
use Rattle.std.proofs.Common.{◌≡◌, ℕ, ◌+◌, List, [], ◌∷◌, length, ap, arith}
use Rattle.std.proofs.lemmas.List.{length-map}
use Rattle.mls_lexer.specs.declared.token.Token.{Token}
use Rattle.mls_lexer.specs.declared.token.Kind.TheVariants as kind
use Rattle.mls_lexer.specs.Tokens.{Terminal, word, terminal, terminals}
use Rattle.mls_grammar.specs.Phrases.{Sort, source, Phrase, whole, no_import, importing, no_binding, binding, simple, recursive, fun, fix, local, choice, plain, simple_in, recursive_in, no_compare, less, equal, summed, no_sum, plus, minus, multiplied, no_product, times, applied, no_argument, argument, posted, no_dot, dot, variable, literal, truth, parens, braces, no_part, first_part, last_part, next_part, yields, width}

width-yields : {s : Sort} (p : Phrase s) (rest : List Terminal) → length (yields p rest) ≡ width p + length rest
unfolding yields width
width-yields (whole i b) rest = let one = width-yields i (yields b rest) in let two = width-yields b rest in omega arith
width-yields no_import rest = omega arith
width-yields (importing x i) rest = let one = width-yields i rest in omega arith
width-yields no_binding rest = omega arith
width-yields (binding r) rest = let one = width-yields r rest in omega arith
width-yields (simple x e b) rest = let one = width-yields e (yields b rest) in let two = width-yields b rest in omega arith
width-yields (recursive x e b) rest = let one = width-yields e (yields b rest) in let two = width-yields b rest in omega arith
width-yields (fun x e) rest = let one = width-yields e rest in omega arith
width-yields (fix x e) rest = let one = width-yields e rest in omega arith
width-yields (local r) rest = let one = width-yields r rest in omega arith
width-yields (choice c e f) rest =
    let one = width-yields c (word kind.WordThen ∷ yields e (word kind.WordElse ∷ yields f rest)) in
    let two = width-yields e (word kind.WordElse ∷ yields f rest) in
    let three = width-yields f rest in
    omega arith
width-yields (plain s t) rest = let one = width-yields s (yields t rest) in let two = width-yields t rest in omega arith
width-yields (simple_in x e f) rest = let one = width-yields e (word kind.WordIn ∷ yields f rest) in let two = width-yields f rest in omega arith
width-yields (recursive_in x e f) rest = let one = width-yields e (word kind.WordIn ∷ yields f rest) in let two = width-yields f rest in omega arith
width-yields no_compare rest = omega arith
width-yields (less s) rest = let one = width-yields s rest in omega arith
width-yields (equal s) rest = let one = width-yields s rest in omega arith
width-yields (summed p t) rest = let one = width-yields p (yields t rest) in let two = width-yields t rest in omega arith
width-yields no_sum rest = omega arith
width-yields (plus p t) rest = let one = width-yields p (yields t rest) in let two = width-yields t rest in omega arith
width-yields (minus p t) rest = let one = width-yields p (yields t rest) in let two = width-yields t rest in omega arith
width-yields (multiplied a t) rest = let one = width-yields a (yields t rest) in let two = width-yields t rest in omega arith
width-yields no_product rest = omega arith
width-yields (times a t) rest = let one = width-yields a (yields t rest) in let two = width-yields t rest in omega arith
width-yields (applied p a) rest = let one = width-yields p (yields a rest) in let two = width-yields a rest in omega arith
width-yields no_argument rest = omega arith
width-yields (argument p a) rest = let one = width-yields p (yields a rest) in let two = width-yields a rest in omega arith
width-yields (posted a d) rest = let one = width-yields a (yields d rest) in let two = width-yields d rest in omega arith
width-yields no_dot rest = omega arith
width-yields (dot label d) rest = let one = width-yields d rest in omega arith
width-yields (variable x) rest = omega arith
width-yields (literal value) rest = omega arith
width-yields (truth value) rest = omega arith
width-yields (parens e) rest = let one = width-yields e (word kind.ParenRight ∷ rest) in omega arith
width-yields (braces p) rest = let one = width-yields p rest in omega arith
width-yields no_part rest = omega arith
width-yields (first_part label e p) rest = let one = width-yields e (yields p rest) in let two = width-yields p rest in omega arith
width-yields last_part rest = omega arith
width-yields (next_part label e p) rest = let one = width-yields e (yields p rest) in let two = width-yields p rest in omega arith

pub width-terminals : (text : List ℕ) (tokens : List Token) (p : Phrase source) → yields p [] ≡ terminals text tokens → width p ≡ length tokens
width-terminals text tokens p spelled =
    let all = width-yields p [] in
    let same = ap length spelled in
    let size = length-map tokens (λ (token : Token). terminal text token) in
    omega arith
