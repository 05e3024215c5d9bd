-- The terminals that a phrase spells, each with its place.
use Rattle.std.specs.Prelude.{ℕ, ◌+◌, List, ◌∷◌}
use Rattle.mls_lexer.specs.declared.token.Kind.TheVariants as kind
use Rattle.mls_lexer.specs.Tokens.{name, number, word}
use Rattle.mls_lexer.specs.steps.Placed.{Placed}
use Rattle.mls_grammar.specs.Phrases.{Sort, Phrase, whole, no_import, importing, no_binding, binding, simple, recursive, fun, fix, local, choice, plain, simple_in, recursive_in, no_compare, less, equal, summed, no_sum, plus, minus, multiplied, no_product, times, applied, no_argument, argument, posted, no_dot, dot, variable, literal, truth, parens, braces, no_part, first_part, last_part, next_part, truth_word, width}

-- what the phrase that begins at token k spells, where token i has the place `place i`, before what follows it
unfoldable pub spells : (place : ℕ → ℕ) → {s : Sort} → ℕ → Phrase s → List Placed → List Placed
spells place k (whole i b) rest = spells place k i (spells place (k + width i) b rest)
spells place k no_import rest = rest
spells place k (importing x i) rest = (place k, word kind.WordImport) ∷ (place (k + 1), name x) ∷ spells place (k + 2) i rest
spells place k no_binding rest = rest
spells place k (binding r) rest = (place k, word kind.WordLet) ∷ spells place (k + 1) r rest
spells place k (simple x e b) rest =
    (place k, name x) ∷ (place (k + 1), word kind.Equals) ∷ spells place (k + 2) e (spells place (k + 2 + width e) b rest)
spells place k (recursive x e b) rest =
    (place k, word kind.WordRec) ∷ (place (k + 1), name x) ∷ (place (k + 2), word kind.Equals) ∷ spells place (k + 3) e (spells place (k + 3 + width e) b rest)
spells place k (fun x e) rest = (place k, word kind.WordFun) ∷ (place (k + 1), name x) ∷ (place (k + 2), word kind.Arrow) ∷ spells place (k + 3) e rest
spells place k (fix x e) rest = (place k, word kind.WordRec) ∷ (place (k + 1), name x) ∷ (place (k + 2), word kind.Arrow) ∷ spells place (k + 3) e rest
spells place k (local r) rest = (place k, word kind.WordLet) ∷ spells place (k + 1) r rest
spells place k (choice c e f) rest =
    (place k, word kind.WordIf)
    ∷ spells place (k + 1) c ((place (k + 1 + width c), word kind.WordThen)
    ∷ spells place (k + 2 + width c) e ((place (k + 2 + width c + width e), word kind.WordElse)
    ∷ spells place (k + 3 + width c + width e) f rest))
spells place k (plain s t) rest = spells place k s (spells place (k + width s) t rest)
spells place k (simple_in x e f) rest =
    (place k, name x) ∷ (place (k + 1), word kind.Equals)
    ∷ spells place (k + 2) e ((place (k + 2 + width e), word kind.WordIn) ∷ spells place (k + 3 + width e) f rest)
spells place k (recursive_in x e f) rest =
    (place k, word kind.WordRec) ∷ (place (k + 1), name x) ∷ (place (k + 2), word kind.Equals)
    ∷ spells place (k + 3) e ((place (k + 3 + width e), word kind.WordIn) ∷ spells place (k + 4 + width e) f rest)
spells place k no_compare rest = rest
spells place k (less s) rest = (place k, word kind.Less) ∷ spells place (k + 1) s rest
spells place k (equal s) rest = (place k, word kind.DoubleEquals) ∷ spells place (k + 1) s rest
spells place k (summed p t) rest = spells place k p (spells place (k + width p) t rest)
spells place k no_sum rest = rest
spells place k (plus p t) rest = (place k, word kind.Plus) ∷ spells place (k + 1) p (spells place (k + 1 + width p) t rest)
spells place k (minus p t) rest = (place k, word kind.Minus) ∷ spells place (k + 1) p (spells place (k + 1 + width p) t rest)
spells place k (multiplied p t) rest = spells place k p (spells place (k + width p) t rest)
spells place k no_product rest = rest
spells place k (times p t) rest = (place k, word kind.Star) ∷ spells place (k + 1) p (spells place (k + 1 + width p) t rest)
spells place k (applied p m) rest = spells place k p (spells place (k + width p) m rest)
spells place k no_argument rest = rest
spells place k (argument p m) rest = spells place k p (spells place (k + width p) m rest)
spells place k (posted x d) rest = spells place k x (spells place (k + width x) d rest)
spells place k no_dot rest = rest
spells place k (dot label d) rest = (place k, word kind.Dot) ∷ (place (k + 1), name label) ∷ spells place (k + 2) d rest
spells place k (variable x) rest = (place k, name x) ∷ rest
spells place k (literal value) rest = (place k, number value) ∷ rest
spells place k (truth value) rest = (place k, truth_word value) ∷ rest
spells place k (parens e) rest = (place k, word kind.ParenLeft) ∷ spells place (k + 1) e ((place (k + 1 + width e), word kind.ParenRight) ∷ rest)
spells place k (braces p) rest = (place k, word kind.BraceLeft) ∷ spells place (k + 1) p rest
spells place k no_part rest = (place k, word kind.BraceRight) ∷ rest
spells place k (first_part label e p) rest =
    (place k, name label) ∷ (place (k + 1), word kind.Equals) ∷ spells place (k + 2) e (spells place (k + 2 + width e) p rest)
spells place k last_part rest = (place k, word kind.BraceRight) ∷ rest
spells place k (next_part label e p) rest =
    (place k, word kind.Comma) ∷ (place (k + 1), name label) ∷ (place (k + 2), word kind.Equals)
    ∷ spells place (k + 3) e (spells place (k + 3 + width e) p rest)
