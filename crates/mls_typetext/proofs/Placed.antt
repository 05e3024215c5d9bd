-- The terminals of a phrase with their places are its terminals, each with the place of its number.
use Rattle.std.proofs.Common.{◌≡◌, ℕ, ◌+◌, List, [], ◌∷◌, refl, ap, ◌∙◌, arith}
use Rattle.mls_lexer.specs.declared.token.Kind.TheVariants as kind
use Rattle.mls_lexer.specs.Tokens.{Terminal, name, word}
use Rattle.mls_typetext.specs.Phrases.{Sort, whole, Phrase, recursive, joined, no_codomain, to, joins, no_join, or, meets, no_meet, and, named, boolean, integer, top, bot, parens, braces, no_field, first_field, last_field, next_field, yields, width}
use Rattle.mls_lexer.proofs.Places.{placed_from}
use Rattle.mls_typetext.proofs.Builds.{spells}

renumber : (place : ℕ → ℕ) (k m : ℕ) (ts : List Terminal) → k ≡ m → placed_from place k ts ≡ placed_from place m ts
renumber place k m ts e = ap (λ k. placed_from place k ts) e

one_more : (place : ℕ → ℕ) (k n : ℕ) (t : Terminal) (ts : List Terminal) → n ≡ k + 1 → (place k, t) ∷ placed_from place n ts ≡ placed_from place k (t ∷ ts)
one_more place k n t ts e = ap (λ us. (place k, t) ∷ us) (renumber place n (k + 1) ts e)

pub spells-yields : (place : ℕ → ℕ) {s : Sort} (k n : ℕ) (p : Phrase s) (ts : List Terminal) → n ≡ k + width p → spells place k p (placed_from place n ts) ≡ placed_from place k (yields p ts)
unfolding spells yields width
spells-yields place k n (recursive x t) ts e =
    let three : n ≡ k + (3 + width t) = e in
    let two : k + 2 ≡ k + 1 + 1 = omega arith in
    let rest = spells-yields place (k + 3) n t ts (omega arith) ∙ renumber place (k + 3) (k + 1 + 1 + 1) (yields t ts) (omega arith) in
    λ i. (place k, word kind.WordRec) ∷ (place (k + 1), name x) ∷ (place (two i), word kind.Dot) ∷ rest i
spells-yields place k n (joined j c) ts e =
    let both : n ≡ k + (width j + width c) = e in
    ap (spells place k j) (spells-yields place (k + width j) n c ts (omega arith)) ∙ spells-yields place k (k + width j) j (yields c ts) refl
spells-yields place k n no_codomain ts e = let same : n ≡ k + 0 = e in renumber place n k ts (omega arith)
spells-yields place k n (to t) ts e =
    let one : n ≡ k + (1 + width t) = e in
    ap (λ us. (place k, word kind.Arrow) ∷ us) (spells-yields place (k + 1) n t ts (omega arith))
spells-yields place k n (joins m t) ts e =
    let both : n ≡ k + (width m + width t) = e in
    ap (spells place k m) (spells-yields place (k + width m) n t ts (omega arith)) ∙ spells-yields place k (k + width m) m (yields t ts) refl
spells-yields place k n no_join ts e = let same : n ≡ k + 0 = e in renumber place n k ts (omega arith)
spells-yields place k n (or m t) ts e =
    let all : n ≡ k + (1 + (width m + width t)) = e in
    ap (λ us. (place k, word kind.Bar) ∷ spells place (k + 1) m us) (spells-yields place (k + 1 + width m) n t ts (omega arith))
    ∙ ap (λ us. (place k, word kind.Bar) ∷ us) (spells-yields place (k + 1) (k + 1 + width m) m (yields t ts) refl)
spells-yields place k n (meets x t) ts e =
    let both : n ≡ k + (width x + width t) = e in
    ap (spells place k x) (spells-yields place (k + width x) n t ts (omega arith)) ∙ spells-yields place k (k + width x) x (yields t ts) refl
spells-yields place k n no_meet ts e = let same : n ≡ k + 0 = e in renumber place n k ts (omega arith)
spells-yields place k n (and x t) ts e =
    let all : n ≡ k + (1 + (width x + width t)) = e in
    ap (λ us. (place k, word kind.Amp) ∷ spells place (k + 1) x us) (spells-yields place (k + 1 + width x) n t ts (omega arith))
    ∙ ap (λ us. (place k, word kind.Amp) ∷ us) (spells-yields place (k + 1) (k + 1 + width x) x (yields t ts) refl)
spells-yields place k n (named x) ts e = one_more place k n (name x) ts e
spells-yields place k n boolean ts e = one_more place k n (word kind.WordBool) ts e
spells-yields place k n integer ts e = one_more place k n (word kind.WordInt) ts e
spells-yields place k n top ts e = one_more place k n (word kind.WordTop) ts e
spells-yields place k n bot ts e = one_more place k n (word kind.WordBot) ts e
spells-yields place k n (parens t) ts e =
    let all : n ≡ k + (1 + (width t + 1)) = e in
    ap (λ us. (place k, word kind.ParenLeft) ∷ spells place (k + 1) t us) (one_more place (k + 1 + width t) n (word kind.ParenRight) ts (omega arith))
    ∙ ap (λ us. (place k, word kind.ParenLeft) ∷ us) (spells-yields place (k + 1) (k + 1 + width t) t (word kind.ParenRight ∷ ts) refl)
spells-yields place k n (braces f) ts e =
    let one : n ≡ k + (1 + width f) = e in
    ap (λ us. (place k, word kind.BraceLeft) ∷ us) (spells-yields place (k + 1) n f ts (omega arith))
spells-yields place k n no_field ts e = one_more place k n (word kind.BraceRight) ts e
spells-yields place k n (first_field label t f) ts e =
    let all : n ≡ k + (2 + (width t + width f)) = e in
    let rest =
    ap (spells place (k + 2) t) (spells-yields place (k + 2 + width t) n f ts (omega arith))
    ∙ (spells-yields place (k + 2) (k + 2 + width t) t (yields f ts) refl
    ∙ renumber place (k + 2) (k + 1 + 1) (yields t (yields f ts)) (omega arith)) in
    ap (λ us. (place k, name label) ∷ (place (k + 1), word kind.Colon) ∷ us) rest
spells-yields place k n last_field ts e = one_more place k n (word kind.BraceRight) ts e
spells-yields place k n (next_field label t f) ts e =
    let all : n ≡ k + (3 + (width t + width f)) = e in
    let two : k + 2 ≡ k + 1 + 1 = omega arith in
    let rest =
    ap (spells place (k + 3) t) (spells-yields place (k + 3 + width t) n f ts (omega arith))
    ∙ (spells-yields place (k + 3) (k + 3 + width t) t (yields f ts) refl
    ∙ renumber place (k + 3) (k + 1 + 1 + 1) (yields t (yields f ts)) (omega arith)) in
    λ i. (place k, word kind.Comma) ∷ (place (k + 1), name label) ∷ (place (two i), word kind.Colon) ∷ rest i

-- so the terminals of a type, each with the place of its number, are those that the machine reads
pub spells-whole : (place : ℕ → ℕ) (k : ℕ) (p : Phrase whole) → spells place k p [] ≡ placed_from place k (yields p [])
spells-whole place k p = spells-yields place k (k + width p) p [] refl
