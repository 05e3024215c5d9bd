-- The terminals that a phrase spells, each with its place, are its terminals, each with the place of its number.
use Rattle.std.proofs.Common.{◌≡◌, ℕ, ◌+◌, List, [], ◌∷◌, map, refl, sym, ap, ◌∙◌, arith}
use Rattle.mls_lexer.specs.declared.token.Token.{Token}
use Rattle.mls_lexer.specs.Tokens.{Terminal, terminal, terminals, place_of}
use Rattle.mls_grammar.specs.Phrases.{Sort, source, Phrase, whole, no_import, importing, no_binding, binding, simple, recursive, fun, fix, local, choice, plain, simple_in, recursive_in, no_compare, less, equal, summed, no_sum, plus, minus, multiplied, no_product, times, applied, no_argument, argument, posted, no_dot, dot, variable, literal, truth, parens, braces, no_part, first_part, last_part, next_part, yields, width}
use Rattle.mls_reader.specs.steps.Pieces.{emitted, given}
use Rattle.mls_reader.specs.steps.PieceMachine.{build, last_told, beginning}
use Rattle.mls_lexer.specs.steps.Placed.{Placed, placed}
use Rattle.mls_lexer.proofs.Places.{placed_from, tokens-placed}
use Rattle.mls_reader.proofs.Spelled.{spells}
use Rattle.mls_reader.proofs.Builds.{built}

-- these are the terminals, each with its place, where the first has number k
record ArePlaced (place : ℕ → ℕ) (k : ℕ) (us : List Placed) (ts : List Terminal) : Type 0 where
  are : us ≡ placed_from place k ts

-- a phrase that spells nothing
none : (place : ℕ → ℕ) (k n : ℕ) {us : List Placed} {ts : List Terminal} → n ≡ k → ArePlaced place n us ts → ArePlaced place k us ts
none place k n {us} {ts} e h = record { are = h.are ∙ ap (λ k. placed_from place k ts) e }

-- a terminal before others
one : (place : ℕ → ℕ) (k n : ℕ) {t : Terminal} {us : List Placed} {ts : List Terminal} → n ≡ k + 1 → ArePlaced place n us ts → ArePlaced place k ((place k, t) ∷ us) (t ∷ ts)
one place k n {t} {us} {ts} e h = record { are = ap (λ us. (place k, t) ∷ us) (h.are ∙ ap (λ n. placed_from place n ts) e) }

spells-yields : (place : ℕ → ℕ) {s : Sort} (k n : ℕ) (p : Phrase s) {us : List Placed} {ts : List Terminal}
    → n ≡ k + width p → ArePlaced place n us ts → ArePlaced place k (spells place k p us) (yields p ts)
unfolding spells yields width
spells-yields place k n (whole i b) e h =
    let all : n ≡ k + (width i + width b) = e in
    spells-yields place k (k + width i) i refl (spells-yields place (k + width i) n b (omega arith) h)
spells-yields place k n no_import e h = let same : n ≡ k + 0 = e in none place k n (omega arith) h
spells-yields place k n (importing x i) e h =
    let all : n ≡ k + (2 + width i) = e in
    one place k (k + 1) refl (one place (k + 1) (k + 2) (omega arith) (spells-yields place (k + 2) n i (omega arith) h))
spells-yields place k n no_binding e h = let same : n ≡ k + 0 = e in none place k n (omega arith) h
spells-yields place k n (binding r) e h =
    let all : n ≡ k + (1 + width r) = e in
    one place k (k + 1) refl (spells-yields place (k + 1) n r (omega arith) h)
spells-yields place k n (simple x e b) w h =
    let all : n ≡ k + (2 + (width e + width b)) = w in
    one place k (k + 1) refl (one place (k + 1) (k + 2) (omega arith) (spells-yields place (k + 2) (k + 2 + width e) e refl
    (spells-yields place (k + 2 + width e) n b (omega arith) h)))
spells-yields place k n (recursive x e b) w h =
    let all : n ≡ k + (3 + (width e + width b)) = w in
    one place k (k + 1) refl (one place (k + 1) (k + 2) (omega arith) (one place (k + 2) (k + 3) (omega arith)
    (spells-yields place (k + 3) (k + 3 + width e) e refl (spells-yields place (k + 3 + width e) n b (omega arith) h))))
spells-yields place k n (fun x e) w h =
    let all : n ≡ k + (3 + width e) = w in
    one place k (k + 1) refl (one place (k + 1) (k + 2) (omega arith) (one place (k + 2) (k + 3) (omega arith)
    (spells-yields place (k + 3) n e (omega arith) h)))
spells-yields place k n (fix x e) w h =
    let all : n ≡ k + (3 + width e) = w in
    one place k (k + 1) refl (one place (k + 1) (k + 2) (omega arith) (one place (k + 2) (k + 3) (omega arith)
    (spells-yields place (k + 3) n e (omega arith) h)))
spells-yields place k n (local r) e h =
    let all : n ≡ k + (1 + width r) = e in
    one place k (k + 1) refl (spells-yields place (k + 1) n r (omega arith) h)
spells-yields place k n (choice c p q) e h =
    let all : n ≡ k + (1 + (width c + (1 + (width p + (1 + width q))))) = e in
    one place k (k + 1) refl (spells-yields place (k + 1) (k + 1 + width c) c refl
    (one place (k + 1 + width c) (k + 2 + width c) (omega arith) (spells-yields place (k + 2 + width c) (k + 2 + width c + width p) p refl
    (one place (k + 2 + width c + width p) (k + 3 + width c + width p) (omega arith)
    (spells-yields place (k + 3 + width c + width p) n q (omega arith) h)))))
spells-yields place k n (plain s t) e h =
    let all : n ≡ k + (width s + width t) = e in
    spells-yields place k (k + width s) s refl (spells-yields place (k + width s) n t (omega arith) h)
spells-yields place k n (simple_in x e f) w h =
    let all : n ≡ k + (2 + (width e + (1 + width f))) = w in
    one place k (k + 1) refl (one place (k + 1) (k + 2) (omega arith) (spells-yields place (k + 2) (k + 2 + width e) e refl
    (one place (k + 2 + width e) (k + 3 + width e) (omega arith) (spells-yields place (k + 3 + width e) n f (omega arith) h))))
spells-yields place k n (recursive_in x e f) w h =
    let all : n ≡ k + (3 + (width e + (1 + width f))) = w in
    one place k (k + 1) refl (one place (k + 1) (k + 2) (omega arith) (one place (k + 2) (k + 3) (omega arith)
    (spells-yields place (k + 3) (k + 3 + width e) e refl (one place (k + 3 + width e) (k + 4 + width e) (omega arith)
    (spells-yields place (k + 4 + width e) n f (omega arith) h)))))
spells-yields place k n no_compare e h = let same : n ≡ k + 0 = e in none place k n (omega arith) h
spells-yields place k n (less s) e h =
    let all : n ≡ k + (1 + width s) = e in
    one place k (k + 1) refl (spells-yields place (k + 1) n s (omega arith) h)
spells-yields place k n (equal s) e h =
    let all : n ≡ k + (1 + width s) = e in
    one place k (k + 1) refl (spells-yields place (k + 1) n s (omega arith) h)
spells-yields place k n (summed p t) e h =
    let all : n ≡ k + (width p + width t) = e in
    spells-yields place k (k + width p) p refl (spells-yields place (k + width p) n t (omega arith) h)
spells-yields place k n no_sum e h = let same : n ≡ k + 0 = e in none place k n (omega arith) h
spells-yields place k n (plus p t) e h =
    let all : n ≡ k + (1 + (width p + width t)) = e in
    one place k (k + 1) refl (spells-yields place (k + 1) (k + 1 + width p) p refl (spells-yields place (k + 1 + width p) n t (omega arith) h))
spells-yields place k n (minus p t) e h =
    let all : n ≡ k + (1 + (width p + width t)) = e in
    one place k (k + 1) refl (spells-yields place (k + 1) (k + 1 + width p) p refl (spells-yields place (k + 1 + width p) n t (omega arith) h))
spells-yields place k n (multiplied p t) e h =
    let all : n ≡ k + (width p + width t) = e in
    spells-yields place k (k + width p) p refl (spells-yields place (k + width p) n t (omega arith) h)
spells-yields place k n no_product e h = let same : n ≡ k + 0 = e in none place k n (omega arith) h
spells-yields place k n (times p t) e h =
    let all : n ≡ k + (1 + (width p + width t)) = e in
    one place k (k + 1) refl (spells-yields place (k + 1) (k + 1 + width p) p refl (spells-yields place (k + 1 + width p) n t (omega arith) h))
spells-yields place k n (applied p m) e h =
    let all : n ≡ k + (width p + width m) = e in
    spells-yields place k (k + width p) p refl (spells-yields place (k + width p) n m (omega arith) h)
spells-yields place k n no_argument e h = let same : n ≡ k + 0 = e in none place k n (omega arith) h
spells-yields place k n (argument p m) e h =
    let all : n ≡ k + (width p + width m) = e in
    spells-yields place k (k + width p) p refl (spells-yields place (k + width p) n m (omega arith) h)
spells-yields place k n (posted x d) e h =
    let all : n ≡ k + (width x + width d) = e in
    spells-yields place k (k + width x) x refl (spells-yields place (k + width x) n d (omega arith) h)
spells-yields place k n no_dot e h = let same : n ≡ k + 0 = e in none place k n (omega arith) h
spells-yields place k n (dot label d) e h =
    let all : n ≡ k + (2 + width d) = e in
    one place k (k + 1) refl (one place (k + 1) (k + 2) (omega arith) (spells-yields place (k + 2) n d (omega arith) h))
spells-yields place k n (variable x) e h = one place k n e h
spells-yields place k n (literal value) e h = one place k n e h
spells-yields place k n (truth value) e h = one place k n e h
spells-yields place k n (parens e) w h =
    let all : n ≡ k + (1 + (width e + 1)) = w in
    one place k (k + 1) refl (spells-yields place (k + 1) (k + 1 + width e) e refl (one place (k + 1 + width e) n (omega arith) h))
spells-yields place k n (braces p) e h =
    let all : n ≡ k + (1 + width p) = e in
    one place k (k + 1) refl (spells-yields place (k + 1) n p (omega arith) h)
spells-yields place k n no_part e h = one place k n e h
spells-yields place k n (first_part label e p) w h =
    let all : n ≡ k + (2 + (width e + width p)) = w in
    one place k (k + 1) refl (one place (k + 1) (k + 2) (omega arith) (spells-yields place (k + 2) (k + 2 + width e) e refl
    (spells-yields place (k + 2 + width e) n p (omega arith) h)))
spells-yields place k n last_part e h = one place k n e h
spells-yields place k n (next_part label e p) w h =
    let all : n ≡ k + (3 + (width e + width p)) = w in
    one place k (k + 1) refl (one place (k + 1) (k + 2) (omega arith) (one place (k + 2) (k + 3) (omega arith)
    (spells-yields place (k + 3) (k + 3 + width e) e refl (spells-yields place (k + 3 + width e) n p (omega arith) h))))

pub spells-placed : (place : ℕ → ℕ) (k : ℕ) {s : Sort} (p : Phrase s) → spells place k p [] ≡ placed_from place k (yields p [])
spells-placed place k p = (spells-yields place k (k + width p) p refl (record { are = refl })).are

-- so tokens that a phrase spells are what the machine reads of it
pub tokens-spelled : (text : List ℕ) (tokens : List Token) {s : Sort} (p : Phrase s) → yields p [] ≡ terminals text tokens → placed text tokens ≡ spells (place_of tokens) 0 p []
tokens-spelled text tokens p e =
    tokens-placed text tokens
    ∙ (ap (placed_from (place_of tokens) 0) (sym e)
    ∙ sym (spells-placed (place_of tokens) 0 p))

-- from the tokens of a module the machine tells the pieces of its phrase, and gives its names and labels
pub built-tokens : (text : List ℕ) (tokens : List Token) (at : ℕ) (p : Phrase source) → yields p [] ≡ terminals text tokens
    → let s = build beginning [] [] (map (λ token. (token.start, terminal text token)) tokens) in
    (last_told s.stack s.told ≡ emitted (place_of tokens) at 0 p) × (s.heard ≡ given (place_of tokens) 0 p)
built-tokens text tokens at p e =
    let same = tokens-spelled text tokens p e in
    let read = built (place_of tokens) at p in (
      ap (λ us. last_told (build beginning [] [] us).stack (build beginning [] [] us).told) same ∙ read.0,
      ap (λ us. (build beginning [] [] us).heard) same ∙ read.1,
    )
