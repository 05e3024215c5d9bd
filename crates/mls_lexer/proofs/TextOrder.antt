-- Lists in the order of the text: each member has the place of a token, and the tokens come one after another.
use Rattle.std.proofs.Common.{◌≡◌, ℕ, zero, suc, ◌+◌, ◌<◌, ◌≤◌, Bool, true, false, if◌then◌else◌, List, [], ◌∷◌, ◌++◌, length, All, Some, refl, sym, ap, ◌∙◌, subst, arith}
use Rattle.std.specs.Prelude.{slice_get, option_map, unwrap_or}
use Rattle.std.proofs.lemmas.List.Elements.{All-cons}
use Rattle.mls_lexer.specs.declared.token.Token.{Token}
use Rattle.mls_lexer.specs.Tokens.{IsToken, IsTokens, Follow, place_of}

-- the tokens of a text have rising places
follow_rises : (text : List ℕ) (place : ℕ) (tokens : List Token) (R : ℕ → Type 0) → Follow text place tokens R
    → (j : ℕ) (t : Token) → slice_get tokens j ≡ Some t → place ≤ t.start
follow_rises text place [] R h j t e = absurd (cc)
follow_rises text place (first ∷ tokens) R h zero t e = let same : first ≡ t = cc in subst (λ (u : Token). place ≤ u.start) same h.0
follow_rises text place (first ∷ tokens) R h (suc j) t e =
    let later = follow_rises text first.end tokens R h.3 j t e in
    let begins = h.0 in
    let within = h.2.within in
    omega arith

tokens_rise_after : (text : List ℕ) (place : ℕ) (tokens : List Token) (R : ℕ → Type 0) → Follow text place tokens R
    → (i j : ℕ) (s t : Token) → i < j → slice_get tokens i ≡ Some s → slice_get tokens j ≡ Some t → s.start < t.start
tokens_rise_after text place [] R h i j s t less at at' = absurd (cc)
tokens_rise_after text place (first ∷ tokens) R h i zero s t less at at' = absurd (omega arith)
tokens_rise_after text place (first ∷ tokens) R h zero (suc j) s t less at at' =
    let same : first ≡ s = cc in
    let later = follow_rises text first.end tokens R h.3 j t at' in
    let within = h.2.within in
    subst (λ (u : Token). u.start < t.start) same (omega arith)
tokens_rise_after text place (first ∷ tokens) R h (suc i) (suc j) s t less at at' =
    tokens_rise_after text first.end tokens R h.3 i j s t (omega arith) at at'

pub tokens_rise : (text : List ℕ) (tokens : List Token) → IsTokens text tokens
    → (i j : ℕ) (s t : Token) → i < j → slice_get tokens i ≡ Some s → slice_get tokens j ≡ Some t → s.start < t.start
tokens_rise text tokens are = tokens_rise_after text 0 tokens _ are

-- there is a token of each number below their count
pub token_at : (tokens : List Token) (k : ℕ) → k < length tokens → (token : Token) × (slice_get tokens k ≡ Some token)
token_at [] k low = absurd (omega arith)
token_at (t ∷ tokens) zero low = (t, refl)
token_at (t ∷ tokens) (suc k) low = token_at tokens k (omega arith)

pub places_rise : (text : List ℕ) (tokens : List Token) → IsTokens text tokens → (i j : ℕ) → i < j → j < length tokens
    → place_of tokens i < place_of tokens j
places_rise text tokens are i j less low =
    let s = token_at tokens i (omega arith) in
    let t = token_at tokens j low in
    let at : place_of tokens i ≡ s.0.start = ap (λ o. unwrap_or (option_map (λ (token : Token). token.start) o) 0) s.1 in
    let at' : place_of tokens j ≡ t.0.start = ap (λ o. unwrap_or (option_map (λ (token : Token). token.start) o) 0) t.1 in
    let rise = tokens_rise text tokens are i j s.0 t.0 less s.1 t.1 in
    omega arith

-- Lists whose members stand at places of tokens, one after another.
module _ {X : Type 0} (at : X → ℕ) (place : ℕ → ℕ) where
  -- the members stand at the places of tokens from number `low` on and before number `high`, and rise
  abbrev pub Rises : ℕ → ℕ → List X → Type 0
  Rises low high [] = low ≤ high
  Rises low high (x ∷ xs) = (k : ℕ) × (low ≤ k) × (at x ≡ place k) × Rises (suc k) high xs

  pub rises-empty : (low high : ℕ) → low ≤ high → Rises low high []
  rises-empty low high le = le

  pub rises-low : (low other high : ℕ) (xs : List X) → low ≤ other → Rises other high xs → Rises low high xs
  rises-low low other high [] le h = omega arith
  rises-low low other high (x ∷ xs) le h = let from = h.1 in (h.0, omega arith, h.2, h.3)

  pub rises-high : (low high other : ℕ) (xs : List X) → high ≤ other → Rises low high xs → Rises low other xs
  rises-high low high other [] le h = omega arith
  rises-high low high other (x ∷ xs) le h = (h.0, h.1, h.2, rises-high (suc h.0) high other xs le h.3)

  pub rises-order : (low high : ℕ) (xs : List X) → Rises low high xs → low ≤ high
  rises-order low high [] h = h
  rises-order low high (x ∷ xs) h = let rest = rises-order (suc h.0) high xs h.3 in let from = h.1 in omega arith

  pub rises-append : (low mid high : ℕ) (xs ys : List X) → Rises low mid xs → Rises mid high ys → Rises low high (xs ++ ys)
  rises-append low mid high [] ys h h' = rises-low low mid high ys h h'
  rises-append low mid high (x ∷ xs) ys h h' = (h.0, h.1, h.2, rises-append (suc h.0) mid high xs ys h.3 h')

  pub rises-if : (low high k : ℕ) (b : Bool) (x : X) → low ≤ k → k < high → at x ≡ place k → Rises low high (if b then x ∷ [] else [])
  rises-if low high k true x le less is = (k, le, is, omega arith)
  rises-if low high k false x le less is = omega arith

  -- so the first has the least place
  pub rises-later : (low high : ℕ) (xs : List X) → Rises low high xs
      → (bound : ℕ) → ((k : ℕ) → low ≤ k → k < high → bound ≤ place k) → All (λ x. bound ≤ at x) xs
  rises-later low high [] h bound up = λ k d inside. absurd (omega arith)
  rises-later low high (x ∷ xs) h bound up =
      let below = rises-order (suc h.0) high xs h.3 in
      let from = h.1 in
      let here : bound ≤ at x = subst (λ n. bound ≤ n) (sym h.2) (up h.0 h.1 (omega arith)) in
      let rest = rises-later (suc h.0) high xs h.3 bound (λ k le less. up k (omega arith) less) in
      All-cons (λ y. bound ≤ at y) x xs here rest

  pub rises-least : (low high : ℕ) (x : X) (xs : List X) → Rises low high (x ∷ xs)
      → ((i j : ℕ) → low ≤ i → i < j → j < high → place i < place j) → All (λ other. at x ≤ at other) xs
  rises-least low high x xs h up =
      rises-later (suc h.0) high xs h.3 (at x)
      (λ k le less. let rise = up h.0 k h.1 (omega arith) less in let is = h.2 in omega arith)
