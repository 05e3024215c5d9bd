-- A text that begins with the letter `l` does not begin with the word `import`.
use Rattle.std.proofs.Common.{◌≡◌, ℕ, zero, suc, ◌-◌, ◌<◌, Bool, true, false, cond, List, ◌∷◌, take, codes, refl, sym, ◌∙◌, subst, arith}
use Rattle.std.specs.Prelude.{slice_range, bytes_eq, Option, Some, None, unwrap_or, option_map}
use Rattle.mls_lexer.specs.declared.token.Kind.{Kind}
use Rattle.mls_lexer.specs.declared.token.Kind.TheVariants.{Name, Number, WordImport, WordLet}
use Rattle.mls_lexer.specs.declared.token.Token.{Token}
use Rattle.mls_lexer.specs.Tokens.{gap, IsGap, Follow, word_kind, shape}
use Rattle.mls_lexer.proofs.Shapes.{IsShaped, a_word, a_number, a_symbol, IsShaped-from_shape, no_symbol_lower}

-- no word that begins so is `import`
other_word : (rest : List ℕ) → word_kind (108 ∷ rest) ≡ WordImport → ⊥
unfolding word_kind
other_word rest = by (bytes_eq rest (codes "et"))
  where
    by : (b : Bool) → unwrap_or (option_map (λ (word : List ℕ × Kind). word.1) (cond b (Some (codes "let", WordLet)) None)) Name ≡ WordImport → ⊥
    by true is = absurd (cc)
    by false is = absurd (cc)

other_shape : (rest : List ℕ) → IsShaped (108 ∷ rest) WordImport → ⊥
other_shape rest (a_word spelled is) = other_word rest is
other_shape rest (a_number digits is) = absurd (cc)
other_shape rest (a_symbol is) = let none : Some WordImport ≡ None = sym is ∙ no_symbol_lower 108 rest refl in absurd (cc)

-- a text that begins so has no separator first
no_gap : (rest : List ℕ) (start : ℕ) → gap false (take (suc start) (108 ∷ rest)) ≡ Some false → ⊥
no_gap rest start is = absurd (cc)

first_token : (rest : List ℕ) (start end : ℕ) → IsGap (slice_range (108 ∷ rest) 0 start) → start < end → shape (slice_range (108 ∷ rest) start end) ≡ Some WordImport → ⊥
first_token rest (suc start) end before low is =
    let size : suc start - 0 ≡ suc start = omega arith in
    let P : ℕ → Type 0 = λ n. gap false (take n (108 ∷ rest)) ≡ Some false in
    no_gap rest start (subst P size before)
first_token rest zero zero before low is = absurd (omega arith)
first_token rest zero (suc end) before low is =
    let size : suc end - 0 ≡ suc end = omega arith in
    let P : ℕ → Type 0 = λ n. shape (take n (108 ∷ rest)) ≡ Some WordImport in
    other_shape (take end rest) (IsShaped-from_shape (108 ∷ take end rest) WordImport (subst P size is))

pub no_import_first : (rest : List ℕ) (token : Token) (tokens : List Token) (Rest : ℕ → Type 0) → Follow (108 ∷ rest) 0 (token ∷ tokens) Rest → token.kind ≡ WordImport → ⊥
no_import_first rest token tokens Rest follow is =
    let P : Kind → Type 0 = λ kind. shape (slice_range (108 ∷ rest) token.start token.end) ≡ Some kind in
    first_token rest token.start token.end follow.1 follow.2.within.0 (subst P is follow.2.bytes)
