-- Separators, one after another.
use Rattle.std.proofs.Common.{◌≡◌, ℕ, ◌+◌, ◌<◌, Bool, true, false, not, ◌==◌, cond, List, [], ◌∷◌, ◌++◌, length, take, get_or, Some, None, sym, ap, ◌∙◌}
use Rattle.std.proofs.lemmas.Bool.{cond-true, cond-false, or_parts}
use Rattle.std.proofs.lemmas.List.{take_more}
use Rattle.mls_lexer.specs.Tokens.{is_space, begins_gap, gap}

-- separators go on as after their front
pub gap-append : (in_comment : Bool) (xs ys : List ℕ) (then_comment : Bool) → gap in_comment xs ≡ Some then_comment
    → gap in_comment (xs ++ ys) ≡ gap then_comment ys
gap-append in_comment [] ys then_comment h =
    let same : in_comment ≡ then_comment = cc in ap (λ c. gap c ys) same
gap-append true (byte ∷ xs) ys then_comment h = gap-append (not (byte == 10)) xs ys then_comment h
gap-append false (byte ∷ xs) ys then_comment h = by_space (is_space byte) h (gap-append false xs ys then_comment) (gap-append true xs ys then_comment)
  where
    by_hash : (hash : Bool) → cond hash (gap true xs) None ≡ Some then_comment
        → (gap true xs ≡ Some then_comment → gap true (xs ++ ys) ≡ gap then_comment ys)
        → cond hash (gap true (xs ++ ys)) None ≡ gap then_comment ys
    by_hash true h comment = comment h
    by_hash false h comment = absurd (cc)

    by_space : (space : Bool) → cond space (gap false xs) (cond (byte == 35) (gap true xs) None) ≡ Some then_comment
        → (gap false xs ≡ Some then_comment → gap false (xs ++ ys) ≡ gap then_comment ys)
        → (gap true xs ≡ Some then_comment → gap true (xs ++ ys) ≡ gap then_comment ys)
        → cond space (gap false (xs ++ ys)) (cond (byte == 35) (gap true (xs ++ ys)) None) ≡ gap then_comment ys
    by_space true h plain comment = plain h
    by_space false h plain comment = by_hash (byte == 35) h comment

-- a byte with which no separator begins ends them
pub gap-stop : (byte : ℕ) (rest : List ℕ) → begins_gap byte ≡ false → gap false (byte ∷ rest) ≡ None
gap-stop byte rest h =
    let parts = or_parts (is_space byte) (byte == 35) h in
    cond-false (is_space byte) (gap false rest) (cond (byte == 35) (gap true rest) None) parts.0
    ∙ cond-false (byte == 35) (gap true rest) None parts.1

pub gap-space : (byte : ℕ) (rest : List ℕ) → is_space byte ≡ true → gap false (byte ∷ rest) ≡ gap false rest
gap-space byte rest h = cond-true (is_space byte) (gap false rest) (cond (byte == 35) (gap true rest) None) h

-- one more byte of a list
module _ (xs : List ℕ) (i : ℕ) (inside : i < length xs) (byte : ℕ) (here : byte ≡ get_or xs i 0) where
  more : (in_comment : Bool) → gap false (take i xs) ≡ Some in_comment → gap false (take (i + 1) xs) ≡ gap in_comment (byte ∷ [])
  more in_comment h =
      ap (gap false) (take_more xs i 0 inside) ∙ gap-append false (take i xs) (get_or xs i 0 ∷ []) in_comment h
      ∙ ap (λ b. gap in_comment (b ∷ [])) (sym here)

  -- inside a comment
  pub more_comment : gap false (take i xs) ≡ Some true → gap false (take (i + 1) xs) ≡ Some (not (byte == 10))
  more_comment h = more true h

  -- at the begin of a comment
  pub more_hash : gap false (take i xs) ≡ Some false → byte ≡ 35 → gap false (take (i + 1) xs) ≡ Some true
  more_hash h is = more false h ∙ ap (λ b. gap false (b ∷ [])) is

  -- at a space
  pub more_space : gap false (take i xs) ≡ Some false → is_space byte ≡ true → gap false (take (i + 1) xs) ≡ Some false
  more_space h is = more false h ∙ gap-space byte [] is
