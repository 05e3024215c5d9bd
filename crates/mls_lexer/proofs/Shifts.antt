-- The tokens of a text stay tokens where something stands in front of the text.
use Rattle.std.proofs.Common.{◌≡◌, ℕ, ◌+◌, ◌-◌, ◌≤◌, List, [], ◌∷◌, ◌++◌, map, length, take, drop, slice_range, sym, ap, subst, ◌∙◌, refl, arith, length-append}
use Rattle.std.proofs.Math.Seq.{drop-append-add}
use Rattle.mls_lexer.specs.declared.token.Token.{Token}
use Rattle.mls_lexer.specs.Tokens.{shape, IsGap, IsToken, Follow, digits_value, largest_number, terminal_of, terminals}

-- a token as many bytes further on
pub shifted : ℕ → Token → Token
shifted n token = record { kind = token.kind; start = n + token.start; end = n + token.end }

module _ (front rest : List ℕ) where
  pub slice-shifted : (start end : ℕ) → slice_range (front ++ rest) (length front + start) (length front + end) ≡ slice_range rest start end
  slice-shifted start end =
      let e : length front + end - (length front + start) ≡ end - start = omega arith in
      ap (λ n. take n (drop (length front + start) (front ++ rest))) e ∙ ap (take (end - start)) (drop-append-add front rest start)

  pub IsToken-shifted : (token : Token) → IsToken rest token → IsToken (front ++ rest) (shifted (length front) token)
  unfolding shifted
  IsToken-shifted token it =
      let within = it.within in
      let same = slice-shifted token.start token.end in
      record {
        bytes = ap shape same ∙ it.bytes;
        within = (omega arith, omega (arith, length-append front rest));
        longest = λ further beyond inside.
            let back : length front + (further - length front) ≡ further = omega arith in
            ap (λ e. shape (slice_range (front ++ rest) (length front + token.start) e)) (sym back)
            ∙ ap shape (slice-shifted token.start (further - length front))
            ∙ it.longest (further - length front) (omega arith) (omega (arith, length-append front rest));
        value = λ number. subst (λ bytes. digits_value bytes ≤ largest_number) (sym same) (it.value number);
      }

  pub Follow-shifted : (place : ℕ) (tokens : List Token) (R S : ℕ → Type 0) → ((q : ℕ) → R q → S (length front + q))
      → Follow rest place tokens R → Follow (front ++ rest) (length front + place) (map (shifted (length front)) tokens) S
  unfolding shifted
  Follow-shifted place [] R S after h = after place h
  Follow-shifted place (token ∷ tokens) R S after h =
      let low = h.0 in
      (omega arith, subst IsGap (sym (slice-shifted place token.start)) h.1, IsToken-shifted token h.2, Follow-shifted token.end tokens R S after h.3)

  pub terminals-shifted : (tokens : List Token) → terminals (front ++ rest) (map (shifted (length front)) tokens) ≡ terminals rest tokens
  unfolding shifted
  terminals-shifted [] = refl
  terminals-shifted (token ∷ tokens) =
      λ i. terminal_of token.kind (slice-shifted token.start token.end i) ∷ terminals-shifted tokens i
