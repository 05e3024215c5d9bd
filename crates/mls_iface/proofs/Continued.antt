-- The tokens of a text, a newline behind it, and then another text.
use Rattle.std.proofs.Common.{◌≡◌, ◌⊎◌, inl, inr, ℕ, suc, ◌+◌, ◌-◌, ◌<◌, ◌≤◌, Bool, true, false, List, [], ◌∷◌, ◌++◌, map, length, take, drop, slice_range, Some, None, sym, ap, subst, ◌∙◌, refl, arith, length-append, length-drop, append_assoc}
use Rattle.std.specs.Prelude.{is_some, Option}
use Rattle.std.proofs.Math.Seq.{take-append-add, drop-append-add, take-length}
use Rattle.std.proofs.lemmas.Bool.{cases_lt}
use Rattle.std.proofs.lemmas.List.{take-append-le, drop-append-le, map-append}
use Rattle.mls_lexer.specs.declared.token.Token.{Token}
use Rattle.mls_lexer.specs.Tokens.{gap, IsGap, IsLastGap, shape, digits_value, largest_number, IsToken, Follow, IsTokens, Terminal, terminal, terminal_of, terminals, HasTerminals}
use Rattle.mls_lexer.proofs.Gaps.{gap-append}
use Rattle.mls_lexer.proofs.Longest.{slice_front, drop_front, IsLongest-by_next}
use Rattle.mls_lexer.proofs.Shifts.{shifted, Follow-shifted, terminals-shifted}
use Rattle.mls_lexer.proofs.Terminals.{StopsBefore-plain}

-- a newline ends separators and an open comment
closed_gap : (bytes : List ℕ) → IsLastGap bytes → IsGap (bytes ++ 10 ∷ [])
closed_gap bytes last = go (gap false bytes) refl
  where
    ended : (in_comment : Bool) → gap in_comment (10 ∷ []) ≡ Some false
    ended true = refl
    ended false = refl

    go : (o : Option Bool) → gap false bytes ≡ o → IsGap (bytes ++ 10 ∷ [])
    go None none = let wrong : true ≡ false = sym last ∙ ap (λ (o : Option Bool). is_some o) none in absurd (cc)
    go (Some in_comment) some = gap-append false bytes (10 ∷ []) in_comment some ∙ ended in_comment

-- tokens behind a place and separators follow from the place on
after_gap : (text : List ℕ) (from place : ℕ) (tokens : List Token) → from ≤ place → IsGap (slice_range text from place)
    → Follow text place tokens (λ q. IsLastGap (drop q text)) → Follow text from tokens (λ q. IsLastGap (drop q text))
after_gap text from place [] low before h =
    ap (λ (o : Option Bool). is_some o) (ap (gap false) (drop_front text from place low) ∙ gap-append false (slice_range text from place) (drop place text) false before) ∙ h
after_gap text from place (token ∷ tokens) low before h =
    let start = h.0 in (
      omega arith,
      ap (gap false) (slice_front text from place token.start low start) ∙ gap-append false (slice_range text from place) (slice_range text place token.start) false before ∙ h.1,
      h.2,
      h.3,
    )

-- tokens, and others behind them
follow_on : (text : List ℕ) (end place : ℕ) (tokens others : List Token) → Follow text place tokens (λ q. (q ≤ end) × IsGap (slice_range text q end))
    → Follow text end others (λ q. IsLastGap (drop q text)) → Follow text place (tokens ++ others) (λ q. IsLastGap (drop q text))
follow_on text end place [] others first next = after_gap text place end others first.0 first.1 next
follow_on text end place (token ∷ tokens) others first next = (first.0, first.1, first.2, follow_on text end token.end tokens others first.3 next)

module _ (a b : List ℕ) where
  abbrev whole : List ℕ
  whole = a ++ 10 ∷ b

  slice-kept : (start end : ℕ) → start ≤ end → end ≤ length a → slice_range whole start end ≡ slice_range a start end
  slice-kept start end low within =
      ap (take (end - start)) (drop-append-le start a (10 ∷ b) (omega arith))
      ∙ take-append-le (end - start) (drop start a) (10 ∷ b) (let size : length (drop start a) ≡ length a - start = length-drop start a in omega arith)

  -- from a place to the newline
  slice-last : (start : ℕ) → start ≤ length a → slice_range whole start (length a + 1) ≡ drop start a ++ 10 ∷ []
  slice-last start low =
      let size : length (drop start a) ≡ length a - start = length-drop start a in
      let same : length a + 1 - start ≡ length (drop start a) + 1 = omega arith in
      ap (take (length a + 1 - start)) (drop-append-le start a (10 ∷ b) low)
      ∙ (ap (λ n. take n (drop start a ++ 10 ∷ b)) same ∙ take-append-add (drop start a) (10 ∷ b) 1)

  token-kept : (token : Token) → IsToken a token → IsToken whole token
  token-kept token it =
      let within = it.within in
      let same = slice-kept token.start token.end (omega arith) within.1 in
      record {
        bytes = ap shape same ∙ it.bytes;
        within = (within.0, omega (arith, length-append a (10 ∷ b)));
        longest = IsLongest-by_next whole token.start token.end (omega arith) (λ low. next (cases_lt token.end (length a)));
        value = λ number. subst (λ bytes. digits_value bytes ≤ largest_number) (sym same) (it.value number);
      }
    where
      next : (token.end < length a) ⊎ (length a ≤ token.end) → shape (slice_range whole token.start (suc token.end)) ≡ None
      next (inl low) =
          let within = it.within in
          ap shape (slice-kept token.start (suc token.end) (omega arith) low) ∙ it.longest (suc token.end) (omega arith) low
      next (inr high) =
          let within = it.within in
          let last : suc token.end ≡ length a + 1 = omega arith in
          let size : length (drop token.start a) ≡ length a - token.start = length-drop token.start a in
          let same : token.end - token.start ≡ length (drop token.start a) = omega arith in
          ap (λ n. shape (slice_range whole token.start n)) last
          ∙ (ap shape (slice-last token.start (omega arith))
          ∙ (ap (λ bytes. shape (bytes ++ 10 ∷ [])) (sym (ap (λ n. take n (drop token.start a)) same ∙ take-length (drop token.start a)))
          ∙ StopsBefore-plain (slice_range a token.start token.end) 10 b token.kind it.bytes refl refl))

  follow-kept : (place : ℕ) (tokens : List Token) → place ≤ length a → Follow a place tokens (λ q. IsLastGap (drop q a))
      → Follow whole place tokens (λ q. (q ≤ length a + 1) × IsGap (slice_range whole q (length a + 1)))
  follow-kept place [] low last = (omega arith, subst IsGap (sym (slice-last place low)) (closed_gap (drop place a) last))
  follow-kept place (token ∷ tokens) low h =
      let within = h.2.within in
      let start = h.0 in
      (start, subst IsGap (sym (slice-kept place token.start start (omega arith))) h.1, token-kept token h.2, follow-kept token.end tokens within.1 h.3)

  terminals-kept : (place : ℕ) (tokens : List Token) (R : ℕ → Type 0) → Follow a place tokens R → terminals whole tokens ≡ terminals a tokens
  terminals-kept place [] R h = refl
  terminals-kept place (token ∷ tokens) R h =
      let within = h.2.within in
      λ i. terminal_of token.kind (slice-kept token.start token.end (omega arith) within.1 i) ∷ terminals-kept token.end tokens R h.3 i

  -- the text behind the newline
  same_whole : (a ++ 10 ∷ []) ++ b ≡ whole
  same_whole = append_assoc a (10 ∷ []) b

  size : length (a ++ 10 ∷ []) ≡ length a + 1
  size = length-append a (10 ∷ [])

  tokens-behind : (tokens : List Token) → IsTokens b tokens
      → Follow whole (length a + 1) (map (shifted (length (a ++ 10 ∷ []))) tokens) (λ q. IsLastGap (drop q whole))
  tokens-behind tokens h =
      let place : length (a ++ 10 ∷ []) + 0 ≡ length a + 1 = let n = size in omega arith in
      subst (λ t. Follow t (length a + 1) (map (shifted (length (a ++ 10 ∷ []))) tokens) (λ q. IsLastGap (drop q t))) same_whole
      (subst (λ n. Follow ((a ++ 10 ∷ []) ++ b) n (map (shifted (length (a ++ 10 ∷ []))) tokens) (λ q. IsLastGap (drop q ((a ++ 10 ∷ []) ++ b)))) place
      (Follow-shifted (a ++ 10 ∷ []) b 0 tokens (λ q. IsLastGap (drop q b)) (λ q. IsLastGap (drop q ((a ++ 10 ∷ []) ++ b)))
      (λ q last. subst IsLastGap (sym (drop-append-add (a ++ 10 ∷ []) b q)) last) h))

  pub terminals-behind : (xs ys : List Terminal) → HasTerminals a xs → HasTerminals b ys → HasTerminals whole (xs ++ ys)
  terminals-behind xs ys (tokens, are, is) (others, are', is') =
      let behind : List Token = map (shifted (length (a ++ 10 ∷ []))) others in (
        tokens ++ behind,
        follow_on whole (length a + 1) 0 tokens behind (follow-kept 0 tokens (omega arith) are) (tokens-behind others are'),
        map-append (λ (token : Token). terminal whole token) tokens behind
            ∙ (λ i.
            (terminals-kept 0 tokens (λ q. IsLastGap (drop q a)) are ∙ is) i
            ++ (ap (λ t. terminals t behind) (sym same_whole) ∙ (terminals-shifted (a ++ 10 ∷ []) b others ∙ is')) i),
      )
