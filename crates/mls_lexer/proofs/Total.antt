-- Every text has tokens or a first fault.
use Rattle.std.proofs.Common.{◌≡◌, ℕ, zero, suc, ◌+◌, ◌-◌, ◌<◌, ◌≤◌, Bool, true, false, not, ◌==◌, List, [], ◌∷◌, ◌++◌, length, take, drop, get_or, slice_range, Option, Some, None, is_some, Result, Ok, Err, ◌⊎◌, inl, inr, sym, ap, subst, ◌∙◌, refl, arith, length-drop, get_or-drop}
use Rattle.std.proofs.Math.Seq.{take-length}
use Rattle.std.proofs.lemmas.Bool.{cases_Bool, cases_lt}
use Rattle.std.proofs.lemmas.Bool.Decides.{nat_tests}
use Rattle.mls_lexer.specs.declared.token.Kind.{Kind}
use Rattle.mls_lexer.specs.declared.token.Kind.TheVariants.{Number}
use Rattle.mls_lexer.specs.declared.token.Token.{Token}
use Rattle.mls_lexer.specs.declared.token.LexFault.{LexFault}
use Rattle.mls_lexer.specs.declared.token.LexFault.TheVariants.{BadByte, BigNumber}
use Rattle.mls_lexer.specs.Tokens.{is_space, begins_gap, gap, IsLastGap, shape, is_number, digits_value, largest_number, IsLongest, IsToken, IsTokens, HasTokenFault}
use Rattle.mls_lexer.specs.steps.Scanning.{ComesNext, StandsAt}
use Rattle.mls_lexer.proofs.Gaps.{more_comment, more_hash, more_space}
use Rattle.mls_lexer.proofs.Shapes.{is_number-from_shape}
use Rattle.mls_lexer.proofs.Follows.{EndAt, EndAt-push, IsTokens-end, HasTokenFault-at}

-- no longer piece than the one up to `end` is a token
abbrev NoneBeyond : List ℕ → ℕ → ℕ → Type 0
NoneBeyond text start end = (further : ℕ) → end < further → further ≤ length text → shape (slice_range text start further) ≡ None

-- a longest piece from a place that is a token, whatever a number's value
record HasPiece (text : List ℕ) (start : ℕ) : Type 0 where
  pub end : ℕ
  pub kind : Kind
  pub bytes : shape (slice_range text start end) ≡ Some kind
  pub within : (start < end) × (end ≤ length text)
  pub longest : IsLongest text start end

-- from a place there is a longest piece that is a token, or none is one
longest_piece : (text : List ℕ) (start end : ℕ) → end ≤ length text → NoneBeyond text start end → HasPiece text start ⊎ IsLongest text start start
longest_piece text start zero within beyond = inr (λ further less within. beyond further (omega arith) within)
longest_piece text start (suc end) within beyond =
    by_order (cases_lt start (suc end)) (longest_piece text start end (omega arith))
  where
    by_shape : start < suc end → (o : Option Kind) → shape (slice_range text start (suc end)) ≡ o
        → (NoneBeyond text start end → HasPiece text start ⊎ IsLongest text start start)
        → HasPiece text start ⊎ IsLongest text start start
    by_shape less (Some kind) is shorter =
        inl (record { end = suc end; kind = kind; bytes = is; within = (less, within); longest = beyond })
    by_shape less None is shorter = shorter (λ further past inside. at_or_beyond further past inside (cases_lt (suc end) further))
      where
        at_or_beyond : (further : ℕ) → end < further → further ≤ length text → (suc end < further) ⊎ (further ≤ suc end)
            → shape (slice_range text start further) ≡ None
        at_or_beyond further past inside (inl less) = beyond further less inside
        at_or_beyond further past inside (inr here) =
            let same : further ≡ suc end = omega arith in
            ap (λ f. shape (slice_range text start f)) same ∙ is

    by_order : (start < suc end) ⊎ (suc end ≤ start)
        → (NoneBeyond text start end → HasPiece text start ⊎ IsLongest text start start)
        → HasPiece text start ⊎ IsLongest text start start
    by_order (inl less) shorter = by_shape less (shape (slice_range text start (suc end))) refl shorter
    by_order (inr past) shorter = inr (λ further less inside. beyond further (omega arith) inside)

-- a piece is a token or a number that is too large
token_or_number : (text : List ℕ) (start : ℕ) → HasPiece text start → (r : Result Token LexFault) × StandsAt text start r
token_or_number text start piece = by_value (cases_lt largest_number (digits_value (slice_range text start piece.end)))
  where
    token : Token
    token = record { kind = piece.kind; start = start; end = piece.end }

    is_token : (piece.kind ≡ Number → digits_value (slice_range text start piece.end) ≤ largest_number) → (r : Result Token LexFault) × StandsAt text start r
    is_token value = (Ok token, (refl, record { bytes = piece.bytes; within = piece.within; longest = piece.longest; value = value }))

    by_digits : largest_number < digits_value (slice_range text start piece.end)
        → (is_number (slice_range text start piece.end) ≡ true) ⊎ (is_number (slice_range text start piece.end) ≡ false)
        → (r : Result Token LexFault) × StandsAt text start r
    by_digits large (inl digits) =
        (Err (BigNumber start), (refl, (piece.end, record { within = piece.within; digits = digits; longest = piece.longest; value = large })))
    by_digits large (inr none) = is_token (λ number.
        let digits : is_number (slice_range text start piece.end) ≡ true =
        is_number-from_shape (slice_range text start piece.end) (piece.bytes ∙ ap Some number) in
        let wrong : true ≡ false = sym digits ∙ none in absurd (cc))

    by_value : (largest_number < digits_value (slice_range text start piece.end)) ⊎ (digits_value (slice_range text start piece.end) ≤ largest_number)
        → (r : Result Token LexFault) × StandsAt text start r
    by_value (inl large) = by_digits large (cases_Bool (is_number (slice_range text start piece.end)))
    by_value (inr small) = is_token (λ _. small)

-- at each place stands a token or a fault
stands_at : (text : List ℕ) (at : ℕ) → (r : Result Token LexFault) × StandsAt text at r
stands_at text at = by_piece (longest_piece text at (length text) (omega arith) (λ further less within. absurd (omega arith)))
  where
    by_piece : HasPiece text at ⊎ IsLongest text at at → (r : Result Token LexFault) × StandsAt text at r
    by_piece (inl piece) = token_or_number text at piece
    by_piece (inr none) = (Err (BadByte at), (refl, none))

-- a separator that is no space begins a comment
comment_begins : (byte : ℕ) → begins_gap byte ≡ true → is_space byte ≡ false → byte ≡ 35
comment_begins byte begins other = grind (arith, nat_tests)

-- after a place come separators up to the end, or up to something else
module _ (text : List ℕ) (from : ℕ) (low : from ≤ length text) where
  ends_or_goes_on : (left i : ℕ) → from + i + left ≡ length text → (in_comment : Bool) → gap false (take i (drop from text)) ≡ Some in_comment
      → IsLastGap (drop from text) ⊎ ((at : ℕ) × ComesNext text from at)
  ends_or_goes_on zero i all in_comment so_far =
      let whole : take i (drop from text) ≡ drop from text =
      let n : i ≡ length (drop from text) = simp length-drop (omega arith) in
      ap (λ k. take k (drop from text)) n ∙ take-length (drop from text) in
      inl (ap (λ (o : Option Bool). is_some o) (sym (ap (gap false) whole) ∙ so_far))
  ends_or_goes_on (suc left) i all true so_far =
      let inside : i < length (drop from text) = simp length-drop (omega arith) in
      ends_or_goes_on left (i + 1) (omega arith) (not (get_or (drop from text) i 0 == 10))
      (more_comment (drop from text) i inside (get_or (drop from text) i 0) refl so_far)
  ends_or_goes_on (suc left) i all false so_far =
      by_byte (cases_Bool (begins_gap byte)) (ends_or_goes_on left (i + 1) (omega arith))
    where
      inside : i < length (drop from text)
      inside = simp length-drop (omega arith)

      byte : ℕ
      byte = get_or (drop from text) i 0

      Answer : Type 0
      Answer = IsLastGap (drop from text) ⊎ ((at : ℕ) × ComesNext text from at)

      by_space : (is_space byte ≡ true) ⊎ (is_space byte ≡ false) → begins_gap byte ≡ true
          → ((in_comment : Bool) → gap false (take (i + 1) (drop from text)) ≡ Some in_comment → Answer) → Answer
      by_space (inl space) begins further = further false (more_space (drop from text) i inside byte refl so_far space)
      by_space (inr other) begins further =
          let hash : byte ≡ 35 = comment_begins byte begins other in
          further true (more_hash (drop from text) i inside byte refl so_far hash)

      by_byte : (begins_gap byte ≡ true) ⊎ (begins_gap byte ≡ false)
          → ((in_comment : Bool) → gap false (take (i + 1) (drop from text)) ≡ Some in_comment → Answer) → Answer
      by_byte (inl begins) further = by_space (cases_Bool (is_space byte)) begins further
      by_byte (inr stop) further =
          let width : (from + i) - from ≡ i = omega arith in
          let here : get_or text (from + i) 0 ≡ byte = sym (get_or-drop from text i 0) in
          inr (
            from + i,
            record {
              inside = (omega arith, omega arith);
              separated = ap (λ n. gap false (take n (drop from text))) width ∙ so_far;
              stop = ap begins_gap here ∙ stop;
            },
          )

-- a text is read whole, or up to a fault
abbrev IsReadOrFaulty : List ℕ → Type 0
IsReadOrFaulty text = ((tokens : List Token) × IsTokens text tokens) ⊎ ((fault : LexFault) × HasTokenFault text fault)

-- what is read after the tokens so far
read_on : (text : List ℕ) (left : ℕ) (tokens : List Token) (end : ℕ) → end ≤ length text → length text < end + left → EndAt text tokens end
    → IsReadOrFaulty text
read_on text zero tokens end within enough so_far = absurd (omega arith)
read_on text (suc left) tokens end within enough so_far =
    by_next (ends_or_goes_on text end within (length text - end) 0 (omega arith) false refl)
    (λ token further below. read_on text left (tokens ++ token ∷ []) token.end below (omega arith))
  where
    Further : Type 0
    Further = (token : Token) → end < token.end → token.end ≤ length text → EndAt text (tokens ++ token ∷ []) token.end → IsReadOrFaulty text

    by_standing : (at : ℕ) → ComesNext text end at → (r : Result Token LexFault) → StandsAt text at r → Further → IsReadOrFaulty text
    by_standing at next (Err fault) stands further = inr (fault, HasTokenFault-at text tokens end at fault so_far next stands)
    by_standing at next (Ok token) stands further =
        let place = stands.0 in
        let inside = next.inside in
        let width = stands.1.within in
        further token (omega arith) width.1 (EndAt-push text tokens end at token so_far next stands.0 stands.1)

    by_next : IsLastGap (drop end text) ⊎ ((at : ℕ) × ComesNext text end at) → Further → IsReadOrFaulty text
    by_next (inl last) further = inl (tokens, IsTokens-end text tokens end so_far last)
    by_next (inr (at, next)) further =
        let standing = stands_at text at in
        by_standing at next standing.0 standing.1 further

pub tokens_or_fault : (text : List ℕ) → IsReadOrFaulty text
tokens_or_fault text = read_on text (suc (length text)) [] 0 (omega arith) (omega arith) refl
