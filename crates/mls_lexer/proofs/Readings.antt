-- A text is read in one way.
use Rattle.std.proofs.Common.{◌≡◌, ℕ, suc, ◌-◌, ◌<◌, ◌≤◌, Bool, true, false, not, List, [], ◌∷◌, length, take, drop, get_or, slice_range, Option, Some, None, is_some, Err, ◌⊎◌, inl, inr, sym, ap, subst, ◌∙◌, refl, arith, drop-cons}
use Rattle.std.proofs.lemmas.Bool.{and_parts, not-true, cases_order, cases_lt}
use Rattle.std.proofs.lemmas.Bool.Decides.{nat_tests}
use Rattle.mls_base.specs.Spelling.{is_lower}
use Rattle.mls_lexer.specs.declared.token.Kind.{Kind}
use Rattle.mls_lexer.specs.declared.token.Kind.TheVariants.{Number}
use Rattle.mls_lexer.specs.declared.token.Token.{Token}
use Rattle.mls_lexer.specs.declared.token.LexFault.{LexFault}
use Rattle.mls_lexer.specs.declared.token.LexFault.TheVariants.{BadByte, BigNumber, Memory}
use Rattle.mls_lexer.specs.Tokens.{begins_gap, is_digit, is_number, gap, IsGap, IsLastGap, shape, digits_value, largest_number, IsLongest, IsToken, Follow, IsTokens, HasTokenFault, bad_byte, big_number, Terminal, terminals, HasTerminals}
use Rattle.mls_lexer.specs.steps.Scanning.{ComesNext, StandsAt}
use Rattle.mls_lexer.proofs.Gaps.{gap-append, gap-stop}
use Rattle.mls_lexer.proofs.Shapes.{IsShaped, a_word, a_number, a_symbol, IsShaped-from_shape, symbol_tested, shape-number}
use Rattle.mls_lexer.proofs.Longest.{slice_front, drop_front}
use Rattle.mls_lexer.proofs.Follows.{Follow-map}

-- a separator begins with the first byte
abbrev first_begins_gap : List ℕ → Bool
first_begins_gap [] = false
first_begins_gap (first ∷ rest) = begins_gap first

-- a token begins with no separator
shape-stop : (first : ℕ) (rest : List ℕ) (kind : Kind) → shape (first ∷ rest) ≡ Some kind → begins_gap first ≡ false
shape-stop first rest kind h = by_shape (IsShaped-from_shape (first ∷ rest) kind h)
  where
    letter : is_lower first ≡ true → begins_gap first ≡ false
    letter h = grind (arith, nat_tests)

    digit : is_digit first ≡ true → begins_gap first ≡ false
    digit h = grind (arith, nat_tests)

    by_shape : IsShaped (first ∷ rest) kind → begins_gap first ≡ false
    by_shape (a_word word k) = letter (and_parts (is_lower first) _ word).0
    by_shape (a_number number k) = digit (and_parts (is_digit first) _ number).0
    by_shape (a_symbol symbol) = not-true (begins_gap first) (symbol_tested (λ bytes. not (first_begins_gap bytes)) refl (first ∷ rest) kind symbol)

-- a slice begins with the byte at its place
slice-cons : (text : List ℕ) (start end : ℕ) → start < end → start < length text
    → slice_range text start end ≡ get_or text start 0 ∷ take (end - suc start) (drop (suc start) text)
slice-cons text start end less inside =
    let e : end - start ≡ suc (end - suc start) = omega arith in
    ap (λ n. take n (drop start text)) e ∙ ap (take (suc (end - suc start))) (drop-cons text start 0 inside)

-- where a token comes next
ComesNext-token : (text : List ℕ) (from : ℕ) (token : Token) → from ≤ token.start → IsGap (slice_range text from token.start) → IsToken text token
    → ComesNext text from token.start
ComesNext-token text from token low separated it =
    let within = it.within in
    record {
      inside = (low, omega arith);
      separated = separated;
      stop =
          shape-stop (get_or text token.start 0) (take (token.end - suc token.start) (drop (suc token.start) text)) token.kind
          (ap shape (sym (slice-cons text token.start token.end within.0 (omega arith))) ∙ it.bytes);
    }

-- separators end at one place
not_before : (text : List ℕ) (from at other : ℕ) → ComesNext text from at → ComesNext text from other → at < other → ⊥
not_before text from at other one two less =
    let split = slice_front text from at other one.inside.0 (omega arith) in
    let rest = gap-append false (slice_range text from at) (slice_range text at other) false one.separated in
    let stop = gap-stop (get_or text at 0) (take (other - suc at) (drop (suc at) text)) one.stop in
    let wrong : Some false ≡ None = sym two.separated ∙ ap (gap false) split ∙ rest ∙ ap (gap false) (slice-cons text at other less one.inside.1) ∙ stop in
    absurd (cc)

one_next : (text : List ℕ) (from at other : ℕ) → ComesNext text from at → ComesNext text from other → at ≡ other
one_next text from at other one two = by_order (cases_order at other)
  where
    by_order : (at ≡ other) ⊎ ((at < other) ⊎ (other < at)) → at ≡ other
    by_order (inl same) = same
    by_order (inr (inl less)) = absurd (not_before text from at other one two less)
    by_order (inr (inr more)) = absurd (not_before text from other at two one more)

-- a text does not end with separators where something comes next
not_last : (text : List ℕ) (from at : ℕ) → IsLastGap (drop from text) → ComesNext text from at → ⊥
not_last text from at last next =
    let split = drop_front text from at next.inside.0 in
    let rest = gap-append false (slice_range text from at) (drop at text) false next.separated in
    let stop = gap-stop (get_or text at 0) (drop (suc at) text) next.stop in
    let none : gap false (drop from text) ≡ None = ap (gap false) split ∙ rest ∙ ap (gap false) (drop-cons text at 0 next.inside.1) ∙ stop in
    let wrong : true ≡ false = sym last ∙ ap (λ (o : Option Bool). is_some o) none in
    absurd (cc)

-- a token is no longer than another from the same place
not_longer : (text : List ℕ) (start end further : ℕ) (kind : Kind) → IsLongest text start end → shape (slice_range text start further) ≡ Some kind
    → end < further → further ≤ length text → ⊥
not_longer text start end further kind longest shaped less within =
    let wrong : None ≡ Some kind = sym (longest further less within) ∙ shaped in absurd (cc)

-- from one place there is one token
one_end : (text : List ℕ) (start end other : ℕ) (kind kind' : Kind) → IsLongest text start end → IsLongest text start other
    → shape (slice_range text start end) ≡ Some kind → shape (slice_range text start other) ≡ Some kind'
    → end ≤ length text → other ≤ length text → end ≡ other
one_end text start end other kind kind' one two shaped shaped' within within' = by_order (cases_order end other)
  where
    by_order : (end ≡ other) ⊎ ((end < other) ⊎ (other < end)) → end ≡ other
    by_order (inl same) = same
    by_order (inr (inl less)) = absurd (not_longer text start end other kind' one shaped' less within')
    by_order (inr (inr more)) = absurd (not_longer text start other end kind two shaped more within)

same_kind : (kind kind' : Kind) → Some kind ≡ Some kind' → kind ≡ kind'
same_kind kind kind' h = cc

one_token : (text : List ℕ) (token other : Token) → IsToken text token → IsToken text other → token.start ≡ other.start → token ≡ other
one_token text token other one two start =
    let bytes' : shape (slice_range text token.start other.end) ≡ Some other.kind = subst (λ s. shape (slice_range text s other.end) ≡ Some other.kind) (sym start) two.bytes in
    let longest' : IsLongest text token.start other.end = subst (λ s. IsLongest text s other.end) (sym start) two.longest in
    let end = one_end text token.start token.end other.end token.kind other.kind one.longest longest' one.bytes bytes' one.within.1 two.within.1 in
    let kind = same_kind token.kind other.kind (sym one.bytes ∙ ap (λ e. shape (slice_range text token.start e)) end ∙ bytes') in
    λ i. record { kind = kind i; start = start i; end = end i }

-- how a reading ends: with separators, or with something that is a fault
abbrev Ends : List ℕ → Option LexFault → ℕ → Type 0
Ends text None from = IsLastGap (drop from text)
Ends text (Some fault) from = (at : ℕ) × ComesNext text from at × StandsAt text at (Err fault)

-- no token stands where a fault does
token_fault : (text : List ℕ) (at : ℕ) (token : Token) (fault : LexFault) → IsToken text token → token.start ≡ at → StandsAt text at (Err fault) → ⊥
token_fault text at token (BadByte place) it start h =
    not_longer text at at token.end token.kind h.1 (subst (λ s. shape (slice_range text s token.end) ≡ Some token.kind) start it.bytes)
    (subst (λ s. s < token.end) start it.within.0) it.within.1
token_fault text at token (BigNumber place) it start h =
    let big = h.1.1 in
    let end = h.1.0 in
    let bytes : shape (slice_range text at token.end) ≡ Some token.kind = subst (λ s. shape (slice_range text s token.end) ≡ Some token.kind) start it.bytes in
    let longest : IsLongest text at token.end = subst (λ s. IsLongest text s token.end) start it.longest in
    let number = shape-number (slice_range text at end) big.digits in
    let same = one_end text at token.end end token.kind Number longest big.longest bytes number it.within.1 big.within.1 in
    let kind = same_kind token.kind Number (sym bytes ∙ ap (λ e. shape (slice_range text at e)) same ∙ number) in
    let small : digits_value (slice_range text at end) ≤ largest_number =
    subst (λ e. digits_value (slice_range text at e) ≤ largest_number) same (subst (λ s. digits_value (slice_range text s token.end) ≤ largest_number) start (it.value kind)) in
    let large = big.value in
    absurd (omega arith)
token_fault text at token Memory it start h = h

-- one fault stands at a place
one_fault : (text : List ℕ) (at : ℕ) (fault other : LexFault) → StandsAt text at (Err fault) → StandsAt text at (Err other) → fault ≡ other
one_fault text at (BadByte place) (BadByte place') one two = ap BadByte (one.0 ∙ sym two.0)
one_fault text at (BadByte place) (BigNumber place') one two =
    let big = two.1.1 in absurd (not_longer text at at two.1.0 Number one.1 (shape-number (slice_range text at two.1.0) big.digits) big.within.0 big.within.1)
one_fault text at (BigNumber place) (BadByte place') one two =
    let big = one.1.1 in absurd (not_longer text at at one.1.0 Number two.1 (shape-number (slice_range text at one.1.0) big.digits) big.within.0 big.within.1)
one_fault text at (BigNumber place) (BigNumber place') one two = ap BigNumber (one.0 ∙ sym two.0)
one_fault text at Memory other one two = absurd one
one_fault text at (BadByte place) Memory one two = absurd two
one_fault text at (BigNumber place) Memory one two = absurd two

-- readings end alike
one_ending : (text : List ℕ) (from : ℕ) (one two : Option LexFault) → Ends text one from → Ends text two from → one ≡ two
one_ending text from None None h k = refl
one_ending text from None (Some fault) h k = absurd (not_last text from k.0 h k.1)
one_ending text from (Some fault) None h k = absurd (not_last text from h.0 k h.1)
one_ending text from (Some fault) (Some other) h k =
    let same = one_next text from h.0 k.0 h.1 k.1 in
    ap Some (one_fault text k.0 fault other (subst (λ a. StandsAt text a (Err fault)) same h.2) k.2)

-- and no token comes where one ends
no_token : (text : List ℕ) (from : ℕ) (ending : Option LexFault) (token : Token) → Ends text ending from
    → from ≤ token.start → IsGap (slice_range text from token.start) → IsToken text token → ⊥
no_token text from None token h low separated it = not_last text from token.start h (ComesNext-token text from token low separated it)
no_token text from (Some fault) token h low separated it =
    token_fault text h.0 token fault it (one_next text from token.start h.0 (ComesNext-token text from token low separated it) h.1) h.2

-- so two readings from one place are the same
pub one_way : (text : List ℕ) (from : ℕ) (tokens others : List Token) (one two : Option LexFault)
    → Follow text from tokens (Ends text one) → Follow text from others (Ends text two) → (tokens ≡ others) × (one ≡ two)
one_way text from [] [] one two h k = (refl, one_ending text from one two h k)
one_way text from [] (other ∷ others) one two h k = absurd (no_token text from one other h k.0 k.1 k.2)
one_way text from (token ∷ tokens) [] one two h k = absurd (no_token text from two token k h.0 h.1 h.2)
one_way text from (token ∷ tokens) (other ∷ others) one two h k =
    let start = one_next text from token.start other.start (ComesNext-token text from token h.0 h.1 h.2) (ComesNext-token text from other k.0 k.1 k.2) in
    let same = one_token text token other h.2 k.2 start in
    let rest = one_way text token.end tokens others one two h.3 (subst (λ (t : Token). Follow text t.end others (Ends text two)) (sym same) k.3) in
    ((λ i. same i ∷ rest.0 i), rest.1)

-- a number has a digit
number_length : (text : List ℕ) (start end : ℕ) → is_number (slice_range text start end) ≡ true → start < end
number_length text start end h = by_order (cases_lt start end)
  where
    by_order : (start < end) ⊎ (end ≤ start) → start < end
    by_order (inl less) = less
    by_order (inr past) =
        let none : end - start ≡ 0 = omega arith in
        let wrong : false ≡ true = sym (ap (λ n. is_number (take n (drop start text))) none) ∙ h in
        absurd (cc)

-- a fault is the end of a reading
reading_of : (text : List ℕ) (fault : LexFault) → HasTokenFault text fault → (tokens : List Token) × Follow text 0 tokens (Ends text (Some fault))
reading_of text _ (bad_byte tokens at reaches stop longest) = (
  tokens,
  Follow-map text 0 tokens (λ q. (q ≤ at) × (at < length text) × IsGap (slice_range text q at)) (Ends text (Some (BadByte at)))
      (λ q h. (at, record { inside = (h.0, h.1); separated = h.2; stop = stop }, (refl, longest))) reaches,
)
reading_of text _ (big_number tokens at end reaches within digits longest value) =
    let some = number_length text at end digits in
    let shaped = shape-number (slice_range text at end) digits in (
      tokens,
      Follow-map text 0 tokens (λ q. (q ≤ at) × (at < length text) × IsGap (slice_range text q at)) (Ends text (Some (BigNumber at)))
          (λ q h. (
            at,
            record {
              inside = (h.0, h.1);
              separated = h.2;
              stop = shape-stop (get_or text at 0) (take (end - suc at) (drop (suc at) text)) Number (ap shape (sym (slice-cons text at end some h.1)) ∙ shaped);
            },
            (refl, (end, record { within = (some, within); digits = digits; longest = longest; value = value })),
          )) reaches,
    )

pub one_reading : (text : List ℕ) (tokens others : List Token) → IsTokens text tokens → IsTokens text others → tokens ≡ others
one_reading text tokens others h k = (one_way text 0 tokens others None None h k).0

pub no_fault_beside_tokens : (text : List ℕ) (tokens : List Token) (fault : LexFault) → IsTokens text tokens → HasTokenFault text fault → ⊥
no_fault_beside_tokens text tokens fault h k =
    let other = reading_of text fault k in
    let wrong = (one_way text 0 tokens other.0 None (Some fault) h other.1).1 in
    absurd (cc)

pub one_first_fault : (text : List ℕ) (fault other : LexFault) → HasTokenFault text fault → HasTokenFault text other → fault ≡ other
one_first_fault text fault other h k =
    let one = reading_of text fault h in
    let two = reading_of text other k in
    let same = (one_way text 0 one.0 two.0 (Some fault) (Some other) one.1 two.1).1 in
    cc

-- a text has one list of tokens without their places
pub one_terminals : (text : List ℕ) (xs ys : List Terminal) → HasTerminals text xs → HasTerminals text ys → xs ≡ ys
one_terminals text xs ys h k = sym h.2 ∙ ap (terminals text) (one_reading text h.0 k.0 h.1 k.1) ∙ k.2
