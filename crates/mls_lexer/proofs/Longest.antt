-- When a piece of a text is the longest token from its place.
use Rattle.std.proofs.Common.{take-append-drop, ◌≡◌, ℕ, suc, ◌+◌, ◌-◌, ◌<◌, ◌≤◌, Bool, true, false, ◌&&◌, List, [], ◌∷◌, ◌++◌, length, take, drop, slice_range, Option, Some, None, IsSome, is_some, sym, ap, ◌∙◌, refl, arith, length-drop, length-take, take-add, drop-drop}
use Rattle.std.specs.List.{list_all}
use Rattle.std.proofs.lemmas.Bool.{and_parts, and_from}
use Rattle.std.proofs.lemmas.List.Folds.{list_all-append}
use Rattle.mls_base.specs.Spelling.{is_spelled, is_lower, is_name_byte}
use Rattle.mls_lexer.specs.declared.token.Kind.{Kind}
use Rattle.mls_lexer.specs.Tokens.{is_digit, symbols, symbol_kind, shape, IsLongest}
use Rattle.mls_lexer.proofs.Shapes.{symbol_tested, IsShaped, a_word, a_number, a_symbol, IsShaped-from_shape, shape-word, shape-number, shape-symbol}

-- at most two bytes
abbrev pub is_short : List ℕ → Bool
is_short (first ∷ second ∷ third ∷ rest) = false
is_short bytes = true

-- the first byte alone has a shape
abbrev begins_shaped : List ℕ → Bool
begins_shaped [] = true
begins_shaped (first ∷ rest) = is_some (shape (first ∷ []))

symbols-begin : list_all (λ (symbol : List ℕ × Kind). begins_shaped symbol.0) symbols ≡ true
unfolding symbol_kind
symbols-begin = refl

-- the front of a symbol has a shape
symbol-front : (first : ℕ) (front back : List ℕ) (kind : Kind) → symbol_kind (first ∷ (front ++ back)) ≡ Some kind → IsSome (shape (first ∷ front))
symbol-front first [] back kind h = symbol_tested begins_shaped symbols-begin (first ∷ back) kind h
symbol-front first (second ∷ []) [] kind h = ap (λ (o : Option Kind). is_some o) (shape-symbol (first ∷ second ∷ []) kind h)
symbol-front first (second ∷ []) (third ∷ rest) kind h =
    let wrong : false ≡ true = symbol_tested is_short refl (first ∷ second ∷ third ∷ rest) kind h in absurd (cc)
symbol-front first (second ∷ third ∷ rest) back kind h =
    let wrong : false ≡ true = symbol_tested is_short refl (first ∷ second ∷ third ∷ (rest ++ back)) kind h in absurd (cc)

-- the front of what has a shape has one
shape-front : (first : ℕ) (front back : List ℕ) (kind : Kind) → shape (first ∷ (front ++ back)) ≡ Some kind → IsSome (shape (first ∷ front))
shape-front first front back kind h = by_shape (IsShaped-from_shape (first ∷ (front ++ back)) kind h)
  where
    by_shape : IsShaped (first ∷ (front ++ back)) kind → IsSome (shape (first ∷ front))
    by_shape (a_word word k) =
        let parts = and_parts (is_lower first) (is_name_byte first && list_all is_name_byte (front ++ back)) word in
        let bytes = and_parts (is_name_byte first) (list_all is_name_byte (front ++ back)) parts.1 in
        let fronts = and_parts (list_all is_name_byte front) (list_all is_name_byte back) (sym (list_all-append is_name_byte front back) ∙ bytes.1) in
        let spelled : is_spelled (first ∷ front) ≡ true = and_from (is_lower first) (is_name_byte first && list_all is_name_byte front) parts.0 (and_from (is_name_byte first) (list_all is_name_byte front) bytes.0 fronts.0) in
        ap (λ (o : Option Kind). is_some o) (shape-word (first ∷ front) spelled)
    by_shape (a_number number k) =
        let bytes = and_parts (is_digit first) (list_all is_digit (front ++ back)) number in
        let fronts = and_parts (list_all is_digit front) (list_all is_digit back) (sym (list_all-append is_digit front back) ∙ bytes.1) in
        ap (λ (o : Option Kind). is_some o) (shape-number (first ∷ front) (and_from (is_digit first) (list_all is_digit front) bytes.0 fronts.0))
    by_shape (a_symbol symbol) = symbol-front first front back kind symbol

-- so what goes on from bytes without a shape has none
pub shape-longer : (front back : List ℕ) → 0 < length front → shape front ≡ None → shape (front ++ back) ≡ None
shape-longer [] back h none = absurd (omega arith)
shape-longer (first ∷ front) back h none = by_kind (shape (first ∷ (front ++ back))) refl
  where
    by_kind : (kind : Option Kind) → shape (first ∷ (front ++ back)) ≡ kind → kind ≡ None
    by_kind None is = refl
    by_kind (Some kind) is =
        let wrong : false ≡ true = sym (ap (λ (o : Option Kind). is_some o) none) ∙ shape-front first front back kind is in absurd (cc)

-- the front of a slice is a slice
pub slice_front : (text : List ℕ) (start end further : ℕ) → start ≤ end → end ≤ further
    → slice_range text start further ≡ slice_range text start end ++ slice_range text end further
slice_front text start end further low high =
    let both : further - start ≡ (end - start) + (further - end) = omega arith in
    let back : start + (end - start) ≡ end = omega arith in
    ap (λ n. take n (drop start text)) both ∙ take-add (end - start) (further - end) (drop start text)
    ∙ ap (λ xs. take (end - start) (drop start text) ++ take (further - end) xs) (drop-drop (end - start) start text ∙ ap (λ n. drop n text) back)

-- and the end of a text is a slice and the rest
pub drop_front : (text : List ℕ) (start end : ℕ) → start ≤ end → drop start text ≡ slice_range text start end ++ drop end text
drop_front text start end low =
    let back : start + (end - start) ≡ end = omega arith in
    sym (take-append-drop (end - start) (drop start text))
    ∙ ap (λ xs. slice_range text start end ++ xs) (drop-drop (end - start) start text ∙ ap (λ n. drop n text) back)

-- a piece is the longest where one more byte gives it no shape
pub IsLongest-by_next : (text : List ℕ) (start end : ℕ) → start ≤ end
    → (end < length text → shape (slice_range text start (suc end)) ≡ None) → IsLongest text start end
IsLongest-by_next text start end low next = λ further beyond within.
    rw (slice_front text start (suc end) further (omega arith) (omega arith))
    (shape-longer (slice_range text start (suc end)) (slice_range text (suc end) further) (simp (length-take, length-drop) (omega arith)) (next (omega arith)))
