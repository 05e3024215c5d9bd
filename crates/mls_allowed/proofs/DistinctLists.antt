-- Lists of numbers, each of which stands once.
--     distinct_left, distinct_right, distinct_both     of two lists one behind the other
--     distinct_rest, distinct_first                    of an element and the rest
use Rattle.std.proofs.Common.{◌≡◌, ◌≢◌, ℕ, suc, ◌+◌, ◌<◌, List, ◌∷◌, ◌++◌, length, sym, ◌∙◌, arith, length-append, Contains}
use Rattle.std.specs.List.{AllPairs}
use Rattle.std.proofs.lemmas.List.{get_or_append_left, get_or-append-add}

abbrev pub AreDistinct : List ℕ → Type 0
AreDistinct = AllPairs (λ x y. x ≢ y)

module _ (xs ys : List ℕ) (distinct : AreDistinct (xs ++ ys)) where
  pub distinct_left : AreDistinct xs
  distinct_left i j d before low same =
      let all : length (xs ++ ys) ≡ length xs + length ys = length-append xs ys in
      distinct i j d before (omega arith) (get_or_append_left xs ys d i (omega arith) ∙ (same ∙ sym (get_or_append_left xs ys d j low)))

  pub distinct_right : AreDistinct ys
  distinct_right i j d before low same =
      let all : length (xs ++ ys) ≡ length xs + length ys = length-append xs ys in
      distinct (length xs + i) (length xs + j) d (omega arith) (omega arith) (get_or-append-add xs ys i d ∙ (same ∙ sym (get_or-append-add xs ys j d)))

  pub distinct_both : (x : ℕ) → Contains xs x → Contains ys x → ⊥
  distinct_both x one two =
      let all : length (xs ++ ys) ≡ length xs + length ys = length-append xs ys in
      let low : one.0 < length xs = one.1 in
      let low' : two.0 < length ys = two.1 in
      distinct one.0 (length xs + two.0) x (omega arith) (omega arith) (get_or_append_left xs ys x one.0 low ∙ (one.2 ∙ sym (get_or-append-add xs ys two.0 x ∙ two.2)))

module _ (x : ℕ) (xs : List ℕ) (distinct : AreDistinct (x ∷ xs)) where
  pub distinct_rest : AreDistinct xs
  distinct_rest i j d before low same = distinct (suc i) (suc j) d (omega arith) (omega arith) same

  pub distinct_first : Contains xs x → ⊥
  distinct_first it = let low : it.0 < length xs = it.1 in distinct 0 (suc it.0) x (omega arith) (omega arith) (sym it.2)
