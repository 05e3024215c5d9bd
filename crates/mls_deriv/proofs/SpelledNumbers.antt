-- Words that spell numbers, and clauses read from their words.
use Rattle.std.proofs.Common.{◌≡◌, ℕ, ◌+◌, ◌<◌, ◌^◌, ◌%◌, Bool, true, false, ◌&&◌, List, [], ◌∷◌, ◌++◌, map, get_or, Some, None, sym, ap, subst, ◌∙◌, refl, arith, nat_eq, nat_lt, append-nil}
use Rattle.std.specs.Prelude.{All, decimal, bytes_eq, Option, if◌then◌else◌}
use Rattle.std.specs.List.{flat_map, slice_split}
use Rattle.std.specs.Str.Parse.{digits_value, AllDigits}
use Rattle.std.proofs.lemmas.Fmt.{decimal_is_IsNumeral, decimal_by_steps, decimal_nonempty, digits_decimal}
use Rattle.std.proofs.lemmas.Str.Parse.{digit_at, numerals_by_value, tells_digits}
use Rattle.std.proofs.lemmas.Slice.Eq.{bytes_eq-Decides}
use Rattle.std.proofs.lemmas.Bool.{lt-ltb, ltb-true, ne_eqb, and_parts}
use Rattle.std.proofs.lemmas.List.Elements.{All-nil, All-cons, All-head, All-tail, All-append}
use Rattle.std.proofs.lemmas.List.Splits.{slice_split_none, slice_split_at}
use Rattle.mls_deriv.specs.Forms.{IsWord}
use Rattle.mls_deriv.specs.inner.Clauses.{number_of, if_spelled, Said, words_of, IsSaid}

-- the word of a number spells it
pub number_spelled : (n : ℕ) → IsWord n → number_of (decimal n) ≡ Some n
unfolding number_of
number_spelled n low =
    let value : digits_value 10 (decimal n) ≡ n = (decimal_is_IsNumeral n low).1 in
    let same : bytes_eq (decimal n) (decimal n) ≡ true = (bytes_eq-Decides (decimal n) (decimal n)).1 refl in
    let fits : nat_lt n (2 ^ 64) ≡ true = lt-ltb n (2 ^ 64) low in
    ap (if_spelled (decimal n)) value ∙ (λ i. if (same i && fits i) then Some n else None)

-- what spells a number is its word
if_spelled-sound : (word : List ℕ) (v n : ℕ) → if_spelled word v ≡ Some n → IsWord n × (decimal n ≡ word)
if_spelled-sound word v n h = go (bytes_eq (decimal v) word && nat_lt v (2 ^ 64)) refl h
  where
    go : (b : Bool) → (bytes_eq (decimal v) word && nat_lt v (2 ^ 64)) ≡ b → (if b then Some v else None) ≡ Some n → IsWord n × (decimal n ≡ word)
    go true e is =
        let parts = and_parts (bytes_eq (decimal v) word) (nat_lt v (2 ^ 64)) e in
        let same : v ≡ n = cc in
        subst (λ m. IsWord m × (decimal m ≡ word)) same (ltb-true v (2 ^ 64) parts.1, (bytes_eq-Decides (decimal v) word).0 parts.0)
    go false e is = absurd (cc)

pub number_sound : (word : List ℕ) (n : ℕ) → number_of word ≡ Some n → IsWord n × (decimal n ≡ word)
unfolding number_of
number_sound word n h = if_spelled-sound word (digits_value 10 word) n h

-- a word that begins behind the digits spells no number
pub no_number : (b : ℕ) (rest : List ℕ) → 57 < b → number_of (b ∷ rest) ≡ None
no_number b rest high = go (number_of (b ∷ rest)) refl
  where
    go : (o : Option ℕ) → number_of (b ∷ rest) ≡ o → o ≡ None
    go None e = refl
    go (Some n) e =
        let is = number_sound (b ∷ rest) n e in
        let digits : AllDigits 10 (decimal n) = digits_decimal (numerals_by_value (AllDigits 10) tells_digits) n is.0 in
        let first = digit_at (decimal n) 0 digits (decimal_nonempty n is.0) in
        let value : get_or (decimal n) 0 0 ≡ b = ap (λ w. get_or w 0 0) is.1 in
        absurd (omega (arith, first, value))

-- no byte is a space
abbrev pub HasNoSpace : List ℕ → Type 0
HasNoSpace word = All (λ byte. nat_eq byte 32 ≡ false) word

one_byte : (b : ℕ) → (b ≡ 32 → ⊥) → HasNoSpace (b ∷ [])
one_byte b ne = All-cons (λ byte. nat_eq byte 32 ≡ false) b [] (ne_eqb b 32 ne) (All-nil (λ byte. nat_eq byte 32 ≡ false))

pub decimal_has_no_space : (n : ℕ) → IsWord n → HasNoSpace (decimal n)
decimal_has_no_space n low =
    decimal_by_steps (λ _ word. HasNoSpace word) (λ d h. one_byte (48 + d) (λ e. absurd (omega arith)))
    (λ d ds h before. All-append (λ byte. nat_eq byte 32 ≡ false) ds ((48 + d % 10) ∷ []) before (one_byte (48 + d % 10) (λ e. absurd (omega arith)))) n low

-- clauses, read from their words
abbrev Read : Type 0
Read = List ℕ × List Said

put : Option ℕ → List ℕ → Read → Read
put (Some n) word r = (n ∷ r.0, r.1)
put None word r = ([], (word, r.0) ∷ r.1)

read : List (List ℕ) → Read
read [] = ([], [])
read (word ∷ words) = put (number_of word) word (read words)

read_numbers : (ns : List ℕ) (words : List (List ℕ)) → All IsWord ns → read (map decimal ns ++ words) ≡ (ns ++ (read words).0, (read words).1)
unfolding read put
read_numbers [] words all = refl
read_numbers (n ∷ ns) words all = λ i. put (number_spelled n (All-head IsWord n ns all) i) (decimal n) (read_numbers ns words (All-tail IsWord n ns all) i)

read_words : (cs : List Said) → All IsSaid cs → read (words_of cs) ≡ ([], cs)
unfolding read put
read_words [] all = refl
read_words (c ∷ cs) all =
    let is = All-head IsSaid c cs all in
    let behind : read (map decimal c.1 ++ words_of cs) ≡ (c.1 ++ [], cs) = read_numbers c.1 (words_of cs) is.1 ∙ ap (λ (r : Read). (c.1 ++ r.0, r.1)) (read_words cs (All-tail IsSaid c cs all)) in
    (λ i. put (is.0 i) c.0 (behind i)) ∙ ap (λ ns. ([], (c.0, ns) ∷ cs)) (append-nil c.1)

-- clauses with the same words are the same
pub one_saying : (cs ds : List Said) → All IsSaid cs → All IsSaid ds → words_of cs ≡ words_of ds → cs ≡ ds
one_saying cs ds all all' e = ap (λ (r : Read). r.1) (sym (read_words cs all) ∙ (ap read e ∙ read_words ds all'))

-- the bytes of words
abbrev pub tails : List (List ℕ) → List ℕ
tails = flat_map (λ word. 32 ∷ word)

abbrev pub bytes_of : List (List ℕ) → List ℕ
bytes_of [] = []
bytes_of (word ∷ words) = word ++ tails words

-- words without spaces are the parts of their bytes
pub parts_of_bytes : (word : List ℕ) (words : List (List ℕ)) → HasNoSpace word → All HasNoSpace words → slice_split (λ byte. nat_eq byte 32) (word ++ tails words) ≡ word ∷ words
parts_of_bytes word [] none all = ap (slice_split (λ byte. nat_eq byte 32)) (append-nil word) ∙ slice_split_none (λ byte. nat_eq byte 32) word none
parts_of_bytes word (next ∷ words) none all =
    slice_split_at (λ byte. nat_eq byte 32) word 32 (next ++ tails words) none refl
    ∙ ap (λ ws. word ∷ ws) (parts_of_bytes next words (All-head HasNoSpace next words all) (All-tail HasNoSpace next words all))
