-- How sets of states of one polarity get their numbers.
--     grows_none, grows_then, grows_wider   more sets, one after the other
--     at_kept                               a set that is there keeps its number
--     found_number, new_number, registered  a set that has a number, and one that gets the next
--     same_register                         the same sets and numbers
--     is_next, is_given                     whether a key has the next number
use Rattle.std.proofs.Common.{◌≡◌, ◌≢◌, ◌⊎◌, inl, inr, ℕ, ◌+◌, ◌<◌, ◌≤◌, Bool, true, false, List, [], ◌∷◌, ◌++◌, map, refl, sym, ap, ◌∙◌, subst, arith, length, get_or, All, Some, None, append-nil, append_assoc}
use Rattle.std.specs.Prelude.{Option, cond, bytes_eq, unwrap_or}
use Rattle.std.proofs.lemmas.Slice.Eq.{bytes_eq-Decides}
use Rattle.std.proofs.lemmas.List.{get_or_append_left, get_or-map, length-append, length-map, map-append}
use Rattle.std.proofs.Math.Nat.{eq-or-lt_of_le}
use Rattle.std.proofs.Math.Seq.{get_or-append_seam}
use Rattle.std.proofs.lemmas.Bool.{cases_lt}
use Rattle.std.proofs.lemmas.List.Elements.{All-push}
use Rattle.mls_automaton.specs.declared.automaton.Polarity.{Polarity}
use Rattle.mls_automaton.specs.declared.automaton.Polarity.TheVariants.{Positive, Negative}
use Rattle.mls_automaton.specs.Sets.{Rises}
use Rattle.mls_shape.specs.declared.register.Register.{Register}
use Rattle.mls_shape.specs.declared.register.SetState.{SetState}
use Rattle.mls_shape.specs.steps.Registers.{key_of, key_in, sets_in, keys_in, key_at, number_in, IsRegister, IsAt, Grows, Numbers}

-- more sets
pub grows_none : (P : ℕ → Type 0) (sets : List SetState) → Grows P sets sets
grows_none P sets = record { more = []; grown = sym (append-nil sets); such = λ k low high. absurd (omega arith) }

pub not_fewer : (P : ℕ → Type 0) (old new : List SetState) → Grows P old new → length old ≤ length new
not_fewer P old new it = let e : length new ≡ length old + length it.more = ap length it.grown ∙ length-append old it.more in omega arith

pub grows_wider : (P Q : ℕ → Type 0) → ((k : ℕ) → P k → Q k) → (old new : List SetState) → Grows P old new → Grows Q old new
grows_wider P Q wider old new it = record { more = it.more; grown = it.grown; such = λ k low high. wider k (it.such k low high) }

pub grows_then : (P : ℕ → Type 0) (first second third : List SetState) → Grows P first second → Grows P second third → Grows P first third
grows_then P first second third one two = record {
  more = one.more ++ two.more;
  grown = two.grown ∙ (ap (λ sets. sets ++ two.more) one.grown ∙ append_assoc first one.more two.more);
  such = λ k low high.
      elim (cases_lt k (length second)) [
        | inl less ↦ one.such k low less
        | inr more ↦ two.such k (omega arith) high
      ];
}

pub set_kept : (P : ℕ → Type 0) (old new : List SetState) → Grows P old new → (n : ℕ) (d : SetState) → n < length old → get_or new n d ≡ get_or old n d
set_kept P old new it n d low = ap (λ sets. get_or sets n d) it.grown ∙ get_or_append_left old it.more d n low

pub at_kept : (P : ℕ → Type 0) (old new : List SetState) → Grows P old new → (n : ℕ) (p : Polarity) (members : List ℕ) → IsAt old n p members → IsAt new n p members
at_kept P old new it n p members at =
    let fewer = not_fewer P old new it in
    let low : n < length old = at.0 in
    (omega arith, λ d. set_kept P old new it n d low ∙ at.1 d)

-- keys of one set each
abbrev first_of : List ℕ → ℕ
first_of [] = 0
first_of (x ∷ xs) = x

apart : {X : Type 0} (x y : ℕ) → x ≡ y → (x < y) ⊎ (y < x) → X
apart x y same (inl less) = absurd (omega arith)
apart x y same (inr more) = absurd (omega arith)

pub same_polarity : (p q : Polarity) (xs ys : List ℕ) → key_of p xs ≡ key_of q ys → p ≡ q
same_polarity Positive Positive xs ys e = refl
same_polarity Negative Negative xs ys e = refl
same_polarity Positive Negative xs ys e = apart 0 1 (ap first_of e) (inl (omega arith))
same_polarity Negative Positive xs ys e = apart 1 0 (ap first_of e) (inr (omega arith))

abbrev rest_of : List ℕ → List ℕ
rest_of [] = []
rest_of (x ∷ xs) = xs

pub same_members : (p q : Polarity) (xs ys : List ℕ) → key_of p xs ≡ key_of q ys → xs ≡ ys
same_members p q xs ys e = ap rest_of e

pub same_set : (e : SetState) (p : Polarity) (members : List ℕ) → key_in e ≡ key_of p members → e ≡ record { polarity = p; members = members }
same_set e p members same = λ i. record { polarity = same_polarity e.polarity p e.members members same i; members = same_members e.polarity p e.members members same i }

module _ (sets : List SetState) where
  pub key_size : length (map key_in sets) ≡ length sets
  key_size = length-map sets key_in

  pub key_at-set : (n : ℕ) (d : SetState) → n < length sets → key_at (map key_in sets) n ≡ key_in (get_or sets n d)
  key_at-set n d low = get_or-map key_in sets n d [] low

  pub at_key : (n : ℕ) (p : Polarity) (members : List ℕ) → n < length sets → key_at (map key_in sets) n ≡ key_of p members → IsAt sets n p members
  at_key n p members low same = (low, λ d. same_set (get_or sets n d) p members (sym (key_at-set n d low) ∙ same))

-- the key has this number, and other keys have those that they had
pub record GetsNumber (old new : Register) (key : List ℕ) (number : ℕ) : Type 0 where
  pub here : number_in new key ≡ Some number
  pub others : (other : List ℕ) → other ≢ key → number_in new other ≡ number_in old other

-- a register that has a set, and one to which it is added
pub found_number : (register : Register) → IsRegister register → (p : Polarity) (members : List ℕ) (n : ℕ) → number_in register (key_of p members) ≡ Some n → Numbers p members (sets_in register) (sets_in register) n
found_number register is p members n e =
    let found = is.found (key_of p members) n e in
    let low : n < length (keys_in register) = found.0 in
    let size : length (keys_in register) ≡ length (sets_in register) = key_size (sets_in register) in
    record { grows = grows_none (λ k. k ≡ n) (sets_in register); at = at_key (sets_in register) n p members (omega arith) found.1 }

-- a register with the same sets and numbers
pub same_register : (old new : Register) → IsRegister old → sets_in new ≡ sets_in old → ((key : List ℕ) → number_in new key ≡ number_in old key) → IsRegister new
same_register old new is sets numbers = record {
  rising = subst (All (λ set. Rises set.members)) (sym sets) is.rising;
  numbered = λ n low. numbers (key_at (keys_in new) n) ∙ (ap (number_in old) (at n) ∙ is.numbered n (subst (λ count. n < count) count low));
  found = λ key n e. let found = is.found key n (sym (numbers key) ∙ e) in (subst (λ count. n < count) (sym count) found.0, at n ∙ found.1);
}
  where
    at : (n : ℕ) → key_at (keys_in new) n ≡ key_at (keys_in old) n
    at n = ap (λ sets. key_at (map key_in sets) n) sets

    count : length (keys_in new) ≡ length (keys_in old)
    count = ap (λ sets. length (map key_in sets)) sets

-- where the next number is above those that are given, a key has it if it has no other
pub is_next : (found : Option ℕ) (next : ℕ) → ((k : ℕ) → found ≡ Some k → k < next) → unwrap_or found next ≡ next → found ≡ None
is_next None next low is = refl
is_next (Some k) next low is = let less : k < next = low k refl in absurd (omega (arith, less, is))

pub is_given : (found : Option ℕ) (number next : ℕ) → number ≡ unwrap_or found next → number ≢ next → found ≡ Some number
is_given None number next is apart = absurd (apart is)
is_given (Some k) number next is apart = ap Some (sym is)

module _ (old new : Register) (is : IsRegister old) (p : Polarity) (members : List ℕ) (more : sets_in new ≡ sets_in old ++ record { polarity = p; members = members } ∷ []) where
  abbrev last : SetState
  last = record { polarity = p; members = members }

  abbrev key : List ℕ
  key = key_of p members

  abbrev size : ℕ
  size = length (keys_in old)

  one_more_set : length (sets_in new) ≡ length (sets_in old) + 1
  one_more_set = ap length more ∙ length-append (sets_in old) (last ∷ [])

  grown : keys_in new ≡ keys_in old ++ key ∷ []
  grown = ap (map key_in) more ∙ map-append key_in (sets_in old) (last ∷ [])

  last_key : key_at (keys_in new) size ≡ key
  last_key = ap (λ keys. key_at keys size) grown ∙ get_or-append_seam (keys_in old) key [] []

  one_more : length (keys_in new) ≡ size + 1
  one_more = ap length grown ∙ length-append (keys_in old) (key ∷ [])

  pub new_number : Numbers p members (sets_in old) (sets_in new) (length (sets_in old))
  new_number =
      let e = one_more_set in
      record {
        grows = record { more = last ∷ []; grown = more; such = λ k low high. omega arith };
        at = (omega arith, λ d. ap (λ sets. get_or sets (length (sets_in old)) d) more ∙ get_or-append_seam (sets_in old) last [] d);
      }

  module _ (rises : Rises members) (unknown : number_in old key ≡ None) (gets : GetsNumber old new key size) where
    read : (other : List ℕ) → number_in new other ≡ cond (bytes_eq key other) (Some size) (number_in old other)
    read other = by_test (bytes_eq key other) refl
      where
        by_test : (b : Bool) → bytes_eq key other ≡ b → number_in new other ≡ cond b (Some size) (number_in old other)
        by_test true e = ap (number_in new) (sym ((bytes_eq-Decides key other).0 e)) ∙ gets.here
        by_test false e = gets.others other (λ same. let wrong : true ≡ false = sym ((bytes_eq-Decides key other).1 (sym same)) ∙ e in cc)

    numbered : (n : ℕ) → n < length (keys_in new) → number_in new (key_at (keys_in new) n) ≡ Some n
    numbered n low = let e = one_more in go (eq-or-lt_of_le (omega arith))
      where
        top : Option ℕ
        top = Some size

        here : number_in new (key_at (keys_in new) size) ≡ top
        here = ap (number_in new) last_key ∙ (read key ∙ ap (λ b. cond b top (number_in old key)) ((bytes_eq-Decides key key).1 refl))

        early : (n : ℕ) → n < size → number_in new (key_at (keys_in old) n) ≡ Some n
        early n low = read (key_at (keys_in old) n) ∙ by (bytes_eq key (key_at (keys_in old) n)) refl
          where
            by : (b : Bool) → bytes_eq key (key_at (keys_in old) n) ≡ b → cond b top (number_in old (key_at (keys_in old) n)) ≡ Some n
            by false e = is.numbered n low
            by true e =
                let equal : key ≡ key_at (keys_in old) n = (bytes_eq-Decides key (key_at (keys_in old) n)).0 e in
                let known : number_in old key ≡ Some n = ap (number_in old) equal ∙ is.numbered n low in
                absurd (cc)

        go : (n ≡ size) ⊎ (n < size) → number_in new (key_at (keys_in new) n) ≡ Some n
        go (inl e) = subst (λ n. number_in new (key_at (keys_in new) n) ≡ Some n) (sym e) here
        go (inr less) = ap (number_in new) (ap (λ keys. key_at keys n) grown ∙ get_or_append_left (keys_in old) (key ∷ []) [] n less) ∙ early n less

    found_in : (other : List ℕ) (n : ℕ) → number_in new other ≡ Some n → (n < length (keys_in new)) × (key_at (keys_in new) n ≡ other)
    found_in other n e = go (bytes_eq key other) refl (sym (read other) ∙ e)
      where
        go : (b : Bool) → bytes_eq key other ≡ b → cond b (Some size) (number_in old other) ≡ Some n → (n < length (keys_in new)) × (key_at (keys_in new) n ≡ other)
        go true e is =
            let equal : key ≡ other = (bytes_eq-Decides key other).0 e in
            let top : size ≡ n = cc in
            let more = one_more in
            (omega arith, ap (key_at (keys_in new)) (sym top) ∙ (last_key ∙ equal))
        go false e is' =
            let found = is.found other n is' in
            let more = one_more in
            let low : n < size = found.0 in
            (omega arith, ap (λ keys. key_at keys n) grown ∙ (get_or_append_left (keys_in old) (key ∷ []) [] n low ∙ found.1))

    pub registered : IsRegister new
    registered = record {
      rising = subst (All (λ set. Rises set.members)) (sym more) (All-push (λ set. Rises set.members) (sets_in old) last is.rising rises);
      numbered = numbered;
      found = found_in;
    }
