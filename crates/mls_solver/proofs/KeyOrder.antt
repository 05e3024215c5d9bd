-- The order of the keys of clashes.
use Rattle.std.proofs.Common.{◌≡◌, ℕ, zero, suc, ◌<◌, ◌≤◌, ◌==◌, Bool, true, false, List, [], ◌∷◌, refl, sym, ap, ◌∙◌, subst, arith, length, get_or, Some}
use Rattle.std.specs.Prelude.{IsTrue, slice_get, cond, nat_lt}
use Rattle.std.specs.Ordering.{nat_cmp, is_le, ordering_then, ordering_reverse}
use Rattle.std.specs.declared.cmp.Ordering.{Ordering}
use Rattle.std.specs.declared.cmp.Ordering.TheVariants.{Less, Equal, Greater}
use Rattle.std.specs.Cmp.{IsTotalOrder}
use Rattle.std.specs.Cmp.Lexicographic.{slice_cmp}
use Rattle.std.specs.BTreeMap.Comparable.{le_lt_trans}
use Rattle.std.proofs.lemmas.Option.{get_or_from_slice_get}
use Rattle.std.proofs.lemmas.Bool.{ltb-true, ltb-false, eq-eqb}
use Rattle.std.proofs.lemmas.Cmp.{nat_list_cmp_total, lists_total}
use Rattle.mls_automaton.specs.declared.automaton.FieldSet.{FieldSet}
use Rattle.mls_automaton.specs.Heads.{AreRising}
use Rattle.mls_solver.specs.declared.goal.Clash.{Clash}
use Rattle.mls_solver.specs.Clashes.{clash_key, key_cmp, IsAtMost}
use Rattle.mls_automaton.specs.Automata.{Automaton}

-- a total order that is at most, by its answers
module _ {K : Type 0} {R : K → K → Ordering} (o : IsTotalOrder R) where
  pub order-self : (x : K) → R x x ≡ Equal
  order-self x = go (R x x) refl
    where
      go : (r : Ordering) → R x x ≡ r → R x x ≡ Equal
      go Less e = let flip : R x x ≡ Greater = o.antisymm x x ∙ ap ordering_reverse e in absurd (cc)
      go Equal e = e
      go Greater e = let flip : R x x ≡ Less = o.antisymm x x ∙ ap ordering_reverse e in absurd (cc)

  pub at_most-self : (x : K) → IsTrue (is_le (R x x))
  at_most-self x = ap is_le (order-self x)

  pub at_most-trans : (x y z : K) → IsTrue (is_le (R x y)) → IsTrue (is_le (R y z)) → IsTrue (is_le (R x z))
  at_most-trans x y z first second = go (R y z) refl
    where
      go : (r : Ordering) → R y z ≡ r → IsTrue (is_le (R x z))
      go Less e = ap is_le (le_lt_trans o x y z first e)
      go Equal e =
          let back : R z y ≡ Equal = o.antisymm z y ∙ ap ordering_reverse e in
          let same : R z x ≡ R y x = o.congr z y x back in
          let flip : R x z ≡ R x y = o.antisymm x z ∙ (ap ordering_reverse same ∙ sym (o.antisymm x y)) in
          ap is_le flip ∙ first
      go Greater e = let not_le : is_le (R y z) ≡ false = ap is_le e in absurd (cc)

  pub at_most-flip : (x y : K) → is_le (R x y) ≡ false → IsTrue (is_le (R y x))
  at_most-flip x y e = go (R x y) refl
    where
      go : (r : Ordering) → R x y ≡ r → IsTrue (is_le (R y x))
      go Less is = let le : is_le (R x y) ≡ true = ap is_le is in absurd (cc)
      go Equal is = let le : is_le (R x y) ≡ true = ap is_le is in absurd (cc)
      go Greater is = ap is_le (o.antisymm y x ∙ ap ordering_reverse is)

-- keys of clashes
pub key_total : IsTotalOrder key_cmp
key_total = lists_total nat_list_cmp_total

pub IsAtMost-trans : (a : Automaton) (c d e : Clash) → IsAtMost a c d → IsAtMost a d e → IsAtMost a c e
IsAtMost-trans a c d e = at_most-trans key_total (clash_key a c) (clash_key a d) (clash_key a e)

pub IsAtMost-flip : (a : Automaton) (c d : Clash) → is_le (key_cmp (clash_key a c) (clash_key a d)) ≡ false → IsAtMost a d c
IsAtMost-flip a c d = at_most-flip key_total (clash_key a c) (clash_key a d)

-- first one number, then the rest
pub at_most-then : (x y : ℕ) (o : Ordering) → x ≤ y → (x ≡ y → IsTrue (is_le o)) → IsTrue (is_le (ordering_then (nat_cmp x y) o))
at_most-then x y o low rest = go (nat_lt x y) refl
  where
    go : (b : Bool) → nat_lt x y ≡ b → IsTrue (is_le (ordering_then (cond b Less (cond (x == y) Equal Greater)) o))
    go true e = refl
    go false e =
        let back : y ≤ x = ltb-false x y e in
        let same : x ≡ y = omega arith in
        let yes : (x == y) ≡ true = eq-eqb x y same in
        (λ i. is_le (ordering_then (cond false Less (cond (yes i) Equal Greater)) o)) ∙ rest same

-- the same pair of states: the kinds decide
pub at_most-pair : (key other pair : List ℕ) → IsTrue (is_le (slice_cmp nat_cmp key other)) → IsTrue (is_le (key_cmp (key ∷ pair ∷ []) (other ∷ pair ∷ [])))
at_most-pair key other pair it = go (slice_cmp nat_cmp key other) it
  where
    go : (r : Ordering) → IsTrue (is_le r) → IsTrue (is_le (ordering_then r (ordering_then (slice_cmp nat_cmp pair pair) Equal)))
    go Less e = refl
    go Equal e = λ i. is_le (ordering_then (order-self nat_list_cmp_total pair i) Equal)
    go Greater e = absurd (cc)

pub slice_get-below : {X : Type 0} (xs : List X) (i : ℕ) (x : X) → slice_get xs i ≡ Some x → i < length xs
slice_get-below [] i x e = absurd (cc)
slice_get-below (y ∷ ys) zero x e = omega arith
slice_get-below (y ∷ ys) (suc i) x e = let low : i < length ys = slice_get-below ys i x e in omega arith

-- labels rise with the numbers of their fields
pub labels-rise : (fields : List FieldSet) → AreRising fields → (i j : ℕ) (field other : FieldSet) → i < j → slice_get fields i ≡ Some field → slice_get fields j ≡ Some other → slice_cmp nat_cmp field.label other.label ≡ Less
labels-rise [] rising i j field other less e e' = absurd (cc)
labels-rise (first ∷ rest) rising i zero field other less e e' = absurd (omega arith)
labels-rise (first ∷ rest) rising zero (suc j) field other less e e' =
    let is : first ≡ field = cc in
    let low : j < length rest = slice_get-below rest j other e' in
    let at : get_or rest j other ≡ other = get_or_from_slice_get rest j other other e' in
    (λ k. slice_cmp nat_cmp (sym is k).label (sym at k).label) ∙ rising.0 j other low
labels-rise (first ∷ rest) rising (suc i) (suc j) field other less e e' = labels-rise rest rising.1 i j field other (omega arith) e e'

pub labels-at_most : (fields : List FieldSet) → AreRising fields → (i j : ℕ) (field other : FieldSet) → i ≤ j → slice_get fields i ≡ Some field → slice_get fields j ≡ Some other → IsTrue (is_le (slice_cmp nat_cmp field.label other.label))
labels-at_most fields rising i j field other low e e' = go (nat_lt i j) refl
  where
    go : (b : Bool) → nat_lt i j ≡ b → IsTrue (is_le (slice_cmp nat_cmp field.label other.label))
    go true is = ap is_le (labels-rise fields rising i j field other (ltb-true i j is) e e')
    go false is =
        let back : j ≤ i = ltb-false i j is in
        let same : i ≡ j = omega arith in
        let at : slice_get fields j ≡ Some field = subst (λ k. slice_get fields k ≡ Some field) same e in
        let one : field ≡ other = cc in
        subst (λ (f : FieldSet). IsTrue (is_le (slice_cmp nat_cmp field.label f.label))) one (at_most-self nat_list_cmp_total field.label)
