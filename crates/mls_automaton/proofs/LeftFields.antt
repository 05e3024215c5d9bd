-- Two records that are put together as their fields are taken out in order.
--     front-of            the next field of what is left
--     left-first          a field of the first record alone
--     left-second         of the second alone
--     left-both           one of each
--     left-all            all of both
use Rattle.std.proofs.Common.{◌≡◌, ℕ, suc, ◌<◌, ◌+◌, ◌-◌, List, [], ◌∷◌, ◌++◌, reverse, drop, sym, ap, ◌∙◌, subst, arith, length, get_or}
use Rattle.std.specs.Ordering.{nat_cmp}
use Rattle.std.specs.Prelude.{Result, Ok, Err, OnOk}
use Rattle.std.specs.declared.cmp.Ordering.{Ordering}
use Rattle.std.specs.declared.cmp.Ordering.TheVariants.{Less, Equal, Greater}
use Rattle.std.specs.Cmp.Lexicographic.{slice_cmp}
use Rattle.std.proofs.lemmas.List.{drop_more, get_or-drop, get_or-reverse, length-drop, reverse-append, reverse-reverse}
use Rattle.std.proofs.Math.Nat.{add-zero}
use Rattle.mls_automaton.specs.declared.automaton.Polarity.{Polarity}
use Rattle.mls_automaton.specs.declared.automaton.FieldSet.{FieldSet}
use Rattle.mls_automaton.specs.Heads.{AreRising}
use Rattle.mls_automaton.specs.steps.Combining.{IsLeft, IsNext, IsUnited, last_label, with_one}
use Rattle.mls_automaton.proofs.JoinedFields.{equal-labels, greater-less, merge-both, merge-first, merge-second, merging-begun}

-- what is left is the next field, and then the rest
pub record IsFront (xs : List FieldSet) (i : ℕ) (x : FieldSet) (rest : List FieldSet) : Type 0 where
  pub low : i < length xs
  pub next : (d : FieldSet) → get_or xs i d ≡ x
  pub later : drop (i + 1) xs ≡ reverse rest

pub front-of : (xs left : List FieldSet) (i : ℕ) (x : FieldSet) (rest : List FieldSet) → drop i xs ≡ reverse left → left ≡ rest ++ x ∷ [] → IsFront xs i x rest
front-of xs left i x rest e is = record { low = low; next = next; later = ap (drop 1) (both x) }
  where
    here : drop i xs ≡ x ∷ reverse rest
    here = e ∙ (ap reverse is ∙ reverse-append rest (x ∷ []))

    low : i < length xs
    low = let size : length xs - i ≡ suc (length (reverse rest)) = sym (length-drop i xs) ∙ ap length here in omega arith

    both : (d : FieldSet) → get_or xs i d ∷ drop (i + 1) xs ≡ x ∷ reverse rest
    both d = sym (drop_more xs i d low) ∙ here

    next : (d : FieldSet) → get_or xs i d ≡ x
    next d = ap (λ (l : List FieldSet). get_or l 0 d) (both d)

-- what has nothing left has nothing in front either
pub low-left : (xs left : List FieldSet) (i : ℕ) → drop i xs ≡ reverse left → i < length xs → 0 < length left
low-left xs [] i e low = let size : length xs - i ≡ 0 = sym (length-drop i xs) ∙ ap length e in absurd (omega arith)
low-left xs (y ∷ left) i e low = omega arith

-- its next field is the one at the end
pub at-end : (xs left : List FieldSet) (i : ℕ) (d : FieldSet) → drop i xs ≡ reverse left → i < length xs → get_or xs i d ≡ get_or left (length left - 1) d
at-end xs left i d e low =
    let some : 0 < length left = low-left xs left i e low in
    ap (λ k. get_or xs k d) (sym (add-zero i)) ∙ (sym (get_or-drop i xs 0 d) ∙ (ap (λ (l : List FieldSet). get_or l 0 d) e ∙ (get_or-reverse left 0 d some ∙ ap (λ k. get_or left k d) (omega arith))))

module _ (p : Polarity) (first second : List FieldSet) (rising : AreRising first) (rising' : AreRising second) (left others both : List FieldSet) (is : IsLeft p first second left others both) where
  pub left-first : (x : FieldSet) (rest more : List FieldSet) → left ≡ rest ++ x ∷ [] → more ≡ with_one p both x
      → ((d e : FieldSet) → 0 < length others → slice_cmp nat_cmp (last_label left d) (last_label others e) ≡ Less)
      → IsLeft p first second rest others more
  left-first x rest more taken added less =
      let front = front-of first left is.i x rest is.first_left taken in
      record {
        i = is.i + 1;
        j = is.j;
        first_left = front.later;
        second_left = is.second_left;
        merging = merge-first p first second rising rising' is.i is.j both is.merging x more front.low (added ∙ ap (with_one p both) (sym (front.next x))) (λ e there.
            ap (λ (f : FieldSet). slice_cmp nat_cmp f.label (get_or second is.j e).label) (at-end first left is.i x is.first_left front.low)
            ∙ (ap (λ (f : FieldSet). slice_cmp nat_cmp (last_label left x) f.label) (at-end second others is.j e is.second_left there)
            ∙ less x e (low-left second others is.j is.second_left there)));
      }

  pub left-second : (y : FieldSet) (rest more : List FieldSet) → others ≡ rest ++ y ∷ [] → more ≡ with_one p both y
      → ((d e : FieldSet) → 0 < length left → slice_cmp nat_cmp (last_label left d) (last_label others e) ≡ Greater)
      → IsLeft p first second left rest more
  left-second y rest more taken added greater =
      let front = front-of second others is.j y rest is.second_left taken in
      record {
        i = is.i;
        j = is.j + 1;
        first_left = is.first_left;
        second_left = front.later;
        merging = merge-second p first second rising rising' is.i is.j both is.merging y more front.low (added ∙ ap (with_one p both) (sym (front.next y))) (λ e there.
            ap (λ (f : FieldSet). slice_cmp nat_cmp f.label (get_or first is.i e).label) (at-end second others is.j y is.second_left front.low)
            ∙ (ap (λ (f : FieldSet). slice_cmp nat_cmp (last_label others y) f.label) (at-end first left is.i e is.first_left there)
            ∙ greater-less (last_label left e) (last_label others y) (greater e y (low-left first left is.i is.first_left there))));
      }

  pub left-both : (x y z : FieldSet) (rest rest' more : List FieldSet) → left ≡ rest ++ x ∷ [] → others ≡ rest' ++ y ∷ [] → more ≡ both ++ z ∷ [] → IsUnited x y z
      → ((d e : FieldSet) → slice_cmp nat_cmp (last_label left d) (last_label others e) ≡ Equal)
      → IsLeft p first second rest rest' more
  left-both x y z rest rest' more taken taken' added united equal =
      let front = front-of first left is.i x rest is.first_left taken in
      let front' = front-of second others is.j y rest' is.second_left taken' in
      let same : (get_or second is.j x).label ≡ (get_or first is.i x).label =
      ap (λ (f : FieldSet). f.label) (at-end second others is.j x is.second_left front'.low)
      ∙ (equal-labels (last_label left x) (last_label others x) (equal x x)
      ∙ ap (λ (f : FieldSet). f.label) (sym (at-end first left is.i x is.first_left front.low))) in
      record {
        i = is.i + 1;
        j = is.j + 1;
        first_left = front.later;
        second_left = front'.later;
        merging = merge-both p first second rising rising' is.i is.j both is.merging x more z front.low front'.low same added
            (subst (λ (f : FieldSet). IsUnited f (get_or second is.j x) z) (sym (front.next x)) (subst (λ (f : FieldSet). IsUnited x f z) (sym (front'.next x)) united));
      }

-- before the first field
pub left-all : (p : Polarity) (first second left others both : List FieldSet) → left ≡ reverse first → others ≡ reverse second → both ≡ [] → IsLeft p first second left others both
left-all p first second left others both e e' empty = subst (IsLeft p first second left others) (sym empty) (record {
  i = 0;
  j = 0;
  first_left = sym (reverse-reverse first) ∙ ap reverse (sym e);
  second_left = sym (reverse-reverse second) ∙ ap reverse (sym e');
  merging = merging-begun p first second;
})

-- the same of what slices show
pub next-at : (left others left' others' : List FieldSet) (o : Ordering) → left ≡ left' → others ≡ others' → IsNext left others o → IsNext left' others' o
next-at left others left' others' o e e' next = subst (λ (xs : List FieldSet). IsNext xs others' o) e (subst (λ (ys : List FieldSet). IsNext left ys o) e' next)

pub on_ok : {T E P Q : Type 0} (r : Result T E) → (P → Q) → OnOk r P → OnOk r Q
on_ok (Ok x) f it = f it
on_ok (Err e) f it = it
