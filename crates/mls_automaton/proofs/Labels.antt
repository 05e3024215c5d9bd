-- The field at a label by a search among labels that rise.
--     labels-rise          the answers of the search rise
--     label-found          a field that was found is the one at the label
--     label-lacking        where none was found, there is none
use Rattle.std.proofs.Common.{◌≡◌, ◌⊎◌, inl, inr, ℕ, ◌<◌, ◌≤◌, Bool, true, false, List, [], ◌∷◌, refl, sym, ap, subst, arith, length, get_or, Contains, Some, None}
use Rattle.std.specs.Prelude.{bytes_eq, cond, find, option_map, Option}
use Rattle.std.specs.Ordering.{nat_cmp, ordering_index, ordering_reverse}
use Rattle.std.specs.declared.cmp.Ordering.{Ordering}
use Rattle.std.specs.declared.cmp.Ordering.TheVariants.{Less, Equal, Greater}
use Rattle.std.specs.Cmp.Lexicographic.{slice_cmp}
use Rattle.std.specs.List.Sorted.{IsNonDecreasingBy, IsPartitionPoint}
use Rattle.std.proofs.lemmas.Bool.{cases_eq, cases_lt}
use Rattle.std.proofs.lemmas.Cmp.{nat_list_cmp_total}
use Rattle.std.proofs.lemmas.Slice.Eq.{bytes_eq-Decides}
use Rattle.mls_automaton.specs.declared.automaton.FieldSet.{FieldSet}
use Rattle.mls_automaton.specs.Heads.{AreRising, set_at}
use Rattle.mls_automaton.proofs.CombinedStates.{found_at}
use Rattle.mls_automaton.proofs.JoinedFields.{equal-labels, rising-less}
use Rattle.mls_automaton.proofs.Lists.{Contains-here, Contains-later}

abbrev compare : List ℕ → List ℕ → Ordering
compare = slice_cmp nat_cmp

abbrev pub place_of : List ℕ → FieldSet → Ordering
place_of label field = slice_cmp nat_cmp field.label label

answers-rise : (x y label : List ℕ) → compare x y ≡ Less → (o : Ordering) → compare x label ≡ o → (o' : Ordering) → compare y label ≡ o' → ordering_index o ≤ ordering_index o'
answers-rise x y label less Less e o' e' = omega arith
answers-rise x y label less Equal e Less e' = let below : compare x label ≡ Less = nat_list_cmp_total.trans x y label less e' in absurd (cc)
answers-rise x y label less Equal e Equal e' = omega arith
answers-rise x y label less Equal e Greater e' = omega arith
answers-rise x y label less Greater e Less e' = let below : compare x label ≡ Less = nat_list_cmp_total.trans x y label less e' in absurd (cc)
answers-rise x y label less Greater e Equal e' = let below : compare x label ≡ Less = subst (λ l. compare x l ≡ Less) (sym (equal-labels y label e')) less in absurd (cc)
answers-rise x y label less Greater e Greater e' = omega arith

self-place : (o : Ordering) → o ≡ ordering_reverse o → o ≡ Equal
self-place Less e = absurd (cc)
self-place Equal e = refl
self-place Greater e = absurd (cc)

at-itself : (field : FieldSet) (label : List ℕ) → field.label ≡ label → place_of label field ≡ Equal
at-itself field label is = subst (λ l. compare field.label l ≡ Equal) is (self-place (compare field.label field.label) (nat_list_cmp_total.antisymm field.label field.label))

-- where there is a set at the label, there is a field
set_at-field : (fields : List FieldSet) (label set : List ℕ) → set_at fields label ≡ Some set → (field : FieldSet) × Contains fields field × (field.label ≡ label)
set_at-field [] label set e = absurd (cc)
set_at-field (first ∷ rest) label set e = go (bytes_eq first.label label) refl e (set_at-field rest label set)
  where
    go : (b : Bool) → bytes_eq first.label label ≡ b → option_map (λ (f : FieldSet). f.set) (cond b (Some first) (find (λ (f : FieldSet). bytes_eq f.label label) rest)) ≡ Some set → (set_at rest label ≡ Some set → (field : FieldSet) × Contains rest field × (field.label ≡ label)) → (field : FieldSet) × Contains (first ∷ rest) field × (field.label ≡ label)
    go true is e later = (first, Contains-here first rest, (bytes_eq-Decides first.label label).0 is)
    go false is e later = let it = later e in (it.0, Contains-later first rest it.0 it.1, it.2)

module _ (fields : List FieldSet) (rising : AreRising fields) (label : List ℕ) where
  pub labels-rise : IsNonDecreasingBy (λ field. ordering_index (place_of label field)) fields
  labels-rise i j d le low = go (cases_eq i j)
    where
      strict : (i ≡ j → ⊥) → i < j
      strict other = elim (cases_lt i j) [ inl low' ↦ low' | inr high ↦ absurd (other (omega arith)) ]

      go : (i ≡ j) ⊎ (i ≡ j → ⊥) → ordering_index (place_of label (get_or fields i d)) ≤ ordering_index (place_of label (get_or fields j d))
      go (inl same) = let e : ordering_index (place_of label (get_or fields i d)) ≡ ordering_index (place_of label (get_or fields j d)) = ap (λ k. ordering_index (place_of label (get_or fields k d))) same in omega arith
      go (inr other) =
          let less : i < j = strict other in
          answers-rise (get_or fields i d).label (get_or fields j d).label label (rising-less fields rising i j d less low) _ refl _ refl

  pub label-found : (k : ℕ) (field : FieldSet) → k < length fields → field ≡ get_or fields k field → place_of label field ≡ Equal → set_at fields label ≡ Some field.set
  label-found k field low is e =
      subst (λ l. set_at fields l ≡ Some field.set) (sym (equal-labels field.label label e))
      (subst (λ (f : FieldSet). set_at fields f.label ≡ Some f.set) (sym is) (found_at fields rising k field low))

  pub label-lacking : (i : ℕ) → IsPartitionPoint (λ y. place_of label y ≡ Less) (λ y. place_of label y ≡ Greater) fields i → set_at fields label ≡ None
  label-lacking i split = go (set_at fields label) refl
    where
      elsewhere : (field : FieldSet) → field.label ≡ label → (place_of label field ≡ Less) ⊎ (place_of label field ≡ Greater) → ⊥
      elsewhere field is (inl less) = let e : place_of label field ≡ Equal = at-itself field label is in absurd (cc)
      elsewhere field is (inr greater) = let e : place_of label field ≡ Equal = at-itself field label is in absurd (cc)

      side : (k : ℕ) (field : FieldSet) → k < length fields → (place_of label (get_or fields k field) ≡ Less) ⊎ (place_of label (get_or fields k field) ≡ Greater)
      side k field low = elim (cases_lt k i) [
        | inl before ↦ inl (split.0 k field (omega arith) before)
        | inr behind ↦ inr (split.1 k field (omega arith) low)
      ]

      go : (o : Option (List ℕ)) → set_at fields label ≡ o → o ≡ None
      go None e = refl
      go (Some set) e =
          let it = set_at-field fields label set e in
          let there = it.1 in
          absurd (elsewhere it.0 it.2 (subst (λ (f : FieldSet). (place_of label f ≡ Less) ⊎ (place_of label f ≡ Greater)) there.2 (side there.0 it.0 there.1)))
