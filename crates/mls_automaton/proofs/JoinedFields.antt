-- Records that are put together, label by label.
use Rattle.std.proofs.Common.{◌≡◌, ◌↔◌, ◌⊎◌, inl, inr, ℕ, zero, suc, ◌<◌, ◌≤◌, ◌+◌, Bool, true, false, Option, Some, None, List, [], ◌∷◌, ◌++◌, refl, sym, ap, ◌∙◌, subst, arith, length, get_or, Contains, cond}
use Rattle.std.specs.Prelude.{find, option_map, bytes_eq}
use Rattle.std.specs.Ordering.{nat_cmp}
use Rattle.std.specs.declared.cmp.Ordering.TheVariants.{Less, Equal, Greater}
use Rattle.std.specs.Ordering.{is_eq, ordering_reverse}
use Rattle.std.proofs.lemmas.Map.Text.{is_eq-slice_cmp}
use Rattle.std.specs.Cmp.Lexicographic.{slice_cmp}
use Rattle.std.proofs.lemmas.Cmp.{nat_list_cmp_total}
use Rattle.std.proofs.lemmas.List.Elements.{All-head, All-tail, All-append, All-cons, Contains-append_cases, Contains-append_left, Contains-append_right}
use Rattle.mls_automaton.specs.declared.automaton.Polarity.{Polarity}
use Rattle.mls_automaton.specs.declared.automaton.Polarity.TheVariants.{Positive, Negative}
use Rattle.mls_automaton.specs.declared.automaton.Arms.{Arms}
use Rattle.mls_automaton.specs.declared.automaton.FieldSet.{FieldSet}
use Rattle.mls_automaton.specs.Heads.{AreRising, IsSameOption, IsSameSet, combined_sets, set_at}
use Rattle.std.proofs.lemmas.List.{get_or_default, get_or-take, length-take-le}
use Rattle.std.specs.Prelude.{take}
use Rattle.mls_automaton.proofs.Lists.{All-one}
use Rattle.mls_automaton.proofs.CombinedStates.{apart}
use Rattle.mls_automaton.specs.steps.Combining.{AreBelow, IsJoined, IsMerging, IsSameFunction, IsUnited, with_one}
use Rattle.std.proofs.lemmas.Slice.Eq.{bytes_eq-Decides}
use Rattle.mls_automaton.proofs.Searches.{next-is, take-all}

-- united sets
pub united-same : (both xs ys : List ℕ) → ((j : ℕ) → Contains both j ↔ (Contains xs j ⊎ Contains ys j)) → IsSameSet both (xs ++ ys)
united-same both xs ys members = (
  λ j it. elim ((members j).0 it) [ inl one ↦ Contains-append_left xs ys j one | inr other ↦ Contains-append_right xs ys j other ],
  λ j it. (members j).1 (Contains-append_cases xs ys j it),
)

pub same-set : (xs : List ℕ) → IsSameSet xs xs
same-set xs = (λ j it. it, λ j it. it)

pub same-function : (o : Option Arms) → IsSameFunction o o
same-function None = tt
same-function (Some arms) = (same-set arms.domain, same-set arms.codomain)

-- a field behind others
abbrev one_field : Bool → FieldSet → Option (List ℕ)
one_field b x = option_map (λ (f : FieldSet). f.set) (cond b (Some x) None)

pub set_at-push : (xs : List FieldSet) (x : FieldSet) (label : List ℕ) → bytes_eq x.label label ≡ false → set_at (xs ++ x ∷ []) label ≡ set_at xs label
set_at-push [] x label other = ap (λ b. one_field b x) other
set_at-push (y ∷ rest) x label other = go (bytes_eq y.label label) (set_at-push rest x label other)
  where
    go : (b : Bool) → set_at (rest ++ x ∷ []) label ≡ set_at rest label → option_map (λ (f : FieldSet). f.set) (cond b (Some y) (find (λ (f : FieldSet). bytes_eq f.label label) (rest ++ x ∷ []))) ≡ option_map (λ (f : FieldSet). f.set) (cond b (Some y) (find (λ (f : FieldSet). bytes_eq f.label label) rest))
    go true later = refl
    go false later = later

pub set_at-last : (xs : List FieldSet) (x : FieldSet) (label : List ℕ) → bytes_eq x.label label ≡ true → set_at xs label ≡ None → set_at (xs ++ x ∷ []) label ≡ Some x.set
set_at-last [] x label same none = ap (λ b. one_field b x) same
set_at-last (y ∷ rest) x label same none = go (bytes_eq y.label label) none (set_at-last rest x label same)
  where
    go : (b : Bool) → option_map (λ (f : FieldSet). f.set) (cond b (Some y) (find (λ (f : FieldSet). bytes_eq f.label label) rest)) ≡ None → (set_at rest label ≡ None → set_at (rest ++ x ∷ []) label ≡ Some x.set) → option_map (λ (f : FieldSet). f.set) (cond b (Some y) (find (λ (f : FieldSet). bytes_eq f.label label) (rest ++ x ∷ []))) ≡ Some x.set
    go true is later = absurd (cc)
    go false is later = later is

-- labels that are below another
pub below-none : (xs : List FieldSet) (label : List ℕ) → AreBelow xs label → set_at xs label ≡ None
below-none [] label below = refl
below-none (x ∷ rest) label below =
    ap (λ b. option_map (λ (f : FieldSet). f.set) (cond b (Some x) (find (λ (f : FieldSet). bytes_eq f.label label) rest))) (apart x.label label (All-head (λ (f : FieldSet). slice_cmp nat_cmp f.label label ≡ Less) x rest below))
    ∙ below-none rest label (All-tail (λ (f : FieldSet). slice_cmp nat_cmp f.label label ≡ Less) x rest below)

pub below-trans : (xs : List FieldSet) (label higher : List ℕ) → slice_cmp nat_cmp label higher ≡ Less → AreBelow xs label → AreBelow xs higher
below-trans xs label higher less below k d low = nat_list_cmp_total.trans (get_or xs k d).label label higher (below k d low) less

pub below-push : (xs : List FieldSet) (x : FieldSet) (label : List ℕ) → AreBelow xs label → slice_cmp nat_cmp x.label label ≡ Less → AreBelow (xs ++ x ∷ []) label
below-push xs x label below less = All-append (λ (f : FieldSet). slice_cmp nat_cmp f.label label ≡ Less) xs (x ∷ []) below (All-one (λ (f : FieldSet). slice_cmp nat_cmp f.label label ≡ Less) x less)

pub below-front : (xs : List FieldSet) (x : FieldSet) (label : List ℕ) → AreBelow (xs ++ x ∷ []) label → AreBelow xs label × (slice_cmp nat_cmp x.label label ≡ Less)
below-front [] x label below = (λ k d low. absurd (omega arith), below 0 x (omega arith))
below-front (y ∷ rest) x label below =
    let later = below-front rest x label (All-tail (λ (f : FieldSet). slice_cmp nat_cmp f.label label ≡ Less) y (rest ++ x ∷ []) below) in
    (All-cons (λ (f : FieldSet). slice_cmp nat_cmp f.label label ≡ Less) y rest (All-head (λ (f : FieldSet). slice_cmp nat_cmp f.label label ≡ Less) y (rest ++ x ∷ []) below) later.0, later.1)

pub rising-push : (xs : List FieldSet) (x : FieldSet) → AreRising xs → AreBelow xs x.label → AreRising (xs ++ x ∷ [])
rising-push [] x rising below = (λ k d low. absurd (omega arith), tt)
rising-push (y ∷ rest) x rising below = (
  All-append (λ (f : FieldSet). slice_cmp nat_cmp y.label f.label ≡ Less) rest (x ∷ []) rising.0 (All-one (λ (f : FieldSet). slice_cmp nat_cmp y.label f.label ≡ Less) x (All-head (λ (f : FieldSet). slice_cmp nat_cmp f.label x.label ≡ Less) y rest below)),
  rising-push rest x rising.1 (All-tail (λ (f : FieldSet). slice_cmp nat_cmp f.label x.label ≡ Less) y rest below),
)

pub rising-less : (xs : List FieldSet) → AreRising xs → (i k : ℕ) (d : FieldSet) → i < k → k < length xs → slice_cmp nat_cmp (get_or xs i d).label (get_or xs k d).label ≡ Less
rising-less [] rising i k d less low = absurd (omega arith)
rising-less (x ∷ rest) rising i zero d less low = absurd (omega arith)
rising-less (x ∷ rest) rising zero (suc k) d less low = rising.0 k d (omega arith)
rising-less (x ∷ rest) rising (suc i) (suc k) d less low = rising-less rest rising.1 i k d (omega arith) (omega arith)

pub rising-below : (xs : List FieldSet) → AreRising xs → (i : ℕ) (d : FieldSet) → i < length xs → AreBelow (take i xs) (get_or xs i d).label
rising-below xs rising i d low k e in_list =
    let size : length (take i xs) ≡ i = length-take-le i xs (omega arith) in
    let before : k < i = omega arith in
    subst (λ (f : FieldSet). slice_cmp nat_cmp f.label (get_or xs i d).label ≡ Less) (sym (get_or_default (take i xs) k e d in_list ∙ get_or-take i xs k d before)) (rising-less xs rising k i d before low)

-- one field more
is-none : (o : Option (List ℕ)) → IsSameOption IsSameSet o None → o ≡ None
is-none None same = refl
is-none (Some set) same = absurd same

module _ (p : Polarity) where
  none-there : (first second both : List FieldSet) → IsJoined p first second both → (label : List ℕ) → set_at first label ≡ None → set_at second label ≡ None → set_at both label ≡ None
  none-there first second both is label no-first no-second =
      is-none (set_at both label) (subst (IsSameOption IsSameSet (set_at both label)) (ap (λ o. combined_sets p o (set_at second label)) no-first ∙ (ap (combined_sets p None) no-second ∙ nothing p)) (is.value label))
    where
      nothing : (q : Polarity) → combined_sets q None None ≡ None
      nothing Positive = refl
      nothing Negative = refl

-- the value at each label, where a field is behind others that have lower labels
at-label : (xs : List FieldSet) (x : FieldSet) → AreBelow xs x.label → (label : List ℕ) → bytes_eq x.label label ≡ true → set_at (xs ++ x ∷ []) label ≡ Some x.set
at-label xs x below label same = set_at-last xs x label same (below-none xs label (subst (AreBelow xs) ((bytes_eq-Decides x.label label).0 same) below))

none-at : (xs : List FieldSet) (x : FieldSet) → AreBelow xs x.label → (label : List ℕ) → bytes_eq x.label label ≡ true → set_at xs label ≡ None
none-at xs x below label same = below-none xs label (subst (AreBelow xs) ((bytes_eq-Decides x.label label).0 same) below)

same-option : (o : Option (List ℕ)) → IsSameOption IsSameSet o o
same-option None = tt
same-option (Some set) = same-set set

-- a field of the first record alone
pub join-first : (p : Polarity) (first second both : List FieldSet) (x : FieldSet) → IsJoined p first second both → AreBelow first x.label → AreBelow second x.label → IsJoined p (first ++ x ∷ []) second (with_one p both x)
join-first Positive first second both x is one other = record {
  rising = is.rising;
  below = λ label before behind. is.below label (below-front first x label before).0 behind;
  value = λ label. go label (bytes_eq x.label label) refl;
}
  where
    go : (label : List ℕ) (b : Bool) → bytes_eq x.label label ≡ b → IsSameOption IsSameSet (set_at both label) (combined_sets Positive (set_at (first ++ x ∷ []) label) (set_at second label))
    go label true same = rw (at-label first x one label same, none-at second x other label same, none-there Positive first second both is label (none-at first x one label same) (none-at second x other label same)) tt
    go label false apart = rw (set_at-push first x label apart) (is.value label)
join-first Negative first second both x is one other = record {
  rising = rising-push both x is.rising (is.below x.label one other);
  below = λ label before behind. let front = below-front first x label before in below-push both x label (is.below label front.0 behind) front.1;
  value = λ label. go label (bytes_eq x.label label) refl;
}
  where
    go : (label : List ℕ) (b : Bool) → bytes_eq x.label label ≡ b → IsSameOption IsSameSet (set_at (both ++ x ∷ []) label) (combined_sets Negative (set_at (first ++ x ∷ []) label) (set_at second label))
    go label true same = rw (at-label first x one label same, none-at second x other label same, at-label both x (is.below x.label one other) label same) (same-set x.set)
    go label false apart = rw (set_at-push first x label apart, set_at-push both x label apart) (is.value label)

-- a field of the second record alone
pub join-second : (p : Polarity) (first second both : List FieldSet) (y : FieldSet) → IsJoined p first second both → AreBelow first y.label → AreBelow second y.label → IsJoined p first (second ++ y ∷ []) (with_one p both y)
join-second Positive first second both y is one other = record {
  rising = is.rising;
  below = λ label before behind. is.below label before (below-front second y label behind).0;
  value = λ label. go label (bytes_eq y.label label) refl;
}
  where
    go : (label : List ℕ) (b : Bool) → bytes_eq y.label label ≡ b → IsSameOption IsSameSet (set_at both label) (combined_sets Positive (set_at first label) (set_at (second ++ y ∷ []) label))
    go label true same = rw (at-label second y other label same, none-at first y one label same, none-there Positive first second both is label (none-at first y one label same) (none-at second y other label same)) tt
    go label false apart = rw (set_at-push second y label apart) (is.value label)
join-second Negative first second both y is one other = record {
  rising = rising-push both y is.rising (is.below y.label one other);
  below = λ label before behind. let front = below-front second y label behind in below-push both y label (is.below label before front.0) front.1;
  value = λ label. go label (bytes_eq y.label label) refl;
}
  where
    go : (label : List ℕ) (b : Bool) → bytes_eq y.label label ≡ b → IsSameOption IsSameSet (set_at (both ++ y ∷ []) label) (combined_sets Negative (set_at first label) (set_at (second ++ y ∷ []) label))
    go label true same = rw (at-label second y other label same, none-at first y one label same, at-label both y (is.below y.label one other) label same) (same-set y.set)
    go label false apart = rw (set_at-push second y label apart, set_at-push both y label apart) (is.value label)

-- a field of both
pub join-both : (p : Polarity) (first second both : List FieldSet) (x y z : FieldSet) → IsJoined p first second both → AreBelow first x.label → AreBelow second x.label → y.label ≡ x.label → IsUnited x y z → IsJoined p (first ++ x ∷ []) (second ++ y ∷ []) (both ++ z ∷ [])
join-both p first second both x y z is one other same-label united = record {
  rising = rising-push both z is.rising at-z;
  below = λ label before behind.
      let front = below-front first x label before in
      below-push both z label (is.below label front.0 (below-front second y label behind).0) (subst (λ l. slice_cmp nat_cmp l label ≡ Less) (sym united.label) front.1);
  value = λ label. go label (bytes_eq x.label label) refl;
}
  where
    at-z : AreBelow both z.label
    at-z = subst (AreBelow both) (sym united.label) (is.below x.label one other)

    at-y : AreBelow second y.label
    at-y = subst (AreBelow second) (sym same-label) other

    go : (label : List ℕ) (b : Bool) → bytes_eq x.label label ≡ b → IsSameOption IsSameSet (set_at (both ++ z ∷ []) label) (combined_sets p (set_at (first ++ x ∷ []) label) (set_at (second ++ y ∷ []) label))
    go label true same =
        let of-y : bytes_eq y.label label ≡ true = ap (λ l. bytes_eq l label) same-label ∙ same in
        let of-z : bytes_eq z.label label ≡ true = ap (λ l. bytes_eq l label) united.label ∙ same in
        rw (at-label first x one label same, at-label second y at-y label of-y, at-label both z at-z label of-z) united.set
    go label false apart =
        let of-y : bytes_eq y.label label ≡ false = ap (λ l. bytes_eq l label) same-label ∙ apart in
        let of-z : bytes_eq z.label label ≡ false = ap (λ l. bytes_eq l label) united.label ∙ apart in
        rw (set_at-push first x label apart, set_at-push second y label of-y, set_at-push both z label of-z) (is.value label)

-- the steps of the loop over two records
module _ (p : Polarity) (first second : List FieldSet) (rising : AreRising first) (rising' : AreRising second) (i j : ℕ) (both : List FieldSet) (is : IsMerging p first second i j both) (d : FieldSet) where
  pub merge-first : (new : List FieldSet) → i < length first → new ≡ with_one p both (get_or first i d) → ((e : FieldSet) → j < length second → slice_cmp nat_cmp (get_or first i d).label (get_or second j e).label ≡ Less) → IsMerging p first second (i + 1) j new
  merge-first new low e less = record {
    first_there = omega arith;
    second_there = is.second_there;
    joined = subst (λ (xs : List FieldSet). IsJoined p xs (take j second) new) (sym (next-is first i d low)) (subst (IsJoined p (take i first ++ get_or first i d ∷ []) (take j second)) (sym e) (join-first p (take i first) (take j second) both (get_or first i d) is.joined (rising-below first rising i d low) (is.before_first d low)));
    before_first = λ f next. below-trans (take j second) (get_or first i d).label (get_or first (i + 1) f).label (subst (λ (x : FieldSet). slice_cmp nat_cmp x.label (get_or first (i + 1) f).label ≡ Less) (get_or_default first i f d low) (rising-less first rising i (i + 1) f (omega arith) next)) (is.before_first d low);
    before_second = λ f there. subst (λ (xs : List FieldSet). AreBelow xs (get_or second j f).label) (sym (next-is first i d low)) (below-push (take i first) (get_or first i d) (get_or second j f).label (is.before_second f there) (less f there));
  }

  pub merge-second : (new : List FieldSet) → j < length second → new ≡ with_one p both (get_or second j d) → ((e : FieldSet) → i < length first → slice_cmp nat_cmp (get_or second j d).label (get_or first i e).label ≡ Less) → IsMerging p first second i (j + 1) new
  merge-second new low e less = record {
    first_there = is.first_there;
    second_there = omega arith;
    joined = subst (λ (xs : List FieldSet). IsJoined p (take i first) xs new) (sym (next-is second j d low)) (subst (IsJoined p (take i first) (take j second ++ get_or second j d ∷ [])) (sym e) (join-second p (take i first) (take j second) both (get_or second j d) is.joined (is.before_second d low) (rising-below second rising' j d low)));
    before_first = λ f there. subst (λ (xs : List FieldSet). AreBelow xs (get_or first i f).label) (sym (next-is second j d low)) (below-push (take j second) (get_or second j d) (get_or first i f).label (is.before_first f there) (less f there));
    before_second = λ f next. below-trans (take i first) (get_or second j d).label (get_or second (j + 1) f).label (subst (λ (x : FieldSet). slice_cmp nat_cmp x.label (get_or second (j + 1) f).label ≡ Less) (get_or_default second j f d low) (rising-less second rising' j (j + 1) f (omega arith) next)) (is.before_second d low);
  }

  pub merge-both : (new : List FieldSet) (z : FieldSet) → i < length first → j < length second → (get_or second j d).label ≡ (get_or first i d).label → new ≡ both ++ z ∷ [] → IsUnited (get_or first i d) (get_or second j d) z → IsMerging p first second (i + 1) (j + 1) new
  merge-both new z low low' same e united = record {
    first_there = omega arith;
    second_there = omega arith;
    joined =
        subst (λ (xs : List FieldSet). IsJoined p xs (take (j + 1) second) new) (sym (next-is first i d low))
        (subst (λ (xs : List FieldSet). IsJoined p (take i first ++ get_or first i d ∷ []) xs new) (sym (next-is second j d low'))
        (subst (IsJoined p (take i first ++ get_or first i d ∷ []) (take j second ++ get_or second j d ∷ [])) (sym e)
        (join-both p (take i first) (take j second) both (get_or first i d) (get_or second j d) z is.joined (rising-below first rising i d low) (is.before_first d low) same united)));
    before_first = λ f next.
        let above : slice_cmp nat_cmp (get_or first i d).label (get_or first (i + 1) f).label ≡ Less = subst (λ (x : FieldSet). slice_cmp nat_cmp x.label (get_or first (i + 1) f).label ≡ Less) (get_or_default first i f d low) (rising-less first rising i (i + 1) f (omega arith) next) in
        subst (λ (xs : List FieldSet). AreBelow xs (get_or first (i + 1) f).label) (sym (next-is second j d low'))
        (below-push (take j second) (get_or second j d) (get_or first (i + 1) f).label (below-trans (take j second) (get_or first i d).label (get_or first (i + 1) f).label above (is.before_first d low)) (subst (λ l. slice_cmp nat_cmp l (get_or first (i + 1) f).label ≡ Less) (sym same) above));
    before_second = λ f next.
        let above : slice_cmp nat_cmp (get_or second j d).label (get_or second (j + 1) f).label ≡ Less = subst (λ (x : FieldSet). slice_cmp nat_cmp x.label (get_or second (j + 1) f).label ≡ Less) (get_or_default second j f d low') (rising-less second rising' j (j + 1) f (omega arith) next) in
        subst (λ (xs : List FieldSet). AreBelow xs (get_or second (j + 1) f).label) (sym (next-is first i d low))
        (below-push (take i first) (get_or first i d) (get_or second (j + 1) f).label (below-trans (take i first) (get_or second j d).label (get_or second (j + 1) f).label above (is.before_second d low')) (subst (λ l. slice_cmp nat_cmp l (get_or second (j + 1) f).label ≡ Less) same above));
  }

pub merging-begun : (p : Polarity) (first second : List FieldSet) → IsMerging p first second 0 0 []
merging-begun p first second = record {
  first_there = omega arith;
  second_there = omega arith;
  joined = record { rising = tt; below = λ label one other. λ k d low. absurd (omega arith); value = λ label. nothing p };
  before_first = λ d low. λ k e in_list. absurd (omega arith);
  before_second = λ d low. λ k e in_list. absurd (omega arith);
}
  where
    nothing : (q : Polarity) → IsSameOption IsSameSet None (combined_sets q None None)
    nothing Positive = tt
    nothing Negative = tt

pub merging-over : (p : Polarity) (first second : List FieldSet) (i j : ℕ) (both : List FieldSet) → IsMerging p first second i j both → length first ≤ i → length second ≤ j → IsJoined p first second both
merging-over p first second i j both is one other =
    subst (λ (xs : List FieldSet). IsJoined p xs second both) (take-all first i one) (subst (λ (xs : List FieldSet). IsJoined p (take i first) xs both) (take-all second j other) is.joined)

-- what a comparison of two labels says
pub greater-less : (x y : List ℕ) → slice_cmp nat_cmp x y ≡ Greater → slice_cmp nat_cmp y x ≡ Less
greater-less x y e = nat_list_cmp_total.antisymm y x ∙ ap ordering_reverse e

pub equal-labels : (x y : List ℕ) → slice_cmp nat_cmp x y ≡ Equal → y ≡ x
equal-labels x y e = sym ((bytes_eq-Decides x y).0 (sym (is_eq-slice_cmp x y) ∙ ap is_eq e))
