-- Entries whose numbers rise: what a search finds, and what an edit does to the map that they are.
--     behind, searched                the last entry, or a binary search, leads to the number or to the gap for it
--     item_read, none_read            what is read at the place of a number is the map's, and none where it has a gap
--     set_rises, set_updates          an entry takes another item
--     insert_rises, insert_updates    an entry comes into the gap for its number
--     nothing_updates                 a number that has a gap is taken out
--     front_rises, front_held         a last entry without an item is taken out
use Rattle.std.proofs.Common.{◌≡◌, ◌≢◌, ℕ, zero, suc, ◌+◌, ◌-◌, ◌<◌, ◌≤◌, Bool, true, false, List, [], ◌∷◌, ◌++◌, length, take, get_or, set, Option, Some, None, Result, Ok, Err, IfOk, IfErr, refl, sym, ap, subst, ◌∙◌, arith}
use mathlib.Core.Bool.{cond}
use mathlib.Core.Logic.{inl}
use Rattle.std.specs.BTreeMap.{BTreeMap, get, is_at, Updates}
use Rattle.std_collections.specs.Layout.BTreeMap.{btree_map}
use Rattle.std.specs.Map.{lookup, KeepsOthers}
use Rattle.std.specs.List.{insert}
use Rattle.std.specs.Option.{option_to_list}
use Rattle.std.specs.List.Sorted.{IsSearchInRange, IsBinarySearchResult, IsNonDecreasingBy}
use Rattle.std.specs.Ordering.{nat_cmp, ordering_index}
use Rattle.std.specs.Cmp.{unsigned_tied}
use Rattle.std.proofs.lemmas.Cmp.{ranked}
use Rattle.std.proofs.Math.Seq.{take-append_seam}
use Rattle.std.proofs.lemmas.List.{append-nil, get_or_append_left, get_or_default, length-append}
use Rattle.std.proofs.lemmas.List.Sorted.{IsNonDecreasingBy-from_default}
use Rattle.std.proofs.lemmas.List.Edits.{length-insert, get_or-insert_below, get_or-insert_at, get_or-insert_above}
use Rattle.std.proofs.lemmas.Bool.Decides.{nat_tests}
use Rattle.std.proofs.lemmas.Grind.{common_steps}
use Rattle.mls_parts.specs.NumberMaps.{Entries, held, map_of, number_of, with_entry, AreRising, EndsEmpty, IsAt, IsGapFor}

itself : (k : ℕ) → is_at (nat_cmp k) k ≡ true
itself k = unsigned_tied k k ∙ grind (arith, nat_tests)

other_number : (k m : ℕ) → k ≢ m → is_at (nat_cmp k) m ≡ false
other_number k m n = unsigned_tied k m ∙ grind (arith, nat_tests, n)

same_number : (k m : ℕ) → is_at (nat_cmp k) m ≡ true → k ≡ m
same_number k m e = let t = sym (unsigned_tied k m) ∙ e in grind (arith, nat_tests)

module _ {X : Type 0} where
  -- the item of the entry at a place
  abbrev pub item_of : Entries X → ℕ → Option X
  item_of es i = let e = get_or es i (0, None) in e.1

  module _ (test : ℕ → Bool) where
    skip : (k : ℕ) (o : Option X) (es : List (ℕ × X)) → test k ≡ false → lookup test (with_entry k o es) ≡ lookup test es
    skip k None es fails = refl
    skip k (Some x) es fails = ap (λ b. cond b (Some x) (lookup test es)) fails

    finds : (k : ℕ) (x : X) (es : List (ℕ × X)) → test k ≡ true → lookup test (with_entry k (Some x) es) ≡ Some x
    finds k x es passes = ap (λ b. cond b (Some x) (lookup test es)) passes

    more : (k : ℕ) (o : Option X) (es fs : List (ℕ × X)) → lookup test fs ≡ lookup test es → lookup test (with_entry k o fs) ≡ lookup test (with_entry k o es)
    more k None es fs e = e
    more k (Some x) es fs e = ap (cond (test k) (Some x)) e

    -- a test that the number does not pass finds the same behind an edit at it
    others_set : (es : Entries X) (i k : ℕ) (o : Option X) → IsAt es k i → test k ≡ false → lookup test (held (set es i (k, o))) ≡ lookup test (held es)
    others_set [] i k o at fails = absurd (omega (arith, at.in_range))
    others_set (e ∷ es) zero k o at fails = skip k o (held es) fails ∙ sym (skip e.0 e.1 (held es) (subst (λ m. test m ≡ false) (sym at.has_number) fails))
    others_set (e ∷ es) (suc i) k o at fails = more e.0 e.1 (held es) (held (set es i (k, o))) (others_set es i k o (record { in_range = omega (arith, at.in_range); has_number = at.has_number }) fails)

    others_insert : (es : Entries X) (i k : ℕ) (o : Option X) → test k ≡ false → lookup test (held (insert es i (k, o))) ≡ lookup test (held es)
    others_insert es zero k o fails = skip k o (held es) fails
    others_insert [] (suc i) k o fails = skip k o [] fails
    others_insert (e ∷ es) (suc i) k o fails = more e.0 e.1 (held es) (held (insert es i (k, o))) (others_insert es i k o fails)

  -- a number that no entry has is not found
  absent : (es : Entries X) (k : ℕ) → ((j : ℕ) → j < length es → number_of es j ≢ k) → lookup (is_at (nat_cmp k)) (held es) ≡ None
  absent [] k none = refl
  absent (e ∷ es) k none =
      skip (is_at (nat_cmp k)) e.0 e.1 (held es) (other_number k e.0 (λ same. none 0 (omega arith) (sym same)))
      ∙ absent es k (λ j lt. none (suc j) (omega arith))

  rising_tail : (e : ℕ × Option X) (es : Entries X) → AreRising (e ∷ es) → AreRising es
  rising_tail e es rising i j lt low = rising (suc i) (suc j) (omega arith) (omega arith)

  -- the entry at the place of the number has what is found
  pub at_place : (es : Entries X) (k i : ℕ) → AreRising es → IsAt es k i → lookup (is_at (nat_cmp k)) (held es) ≡ item_of es i
  at_place [] k i rising at = absurd (omega (arith, at.in_range))
  at_place ((m, None) ∷ es) k zero rising at = absent es k (λ j lt same. omega (arith, rising 0 (suc j) (omega arith) (omega arith), at.has_number))
  at_place ((m, Some x) ∷ es) k zero rising at = finds (is_at (nat_cmp k)) m x (held es) (subst (λ n. is_at (nat_cmp k) n ≡ true) (sym at.has_number) (itself k))
  at_place (e ∷ es) k (suc i) rising at =
      let low : e.0 < k = omega (arith, rising 0 (suc i) (omega arith) at.in_range, at.has_number) in
      skip (is_at (nat_cmp k)) e.0 e.1 (held es) (other_number k e.0 (λ same. omega arith))
      ∙ at_place es k i (rising_tail e es rising) (record { in_range = omega (arith, at.in_range); has_number = at.has_number })

  -- the gap behind all
  pub behind : (es : Entries X) (k : ℕ) → AreRising es → (0 < length es → number_of es (length es - 1) < k) → IsGapFor es k (length es)
  behind es k rising last = record {
    in_range = omega arith;
    smaller = λ j lt. grind (arith, rising j (length es - 1), last);
    greater = λ j le lt. absurd (omega arith);
  }

  pub at_gap : (es : Entries X) (k i : ℕ) → IsGapFor es k i → lookup (is_at (nat_cmp k)) (held es) ≡ None
  at_gap es k i gap = absent es k (λ j lt same. grind (arith, gap.smaller j, gap.greater j))

  -- what is found of the number and of all others says what the map is
  updates_from : (es fs : Entries X) (k : ℕ) (o : Option X) → lookup (is_at (nat_cmp k)) (held fs) ≡ o → ((test : ℕ → Bool) → test k ≡ false → lookup test (held fs) ≡ lookup test (held es)) → Updates nat_cmp (map_of es) (map_of fs) k o
  unfolding KeepsOthers
  updates_from es fs k o own others = (
    λ q. by_test q (is_at (nat_cmp k) q) refl,
    own,
    λ q apart. others (is_at (nat_cmp q)) (turned q apart),
    λ other one apart. others other (apart k (itself k)),
  )
    where
      turned : (q : ℕ) → is_at (nat_cmp k) q ≡ false → is_at (nat_cmp q) k ≡ false
      turned q apart = other_number q k (λ same. let t = sym (itself k) ∙ ap (λ m. is_at (nat_cmp k) m) (sym same) ∙ apart in absurd (cc))

      by_test : (q : ℕ) (b : Bool) → is_at (nat_cmp k) q ≡ b → lookup (is_at (nat_cmp q)) (held fs) ≡ cond b o (lookup (is_at (nat_cmp q)) (held es))
      by_test q true e = subst (λ m. lookup (is_at (nat_cmp m)) (held fs) ≡ o) (same_number k q e) own
      by_test q false e = others (is_at (nat_cmp q)) (turned q e)

module _ {X : Type 0} (es : Entries X) (rising : AreRising es) (k : ℕ) where
  -- the comparisons with the number rise along the entries, as a binary search asks
  comparisons_rise : IsNonDecreasingBy (λ e. ordering_index (nat_cmp e.0 k)) es
  comparisons_rise = IsNonDecreasingBy-from_default (λ e. ordering_index (nat_cmp e.0 k)) es (0, None) (λ i j le in_range.
      let numbers_rise : number_of es i ≤ number_of es j = grind (arith, rising i j, λ (same : i ≡ j). ap (number_of es) same) in
      grind (arith, nat_tests))

  pub searched : (r : Result ℕ ℕ) → IsSearchInRange r (length es) → IsBinarySearchResult (λ e. nat_cmp e.0 k) es r → record { found : IfOk r (IsAt es k); absent : IfErr r (IsGapFor es k) }
  searched (Ok i) in_range equal = record { found = record { in_range = in_range; has_number = ranked _ k _ (sym (equal (0, None))) }; absent = tt }
  searched (Err i) in_range parted = record {
    found = tt;
    absent = record {
      in_range = in_range;
      smaller = λ j lt. ranked _ k _ (sym ((parted comparisons_rise).0 j (0, None) (omega arith) lt));
      greater = λ j le lt. ranked _ k _ (sym ((parted comparisons_rise).1 j (0, None) le lt));
    };
  }

module _ {X : Type 0} (es : Entries X) (k i : ℕ) (at : IsAt es k i) (o : Option X) where
  pub rising_set : AreRising es → AreRising (set es i (k, o))
  rising_set rising m n lt low = grind (arith, common_steps, rising m n, rising m i, rising i n, at.in_range, at.has_number)

  pub updates_set : AreRising es → Updates nat_cmp (map_of es) (map_of (set es i (k, o))) k o
  updates_set rising =
      let new = set es i (k, o) in
      let here : get_or new i (0, None) ≡ (k, o) = grind (arith, common_steps, at.in_range) in
      let is : IsAt new k i = record { in_range = grind (arith, common_steps, at.in_range); has_number = ap (λ (e : ℕ × Option X). e.0) here } in
      updates_from es new k o (at_place new k i (rising_set rising) is ∙ ap (λ (e : ℕ × Option X). e.1) here) (λ test fails. others_set test es i k o at fails)

-- what is read and done at the place of a number
module _ {X : Type 0} (es : Entries X) (m : BTreeMap ℕ X) (k i : ℕ) (e : ℕ × Option X) (rising : AreRising es) (view : map_of es ≡ m) (at : IsAt es k i) (read : e ≡ get_or es i e) where
  read_is : e ≡ get_or es i (0, None)
  read_is = read ∙ get_or_default es i e (0, None) at.in_range

  pub item_read : e.1 ≡ get nat_cmp m k
  item_read = ap (λ (d : ℕ × Option X). d.1) read_is ∙ (sym (at_place es k i rising at) ∙ ap (λ m. get nat_cmp m k) view)

  module _ (new o : Option X) (new_is : new ≡ o) where
    entry_is : ◌≡◌ {A = ℕ × Option X} (e.0, new) (k, o)
    entry_is = λ j. ((ap (λ (d : ℕ × Option X). d.0) read_is ∙ at.has_number) j, new_is j)

    pub set_rises : AreRising (set es i (e.0, new))
    set_rises = subst (λ d. AreRising (set es i d)) (sym entry_is) (rising_set es k i at o rising)

    set_is : Updates nat_cmp m (map_of (set es i (e.0, new))) k o
    set_is = subst (λ m. Updates nat_cmp m (map_of (set es i (e.0, new))) k o) view
        (subst (λ d. Updates nat_cmp (map_of es) (map_of (set es i d)) k o) (sym entry_is) (updates_set es k i at o rising))

    -- also where last entries without an item are left out
    pub set_updates : (fs : Entries X) → held fs ≡ held (set es i (e.0, new)) → Updates nat_cmp m (map_of fs) k o
    set_updates fs same = subst (λ f. Updates nat_cmp m f k o) (sym (ap (λ h. btree_map h (inl tt)) same)) set_is

module _ {X : Type 0} (es : Entries X) (k i : ℕ) (gap : IsGapFor es k i) (o : Option X) where
  pub rising_insert : AreRising es → AreRising (insert es i (k, o))
  rising_insert rising m n lt low =
      let new = insert es i (k, o) in
      let number = λ (e : ℕ × Option X). e.0 in
      let long = length-insert es i (k, o) gap.in_range in
      let below : (j : ℕ) → j < i → number_of new j ≡ number_of es j = λ j lower. ap number (get_or-insert_below es i (k, o) (0, None) j lower gap.in_range) in
      let here : (j : ℕ) → j ≡ i → number_of new j ≡ k = λ j is. rw is (ap number (get_or-insert_at es i (k, o) (0, None) gap.in_range)) in
      let above : (j : ℕ) → i < j → number_of new j ≡ number_of es (j - 1) = λ j higher. subst (λ q. number_of new q ≡ number_of es (j - 1)) {x = j - 1 + 1} (omega arith) (ap number (get_or-insert_above es i (k, o) (0, None) (j - 1) (omega arith) gap.in_range)) in
      grind (arith, below m, here m, above m, below n, here n, above n, rising m n, rising m (n - 1), rising (m - 1) (n - 1), gap.smaller m, gap.greater (n - 1))

  pub updates_insert : AreRising es → Updates nat_cmp (map_of es) (map_of (insert es i (k, o))) k o
  updates_insert rising =
      let new = insert es i (k, o) in
      let here : get_or new i (0, None) ≡ (k, o) = get_or-insert_at es i (k, o) (0, None) gap.in_range in
      let is : IsAt new k i = record { in_range = omega (arith, length-insert es i (k, o) gap.in_range, gap.in_range); has_number = ap (λ (e : ℕ × Option X). e.0) here } in
      updates_from es new k o (at_place new k i (rising_insert rising) is ∙ ap (λ (e : ℕ × Option X). e.1) here) (λ test fails. others_insert test es i k o fails)

-- what is done in the gap for a number
module _ {X : Type 0} (es : Entries X) (m : BTreeMap ℕ X) (k i : ℕ) (view : map_of es ≡ m) (gap : IsGapFor es k i) where
  pub none_read : None ≡ get nat_cmp m k
  none_read = sym (at_gap es k i gap) ∙ ap (λ m. get nat_cmp m k) view

  pub nothing_updates : Updates nat_cmp m m k None
  nothing_updates = subst (λ m. Updates nat_cmp m m k None) view (updates_from es es k None (at_gap es k i gap) (λ test fails. refl))

  module _ (rising : AreRising es) (fs : Entries X) (o : Option X) (inserted : fs ≡ insert es i (k, o)) where
    pub insert_rises : AreRising fs
    insert_rises = subst AreRising (sym inserted) (rising_insert es k i gap o rising)

    pub insert_updates : Updates nat_cmp m (map_of fs) k o
    insert_updates = subst (λ m. Updates nat_cmp m (map_of fs) k o) view
        (subst (λ fs. Updates nat_cmp (map_of es) (map_of fs) k o) (sym inserted) (updates_insert es k i gap o rising))

-- a last entry without an item is taken out
module _ {X : Type 0} where
  held_front : (front : Entries X) (k : ℕ) → held (front ++ (k, None) ∷ []) ≡ held front
  held_front [] k = refl
  held_front ((m, None) ∷ front) k = held_front front k
  held_front ((m, Some x) ∷ front) k = ap (λ es. (m, x) ∷ es) (held_front front k)

  rising_front : (front last : Entries X) → AreRising (front ++ last) → AreRising front
  rising_front front last rising i j lt low =
      let long = length-append front last in
      let at : (n : ℕ) → n < length front → number_of (front ++ last) n ≡ number_of front n =
      λ n below. ap (λ (e : ℕ × Option X). e.0) (get_or_append_left front last (0, None) n below) in
      grind (arith, at i, at j, rising i j)

  same_front : (front other : Entries X) (e d : ℕ × Option X) → front ++ e ∷ [] ≡ other ++ d ∷ [] → front ≡ other
  same_front front other e d same =
      let one = length-append front (e ∷ []) in
      let two = length-append other (d ∷ []) in
      let long : length front ≡ length other = omega (arith, ap length same) in
      sym (take-append_seam front (e ∷ [])) ∙ ((λ j. take (long j) (same j)) ∙ take-append_seam other (d ∷ []))

  -- what is left where the last entry, if there is one, is taken out
  module _ (es front : Entries X) where
    pub front_rises : (last : Option (ℕ × Option X)) → es ≡ front ++ option_to_list last → AreRising es → AreRising front
    front_rises last parts rising = rising_front front (option_to_list last) (subst AreRising parts rising)

    pub front_held : (last : Option (ℕ × Option X)) → es ≡ front ++ option_to_list last → EndsEmpty es → held front ≡ held es
    front_held None parts empty = ap held (sym (parts ∙ append-nil front))
    front_held (Some e) parts empty =
        ap held (same_front front empty.0 e (empty.1, None) (sym parts ∙ empty.2))
        ∙ (sym (held_front empty.0 empty.1) ∙ ap held (sym empty.2))
