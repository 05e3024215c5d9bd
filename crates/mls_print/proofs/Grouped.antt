-- What is found of the record of a combined head, label by label.
--     entry_added      a map to which the set of one field is added
--     fields_more      the fields of a record, added one after the other
--     sets_more        the sets of states at a label, one state after the other
--     flat_map-map     lists that are seen as others, one after the other
--     record_found     the fields that are shown are the record of the combined head
use Rattle.std.proofs.Common.{◌≡◌, ◌⊎◌, inl, inr, ℕ, zero, suc, ◌+◌, ◌<◌, ◌≤◌, Bool, true, false, not, ◌||◌, List, [], ◌∷◌, ◌++◌, map, refl, sym, ap, ◌∙◌, subst, arith, length, take, get_or, All, Contains, Some, None, append-nil}
use Rattle.std.specs.Prelude.{Option, is_some, unwrap_or, option_map, cond, filter, find, bytes_eq, IsSome, ◌==◌}
use Rattle.std.specs.Option.{option_or}
use Rattle.std.specs.List.{flat_map, filter_map, list_any, cons_option}
use Rattle.std.specs.List.Sorted.{IsStrictlySortedBy}
use Rattle.std.proofs.lemmas.Map.Lookups.{CmpEqualImpliesEq}
use Rattle.std.specs.BTreeMap.{BTreeMap, get, IsOrdered, Updates}
use Rattle.std.specs.Ordering.{nat_cmp, is_eq}
use Rattle.std.specs.declared.cmp.Ordering.TheVariants.{Less}
use Rattle.std.specs.Cmp.Lexicographic.{slice_cmp}
use Rattle.std.proofs.lemmas.Bool.Decides.{nat_tests}
use Rattle.std.proofs.lemmas.Map.Text.{is_eq-slice_cmp}
use Rattle.std.proofs.lemmas.Slice.Eq.{bytes_eq-Decides}
use Rattle.std.proofs.lemmas.Map.Keys.{sorted_tail}
use Rattle.std.proofs.lemmas.Map.Views.{All-after_first}
use Rattle.std.proofs.lemmas.List.{take_more}
use Rattle.std.proofs.lemmas.List.Folds.{find-append}
use Rattle.std.proofs.lemmas.List.Elements.{filter_map-append, All-head, All-tail, All-cons}
use Rattle.std.proofs.lemmas.Map.Views.{btree_map_get_iff}
use Rattle.std.proofs.lemmas.Cmp.{nat_list_cmp_total}
use Rattle.mls_automaton.specs.declared.automaton.FieldSet.{FieldSet}
use Rattle.mls_automaton.specs.declared.automaton.Polarity.{Polarity}
use Rattle.mls_automaton.specs.declared.automaton.Polarity.TheVariants.{Positive, Negative}
use Rattle.mls_automaton.specs.Automata.{Automaton, head_at}
use Rattle.mls_automaton.specs.Heads.{set_at, AreRising, IsSameSet}
use Rattle.mls_automaton.proofs.Lists.{Contains-here, Contains-later, Contains-cases}
use Rattle.mls_print.specs.steps.Flat.{has_label, lacks_label, set_in, flat_set, shown_label}
use Rattle.mls_print.specs.steps.Grouping.{record_of_all, set_in_record, grown, non_empty, sets_at_label, is_shown, entry_fields}
use Rattle.mls_print.specs.steps.Printing.{LabelledSet}
use Rattle.mls_print.specs.steps.Tables.{IsRecordOf}
use Rattle.mls_print.specs.Shown.{AreRisingLabels}

abbrev pub Groups : Type 0
Groups = BTreeMap (List ℕ) (List (List ℕ))

abbrev pub at : Groups → List ℕ → Option (List (List ℕ))
at = get (slice_cmp nat_cmp)

-- one more set at one label
module _ (old new : Groups) (label : List ℕ) (set : List ℕ) (was : Option (List (List ℕ))) (found : at old label ≡ was) (w : List (List ℕ)) (is_more : w ≡ unwrap_or was [] ++ set ∷ []) (updates : Updates (slice_cmp nat_cmp) old new label (Some w)) where
  pub entry_added : (q : List ℕ) → at new q ≡ grown (cond (bytes_eq label q) (Some set) None) (at old q)
  entry_added q = updates.0 q ∙ (ap (λ b. cond b (Some w) (at old q)) (is_eq-slice_cmp label q) ∙ go (bytes_eq label q) refl)
    where
      go : (b : Bool) → bytes_eq label q ≡ b → cond b (Some w) (at old q) ≡ grown (cond b (Some set) None) (at old q)
      go false e = refl
      go true e =
          let same : label ≡ q = (bytes_eq-Decides label q).0 e in
          let is : at old q ≡ was = ap (at old) (sym same) ∙ found in
          ap (λ w. Some w) is_more ∙ ap (λ o. Some (unwrap_or o [] ++ set ∷ [])) (sym is)

-- the fields of a record, one after the other
option_or_none : (o : Option FieldSet) → option_or o None ≡ o
option_or_none None = refl
option_or_none (Some f) = refl

none_before : (fields : List FieldSet) (i : ℕ) (d : FieldSet) → AreRising fields → i < length fields → find (λ (f : FieldSet). bytes_eq f.label (get_or fields i d).label) (take i fields) ≡ None
none_before [] i d rising low = absurd (omega arith)
none_before (first ∷ rest) zero d rising low = refl
none_before (first ∷ rest) (suc i) d rising low =
    let less : slice_cmp nat_cmp first.label (get_or rest i d).label ≡ Less = rising.0 i d (omega arith) in
    let apart : bytes_eq first.label (get_or rest i d).label ≡ false = sym (is_eq-slice_cmp first.label (get_or rest i d).label) ∙ ap is_eq less in
    (λ j. cond (apart j) (Some first) (find (λ (f : FieldSet). bytes_eq f.label (get_or rest i d).label) (take i rest)))
    ∙ none_before rest i d rising.1 (omega arith)

pub fields_more : (fields : List FieldSet) (i : ℕ) (d : FieldSet) → AreRising fields → i < length fields → (label : List ℕ) (o : Option (List (List ℕ)))
    → grown (cond (bytes_eq (get_or fields i d).label label) (Some (get_or fields i d).set) None) (grown (set_at (take i fields) label) o) ≡ grown (set_at (take (i + 1) fields) label) o
fields_more fields i d rising low label o =
    go (bytes_eq f.label label) refl ∙ ap (λ found. grown (option_map (λ (g : FieldSet). g.set) found) o) (sym (ap (find test) (take_more fields i d low) ∙ find-append test (take i fields) (f ∷ [])))
  where
    f : FieldSet
    f = get_or fields i d

    test : FieldSet → Bool
    test g = bytes_eq g.label label

    before : List FieldSet
    before = take i fields

    go : (b : Bool) → bytes_eq f.label label ≡ b → grown (cond b (Some f.set) None) (grown (option_map (λ (g : FieldSet). g.set) (find test before)) o) ≡ grown (option_map (λ (g : FieldSet). g.set) (option_or (find test before) (cond (bytes_eq f.label label) (Some f) None))) o
    go false e = ap (λ found. grown (option_map (λ (g : FieldSet). g.set) found) o) (sym (ap (λ b. option_or (find test before) (cond b (Some f) None)) e ∙ option_or_none (find test before)))
    go true e =
        let same : f.label ≡ label = (bytes_eq-Decides f.label label).0 e in
        let none : find test before ≡ None = subst (λ q. find (λ (g : FieldSet). bytes_eq g.label q) before ≡ None) same (none_before fields i d rising low) in
        ap (λ found. grown (Some f.set) (grown (option_map (λ (g : FieldSet). g.set) found) o)) none
        ∙ sym (ap (λ found. grown (option_map (λ (g : FieldSet). g.set) (option_or found (cond (bytes_eq f.label label) (Some f) None))) o) none ∙ ap (λ b. grown (option_map (λ (g : FieldSet). g.set) (cond b (Some f) None)) o) e)

-- the sets of states at a label, one state after the other
non_empty_more : (sets : List (List ℕ)) (set : List ℕ) → non_empty (sets ++ set ∷ []) ≡ Some (unwrap_or (non_empty sets) [] ++ set ∷ [])
non_empty_more [] set = refl
non_empty_more (first ∷ rest) set = refl

pub sets_more : (a : Automaton) (label : List ℕ) (xs : List ℕ) (i d : ℕ) → i < length xs → grown (set_in_record label (head_at a (get_or xs i d)).fields) (sets_at_label a label (take i xs)) ≡ sets_at_label a label (take (i + 1) xs)
sets_more a label xs i d low = go (h x) ∙ ap non_empty (sym (ap (filter_map h) (take_more xs i d low) ∙ filter_map-append h (take i xs) (x ∷ [])))
  where
    x : ℕ
    x = get_or xs i d

    h : ℕ → Option (List ℕ)
    h s = set_in_record label (head_at a s).fields

    before : List (List ℕ)
    before = filter_map h (take i xs)

    go : (o : Option (List ℕ)) → grown o (non_empty before) ≡ non_empty (before ++ cons_option o [])
    go None = ap non_empty (sym (append-nil before))
    go (Some set) = sym (non_empty_more before set)

pub is_some-from : {X : Type 0} (o : Option X) (x : X) → o ≡ Some x → IsSome o
is_some-from None x e = absurd (cc)
is_some-from (Some y) x e = refl

pub flat_map-map : {X Y : Type 0} (f : X → List Y) (xs : List X) → flat_map (λ ys. ys) (map f xs) ≡ flat_map f xs
flat_map-map f [] = refl
flat_map-map f (x ∷ xs) = ap (λ rest. f x ++ rest) (flat_map-map f xs)

equal : (n m : ℕ) → n ≡ m → (n == m) ≡ true
equal n m e = grind (arith, nat_tests)

different : (n m : ℕ) → n < m → (n == m) ≡ false
different n m less = grind (arith, nat_tests)

-- How many records have a label, where L says that one of n records lacks it and H that one has it: these are its sets,
-- and all states in them.
record Counted (L H : Bool) (sets : List (List ℕ)) (n : ℕ) (states : List ℕ) : Type 0 where
  low : length sets ≤ n
  some_lacks : L ≡ true → length sets < n
  none_lacks : L ≡ false → length sets ≡ n
  has_some : H ≡ true → 0 < length sets
  has_none : H ≡ false → sets ≡ []
  same_states : states ≡ flat_map (λ set. set) sets

module _ (label : List ℕ) where
  counted_more : {X : Type 0} (x : X) (rs : List X) (o : Option (List FieldSet)) (L H : Bool) (sets : List (List ℕ)) (states : List ℕ) → Counted L H sets (length rs) states
      → Counted (lacks_label label (option_map set_at o) || L) (has_label label (option_map set_at o) || H) (cons_option (set_in_record label o) sets) (length (cond (is_some o) (x ∷ rs) rs)) (set_in label (option_map set_at o) ++ states)
  counted_more x rs None L H sets states it = it
  counted_more x rs (Some fields) L H sets states it = go (set_at fields label)
    where
      go : (s : Option (List ℕ)) → Counted (not (is_some s) || L) (is_some s || H) (cons_option s sets) (suc (length rs)) (unwrap_or s [] ++ states)
      go None = record {
        low = let low = it.low in omega arith;
        some_lacks = λ e. let low = it.low in omega arith;
        none_lacks = λ e. absurd (cc);
        has_some = it.has_some;
        has_none = it.has_none;
        same_states = it.same_states;
      }
      go (Some set) = record {
        low = let low = it.low in omega arith;
        some_lacks = λ e. let less = it.some_lacks e in omega arith;
        none_lacks = λ e. ap suc (it.none_lacks e);
        has_some = λ e. omega arith;
        has_none = λ e. absurd (cc);
        same_states = ap (λ rest. set ++ rest) it.same_states;
      }

  module _ (a : Automaton) where
    abbrev record_at : ℕ → Option (List FieldSet)
    record_at s = (head_at a s).fields

    abbrev fields_at : ℕ → Option (List ℕ → Option (List ℕ))
    fields_at s = option_map set_at (head_at a s).fields

    abbrev sets_in : List ℕ → List (List ℕ)
    sets_in xs = filter_map (λ s. set_in_record label (record_at s)) xs

    abbrev records_in : List ℕ → ℕ
    records_in xs = length (filter (λ s. is_some (record_at s)) xs)

    counted : (xs : List ℕ) → Counted (list_any (λ s. lacks_label label (fields_at s)) xs) (list_any (λ s. has_label label (fields_at s)) xs) (sets_in xs) (records_in xs) (flat_map (λ s. set_in label (fields_at s)) xs)
    counted [] = record { low = omega arith; some_lacks = λ e. absurd (cc); none_lacks = λ e. refl; has_some = λ e. absurd (cc); has_none = λ e. refl; same_states = refl }
    counted (x ∷ xs) =
        counted_more x (filter (λ s. is_some (record_at s)) xs) (record_at x) (list_any (λ s. lacks_label label (fields_at s)) xs) (list_any (λ s. has_label label (fields_at s)) xs) (sets_in xs) (flat_map (λ s. set_in label (fields_at s)) xs) (counted xs)

    -- which labels are shown
    shown-is : (p : Polarity) (xs : List ℕ) → 0 < length (sets_in xs) → shown_label (λ s. (head_at a s).function) fields_at p label xs ≡ is_shown p (records_in xs) (length (sets_in xs))
    shown-is Positive xs some = go (list_any (λ s. lacks_label label (fields_at s)) xs) refl
      where
        go : (b : Bool) → list_any (λ s. lacks_label label (fields_at s)) xs ≡ b → not b ≡ (length (sets_in xs) == records_in xs)
        go true e = let less = (counted xs).some_lacks e in sym (different (length (sets_in xs)) (records_in xs) less)
        go false e = sym (equal (length (sets_in xs)) (records_in xs) ((counted xs).none_lacks e))
    shown-is Negative xs some = go (list_any (λ s. has_label label (fields_at s)) xs) refl
      where
        go : (b : Bool) → list_any (λ s. has_label label (fields_at s)) xs ≡ b → b ≡ true
        go true e = refl
        go false e = let none : sets_in xs ≡ [] = (counted xs).has_none e in let low = ap length none in absurd (omega arith)

    shown_some : (p : Polarity) (xs : List ℕ) → 0 < records_in xs → shown_label (λ s. (head_at a s).function) fields_at p label xs ≡ true → 0 < length (sets_in xs)
    shown_some Positive xs some e = go (list_any (λ s. lacks_label label (fields_at s)) xs) refl e
      where
        go : (b : Bool) → list_any (λ s. lacks_label label (fields_at s)) xs ≡ b → not b ≡ true → 0 < length (sets_in xs)
        go true e it = absurd (cc)
        go false e it = let is = (counted xs).none_lacks e in omega arith
    shown_some Negative xs some e = (counted xs).has_some e

-- without a record there is none
is_record : (o : Option (List FieldSet)) → is_some (option_map set_at o) ≡ is_some o
is_record None = refl
is_record (Some fields) = refl

no_records : (a : Automaton) (xs : List ℕ) → list_any (λ s. is_some (fields_at [] a s)) xs ≡ false → records_in [] a xs ≡ 0
no_records a [] e = refl
no_records a (x ∷ xs) e = go (head_at a x).fields e (no_records a xs)
  where
    go : (o : Option (List FieldSet)) → (is_some (option_map set_at o) || list_any (λ s. is_some (fields_at [] a s)) xs) ≡ false → (list_any (λ s. is_some (fields_at [] a s)) xs ≡ false → records_in [] a xs ≡ 0)
        → length (cond (is_some o) (x ∷ filter (λ s. is_some (record_at [] a s)) xs) (filter (λ s. is_some (record_at [] a s)) xs)) ≡ 0
    go None e later = later e
    go (Some fields) e later = absurd (cc)

pub no_record_found : (a : Automaton) (p : Polarity) (xs : List ℕ) → records_in [] a xs ≡ 0 → IsRecordOf (record_of_all a p xs) None
no_record_found a p xs none = go (list_any (λ s. is_some (fields_at [] a s)) xs) refl
  where
    some_records : (xs : List ℕ) → list_any (λ s. is_some (fields_at [] a s)) xs ≡ true → 0 < records_in [] a xs
    some_records [] e = absurd (cc)
    some_records (x ∷ xs) e = by (head_at a x).fields e (some_records xs)
      where
        by : (o : Option (List FieldSet)) → (is_some (option_map set_at o) || list_any (λ s. is_some (fields_at [] a s)) xs) ≡ true → (list_any (λ s. is_some (fields_at [] a s)) xs ≡ true → 0 < records_in [] a xs)
            → 0 < length (cond (is_some o) (x ∷ filter (λ s. is_some (record_at [] a s)) xs) (filter (λ s. is_some (record_at [] a s)) xs))
        by None e later = later e
        by (Some fields) e later = omega arith

    go : (b : Bool) → list_any (λ s. is_some (fields_at [] a s)) xs ≡ b → IsRecordOf (cond b (Some (flat_set (λ s. (head_at a s).function) (fields_at [] a) p xs)) None) None
    go false e = tt
    go true e = let low = some_records xs e in absurd (omega arith)

exact : CmpEqualImpliesEq (slice_cmp nat_cmp)
exact x y e = (bytes_eq-Decides x y).0 (sym (is_eq-slice_cmp x y) ∙ ap is_eq e)

-- the fields that are shown, of a map in its order
entries_found : (p : Polarity) (n : ℕ) (es : List (List ℕ × List (List ℕ))) (f : LabelledSet) → Contains (entry_fields p n es) f
    → (e : List ℕ × List (List ℕ)) × Contains es e × (is_shown p n (length e.1) ≡ true) × (f ≡ record { label = e.0; set = flat_map (λ set. set) e.1 })
entries_found p n [] f it = let low : it.0 < 0 = it.1 in absurd (omega arith)
entries_found p n (e ∷ es) f it = go (is_shown p n (length e.1)) refl it (entries_found p n es f)
  where
    Found : Type 0
    Found = (e' : List ℕ × List (List ℕ)) × Contains (e ∷ es) e' × (is_shown p n (length e'.1) ≡ true) × (f ≡ record { label = e'.0; set = flat_map (λ set. set) e'.1 })

    Later : Type 0
    Later = (e' : List ℕ × List (List ℕ)) × Contains es e' × (is_shown p n (length e'.1) ≡ true) × (f ≡ record { label = e'.0; set = flat_map (λ set. set) e'.1 })

    later : Later → Found
    later found = (found.0, Contains-later e es found.0 found.1, found.2, found.3)

    go : (b : Bool) → is_shown p n (length e.1) ≡ b → Contains (cond b (record { label = e.0; set = flat_map (λ set. set) e.1 } ∷ entry_fields p n es) (entry_fields p n es)) f → (Contains (entry_fields p n es) f → Later) → Found
    go false fails it rest = later (rest it)
    go true passes it rest =
        elim (Contains-cases (record { label = e.0; set = flat_map (λ set. set) e.1 }) (entry_fields p n es) f it) [
          | inl is ↦ (e, Contains-here e es, passes, sym is)
          | inr more ↦ later (rest more)
        ]

found_entries : (p : Polarity) (n : ℕ) (es : List (List ℕ × List (List ℕ))) (e : List ℕ × List (List ℕ)) → Contains es e → is_shown p n (length e.1) ≡ true → Contains (map (λ f. f.label) (entry_fields p n es)) e.0
found_entries p n [] e it passes = let low : it.0 < 0 = it.1 in absurd (omega arith)
found_entries p n (first ∷ es) e it passes = go (is_shown p n (length first.1)) refl (Contains-cases first es e it) (λ later. found_entries p n es e later passes)
  where
    Found : List LabelledSet → Type 0
    Found fields = Contains (map (λ f. f.label) fields) e.0

    go : (b : Bool) → is_shown p n (length first.1) ≡ b → (first ≡ e) ⊎ Contains es e → (Contains es e → Found (entry_fields p n es)) → Found (cond b (record { label = first.0; set = flat_map (λ set. set) first.1 } ∷ entry_fields p n es) (entry_fields p n es))
    go true e' (inl is) rest = (0, omega arith, ap (λ x. x.0) is)
    go false e' (inl is) rest = let shown : is_shown p n (length first.1) ≡ true = ap (λ x. is_shown p n (length x.1)) is ∙ passes in absurd (cc)
    go true e' (inr later) rest = Contains-later first.0 (map (λ f. f.label) (entry_fields p n es)) e.0 (rest later)
    go false e' (inr later) rest = rest later

labels_all : (p : Polarity) (n : ℕ) (P : List ℕ → Type 0) (es : List (List ℕ × List (List ℕ))) → All P (map (λ e. e.0) es) → All P (map (λ f. f.label) (entry_fields p n es))
labels_all p n P [] each = each
labels_all p n P (e ∷ es) each = go (is_shown p n (length e.1)) (labels_all p n P es (All-tail P e.0 (map (λ e. e.0) es) each))
  where
    go : (b : Bool) → All P (map (λ f. f.label) (entry_fields p n es)) → All P (map (λ f. f.label) (cond b (record { label = e.0; set = flat_map (λ set. set) e.1 } ∷ entry_fields p n es) (entry_fields p n es)))
    go true later = All-cons P e.0 (map (λ f. f.label) (entry_fields p n es)) (All-head P e.0 (map (λ e. e.0) es) each) later
    go false later = later

labels_rise : (p : Polarity) (n : ℕ) (es : List (List ℕ × List (List ℕ))) → IsStrictlySortedBy (slice_cmp nat_cmp) (map (λ e. e.0) es) → AreRisingLabels (map (λ f. f.label) (entry_fields p n es))
labels_rise p n [] sorted = tt
labels_rise p n (e ∷ es) sorted = go (is_shown p n (length e.1)) (labels_rise p n es (sorted_tail (slice_cmp nat_cmp) e.0 (map (λ e. e.0) es) sorted))
  where
    go : (b : Bool) → AreRisingLabels (map (λ f. f.label) (entry_fields p n es)) → AreRisingLabels (map (λ f. f.label) (cond b (record { label = e.0; set = flat_map (λ set. set) e.1 } ∷ entry_fields p n es) (entry_fields p n es)))
    go true later = (labels_all p n (λ later. slice_cmp nat_cmp e.0 later ≡ Less) es (All-after_first (slice_cmp nat_cmp) e.0 (map (λ e. e.0) es) sorted), later)
    go false later = later

module _ (a : Automaton) (p : Polarity) (xs : List ℕ) (groups : Groups) (ordered : IsOrdered (slice_cmp nat_cmp) groups) (each : (label : List ℕ) → at groups label ≡ sets_at_label a label xs) (some : 0 < records_in [] a xs) where
  abbrev found : List LabelledSet
  found = entry_fields p (records_in [] a xs) groups.entries

  from_non_empty : (sets sets' : List (List ℕ)) → non_empty sets ≡ Some sets' → (sets ≡ sets') × (0 < length sets)
  from_non_empty [] sets' e = absurd (cc)
  from_non_empty (set ∷ sets) sets' e = (cc, omega arith)

  non_empty_some : (sets : List (List ℕ)) → 0 < length sets → non_empty sets ≡ Some sets
  non_empty_some [] low = absurd (omega arith)
  non_empty_some (set ∷ sets) low = refl

  each_found : (f : LabelledSet) → Contains found f → (set : List ℕ) × (flat_set (λ s. (head_at a s).function) (fields_at f.label a) p xs f.label ≡ Some set) × IsSameSet set f.set
  each_found f it =
      let entry = entries_found p (records_in [] a xs) groups.entries f it in
      let label : List ℕ = entry.0.0 in
      let is_at : at groups label ≡ Some entry.0.1 = (btree_map_get_iff nat_list_cmp_total exact groups ordered label entry.0.1).1 entry.1 in
      let is = from_non_empty (sets_in label a xs) entry.0.1 (sym (each label) ∙ is_at) in
      let shown : shown_label (λ s. (head_at a s).function) (fields_at label a) p label xs ≡ true = shown-is label a p xs is.1 ∙ (ap (λ sets. is_shown p (records_in label a xs) (length sets)) is.0 ∙ entry.2) in
      let states : flat_map (λ s. set_in label (fields_at label a s)) xs ≡ f.set = (counted label a xs).same_states ∙ (ap (flat_map (λ set. set)) is.0 ∙ ap (λ g. g.set) (sym entry.3)) in
      let at_label : flat_set (λ s. (head_at a s).function) (fields_at label a) p xs label ≡ Some f.set = (λ i. cond (shown i) (Some (states i)) None) in
      (f.set, subst (λ q. flat_set (λ s. (head_at a s).function) (fields_at label a) p xs q ≡ Some f.set) (ap (λ g. g.label) (sym entry.3)) at_label, ((λ s it. it), (λ s it. it)))

  all_found : (label : List ℕ) → IsSome (flat_set (λ s. (head_at a s).function) (fields_at label a) p xs label) → Contains (map (λ f. f.label) found) label
  all_found label it = go (shown_label (λ s. (head_at a s).function) (fields_at label a) p label xs) refl it
    where
      go : (b : Bool) → shown_label (λ s. (head_at a s).function) (fields_at label a) p label xs ≡ b → IsSome (cond b (Some (flat_map (λ s. set_in label (fields_at label a s)) xs)) None) → Contains (map (λ f. f.label) found) label
      go false e it = absurd (cc)
      go true e it =
          let sets : List (List ℕ) = sets_in label a xs in
          let low : 0 < length sets = shown_some label a p xs some e in
          let is_at : at groups label ≡ Some sets = each label ∙ non_empty_some sets low in
          let entry : Contains groups.entries (label, sets) = (btree_map_get_iff nat_list_cmp_total exact groups ordered label sets).0 is_at in
          found_entries p (records_in [] a xs) groups.entries (label, sets) entry (sym (shown-is label a p xs low) ∙ e)

  pub record_found : IsRecordOf (record_of_all a p xs) (Some found)
  record_found = go (list_any (λ s. is_some (fields_at [] a s)) xs) refl
    where
      go : (b : Bool) → list_any (λ s. is_some (fields_at [] a s)) xs ≡ b → IsRecordOf (cond b (Some (flat_set (λ s. (head_at a s).function) (fields_at [] a) p xs)) None) (Some found)
      go true e = record { rising = labels_rise p (records_in [] a xs) groups.entries ordered; each = each_found; all_labels = all_found }
      go false e = let none = no_records a xs e in absurd (omega arith)
