-- States are numbered by their keys, one after another.
--     adds_unknown, adds_known    a key that gets the next number, and one that has a number
--     numbering_none    no state yet
--     numbering_more    one more state
--     numbered_classes  two states have one number where they have one key
use Rattle.std.proofs.Common.{◌≡◌, ◌≢◌, inl, inr, ℕ, ◌+◌, ◌<◌, Bool, true, false, List, [], ◌∷◌, ◌++◌, refl, sym, ap, ◌∙◌, subst, arith, length, get_or, Some, None}
use Rattle.std.specs.Prelude.{cond, bytes_eq, unwrap_or}
use Rattle.std.specs.BTreeMap.{Updates}
use Rattle.std.specs.Ordering.{nat_cmp}
use Rattle.std.specs.Cmp.Lexicographic.{slice_cmp}
use Rattle.std.proofs.lemmas.Map.Text.{is_eq-slice_cmp}
use Rattle.std.proofs.lemmas.Slice.Eq.{bytes_eq-Decides}
use Rattle.std.proofs.lemmas.List.{get_or_append_left, length-append}
use Rattle.std.proofs.Math.Nat.{eq-or-lt_of_le}
use Rattle.std.proofs.Math.Seq.{get_or-append_seam}
use Rattle.mls_automaton.specs.Automata.{Automaton}
use Rattle.mls_shape.specs.declared.numbering.Numbering.{Numbering}
use Rattle.mls_shape.specs.steps.Classes.{class_in, known_in, IsKnown, IsUnknown, AddsKey, IsNumbering, AreClassesBy}
use Rattle.mls_shape.proofs.Registered.{is_next, is_given}
use Rattle.mls_shape.proofs.FromLast.{same_again}

-- a key gets the next number where it has none
module _ (old new : Numbering) (key : List ℕ) (number : ℕ) (is : number ≡ unwrap_or (known_in old key) (length old.classes.chosen.items))
    (numbers : new.classes.numbers.items ≡ old.classes.numbers.items ++ number ∷ []) (updates : Updates (slice_cmp nat_cmp) old.known new.known key (Some number)) where
  pub adds_unknown : ((k : ℕ) → known_in old key ≡ Some k → k < length old.classes.chosen.items) → number ≡ length old.classes.chosen.items
      → new.classes.chosen.items ≡ old.classes.chosen.items ++ length old.classes.numbers.items ∷ [] → AddsKey key old new
  adds_unknown below next chosen = record {
    number = number;
    numbers = numbers;
    how = inr (record {
      absent = is_next (known_in old key) (length old.classes.chosen.items) below (sym is ∙ next);
      next = next;
      chosen = chosen;
      added = λ other. updates.0 other ∙ ap (λ b. cond b (Some number) (known_in old other)) (is_eq-slice_cmp key other);
    });
  }

  pub adds_known : number ≢ length old.classes.chosen.items → new.classes.chosen.items ≡ old.classes.chosen.items → AddsKey key old new
  adds_known apart chosen =
      let found : known_in old key ≡ Some number = is_given (known_in old key) number (length old.classes.chosen.items) is apart in
      record {
        number = number;
        numbers = numbers;
        how = inl (record { found = found; chosen = chosen; same = same_again old.known new.known key number found updates });
      }

module _ (IsKey : ℕ → List ℕ → Type 0) where
  pub numbering_none : (numbering : Numbering) → numbering.classes.numbers.items ≡ [] → numbering.classes.chosen.items ≡ [] → ((key : List ℕ) → known_in numbering key ≡ None) → IsNumbering IsKey 0 numbering
  numbering_none numbering numbers chosen known = record {
    size = ap length numbers;
    keyed = λ s low. absurd (omega arith);
    found = λ key k e. let none : known_in numbering key ≡ None = known key in absurd (cc);
    chosen = λ k low. let size : length numbering.classes.chosen.items ≡ 0 = ap length chosen in absurd (omega arith);
  }

  module _ (n : ℕ) (old new : Numbering) (is : IsNumbering IsKey n old) (key : List ℕ) (has : IsKey n key) (adds : AddsKey key old new) where
    abbrev before : List ℕ
    before = old.classes.numbers.items

    abbrev after : List ℕ
    after = new.classes.numbers.items

    abbrev firsts : List ℕ
    firsts = old.classes.chosen.items

    abbrev firsts' : List ℕ
    firsts' = new.classes.chosen.items

    size : length after ≡ n + 1
    size = ap length adds.numbers ∙ (length-append before (adds.number ∷ []) ∙ ap (λ k. k + 1) is.size)

    early : (s : ℕ) → s < n → class_in after s ≡ class_in before s
    early s low =
        let whole = is.size in
        ap (λ xs. get_or xs s 0) adds.numbers ∙ get_or_append_left before (adds.number ∷ []) 0 s (omega arith)

    last : class_in after n ≡ adds.number
    last = subst (λ k. class_in after k ≡ adds.number) is.size (ap (λ xs. get_or xs (length before) 0) adds.numbers ∙ get_or-append_seam before adds.number [] 0)

    -- the key was met
    module _ (known : IsKnown key adds.number old new) where
      known_more : IsNumbering IsKey (n + 1) new
      known_more = record {
        size = size;
        keyed = λ s low.
            elim (eq-or-lt_of_le (omega arith)) [
              | inl same ↦ subst (λ s. (other : List ℕ) × IsKey s other × (known_in new other ≡ Some (class_in after s))) (sym same) (key, has, known.same key ∙ (known.found ∙ ap Some (sym last)))
              | inr less ↦ let it = is.keyed s less in (it.0, it.1, known.same it.0 ∙ (it.2 ∙ ap Some (sym (early s less))))
            ];
        found = λ other k e.
            let it = is.found other k (sym (known.same other) ∙ e) in
            subst (λ (xs : List ℕ). (k < length xs) × IsKey (get_or xs k 0) other) (sym known.chosen) it;
        chosen = λ k low.
            let it = is.chosen k (subst (λ (xs : List ℕ). k < length xs) known.chosen low) in
            let first : get_or firsts k 0 < n = it.0 in
            subst (λ (xs : List ℕ). (get_or xs k 0 < n + 1) × (class_in after (get_or xs k 0) ≡ k)) (sym known.chosen)
            (omega arith, early (get_or firsts k 0) first ∙ it.1);
      }

    -- it was not
    module _ (unknown : IsUnknown key adds.number old new) where
      next : ℕ
      next = length firsts

      count : length firsts' ≡ length firsts + 1
      count = ap length unknown.chosen ∙ length-append firsts (length before ∷ [])

      top : known_in new key ≡ Some adds.number
      top = unknown.added key ∙ ap (λ b. cond b (Some adds.number) (known_in old key)) ((bytes_eq-Decides key key).1 refl)

      others : (other : List ℕ) (k : ℕ) → known_in old other ≡ Some k → known_in new other ≡ Some k
      others other k e = unknown.added other ∙ by (bytes_eq key other) refl
        where
          by : (b : Bool) → bytes_eq key other ≡ b → cond b (Some adds.number) (known_in old other) ≡ Some k
          by false is' = e
          by true is' =
              let equal : key ≡ other = (bytes_eq-Decides key other).0 is' in
              let none : known_in old other ≡ None = ap (known_in old) (sym equal) ∙ unknown.absent in
              absurd (cc)

      first_early : (k : ℕ) → k < length firsts → get_or firsts' k 0 ≡ get_or firsts k 0
      first_early k low = ap (λ xs. get_or xs k 0) unknown.chosen ∙ get_or_append_left firsts (length before ∷ []) 0 k low

      first_last : get_or firsts' (length firsts) 0 ≡ n
      first_last = ap (λ xs. get_or xs (length firsts) 0) unknown.chosen ∙ (get_or-append_seam firsts (length before) [] 0 ∙ is.size)

      found_more : (other : List ℕ) (k : ℕ) → known_in new other ≡ Some k → (k < length firsts') × IsKey (get_or firsts' k 0) other
      found_more other k e = by (bytes_eq key other) refl (sym (unknown.added other) ∙ e)
        where
          by : (b : Bool) → bytes_eq key other ≡ b → cond b (Some adds.number) (known_in old other) ≡ Some k → (k < length firsts') × IsKey (get_or firsts' k 0) other
          by false is' e =
              let it = is.found other k e in
              let low : k < length firsts = it.0 in
              let more = count in
              (omega arith, subst (λ s. IsKey s other) (sym (first_early k low)) it.1)
          by true is' e =
              let equal : key ≡ other = (bytes_eq-Decides key other).0 is' in
              let number : adds.number ≡ k = cc in
              let at : length firsts ≡ k = sym unknown.next ∙ number in
              let more = count in
              (omega arith, subst (λ j. IsKey (get_or firsts' j 0) other) at (subst (λ s. IsKey s other) (sym first_last) (subst (IsKey n) equal has)))

      chosen_more : (k : ℕ) → k < length firsts' → (get_or firsts' k 0 < n + 1) × (class_in after (get_or firsts' k 0) ≡ k)
      chosen_more k low =
          let more = count in
          elim (eq-or-lt_of_le (omega arith)) [
            | inl same ↦
                subst (λ k. (get_or firsts' k 0 < n + 1) × (class_in after (get_or firsts' k 0) ≡ k)) (sym same)
                (subst (λ s. (s < n + 1) × (class_in after s ≡ length firsts)) (sym first_last) (omega arith, last ∙ unknown.next))
            | inr less ↦
                let it = is.chosen k less in
                let first : get_or firsts k 0 < n = it.0 in
                subst (λ s. (s < n + 1) × (class_in after s ≡ k)) (sym (first_early k less)) (omega arith, early (get_or firsts k 0) first ∙ it.1)
          ]

      unknown_more : IsNumbering IsKey (n + 1) new
      unknown_more = record {
        size = size;
        keyed = λ s low.
            elim (eq-or-lt_of_le (omega arith)) [
              | inl same ↦ subst (λ s. (other : List ℕ) × IsKey s other × (known_in new other ≡ Some (class_in after s))) (sym same) (key, has, top ∙ ap Some (sym last))
              | inr less ↦ let it = is.keyed s less in (it.0, it.1, others it.0 (class_in before s) it.2 ∙ ap Some (sym (early s less)))
            ];
        found = found_more;
        chosen = chosen_more;
      }

    pub numbering_more : IsNumbering IsKey (n + 1) new
    numbering_more = elim adds.how [ inl known ↦ known_more known | inr unknown ↦ unknown_more unknown ]

  -- all states
  module _ (a : Automaton) (IsSuch : ℕ → ℕ → Type 0) (unique : (s : ℕ) (key other : List ℕ) → IsKey s key → IsKey s other → key ≡ other)
      (to : (i j : ℕ) (key : List ℕ) → IsKey i key → IsKey j key → IsSuch i j) (from : (i j : ℕ) (key : List ℕ) → IsSuch i j → IsKey i key → IsKey j key)
      (numbering : Numbering) (is : IsNumbering IsKey (length a.states) numbering) where
    abbrev numbers : List ℕ
    numbers = numbering.classes.numbers.items

    forth : (i j : ℕ) → i < length a.states → j < length a.states → class_in numbers i ≡ class_in numbers j → IsSuch i j
    forth i j low low' same =
        let one = is.keyed i low in
        let two = is.keyed j low' in
        let first = is.found one.0 (class_in numbers i) one.2 in
        let second = is.found two.0 (class_in numbers i) (two.2 ∙ ap Some (sym same)) in
        let equal : one.0 ≡ two.0 = unique (get_or numbering.classes.chosen.items (class_in numbers i) 0) one.0 two.0 first.1 second.1 in
        to i j one.0 one.1 (subst (IsKey j) (sym equal) two.1)

    back : (i j : ℕ) → i < length a.states → j < length a.states → IsSuch i j → class_in numbers i ≡ class_in numbers j
    back i j low low' such =
        let one = is.keyed i low in
        let two = is.keyed j low' in
        let equal : one.0 ≡ two.0 = unique j one.0 two.0 (from i j one.0 such one.1) two.1 in
        let some : Some (class_in numbers i) ≡ Some (class_in numbers j) = sym one.2 ∙ (ap (known_in numbering) equal ∙ two.2) in
        cc

    pub numbered_classes : AreClassesBy a IsSuch numbering.classes
    numbered_classes = record {
      size = is.size;
      low = λ s low. let one = is.keyed s low in (is.found one.0 (class_in numbers s) one.2).0;
      chosen = is.chosen;
      classes = λ i j low low'. (forth i j low low', back i j low low');
    }
