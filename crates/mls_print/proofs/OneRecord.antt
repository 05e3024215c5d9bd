-- The record of a set with one member is that of its head.
--     wholes_more   its fields, one after another
--     one_found     all of them are shown
--     one_answer    also where the set is known by its length
use Rattle.std.proofs.Common.{◌≡◌, ◌⊎◌, inl, inr, ℕ, ◌<◌, Bool, true, false, not, ◌||◌, List, [], ◌∷◌, ◌++◌, map, refl, sym, ap, ◌∙◌, subst, arith, length, take, get_or, ◌+◌, All, Contains, Some, None, append-nil}
use Rattle.std.specs.Prelude.{Option, is_some, unwrap_or, option_map, cond, find, bytes_eq, IsSome}
use Rattle.std.specs.Ordering.{nat_cmp}
use Rattle.std.specs.declared.cmp.Ordering.TheVariants.{Less}
use Rattle.std.specs.Cmp.Lexicographic.{slice_cmp}
use Rattle.std.proofs.lemmas.Slice.Eq.{bytes_eq-Decides}
use Rattle.std.proofs.lemmas.List.Elements.{All-head, All-tail, All-cons, Contains-get_or}
use Rattle.std.proofs.lemmas.List.{take_more, map-append}
use Rattle.mls_automaton.specs.declared.automaton.FieldSet.{FieldSet}
use Rattle.mls_automaton.specs.declared.automaton.Head.{Head}
use Rattle.mls_automaton.specs.declared.automaton.Polarity.{Polarity}
use Rattle.mls_automaton.specs.declared.automaton.Polarity.TheVariants.{Positive, Negative}
use Rattle.mls_automaton.specs.Automata.{Automaton, head_at}
use Rattle.mls_automaton.specs.Heads.{set_at, AreRising, IsSameSet}
use Rattle.mls_automaton.specs.Models.{HasRisingLabels}
use Rattle.mls_automaton.proofs.CombinedStates.{found_at}
use Rattle.mls_automaton.proofs.Lists.{Contains-here, Contains-later, Contains-map_back}
use Rattle.mls_print.specs.steps.Flat.{has_label, lacks_label, set_in}
use Rattle.mls_print.specs.steps.Grouping.{record_of_all, whole_field}
use Rattle.mls_print.specs.steps.Printing.{LabelledSet}
use Rattle.mls_print.specs.steps.Tables.{AreFieldsOf, IsRecordOf}
use Rattle.mls_print.specs.Shown.{AreRisingLabels}

labels_after : (label : List ℕ) (fs : List FieldSet) → All (λ (later : FieldSet). slice_cmp nat_cmp label later.label ≡ Less) fs → All (λ later. slice_cmp nat_cmp label later ≡ Less) (map (λ (f : LabelledSet). f.label) (map whole_field fs))
labels_after label [] all = λ i d low. absurd (let less : i < 0 = low in omega arith)
labels_after label (f ∷ fs) all =
    All-cons (λ later. slice_cmp nat_cmp label later ≡ Less) f.label (map (λ (f : LabelledSet). f.label) (map whole_field fs)) (All-head (λ (later : FieldSet). slice_cmp nat_cmp label later.label ≡ Less) f fs all)
    (labels_after label fs (All-tail (λ (later : FieldSet). slice_cmp nat_cmp label later.label ≡ Less) f fs all))

labels_rise : (fs : List FieldSet) → AreRising fs → AreRisingLabels (map (λ (f : LabelledSet). f.label) (map whole_field fs))
labels_rise [] rising = tt
labels_rise (f ∷ fs) rising = (labels_after f.label fs rising.0, labels_rise fs rising.1)

label_there : (fs : List FieldSet) (label : List ℕ) → IsSome (set_at fs label) → Contains (map (λ (f : LabelledSet). f.label) (map whole_field fs)) label
label_there [] label it = absurd (cc)
label_there (f ∷ fs) label it = go (bytes_eq f.label label) refl it (label_there fs label)
  where
    rest : List (List ℕ)
    rest = map (λ (f : LabelledSet). f.label) (map whole_field fs)

    go : (b : Bool) → bytes_eq f.label label ≡ b → IsSome (option_map (λ (g : FieldSet). g.set) (cond b (Some f) (find (λ (g : FieldSet). bytes_eq g.label label) fs))) → (IsSome (set_at fs label) → Contains rest label) → Contains (f.label ∷ rest) label
    go true e it later = subst (Contains (f.label ∷ rest)) ((bytes_eq-Decides f.label label).0 e) (Contains-here f.label rest)
    go false e it later = Contains-later f.label rest label (later it)

fields_are : (sets : List ℕ → Option (List ℕ)) (fs : List FieldSet) → AreRising fs → ((label : List ℕ) → sets label ≡ set_at fs label) → AreFieldsOf sets (map whole_field fs)
fields_are sets fs rising same = record {
  rising = labels_rise fs rising;
  each = λ f it. each f (Contains-map_back whole_field fs f it);
  all_labels = λ label some. label_there fs label (subst IsSome (same label) some);
}
  where
    each : (f : LabelledSet) → (x : FieldSet) × Contains fs x × (whole_field x ≡ f) → (set : List ℕ) × (sets f.label ≡ Some set) × IsSameSet set f.set
    each f it =
        let x : FieldSet = it.0 in
        let there : get_or fs it.1.0 x ≡ x = it.1.2 in
        let at : set_at fs x.label ≡ Some x.set = subst (λ (y : FieldSet). set_at fs y.label ≡ Some y.set) there (found_at fs rising it.1.0 x it.1.1) in
        (x.set, subst (λ (g : LabelledSet). sets g.label ≡ Some x.set) it.2 (same x.label ∙ at), subst (λ (g : LabelledSet). IsSameSet x.set g.set) it.2 ((λ s it. it), (λ s it. it)))

module _ (a : Automaton) (s : ℕ) (rising : HasRisingLabels (head_at a s).fields) where
  positive : (o : Option (List FieldSet)) → HasRisingLabels o
      → IsRecordOf (cond (is_some (option_map set_at o) || false) (Some (λ label. cond (not (lacks_label label (option_map set_at o) || false)) (Some (set_in label (option_map set_at o) ++ [])) None)) None) (option_map (map whole_field) o)
  positive None rise = tt
  positive (Some fs) rise = fields_are (λ label. cond (not (not (is_some (set_at fs label)) || false)) (Some (unwrap_or (set_at fs label) [] ++ [])) None) fs rise (λ label. go (set_at fs label))
    where
      go : (o : Option (List ℕ)) → cond (not (not (is_some o) || false)) (Some (unwrap_or o [] ++ [])) None ≡ o
      go None = refl
      go (Some set) = ap Some (append-nil set)

  negative : (o : Option (List FieldSet)) → HasRisingLabels o
      → IsRecordOf (cond (is_some (option_map set_at o) || false) (Some (λ label. cond (has_label label (option_map set_at o) || false) (Some (set_in label (option_map set_at o) ++ [])) None)) None) (option_map (map whole_field) o)
  negative None rise = tt
  negative (Some fs) rise = fields_are (λ label. cond (is_some (set_at fs label) || false) (Some (unwrap_or (set_at fs label) [] ++ [])) None) fs rise (λ label. go (set_at fs label))
    where
      go : (o : Option (List ℕ)) → cond (is_some o || false) (Some (unwrap_or o [] ++ [])) None ≡ o
      go None = refl
      go (Some set) = ap Some (append-nil set)

  pub one_found : (p : Polarity) → IsRecordOf (record_of_all a p (s ∷ [])) (option_map (map whole_field) (head_at a s).fields)
  one_found Positive = positive (head_at a s).fields rising
  one_found Negative = negative (head_at a s).fields rising

pub one_answer : (a : Automaton) (p : Polarity) (set : List ℕ) → length set ≡ 1 → (h : Head) → h ≡ head_at a (get_or set 0 0) → HasRisingLabels (head_at a (get_or set 0 0)).fields → (joined : Option (List LabelledSet)) → joined ≡ option_map (map whole_field) h.fields
    → IsRecordOf (record_of_all a p set) joined
one_answer a p [] one h is rising joined same = absurd (cc)
one_answer a p (s ∷ []) one h is rising joined same =
    subst (IsRecordOf (record_of_all a p (s ∷ []))) (sym (same ∙ ap (λ (g : Head). option_map (map whole_field) g.fields) is)) (one_found a s rising p)
one_answer a p (s ∷ t ∷ rest) one h is rising joined same = absurd (omega (arith, one))

-- the fields so far
pub wholes_more : (fields : List FieldSet) (i : ℕ) (field : FieldSet) (old new : List LabelledSet) → i < length fields → field ≡ get_or fields i field → old ≡ map whole_field (take i fields) → new ≡ old ++ whole_field field ∷ [] → new ≡ map whole_field (take (i + 1) fields)
wholes_more fields i field old new low at so_far is =
    is ∙ ((λ j. so_far j ++ whole_field (at j) ∷ []) ∙ sym (ap (map whole_field) (take_more fields i field low) ∙ map-append whole_field (take i fields) (get_or fields i field ∷ [])))
