-- What a tree shows, with the sets of a table in the place of those of a combined head.
--     parts_shown      a tree that shows a set shows the parts of its row
use Rattle.std.proofs.Common.{◌≡◌, ℕ, Bool, List, [], ◌∷◌, map, refl, sym, ap, ◌∙◌, subst, Contains, Some, None, arith, ◌<◌}
use Rattle.std.specs.Prelude.{Option, IsSome, is_some}
use Rattle.mls_automaton.specs.declared.automaton.Polarity.{Polarity}
use Rattle.mls_automaton.specs.declared.automaton.Arms.{Arms}
use Rattle.mls_automaton.specs.Automata.{Automaton}
use Rattle.mls_automaton.specs.Heads.{IsSameSet}
use Rattle.mls_automaton.proofs.Lists.{Contains-here, Contains-later, Contains-map_back}
use Rattle.mls_print.specs.Walks.{shown_variables}
use Rattle.mls_print.specs.Shown.{ShownFunction, ShownRecord, no_record, fields, ShownFields, no_more, field, a_set, set_head, labels_of, AreRisingLabels, Shows, ShowsFunction, ShowsRecord, ShowsFields}
use Rattle.mls_print.specs.steps.Printing.{LabelledSet}
use Rattle.mls_print.specs.steps.Tables.{IsRecordOf, IsFunctionOf}
use Rattle.mls_print.proofs.OneText.{first-label, later-label, label-some}
use Rattle.mls_print.proofs.SameShows.{all-self, shows_same, function_same}

module _ (a : Automaton) (order : List ℕ) (around : List (List ℕ)) (p : Polarity) where
  -- the fields show these sets
  abbrev pub FieldsShown : List LabelledSet → ShownFields → Type 0
  FieldsShown [] no_more = Unit {0}
  FieldsShown (f ∷ all) (field label t rest) = (label ≡ f.label) × Shows a order around p f.set t × FieldsShown all rest
  FieldsShown _ _ = ⊥

  abbrev pub RecordShown : Option (List LabelledSet) → ShownRecord → Type 0
  RecordShown None no_record = Unit {0}
  RecordShown (Some all) (fields shown) = FieldsShown all shown
  RecordShown _ _ = ⊥

-- the tree shows these parts
pub record ShowsParts (a : Automaton) (order : List ℕ) (around : List (List ℕ)) (p : Polarity) (set ws : List ℕ) (has_bool has_int : Bool) (o : Option Arms) (all : Option (List LabelledSet)) (q : Polarity) (vs : List ℕ) (b i : Bool) (f : ShownFunction) (r : ShownRecord) : Type 0 where
  pub polarity : q ≡ p
  pub variables : vs ≡ ws
  pub boolean : b ≡ has_bool
  pub integer : i ≡ has_int
  pub function : ShowsFunction a order (set ∷ around) p o f
  pub fields : RecordShown a order (set ∷ around) p all r

-- rising lists of the same labels are equal
rising-same : (xs ys : List (List ℕ)) → AreRisingLabels xs → AreRisingLabels ys → ((x : List ℕ) → Contains xs x → Contains ys x) → ((x : List ℕ) → Contains ys x → Contains xs x) → xs ≡ ys
rising-same [] [] rising rising' there back = refl
rising-same [] (y ∷ ys) rising rising' there back = let none = back y (Contains-here y ys) in let low : none.0 < 0 = none.1 in absurd (omega arith)
rising-same (x ∷ xs) [] rising rising' there back = let none = there x (Contains-here x xs) in let low : none.0 < 0 = none.1 in absurd (omega arith)
rising-same (x ∷ xs) (y ∷ ys) rising rising' there back =
    let same : x ≡ y = first-label x y xs ys rising rising' (there x (Contains-here x xs)) (back y (Contains-here y ys)) in
    λ i. same i
    ∷ rising-same xs ys rising.1 rising'.1
    (λ z h. later-label x y xs ys rising same z h (there z (Contains-later x xs z h)))
    (λ z h. later-label y x ys xs rising' (sym same) z h (back z (Contains-later y ys z h))) i

module _ (a : Automaton) (order : List ℕ) (around : List (List ℕ)) (p : Polarity) where
  fields-shown : (sets : List ℕ → Option (List ℕ)) (all : List LabelledSet) (shown : ShownFields) → labels_of shown ≡ map (λ (f : LabelledSet). f.label) all
      → ((f : LabelledSet) → Contains all f → (set : List ℕ) × (sets f.label ≡ Some set) × IsSameSet set f.set)
      → ShowsFields a order around p sets shown → FieldsShown a order around p all shown
  fields-shown sets [] no_more e each it = tt
  fields-shown sets (f ∷ all) no_more e each it = absurd (cc)
  fields-shown sets [] (field label t rest) e each it = absurd (cc)
  fields-shown sets (f ∷ all) (field label t rest) e each it =
      let same : label ≡ f.label = cc in
      let tails : labels_of rest ≡ map (λ (f : LabelledSet). f.label) all = cc in
      let own = each f (Contains-here f all) in
      let found : Some it.0 ≡ Some own.0 = sym it.1 ∙ (ap sets same ∙ own.1) in
      let equal : it.0 ≡ own.0 = cc in (
        same,
        shows_same a order around around (all-self around) p it.0 f.set (subst (λ set. IsSameSet set f.set) (sym equal) own.2) t it.2,
        fields-shown sets all rest tails (λ g there. each g (Contains-later f all g there)) it.3,
      )

  record-shown : (o : Option (List ℕ → Option (List ℕ))) (all : Option (List LabelledSet)) → IsRecordOf o all → (r : ShownRecord) → ShowsRecord a order around p o r → RecordShown a order around p all r
  record-shown None None is no_record it = tt
  record-shown None None is (fields shown) it = absurd it
  record-shown None (Some all) is r it = absurd is
  record-shown (Some sets) None is r it = absurd is
  record-shown (Some sets) (Some all) is no_record it = absurd it
  record-shown (Some sets) (Some all) is (fields shown) it =
      let labels : labels_of shown ≡ map (λ (f : LabelledSet). f.label) all =
      rising-same (labels_of shown) (map (λ (f : LabelledSet). f.label) all) it.0 is.rising
      (λ x there. is.all_labels x (label-some a order around p sets shown it.2 x there))
      (λ x there.
      let found = Contains-map_back (λ (f : LabelledSet). f.label) all x there in
      let own = is.each found.0 found.1 in
      it.1 x (subst (λ y. IsSome (sets y)) found.2 (ap (λ (o : Option (List ℕ)). is_some o) own.1))) in
      fields-shown sets all shown labels is.each it.2

-- a row has the parts of the combined head, with sets of the same members
pub parts_shown : (a : Automaton) (order : List ℕ) (around : List (List ℕ)) (p : Polarity) (set ws : List ℕ) (has_bool has_int : Bool) (o : Option Arms) (all : Option (List LabelledSet))
    → ws ≡ shown_variables a order p set → has_bool ≡ (set_head a p set).boolean → has_int ≡ (set_head a p set).integer → IsFunctionOf (set_head a p set).function o → IsRecordOf (set_head a p set).fields all
    → (q : Polarity) (vs : List ℕ) (b i : Bool) (f : ShownFunction) (r : ShownRecord) → Shows a order around p set (a_set q vs b i f r) → ShowsParts a order around p set ws has_bool has_int o all q vs b i f r
parts_shown a order around p set ws has_bool has_int o all variables boolean integer functions record_of q vs b i f r it = record {
  polarity = it.0.polarity;
  variables = it.0.variables ∙ sym variables;
  boolean = it.0.boolean ∙ sym boolean;
  integer = it.0.integer ∙ sym integer;
  function = function_same a order (set ∷ around) (set ∷ around) (all-self (set ∷ around)) p (set_head a p set).function o functions f it.1;
  fields = record-shown a order (set ∷ around) p (set_head a p set).fields all record_of r it.2;
}
