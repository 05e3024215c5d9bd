-- Alike heads name related states at the same places.
use Rattle.std.proofs.Common.{◌≡◌, ℕ, suc, zero, ◌<◌, List, [], ◌∷◌, ◌++◌, refl, sym, ap, ◌∙◌, subst, arith, length, map, get_or, All, Contains, Some, None}
use Rattle.std.specs.Prelude.{Option, option_map}
use Rattle.std.specs.List.{flat_map}
use Rattle.std.proofs.lemmas.List.{get_or-map, length-map}
use Rattle.mls_automaton.specs.declared.automaton.Arms.{Arms}
use Rattle.mls_automaton.specs.declared.automaton.FieldSet.{FieldSet}
use Rattle.mls_automaton.specs.declared.automaton.Head.{Head}
use Rattle.mls_automaton.specs.Heads.{AreRising, parts_of, set_at}
use Rattle.mls_automaton.specs.Models.{HasRisingLabels, HasSingleArms, HasSingleFields, IsSingle}
use Rattle.mls_automaton.proofs.CombinedStates.{found_at}
use Rattle.mls_automaton.proofs.Lists.{Contains-here}
use Rattle.mls_shape.specs.Alike.{AreHeadsAlike, AreSetsAlike}
use Rattle.mls_shape.specs.steps.Classes.{field_code, one_of}
use Rattle.mls_shape.specs.steps.Graphs.{children, field_children, function_children}
use Rattle.mls_shape.proofs.HeadCodes.{fields_code, fields_split, Same}
use Rattle.mls_shape.proofs.HeadsAlike.{alike-more, AreFieldsAlike, AreFunctionsAlike, AreRecordsAlike}
use Rattle.mls_shape.proofs.Refining.{only}

-- lists of one length with related elements at each place
abbrev pub AreRelated : (ℕ → ℕ → Type 0) → List ℕ → List ℕ → Type 0
AreRelated R xs ys = (length xs ≡ length ys) × ((i : ℕ) → i < length xs → R (get_or xs i 0) (get_or ys i 0))

related_first : (R : ℕ → ℕ → Type 0) (x y : ℕ) (xs ys : List ℕ) → R x y → AreRelated R xs ys → AreRelated R (x ∷ xs) (y ∷ ys)
related_first R x y xs ys first rest = (ap suc rest.0, at)
  where
    at : (i : ℕ) → i < length (x ∷ xs) → R (get_or (x ∷ xs) i 0) (get_or (y ∷ ys) i 0)
    at zero low = first
    at (suc i) low = rest.1 i (omega arith)

related_append : (R : ℕ → ℕ → Type 0) (xs ys us vs : List ℕ) → AreRelated R xs ys → AreRelated R us vs → AreRelated R (xs ++ us) (ys ++ vs)
related_append R [] [] us vs first second = second
related_append R [] (y ∷ ys) us vs first second = let same : 0 ≡ suc (length ys) = first.0 in absurd (omega arith)
related_append R (x ∷ xs) [] us vs first second = let same : suc (length xs) ≡ 0 = first.0 in absurd (omega arith)
related_append R (x ∷ xs) (y ∷ ys) us vs first second =
    let size : suc (length xs) ≡ suc (length ys) = first.0 in
    related_first R x y (xs ++ us) (ys ++ vs) (first.1 0 (omega arith))
    (related_append R xs ys us vs (omega arith, λ i low. first.1 (suc i) (omega arith)) second)

abbrev one_class : ℕ → ℕ
one_class s = 0

-- fields of one code have the same labels
abbrev HaveSameLabels : List FieldSet → List FieldSet → Type 0
HaveSameLabels fs gs = (length fs ≡ length gs) × ((i : ℕ) (d : FieldSet) → i < length fs → (get_or fs i d).label ≡ (get_or gs i d).label)

first_same : (f g : FieldSet) (fs gs : List FieldSet) → f.label ≡ g.label → HaveSameLabels fs gs → HaveSameLabels (f ∷ fs) (g ∷ gs)
first_same f g fs gs first rest = (ap suc rest.0, at)
  where
    at : (i : ℕ) (d : FieldSet) → i < length (f ∷ fs) → (get_or (f ∷ fs) i d).label ≡ (get_or (g ∷ gs) i d).label
    at zero d low = first
    at (suc i) d low = rest.1 i d (omega arith)

labels_same : (fs gs : List FieldSet) → flat_map (field_code one_class) fs ≡ flat_map (field_code one_class) gs → HaveSameLabels fs gs
labels_same [] [] e = (refl, λ i d low. refl)
labels_same [] (g ∷ gs) e = absurd (cc)
labels_same (f ∷ fs) [] e = absurd (cc)
labels_same (f ∷ fs) (g ∷ gs) e =
    let parts = fields_split one_class f g (flat_map (field_code one_class) fs) (flat_map (field_code one_class) gs) e in
    first_same f g fs gs parts.0 (labels_same fs gs parts.2)

module _ (R : ℕ → ℕ → Type 0) where
  sets_related : (xs ys : List ℕ) → IsSingle xs → IsSingle ys → AreSetsAlike R xs ys → R (one_of xs) (one_of ys)
  sets_related xs ys x y alike =
      subst (λ (us : List ℕ). R (one_of us) (one_of ys)) (sym x.1)
      (subst (λ (vs : List ℕ). R x.0 (one_of vs)) (sym y.1)
      (let it = alike.0 x.0 (subst (λ (us : List ℕ). Contains us x.0) (sym x.1) (Contains-here x.0 [])) in
      subst (R x.0) (sym (only y.0 it.0 (subst (λ (vs : List ℕ). Contains vs it.0) y.1 it.1))) it.2))

  functions_related : (o q : Option Arms) → HasSingleArms o → HasSingleArms q → AreFunctionsAlike R o q → AreRelated R (function_children o) (function_children q)
  functions_related None None one two alike = (refl, λ i low. absurd (omega arith))
  functions_related None (Some g) one two alike = absurd alike
  functions_related (Some f) None one two alike = absurd alike
  functions_related (Some f) (Some g) one two alike = (refl, at)
    where
      at : (i : ℕ) → i < 2 → R (get_or (one_of f.domain ∷ one_of f.codomain ∷ []) i 0) (get_or (one_of g.domain ∷ one_of g.codomain ∷ []) i 0)
      at zero low = sets_related f.domain g.domain one.0 two.0 alike.0
      at (suc zero) low = sets_related f.codomain g.codomain one.1 two.1 alike.1
      at (suc (suc i)) low = absurd (omega arith)

  fields_related : (fs gs : List FieldSet) → AreRising fs → AreRising gs → All (λ (f : FieldSet). IsSingle f.set) fs → All (λ (f : FieldSet). IsSingle f.set) gs
      → ((label : List ℕ) → AreFieldsAlike R (set_at fs label) (set_at gs label)) → ((label : List ℕ) → AreFieldsAlike (Same one_class) (set_at fs label) (set_at gs label))
      → AreRelated R (map (λ (f : FieldSet). one_of f.set) fs) (map (λ (f : FieldSet). one_of f.set) gs)
  fields_related fs gs rising rising' one two alike shape = (length-map fs member ∙ (labels.0 ∙ sym (length-map gs member)), at)
    where
      member : FieldSet → ℕ
      member f = one_of f.set

      none : FieldSet
      none = record { label = []; set = [] }

      labels : HaveSameLabels fs gs
      labels = labels_same fs gs (fields_code one_class fs gs rising rising' one two shape)

      at : (i : ℕ) → i < length (map member fs) → R (get_or (map member fs) i 0) (get_or (map member gs) i 0)
      at i inside =
          let size = length-map fs member in
          let same = labels.0 in
          let low : i < length fs = omega arith in
          let low' : i < length gs = omega arith in
          let f : FieldSet = get_or fs i none in
          let g : FieldSet = get_or gs i none in
          let first : set_at fs f.label ≡ Some f.set = found_at fs rising i none low in
          let second : set_at gs f.label ≡ Some g.set = ap (set_at gs) (labels.1 i none low) ∙ found_at gs rising' i none low' in
          let sets : AreSetsAlike R f.set g.set =
          subst (λ o. AreFieldsAlike R o (Some g.set)) first (subst (λ q. AreFieldsAlike R (set_at fs f.label) q) second (alike f.label)) in
          subst (λ x. R x (get_or (map member gs) i 0)) (sym (get_or-map member fs i none 0 low))
          (subst (R (member f)) (sym (get_or-map member gs i none 0 low'))
          (sets_related f.set g.set (one i none low) (two i none low') sets))

  records_related : (o q : Option (List FieldSet)) → HasRisingLabels o → HasRisingLabels q → HasSingleFields o → HasSingleFields q
      → AreRecordsAlike R (option_map set_at o) (option_map set_at q) → AreRecordsAlike (Same one_class) (option_map set_at o) (option_map set_at q) → AreRelated R (field_children o) (field_children q)
  records_related None None rising rising' one two alike shape = (refl, λ i low. absurd (omega arith))
  records_related None (Some gs) rising rising' one two alike shape = absurd alike
  records_related (Some fs) None rising rising' one two alike shape = absurd alike
  records_related (Some fs) (Some gs) rising rising' one two alike shape = fields_related fs gs rising rising' one two alike shape

  pub children_related : (h k : Head) → HasRisingLabels h.fields → HasRisingLabels k.fields → HasSingleArms h.function × HasSingleFields h.fields → HasSingleArms k.function × HasSingleFields k.fields
      → AreHeadsAlike R (parts_of h) (parts_of k) → AreRelated R (children h) (children k)
  children_related h k rising rising' one two alike =
      let shape : AreHeadsAlike (Same one_class) (parts_of h) (parts_of k) = alike-more R (Same one_class) (λ x y it. refl) (parts_of h) (parts_of k) alike in
      related_append R (function_children h.function) (function_children k.function) (field_children h.fields) (field_children k.fields)
      (functions_related h.function k.function one.0 two.0 alike.function)
      (records_related h.fields k.fields rising rising' one.1 two.1 alike.fields shape.fields)
