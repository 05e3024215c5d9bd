-- Two heads with sets of one member have one code exactly where they have the same, with states of the same classes.
--     append_split   two lists with fronts of one length
--     code_alike     heads of one code are alike
--     alike_code     alike heads have one code
use Rattle.std.proofs.Common.{◌≡◌, ◌⊎◌, inl, inr, ℕ, ◌<◌, Bool, true, false, List, [], ◌∷◌, ◌++◌, refl, sym, ap, ◌∙◌, subst, arith, length, All, Contains, Some, None, append_assoc}
use Rattle.std.specs.Prelude.{Option, option_map, cond, find, bytes_eq}
use Rattle.std.specs.List.{flat_map}
use Rattle.std.specs.Ordering.{nat_cmp}
use Rattle.std.specs.declared.cmp.Ordering.TheVariants.{Less}
use Rattle.std.specs.Cmp.Lexicographic.{slice_cmp}
use Rattle.std.proofs.lemmas.Cmp.{nat_list_cmp_total}
use Rattle.std.proofs.lemmas.Slice.Eq.{bytes_eq-Decides}
use Rattle.std.proofs.lemmas.List.Elements.{All-contains, All-head, All-tail}
use Rattle.mls_automaton.specs.declared.automaton.Arms.{Arms}
use Rattle.mls_automaton.specs.declared.automaton.FieldSet.{FieldSet}
use Rattle.mls_automaton.specs.declared.automaton.Head.{Head}
use Rattle.mls_automaton.specs.Heads.{AreRising, parts_of, set_at}
use Rattle.mls_automaton.specs.Models.{IsSingle, HasSingleArms, HasSingleFields, HasRisingLabels}
use Rattle.mls_automaton.proofs.CombinedStates.{apart, found_at}
use Rattle.mls_automaton.proofs.Lists.{Contains-here, Contains-cases}
use Rattle.mls_flow.proofs.Fields.{set_at-field}
use Rattle.mls_shape.specs.Alike.{AreSetsAlike, AreHeadsAlike}
use Rattle.mls_shape.specs.steps.Classes.{one_of, bit_code, function_code, field_code, record_code, head_code}
use Rattle.mls_shape.proofs.HeadsAlike.{AreFunctionsAlike, AreFieldsAlike, AreRecordsAlike}

abbrev first_of : List ℕ → ℕ
first_of [] = 0
first_of (x ∷ xs) = x

abbrev rest_of : List ℕ → List ℕ
rest_of [] = []
rest_of (x ∷ xs) = xs

pub append_split : (xs ys us vs : List ℕ) → length xs ≡ length ys → xs ++ us ≡ ys ++ vs → (xs ≡ ys) × (us ≡ vs)
append_split [] [] us vs size e = (refl, e)
append_split [] (y ∷ ys) us vs size e = absurd (omega arith)
append_split (x ∷ xs) [] us vs size e = absurd (omega arith)
append_split (x ∷ xs) (y ∷ ys) us vs size e =
    let rest = append_split xs ys us vs (omega arith) (ap rest_of e) in
    ((λ i. ap first_of e i ∷ rest.0 i), rest.1)

only : (x y : ℕ) → Contains (x ∷ []) y → x ≡ y
only x y there =
    elim (Contains-cases x [] y there) [
      | inl same ↦ same
      | inr none ↦ let low : none.0 < 0 = none.1 in absurd (omega arith)
    ]

different : {X : Type 0} (x y : ℕ) → x ≡ y → x < y → X
different x y same less = absurd (omega arith)

bit-same : (b c : Bool) → bit_code b ≡ bit_code c → b ≡ c
bit-same true true e = refl
bit-same false false e = refl
bit-same true false e = different 0 1 (sym e) (omega arith)
bit-same false true e = different 0 1 e (omega arith)

unlike : {X : Type 0} (xs ys : List ℕ) → 0 ∷ xs ≡ 1 ∷ ys → X
unlike xs ys e = different 0 1 (ap first_of e) (omega arith)

-- two labels cannot be below each other
never_below : (f g : FieldSet) → slice_cmp nat_cmp f.label g.label ≡ Less → f.label ≡ g.label → ⊥
never_below f g less same =
    let differ : bytes_eq f.label g.label ≡ false = apart f.label g.label less in
    let equal : bytes_eq f.label g.label ≡ true = (bytes_eq-Decides f.label g.label).1 same in
    cc

none_at : (f : FieldSet) (fs : List FieldSet) → AreRising (f ∷ fs) → (label : List ℕ) → f.label ≡ label → (o : Option (List ℕ)) → set_at fs label ≡ o → o ≡ None
none_at f fs rising label same None e = refl
none_at f fs rising label same (Some set) e =
    let it = set_at-field fs label set e in
    absurd (never_below f it.0 (All-contains (λ (later : FieldSet). slice_cmp nat_cmp f.label later.label ≡ Less) fs it.0 rising.0 it.1) (same ∙ sym it.2))

module _ (class : ℕ → ℕ) where
  abbrev pub Same : ℕ → ℕ → Type 0
  Same x y = class x ≡ class y

  one_alike : (x y : ℕ) → class x ≡ class y → AreSetsAlike Same (x ∷ []) (y ∷ [])
  one_alike x y same = (
    λ z there. (y, Contains-here y [], ap class (sym (only x z there)) ∙ same),
    λ z there. (x, Contains-here x [], same ∙ ap class (only y z there)),
  )

  alike_one : (x y : ℕ) → AreSetsAlike Same (x ∷ []) (y ∷ []) → class x ≡ class y
  alike_one x y alike = let it = alike.0 x (Contains-here x []) in it.2 ∙ ap class (sym (only y it.0 it.1))

  set_alike : (xs ys : List ℕ) → IsSingle xs → IsSingle ys → class (one_of xs) ≡ class (one_of ys) → AreSetsAlike Same xs ys
  set_alike xs ys x y same =
      subst (λ (us : List ℕ). AreSetsAlike Same us ys) (sym x.1)
      (subst (λ (vs : List ℕ). AreSetsAlike Same (x.0 ∷ []) vs) (sym y.1)
      (one_alike x.0 y.0 (sym (ap (λ us. class (one_of us)) x.1) ∙ (same ∙ ap (λ us. class (one_of us)) y.1))))

  alike_set : (xs ys : List ℕ) → IsSingle xs → IsSingle ys → AreSetsAlike Same xs ys → class (one_of xs) ≡ class (one_of ys)
  alike_set xs ys x y alike =
      ap (λ us. class (one_of us)) x.1
      ∙ (alike_one x.0 y.0 (subst (λ (us : List ℕ). AreSetsAlike Same us (y.0 ∷ [])) x.1 (subst (λ (vs : List ℕ). AreSetsAlike Same xs vs) y.1 alike))
      ∙ sym (ap (λ us. class (one_of us)) y.1))

  -- of one code
  functions_split : (o q : Option Arms) (us vs : List ℕ) → HasSingleArms o → HasSingleArms q → function_code class o ++ us ≡ function_code class q ++ vs → AreFunctionsAlike Same o q × (us ≡ vs)
  functions_split None None us vs x y e = (tt, ap rest_of e)
  functions_split None (Some g) us vs x y e = unlike us (class (one_of g.domain) ∷ class (one_of g.codomain) ∷ vs) e
  functions_split (Some f) None us vs x y e = unlike vs (class (one_of f.domain) ∷ class (one_of f.codomain) ∷ us) (sym e)
  functions_split (Some f) (Some g) us vs x y e = (
    (set_alike f.domain g.domain x.0 y.0 (ap (λ xs. first_of (rest_of xs)) e), set_alike f.codomain g.codomain x.1 y.1 (ap (λ xs. first_of (rest_of (rest_of xs))) e)),
    ap (λ xs. rest_of (rest_of (rest_of xs))) e,
  )

  -- the parts of two codes of fields
  pub fields_split : (f g : FieldSet) (us vs : List ℕ) → field_code class f ++ us ≡ field_code class g ++ vs → (f.label ≡ g.label) × (class (one_of f.set) ≡ class (one_of g.set)) × (us ≡ vs)
  fields_split f g us vs e =
      let size : length f.label ≡ length g.label = ap first_of e in
      let x : ℕ = class (one_of f.set) in
      let y : ℕ = class (one_of g.set) in
      let rest : f.label ++ x ∷ us ≡ g.label ++ y ∷ vs =
      sym (append_assoc f.label (x ∷ []) us) ∙ (ap rest_of e ∙ append_assoc g.label (y ∷ []) vs) in
      let both = append_split f.label g.label (x ∷ us) (y ∷ vs) size rest in
      (both.0, ap first_of both.1, ap rest_of both.1)

  field_at : (f g : FieldSet) (fs gs : List FieldSet) (label : List ℕ) → AreSetsAlike Same f.set g.set → AreFieldsAlike Same (set_at fs label) (set_at gs label)
      → (b : Bool) → AreFieldsAlike Same
      (option_map (λ (f : FieldSet). f.set) (cond b (Some f) (find (λ (f : FieldSet). bytes_eq f.label label) fs)))
      (option_map (λ (f : FieldSet). f.set) (cond b (Some g) (find (λ (f : FieldSet). bytes_eq f.label label) gs)))
  field_at f g fs gs label here later true = here
  field_at f g fs gs label here later false = later

  fields_alike : (fs gs : List FieldSet) → All (λ (f : FieldSet). IsSingle f.set) fs → All (λ (f : FieldSet). IsSingle f.set) gs → flat_map (field_code class) fs ≡ flat_map (field_code class) gs → (label : List ℕ) → AreFieldsAlike Same (set_at fs label) (set_at gs label)
  fields_alike [] [] x y e label = tt
  fields_alike [] (g ∷ gs) x y e label = absurd (cc)
  fields_alike (f ∷ fs) [] x y e label = absurd (cc)
  fields_alike (f ∷ fs) (g ∷ gs) x y e label =
      let it = fields_split f g (flat_map (field_code class) fs) (flat_map (field_code class) gs) e in
      subst (λ b. AreFieldsAlike Same (set_at (f ∷ fs) label) (option_map (λ (f : FieldSet). f.set) (cond b (Some g) (find (λ (f : FieldSet). bytes_eq f.label label) gs))))
      (ap (λ other. bytes_eq other label) it.0)
      (field_at f g fs gs label
      (set_alike f.set g.set (All-head (λ (f : FieldSet). IsSingle f.set) f fs x) (All-head (λ (f : FieldSet). IsSingle f.set) g gs y) it.1)
      (fields_alike fs gs (All-tail (λ (f : FieldSet). IsSingle f.set) f fs x) (All-tail (λ (f : FieldSet). IsSingle f.set) g gs y) it.2 label)
      (bytes_eq f.label label))

  records_alike : (o q : Option (List FieldSet)) → HasSingleFields o → HasSingleFields q → record_code class o ≡ record_code class q → AreRecordsAlike Same (option_map set_at o) (option_map set_at q)
  records_alike None None x y e = tt
  records_alike None (Some gs) x y e = unlike [] (flat_map (field_code class) gs) e
  records_alike (Some fs) None x y e = unlike [] (flat_map (field_code class) fs) (sym e)
  records_alike (Some fs) (Some gs) x y e = fields_alike fs gs x y (ap rest_of e)

  pub code_alike : (h k : Head) → HasSingleArms h.function × HasSingleFields h.fields → HasSingleArms k.function × HasSingleFields k.fields → head_code class h ≡ head_code class k → AreHeadsAlike Same (parts_of h) (parts_of k)
  code_alike h k x y e =
      let rest = functions_split h.function k.function (record_code class h.fields) (record_code class k.fields) x.0 y.0 (ap (λ xs. rest_of (rest_of xs)) e) in
      record {
        boolean = bit-same h.boolean k.boolean (ap first_of e);
        integer = bit-same h.integer k.integer (ap (λ xs. first_of (rest_of xs)) e);
        function = rest.0;
        fields = records_alike h.fields k.fields x.1 y.1 rest.1;
      }

  -- alike
  functions_code : (o q : Option Arms) → HasSingleArms o → HasSingleArms q → AreFunctionsAlike Same o q → function_code class o ≡ function_code class q
  functions_code None None x y alike = refl
  functions_code None (Some g) x y alike = absurd alike
  functions_code (Some f) None x y alike = absurd alike
  functions_code (Some f) (Some g) x y alike = λ i.
      1 ∷ alike_set f.domain g.domain x.0 y.0 alike.0 i ∷ alike_set f.codomain g.codomain x.1 y.1 alike.1 i ∷ []

  -- the first label of the one is the first of the other, or behind it
  first_label : (f g : FieldSet) (gs : List FieldSet) → AreRising (g ∷ gs) → (o : Option (List ℕ)) → set_at (g ∷ gs) f.label ≡ o → AreFieldsAlike Same (Some f.set) o → (g.label ≡ f.label) ⊎ (slice_cmp nat_cmp g.label f.label ≡ Less)
  first_label f g gs rising None e alike = absurd alike
  first_label f g gs rising (Some set) e alike =
      let it = set_at-field (g ∷ gs) f.label set e in
      elim (Contains-cases g gs it.0 it.1) [
        | inl same ↦ inl (ap (λ (field : FieldSet). field.label) same ∙ it.2)
        | inr later ↦ inr (subst (λ label. slice_cmp nat_cmp g.label label ≡ Less) it.2 (All-contains (λ (later : FieldSet). slice_cmp nat_cmp g.label later.label ≡ Less) gs it.0 rising.0 later))
      ]

  back : (o q : Option (List ℕ)) → AreFieldsAlike Same o q → AreFieldsAlike Same q o
  back None None alike = tt
  back None (Some ys) alike = absurd alike
  back (Some xs) None alike = absurd alike
  back (Some xs) (Some ys) alike = (
    λ y there. let it = alike.1 y there in (it.0, it.1, sym it.2),
    λ x there. let it = alike.0 x there in (it.0, it.1, sym it.2),
  )

  one_label : (f g : FieldSet) → (g.label ≡ f.label) ⊎ (slice_cmp nat_cmp g.label f.label ≡ Less) → (f.label ≡ g.label) ⊎ (slice_cmp nat_cmp f.label g.label ≡ Less) → f.label ≡ g.label
  one_label f g (inl same) other = sym same
  one_label f g (inr less) (inl same) = same
  one_label f g (inr less) (inr less') = absurd (never_below f f (nat_list_cmp_total.trans f.label g.label f.label less' less) refl)

  later_alike : (f g : FieldSet) (fs gs : List FieldSet) → AreRising (f ∷ fs) → AreRising (g ∷ gs) → f.label ≡ g.label → (label : List ℕ)
      → (b : Bool) → bytes_eq f.label label ≡ b
      → AreFieldsAlike Same
      (option_map (λ (f : FieldSet). f.set) (cond b (Some f) (find (λ (f : FieldSet). bytes_eq f.label label) fs)))
      (option_map (λ (f : FieldSet). f.set) (cond b (Some g) (find (λ (f : FieldSet). bytes_eq f.label label) gs)))
      → AreFieldsAlike Same (set_at fs label) (set_at gs label)
  later_alike f g fs gs rising rising' same label false is alike = alike
  later_alike f g fs gs rising rising' same label true is alike =
      let at : f.label ≡ label = (bytes_eq-Decides f.label label).0 is in
      let first : set_at fs label ≡ None = none_at f fs rising label at (set_at fs label) refl in
      let second : set_at gs label ≡ None = none_at g gs rising' label (sym same ∙ at) (set_at gs label) refl in
      subst (λ o. AreFieldsAlike Same o (set_at gs label)) (sym first) (subst (λ q. AreFieldsAlike Same None q) (sym second) tt)

  pub fields_code : (fs gs : List FieldSet) → AreRising fs → AreRising gs → All (λ (f : FieldSet). IsSingle f.set) fs → All (λ (f : FieldSet). IsSingle f.set) gs → ((label : List ℕ) → AreFieldsAlike Same (set_at fs label) (set_at gs label)) → flat_map (field_code class) fs ≡ flat_map (field_code class) gs
  fields_code [] [] rising rising' x y alike = refl
  fields_code [] (g ∷ gs) rising rising' x y alike =
      let at : set_at (g ∷ gs) g.label ≡ Some g.set = found_at (g ∷ gs) rising' 0 g (omega arith) in
      absurd (subst (λ q. AreFieldsAlike Same None q) at (alike g.label))
  fields_code (f ∷ fs) [] rising rising' x y alike =
      let at : set_at (f ∷ fs) f.label ≡ Some f.set = found_at (f ∷ fs) rising 0 f (omega arith) in
      absurd (subst (λ o. AreFieldsAlike Same o None) at (alike f.label))
  fields_code (f ∷ fs) (g ∷ gs) rising rising' x y alike =
      let at : set_at (f ∷ fs) f.label ≡ Some f.set = found_at (f ∷ fs) rising 0 f (omega arith) in
      let at' : set_at (g ∷ gs) g.label ≡ Some g.set = found_at (g ∷ gs) rising' 0 g (omega arith) in
      let one = first_label f g gs rising' (set_at (g ∷ gs) f.label) refl (subst (λ o. AreFieldsAlike Same o (set_at (g ∷ gs) f.label)) at (alike f.label)) in
      let other = first_label g f fs rising (set_at (f ∷ fs) g.label) refl
      (back (set_at (f ∷ fs) g.label) (Some g.set) (subst (λ q. AreFieldsAlike Same (set_at (f ∷ fs) g.label) q) at' (alike g.label))) in
      let same : f.label ≡ g.label = one_label f g one other in
      let sets : AreFieldsAlike Same (Some f.set) (Some g.set) =
      subst (λ o. AreFieldsAlike Same o (Some g.set)) (ap (set_at (f ∷ fs)) (sym same) ∙ at)
      (subst (λ q. AreFieldsAlike Same (set_at (f ∷ fs) g.label) q) at' (alike g.label)) in
      let class_same : class (one_of f.set) ≡ class (one_of g.set) =
      alike_set f.set g.set (All-head (λ (f : FieldSet). IsSingle f.set) f fs x) (All-head (λ (f : FieldSet). IsSingle f.set) g gs y) sets in
      let rest : flat_map (field_code class) fs ≡ flat_map (field_code class) gs =
      fields_code fs gs rising.1 rising'.1 (All-tail (λ (f : FieldSet). IsSingle f.set) f fs x) (All-tail (λ (f : FieldSet). IsSingle f.set) g gs y)
      (λ label.
      later_alike f g fs gs rising rising' same label (bytes_eq f.label label) refl
      (subst (λ b. AreFieldsAlike Same (set_at (f ∷ fs) label) (option_map (λ (f : FieldSet). f.set) (cond b (Some g) (find (λ (f : FieldSet). bytes_eq f.label label) gs))))
      (sym (ap (λ other. bytes_eq other label) same)) (alike label))) in
      λ i. (length (same i) ∷ same i ++ class_same i ∷ []) ++ rest i

  records_code : (o q : Option (List FieldSet)) → HasRisingLabels o → HasRisingLabels q → HasSingleFields o → HasSingleFields q → AreRecordsAlike Same (option_map set_at o) (option_map set_at q) → record_code class o ≡ record_code class q
  records_code None None rising rising' x y alike = refl
  records_code None (Some gs) rising rising' x y alike = absurd alike
  records_code (Some fs) None rising rising' x y alike = absurd alike
  records_code (Some fs) (Some gs) rising rising' x y alike = ap (λ xs. 1 ∷ xs) (fields_code fs gs rising rising' x y alike)

  pub alike_code : (h k : Head) → HasRisingLabels h.fields → HasRisingLabels k.fields → HasSingleArms h.function × HasSingleFields h.fields → HasSingleArms k.function × HasSingleFields k.fields → AreHeadsAlike Same (parts_of h) (parts_of k) → head_code class h ≡ head_code class k
  alike_code h k rising rising' x y alike = λ i.
      bit_code (alike.boolean i) ∷ bit_code (alike.integer i) ∷ functions_code h.function k.function x.0 y.0 alike.function i
      ++ records_code h.fields k.fields rising rising' x.1 y.1 alike.fields i
