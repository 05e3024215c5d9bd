-- The constraints of a record give what the rule of records makes of its parts.
--     made, made-below, made_types-held     what schemes make whose roots have the values of a model
--     make_row
use Rattle.std.proofs.Common.{◌≡◌, ◌⊎◌, ◌↔◌, inl, inr, ℕ, ◌+◌, ◌<◌, true, false, cond, List, [], ◌∷◌, map, length, get_or, refl, sym, ap, ◌∙◌, subst, arith, Some, All, Contains, bytes_eq}
use Rattle.std.specs.Prelude.{Option, None, option_map, find, IsSome}
use Rattle.std.specs.Ordering.{nat_cmp}
use Rattle.std.specs.declared.cmp.Ordering.TheVariants.{Less}
use Rattle.std.specs.Cmp.Lexicographic.{slice_cmp}
use Rattle.std.proofs.lemmas.List.Elements.{All-head, All-tail, All-map}
use Rattle.mls_book.specs.declared.book.Field.{Field}
use Rattle.mls_book.specs.declared.book.NodeId.{NodeId}
use Rattle.mls_book.specs.declared.book.Node.{Node}
use Rattle.mls_book.specs.declared.book.Node.TheVariants as node
use Rattle.mls_book.specs.Books as books
use Rattle.mls_book.specs.Books.{IsClosedBook, field_at}
use Rattle.mls_book.specs.Predicates.{Predicate, Implies, rcd, var}
use Rattle.mls_book.specs.Passes.{passes, field_values}
use Rattle.mls_book.proofs.Constructors.{rcd-implies}
use Rattle.mls_book.proofs.Depths.{Implies-refl, Implies-trans, Implies-same}
use Rattle.mls_book.proofs.LongerBooks.{extended_with, extended-value}
use Rattle.mls_automaton.specs.declared.automaton.Polarity.TheVariants.{Positive}
use Rattle.mls_automaton.specs.declared.automaton.FieldSet.{FieldSet}
use Rattle.mls_automaton.specs.declared.scheme.Scheme.{Scheme}
use Rattle.mls_automaton.specs.Heads.{set_value, set_at, AreRising, head_value}
use Rattle.mls_automaton.proofs.Lists.{Contains-cases}
use Rattle.mls_term.specs.Terms.{TermFields, no_field, a_field}
use Rattle.mls_term.specs.Derivations.{labels_of}
use Rattle.mls_typing.specs.Typed.{IsType, IsTypeOf, EachHas, OfMake}
use Rattle.mls_infer.specs.Constraints.{HasTypes, no_goals, size, Joined, joined, positive, record_head, AreRoots, AreFieldsOf, make_constraint, AllHaveTypes}
use Rattle.mls_infer.proofs.Grown.{grown-model, model-grown}
use Rattle.mls_infer.proofs.HeadValues.{set_one, record_head-value}
use Rattle.mls_infer.proofs.ConstraintRows.{nothing_in, no_goal}
use Rattle.mls_infer.proofs.SideBySide.{AreRootsBelow, joined_each, AllHaveStates, JoinedBefore, joined_all}

-- fields of sets as fields of nodes
module _ (node_of : List ℕ → ℕ) where
  abbrev as_field : FieldSet → Field
  as_field field = record { label = field.label; node = record { 0 = node_of field.set } }

  as_rising : (fields : List FieldSet) → AreRising fields → books.AreRising (map as_field fields)
  as_rising [] rising = tt
  as_rising (field ∷ rest) rising = (All-map (λ (later : Field). slice_cmp nat_cmp field.label later.label ≡ Less) as_field rest rising.0, as_rising rest rising.1)

  field_at-as : (label : List ℕ) (fields : List FieldSet) → field_at label (map as_field fields) ≡ option_map (λ set. record { 0 = node_of set }) (set_at fields label)
  field_at-as label [] = refl
  field_at-as label (field ∷ rest) =
      elim (bytes_eq field.label label) as (λ b. option_map (λ (f : Field). f.node) (cond b (Some (as_field field)) (find (λ f. bytes_eq f.label label) (map as_field rest))) ≡ option_map (λ set. record { 0 = node_of set }) (option_map (λ (f : FieldSet). f.set) (cond b (Some field) (find (λ f. bytes_eq f.label label) rest)))) [
        | true ↦ refl
        | false ↦ field_at-as label rest
      ]

some_mapped : {X Y : Type 0} {C : Type 0} (f : X → Y) (o : Option X) → IsSome o ↔ C → IsSome (option_map f o) ↔ C
some_mapped f None h = h
some_mapped f (Some x) h = h

-- what holds of each set holds of the one that is found
set_found : (P : List ℕ → Type 0) (fields : List FieldSet) (label set : List ℕ) → All (λ field. P field.set) fields → set_at fields label ≡ Some set → P set
set_found P [] label set all e = absurd (cc)
set_found P (field ∷ rest) label set all e =
    elim (bytes_eq field.label label) as (λ b. option_map (λ (f : FieldSet). f.set) (cond b (Some field) (find (λ f. bytes_eq f.label label) rest)) ≡ Some set → P set) [
      | true ↦ λ same. let is : field.set ≡ set = cc in subst P is (All-head (λ f. P f.set) field rest all)
      | false ↦ λ later. set_found P rest label set (All-tail (λ f. P f.set) field rest all) later
    ] e

-- roots below their own values
pub roots_themselves : (value : ℕ → Predicate) (roots : List ℕ) → AreRootsBelow value roots (map value roots)
roots_themselves value [] = tt
roots_themselves value (r ∷ rs) = (Implies-refl (value r), roots_themselves value rs)

-- the types that the parts have, in their order
pub types_in_order : (types : ℕ → Predicate) (types_of : List ℕ → Option Predicate) (ps : TermFields) (xs : List Scheme) → EachHas (λ s. HasTypes (no_goals s)) ps xs types types_of → (fs : List Predicate) × AllHaveTypes types xs fs
types_in_order types types_of no_field [] each = ([], tt)
types_in_order types types_of no_field (x ∷ xs) each = absurd each
types_in_order types types_of (a_field label e rest) [] each = absurd each
types_in_order types types_of (a_field label e rest) (x ∷ xs) each =
    let later = types_in_order types types_of rest xs each.1 in
    (each.0.0 ∷ later.0, (each.0.2, later.1))

module _ (fields : List FieldSet) (types : ℕ → Predicate) where
  -- the types of the roots are those of the fields
  at_roots : (b : List Node) (T : ℕ → Predicate) (held : (s : ℕ) → IsTypeOf b (T s)) (types_of : List ℕ → Option Predicate)
      → ((label : List ℕ) (root : ℕ) → set_at fields label ≡ Some (root ∷ []) → types_of label ≡ Some (T root))
      → (ps : TermFields) (xs : List Scheme) (roots : List ℕ) → AreRoots ps roots fields → AllHaveTypes types xs (map T roots) → EachHas (λ s. HasTypes (no_goals s)) ps xs types types_of
  at_roots b T held types_of value no_field [] [] found each = tt
  at_roots b T held types_of value no_field (x ∷ xs) [] found each = absurd each
  at_roots b T held types_of value no_field [] (r ∷ rs) found each = absurd found
  at_roots b T held types_of value no_field (x ∷ xs) (r ∷ rs) found each = absurd found
  at_roots b T held types_of value (a_field label e rest) [] [] found each = absurd found
  at_roots b T held types_of value (a_field label e rest) (x ∷ xs) [] found each = absurd found
  at_roots b T held types_of value (a_field label e rest) [] (r ∷ rs) found each = absurd each
  at_roots b T held types_of value (a_field label e rest) (x ∷ xs) (r ∷ rs) found each =
      ((T r, value label r found.0, each.0), at_roots b T held types_of value rest xs rs found.1 each.1)

  -- the root of a label is below the type of the label
  root_below : (V : ℕ → Predicate) (types_of : List ℕ → Option Predicate) (ps : TermFields) (xs : List Scheme) (each : EachHas (λ s. HasTypes (no_goals s)) ps xs types types_of) (roots : List ℕ) → AreRoots ps roots fields
      → AreRootsBelow V roots (types_in_order types types_of ps xs each).0 → (label : List ℕ) → Contains (labels_of ps) label → (g : Predicate) → types_of label ≡ Some g → (root : ℕ) × (set_at fields label ≡ Some (root ∷ [])) × Implies (V root) g
  unfolding types_in_order
  root_below V types_of no_field xs each roots found below label it g e = absurd (nothing_in label it)
  root_below V types_of (a_field label' t rest) [] each roots found below label it g e = absurd each
  root_below V types_of (a_field label' t rest) (x ∷ xs) each [] found below label it g e = absurd found
  root_below V types_of (a_field label' t rest) (x ∷ xs) each (r ∷ rs) found below label it g e =
      by_case (Contains-cases label' (labels_of rest) label it) (root_below V types_of rest xs each.1 rs found.1 below.1 label)
    where
      by_case : (label' ≡ label) ⊎ Contains (labels_of rest) label → (Contains (labels_of rest) label → (g : Predicate) → types_of label ≡ Some g → (root : ℕ) × (set_at fields label ≡ Some (root ∷ [])) × Implies (V root) g) → (root : ℕ) × (set_at fields label ≡ Some (root ∷ [])) × Implies (V root) g
      by_case (inl same) later =
          let own : types_of label ≡ Some each.0.0 = ap types_of (sym same) ∙ each.0.1 in
          let is_g : each.0.0 ≡ g = some_is (sym own ∙ e) in
          (r, ap (set_at fields) (sym same) ∙ found.0, subst (Implies (V r)) is_g below.0)
        where
          some_is : {a b : Predicate} → Some a ≡ Some b → a ≡ b
          some_is h = cc
      by_case (inr inside) later = later inside g e

-- the node of the first state of a set
module _ (fields : List FieldSet) (roots : List ℕ) (single : All (λ field. (root : ℕ) × Contains roots root × (field.set ≡ root ∷ [])) fields) (b : List Node) (T : ℕ → Predicate) (held : (s : ℕ) → IsTypeOf b (T s)) where
  abbrev first_node : List ℕ → ℕ
  first_node [] = (held 0).0
  first_node (r ∷ rest) = (held r).0

  first_low : (set : List ℕ) → first_node set < length b
  first_low [] = (held 0).1
  first_low (r ∷ rest) = (held r).1

  field_value : (label : List ℕ) (root : ℕ) → set_at fields label ≡ Some (root ∷ []) → field_values (passes b) (map (as_field first_node) fields) label ≡ Some (T root)
  field_value label root e =
      ap (option_map (λ (id : NodeId). passes b id.0)) (field_at-as first_node label fields ∙ ap (option_map (λ set. record { 0 = first_node set })) e)
      ∙ ap Some (held root).2

  same_field : (label : List ℕ) (o : Option (List ℕ)) → set_at fields label ≡ o → option_map (set_value Positive T) (set_at fields label) ≡ field_values (passes b) (map (as_field first_node) fields) label
  same_field label None e =
      ap (option_map (set_value Positive T)) e
      ∙ sym (ap (option_map (λ (id : NodeId). passes b id.0)) (field_at-as first_node label fields ∙ ap (option_map (λ set. record { 0 = first_node set })) e))
  same_field label (Some set) e =
      let found : (root : ℕ) × Contains roots root × (set ≡ root ∷ []) = set_found (λ set. (root : ℕ) × Contains roots root × (set ≡ root ∷ [])) fields label set single e in
      let e' : set_at fields label ≡ Some (found.0 ∷ []) = e ∙ ap Some found.2 in
      ap (option_map (set_value Positive T)) e' ∙ (ap Some (set_one Positive T found.0) ∙ sym (field_value label found.0 e'))

some_field : (value : ℕ → Predicate) (o : Option NodeId) (g : Predicate) → option_map (λ (id : NodeId). value id.0) o ≡ Some g → IsSome o
some_field value None g e = absurd (cc)
some_field value (Some i) g e = refl

-- schemes whose roots have these values make the record of the fields
module _ (parts : TermFields) (fields : List FieldSet) (roots : List ℕ) (is : AreFieldsOf parts roots fields) (ss : List Scheme) (types : ℕ → Predicate) (f : Predicate) where
  pub made : (b : List Node) → IsClosedBook b → (T : ℕ → Predicate) → ((s : ℕ) → IsTypeOf b (T s)) → AllHaveTypes types ss (map T roots) → Implies (head_value Positive T (record_head fields)) f
      → OfMake parts (EachHas (λ s. HasTypes (no_goals s)) parts ss) types f
  made b closed T held each below =
      let first : List ℕ → ℕ = first_node fields roots is.single b T held in
      let value : (label : List ℕ) (root : ℕ) → set_at fields label ≡ Some (root ∷ []) → field_values (passes b) (map (as_field first) fields) label ≡ Some (T root) = field_value fields roots is.single b T held in
      let same : head_value Positive T (record_head fields) ≡ rcd (field_values (passes b) (map (as_field first) fields)) =
      record_head-value Positive T fields ∙ (λ k. rcd (λ label. same_field fields roots is.single b T held label (set_at fields label) refl k)) in
      record {
        book = b;
        closed = closed;
        fields = map (as_field first) fields;
        rising = as_rising first fields is.rising;
        within = All-map (λ (field : Field). field.node.0 < length b) (as_field first) fields (λ k d low. first_low fields roots is.single b T held (get_or fields k d).set);
        labels = λ label. subst (λ o. IsSome o ↔ Contains (labels_of parts) label) (sym (field_at-as first label fields)) (some_mapped (λ set. record { 0 = first set }) (set_at fields label) (is.labels label));
        each = at_roots fields types b T held (field_values (passes b) (map (as_field first) fields)) value parts ss roots is.found each;
        below = subst (λ g. Implies g f) same below;
      }

  module _ (it : OfMake parts (EachHas (λ s. HasTypes (no_goals s)) parts ss) types f) where
    abbrev pub made_record : Predicate
    made_record = rcd (field_values (passes it.book) it.fields)

    -- it is a type of a closed book
    pub made_record-held : IsType made_record
    made_record-held =
        let two = extended_with it.book (node.Rcd it.fields) it.closed it.rising (λ k d low. let below : (get_or it.fields k d).node.0 < length it.book = it.within k d low in omega arith) in
        (two.0, two.1.closed, (two.2.0, two.2.1, extended-value it.book two.0 (node.Rcd it.fields) two.2.0 it.closed two.1 it.within two.2.2 var))

    -- the types of the parts, and what the fields have where the roots are below these
    abbrev pub made_types : List Predicate
    made_types = (types_in_order types (field_values (passes it.book) it.fields) parts ss it.each).0

    pub made_types-held : AllHaveTypes types ss made_types
    made_types-held = (types_in_order types (field_values (passes it.book) it.fields) parts ss it.each).1

    pub made-below : (V : ℕ → Predicate) → AreRootsBelow V roots made_types → Implies (head_value Positive V (record_head fields)) made_record
    made-below V below =
        let types_at : List ℕ → Option Predicate = field_values (passes it.book) it.fields in
        subst (λ g. Implies g made_record) (sym (record_head-value Positive V fields))
        (rcd-implies (λ label. option_map (set_value Positive V) (set_at fields label)) types_at
        (λ label g e.
        let there : Contains (labels_of parts) label = (it.labels label).0 (some_field (passes it.book) (field_at label it.fields) g e) in
        let root = root_below fields types V types_at parts ss it.each roots is.found below label there g e in (
          set_value Positive V (root.0 ∷ []),
          ap (option_map (set_value Positive V)) root.1,
          subst (λ k. Implies k g) (sym (set_one Positive V root.0)) root.2,
        )))

module _ (parts : TermFields) (fields : List FieldSet) (ss : List Scheme) (are : AllHaveStates ss) (is : AreFieldsOf parts (joined ss).roots fields) (types : ℕ → Predicate) (f : Predicate) where
  abbrev j : Joined
  j = joined ss

  abbrev n : ℕ
  n = size j.automaton

  pub make_row : HasTypes (make_constraint fields ss) types f ↔ OfMake parts (EachHas (λ s. HasTypes (no_goals s)) parts ss) types f
  make_row = (forth, back)
    where
      forth : HasTypes (make_constraint fields ss) types f → OfMake parts (EachHas (λ s. HasTypes (no_goals s)) parts ss) types f
      forth h =
          let T : ℕ → Predicate = h.value in
          let it = grown-model j.automaton (positive (record_head fields) ∷ []) [] T h.model in
          made parts fields j.roots is ss types f h.nodes h.closed T h.held
          (joined_each ss types (map T j.roots)
          (record { nodes = h.nodes; closed = h.closed; value = T; held = h.held; model = it.0; env = h.env; roots = roots_themselves T j.roots }))
          (Implies-trans (head_value Positive T (record_head fields)) (T n) f it.1.0 h.root)

      back : OfMake parts (EachHas (λ s. HasTypes (no_goals s)) parts ss) types f → HasTypes (make_constraint fields ss) types f
      back it =
          let R : Predicate = made_record parts fields j.roots is ss types f it in
          let R_is : IsType R = made_record-held parts fields j.roots is ss types f it in
          let fs : List Predicate = made_types parts fields j.roots is ss types f it in
          let all : JoinedBefore ss types fs (λ i. R) = joined_all ss are types fs (made_types-held parts fields j.roots is ss types f it) R_is.0 R_is.1 (λ i. R) (λ i. R_is.2) in
          let V : ℕ → Predicate = all.values.value in
          let at_n : n ≡ n + 0 = omega arith in
          let V_n : V n ≡ R = ap V at_n ∙ all.behind 0 in
          record {
            nodes = all.values.nodes;
            closed = all.values.closed;
            value = V;
            held = all.values.held;
            model =
                model-grown j.automaton (positive (record_head fields) ∷ []) [] V all.values.model
                (subst (Implies (head_value Positive V (record_head fields))) (sym V_n) (made-below parts fields j.roots is ss types f it V all.values.roots), tt)
                (λ e inside. absurd (nothing_in e inside));
            goals = no_goal V;
            root = Implies-trans (V n) R f (Implies-same (V n) R V_n) it.below;
            env = all.values.env;
          }
