-- What a head with one state for each of its sets has of the head that it comes from.
--     row_in        the states that it names are such, where the sets are
--     row_labels    its labels rise
--     row_single    each of its sets has one member
--     row_spread    with the members of the sets in place of their numbers it has the same
use Rattle.std.proofs.Common.{◌≡◌, ℕ, arith, Bool, true, false, List, [], ◌∷◌, sym, ap, ◌∙◌, subst, All, Contains, Some, None, append-nil}
use Rattle.std.specs.Prelude.{Option, option_map, cond, find, bytes_eq}
use Rattle.std.specs.List.{flat_map}
use Rattle.std.specs.Ordering.{nat_cmp}
use Rattle.std.specs.declared.cmp.Ordering.TheVariants.{Less}
use Rattle.std.specs.Cmp.Lexicographic.{slice_cmp}
use Rattle.std.proofs.lemmas.List.Elements.{All-cons, All-head, All-tail}
use Rattle.mls_automaton.specs.declared.automaton.Polarity.{Polarity}
use Rattle.mls_automaton.specs.declared.automaton.Arms.{Arms}
use Rattle.mls_automaton.specs.declared.automaton.FieldSet.{FieldSet}
use Rattle.mls_automaton.specs.declared.automaton.Head.{Head}
use Rattle.mls_automaton.specs.Automata.{opposite}
use Rattle.mls_automaton.specs.Heads.{AreRising, parts_of, IsSameSet, IsSameOption, IsSameParts}
use Rattle.mls_automaton.specs.Heads as head
use Rattle.mls_automaton.specs.Models.{HasArmsIn, HasFieldsIn, HasStatesIn, HasRisingLabels, IsSingle, HasSingleArms, HasSingleFields}
use Rattle.mls_automaton.proofs.Lists.{All-one}
use Rattle.mls_shape.specs.declared.register.SetState.{SetState}
use Rattle.mls_shape.specs.Determinised.{spread_arms, spread}
use Rattle.mls_shape.specs.steps.Edges.{set_at}
use Rattle.mls_shape.specs.steps.Registers.{IsAt}
use Rattle.mls_shape.specs.steps.NumberedHeads.{IsOne, IsFunctionOf, AreFieldsOf, IsRecordOf, IsHeadOf}

module _ (sets : List SetState) where
  module _ (S R : Polarity → ℕ → Type 0) (named : (q : Polarity) (n : ℕ) (members : List ℕ) → IsAt sets n q members → All (S q) members → R q n) where
    one_in : (q : Polarity) (members set : List ℕ) → All (S q) members → IsOne sets q members set → All (R q) set
    one_in q members set each one = subst (All (R q)) (sym one.1) (All-one (R q) one.0 (named q one.0 members one.2 each))

    function_in : (p : Polarity) (function row : Option Arms) → HasArmsIn S p function → IsFunctionOf sets p function row → HasArmsIn R p row
    function_in p None None each is = tt
    function_in p (Some f) (Some g) each is = (one_in (opposite p) f.domain g.domain each.0 is.0, one_in p f.codomain g.codomain each.1 is.1)
    function_in p None (Some g) each is = absurd is
    function_in p (Some f) None each is = absurd is

    fields_in : (p : Polarity) (fields row : List FieldSet) → All (λ (f : FieldSet). All (S p) f.set) fields → AreFieldsOf sets p fields row → All (λ (f : FieldSet). All (R p) f.set) row
    fields_in p [] [] each is = λ k d low. absurd (omega arith)
    fields_in p (f ∷ fields) (g ∷ row) each is =
        All-cons (λ (f : FieldSet). All (R p) f.set) g row
        (one_in p f.set g.set (All-head (λ (f : FieldSet). All (S p) f.set) f fields each) is.1)
        (fields_in p fields row (All-tail (λ (f : FieldSet). All (S p) f.set) f fields each) is.2)
    fields_in p [] (g ∷ row) each is = absurd is
    fields_in p (f ∷ fields) [] each is = absurd is

    record_in : (p : Polarity) (fields row : Option (List FieldSet)) → HasFieldsIn S p fields → IsRecordOf sets p fields row → HasFieldsIn R p row
    record_in p None None each is = tt
    record_in p (Some fields) (Some row) each is = fields_in p fields row each is
    record_in p None (Some row) each is = absurd is
    record_in p (Some fields) None each is = absurd is

    pub row_in : (p : Polarity) (head row : Head) → HasStatesIn S p head → IsHeadOf sets p head row → HasStatesIn R p row
    row_in p head row each is = record {
      function = function_in p head.function row.function each.function is.function;
      fields = record_in p head.fields row.fields each.fields is.fields;
    }

  -- labels
  labels_in : (P : List ℕ → Type 0) (p : Polarity) (fields row : List FieldSet) → All (λ (f : FieldSet). P f.label) fields → AreFieldsOf sets p fields row → All (λ (f : FieldSet). P f.label) row
  labels_in P p [] [] each is = λ k d low. absurd (omega arith)
  labels_in P p (f ∷ fields) (g ∷ row) each is =
      All-cons (λ (f : FieldSet). P f.label) g row
      (subst P is.0 (All-head (λ (f : FieldSet). P f.label) f fields each))
      (labels_in P p fields row (All-tail (λ (f : FieldSet). P f.label) f fields each) is.2)
  labels_in P p [] (g ∷ row) each is = absurd is
  labels_in P p (f ∷ fields) [] each is = absurd is

  rising_row : (p : Polarity) (fields row : List FieldSet) → AreRising fields → AreFieldsOf sets p fields row → AreRising row
  rising_row p [] [] rising is = tt
  rising_row p (f ∷ fields) (g ∷ row) rising is = (
    subst (λ label. All (λ (later : FieldSet). slice_cmp nat_cmp label later.label ≡ Less) row) is.0
        (labels_in (λ label. slice_cmp nat_cmp f.label label ≡ Less) p fields row rising.0 is.2),
    rising_row p fields row rising.1 is.2,
  )
  rising_row p [] (g ∷ row) rising is = absurd is
  rising_row p (f ∷ fields) [] rising is = absurd is

  rising_record : (p : Polarity) (fields row : Option (List FieldSet)) → HasRisingLabels fields → IsRecordOf sets p fields row → HasRisingLabels row
  rising_record p None None rising is = tt
  rising_record p (Some fields) (Some row) rising is = rising_row p fields row rising is
  rising_record p None (Some row) rising is = absurd is
  rising_record p (Some fields) None rising is = absurd is

  pub row_labels : (p : Polarity) (head row : Head) → HasRisingLabels head.fields → IsHeadOf sets p head row → HasRisingLabels row.fields
  row_labels p head row rising is = rising_record p head.fields row.fields rising is.fields

  -- one member each
  one_single : (q : Polarity) (members set : List ℕ) → IsOne sets q members set → IsSingle set
  one_single q members set one = (one.0, one.1)

  single_arms : (p : Polarity) (function row : Option Arms) → IsFunctionOf sets p function row → HasSingleArms row
  single_arms p None None is = tt
  single_arms p (Some f) (Some g) is = (one_single (opposite p) f.domain g.domain is.0, one_single p f.codomain g.codomain is.1)
  single_arms p None (Some g) is = absurd is
  single_arms p (Some f) None is = absurd is

  single_list : (p : Polarity) (fields row : List FieldSet) → AreFieldsOf sets p fields row → All (λ (f : FieldSet). IsSingle f.set) row
  single_list p [] [] is = λ k d low. absurd (omega arith)
  single_list p (f ∷ fields) (g ∷ row) is = All-cons (λ (f : FieldSet). IsSingle f.set) g row (one_single p f.set g.set is.1) (single_list p fields row is.2)
  single_list p [] (g ∷ row) is = absurd is
  single_list p (f ∷ fields) [] is = absurd is

  single_fields : (p : Polarity) (fields row : Option (List FieldSet)) → IsRecordOf sets p fields row → HasSingleFields row
  single_fields p None None is = tt
  single_fields p (Some fields) (Some row) is = single_list p fields row is
  single_fields p None (Some row) is = absurd is
  single_fields p (Some fields) None is = absurd is

  pub row_single : (p : Polarity) (head row : Head) → IsHeadOf sets p head row → HasSingleArms row.function × HasSingleFields row.fields
  row_single p head row is = (single_arms p head.function row.function is.function, single_fields p head.fields row.fields is.fields)

  -- the members of the sets in place of their numbers
  abbrev pub members_at : ℕ → List ℕ
  members_at n = (set_at sets n).members

  one_spread : (q : Polarity) (members set : List ℕ) → IsOne sets q members set → IsSameSet (flat_map members_at set) members
  one_spread q members set one =
      let named : members_at one.0 ≡ members = ap (λ (e : SetState). e.members) (one.2.1 _) in
      let whole : flat_map members_at set ≡ members = ap (flat_map members_at) one.1 ∙ (append-nil (members_at one.0) ∙ named) in
      (λ s there. subst (λ xs. Contains xs s) whole there, λ s there. subst (λ xs. Contains xs s) (sym whole) there)

  function_spread : (p : Polarity) (function row : Option Arms) → IsFunctionOf sets p function row → IsSameOption (λ (f : Arms) g. IsSameSet f.domain g.domain × IsSameSet f.codomain g.codomain) (option_map (spread_arms members_at) row) function
  function_spread p None None is = tt
  function_spread p (Some f) (Some g) is = (one_spread (opposite p) f.domain g.domain is.0, one_spread p f.codomain g.codomain is.1)
  function_spread p None (Some g) is = absurd is
  function_spread p (Some f) None is = absurd is

  field_spread : (p : Polarity) (f g : FieldSet) (fields row : List FieldSet) (label : List ℕ) → IsOne sets p f.set g.set
      → IsSameOption IsSameSet (option_map (flat_map members_at) (head.set_at row label)) (head.set_at fields label)
      → (b : Bool) → IsSameOption IsSameSet
      (option_map (flat_map members_at) (option_map (λ (f : FieldSet). f.set) (cond b (Some g) (find (λ (f : FieldSet). bytes_eq f.label label) row))))
      (option_map (λ (f : FieldSet). f.set) (cond b (Some f) (find (λ (f : FieldSet). bytes_eq f.label label) fields)))
  field_spread p f g fields row label one later true = one_spread p f.set g.set one
  field_spread p f g fields row label one later false = later

  fields_spread : (p : Polarity) (fields row : List FieldSet) → AreFieldsOf sets p fields row → (label : List ℕ) → IsSameOption IsSameSet (option_map (flat_map members_at) (head.set_at row label)) (head.set_at fields label)
  fields_spread p [] [] is label = tt
  fields_spread p (f ∷ fields) (g ∷ row) is label =
      subst (λ b. IsSameOption IsSameSet
      (option_map (flat_map members_at) (option_map (λ (f : FieldSet). f.set) (cond b (Some g) (find (λ (f : FieldSet). bytes_eq f.label label) row))))
      (head.set_at (f ∷ fields) label))
      (ap (λ other. bytes_eq other label) is.0)
      (field_spread p f g fields row label is.1 (fields_spread p fields row is.2 label) (bytes_eq f.label label))
  fields_spread p [] (g ∷ row) is label = absurd is
  fields_spread p (f ∷ fields) [] is label = absurd is

  record_spread : (p : Polarity) (fields row : Option (List FieldSet)) → IsRecordOf sets p fields row
      → IsSameOption (λ (f g : List ℕ → Option (List ℕ)). (label : List ℕ) → IsSameOption IsSameSet (f label) (g label))
      (option_map (λ at label. option_map (flat_map members_at) (at label)) (option_map head.set_at row)) (option_map head.set_at fields)
  record_spread p None None is = tt
  record_spread p (Some fields) (Some row) is = fields_spread p fields row is
  record_spread p None (Some row) is = absurd is
  record_spread p (Some fields) None is = absurd is

  pub row_spread : (p : Polarity) (head row : Head) → IsHeadOf sets p head row → IsSameParts (spread members_at (parts_of row)) (parts_of head)
  row_spread p head row is = record {
    boolean = is.boolean;
    integer = is.integer;
    function = function_spread p head.function row.function is.function;
    fields = record_spread p head.fields row.fields is.fields;
  }
