-- The pairs that are met from the ends of a scheme and of a deterministic one that it subsumes are a walk, whether the
-- first one is deterministic or not: a pair that failed would give a test by which a model of the first one is not within
-- what the ends of the second one pass.
--     IsCounter               such a test of a pair
--     counter_behind          one of a pair that is named by a pair gives one of that
--     no_counter              no pair that is met has one
--     subsumed_walk           so these pairs are a walk
use Rattle.std.proofs.Common.{◌≡◌, inl, inr, ℕ, ◌==◌, Bool, true, false, not, List, [], map, refl, sym, ap, ◌∙◌, subst, Contains, All, Option, Some, None}
use Rattle.std.specs.Prelude.{option_map, is_none, is_some}
use Rattle.std.proofs.lemmas.Bool.{eq-eqb}
use Rattle.std.proofs.lemmas.List.Elements.{All-contains}
use Rattle.mls_book.specs.Tests.{Test, test, FunctionPart, never_function, always_function, dom, cod, RecordPart, never_record, always_record, lacks, at}
use Rattle.mls_book.specs.Predicates.{Predicate, Implies, var, bool, int, function_answer, record_answer, field_answer}
use Rattle.mls_book.specs.Passes.{passes}
use Rattle.mls_book.specs.Schemes as book
use Rattle.mls_book.specs.Schemes.{binder_passes}
use Rattle.mls_automaton.specs.declared.automaton.Polarity.{Polarity}
use Rattle.mls_automaton.specs.declared.automaton.Polarity.TheVariants.{Positive, Negative}
use Rattle.mls_automaton.specs.declared.automaton.Arms.{Arms}
use Rattle.mls_automaton.specs.declared.automaton.FieldSet.{FieldSet}
use Rattle.mls_automaton.specs.declared.automaton.Flow.{Flow}
use Rattle.mls_automaton.specs.declared.automaton.HeadKind.{HeadKind}
use Rattle.mls_automaton.specs.declared.automaton.HeadKind.TheVariants as kind
use Rattle.mls_automaton.specs.declared.scheme.Scheme.{Scheme}
use Rattle.mls_automaton.specs.Automata.{Automaton, flow, flows_at, has_kind, head_at, opposite, polarity_at, HasFlow, IsState}
use Rattle.mls_automaton.specs.Heads.{AreRising, bit_value, function_value, head_value, parts_of, record_value, set_at, set_value}
use Rattle.mls_automaton.specs.Models.{HasArmsIn, HasFieldsIn, HasRisingLabels, HasSingleArms, HasSingleFields, IsDeterministic, IsInside, IsModel, IsSingle}
use Rattle.mls_automaton.specs.Schemes.{state_of, IsScheme, IsSchemeOf, NoGoal}
use Rattle.mls_automaton.proofs.BookValues.{binder-value, root-value}
use Rattle.mls_automaton.proofs.BooksExist.{scheme_exists}
use Rattle.mls_automaton.proofs.HeadOrder.{sets_found}
use Rattle.mls_automaton.proofs.HeadParts.{booleans-inside, function-inside, integers-inside, record-inside}
use Rattle.mls_automaton.proofs.Instances.{HasModel, binder_of, model-of_subsumes, plain}
use Rattle.mls_automaton.proofs.CombinedStates.{found_at}
use Rattle.mls_automaton.proofs.Lists.{Contains-here, Contains-map, found_any}
use Rattle.mls_automaton.proofs.Signs.{all_upper, inside-trans}
use Rattle.mls_solver.proofs.RelatedHeads.{set_at-field}
use Rattle.mls_solver.proofs.Taking.{slice_get-contains}
use Rattle.mls_flow.specs.Admissible.{IsAdmissible}
use Rattle.mls_flow.specs.Simulations.{IsFieldWithin, IsFunctionWithin, IsHeadWithin, IsRecordWithin, IsSetWithin}
use Rattle.mls_flow.specs.Separated.{IsSeparated}
use Rattle.mls_flow.proofs.Exactness.{decide_admissible}
use Rattle.mls_flow.proofs.Quiet.{loud, loud_inside, quiet, state_quiet}
use Rattle.mls_flow.proofs.Separating.{single-field, single-value}
use Rattle.mls_subsume.specs.declared.verdict.StatePair.{StatePair}
use Rattle.mls_subsume.specs.Verdicts.{DoesSubsume}
use Rattle.mls_subsume.specs.Walks.{IsIn, IsWalk}
use Rattle.mls_layout.specs.Walks.{AreAlike, AreMet, IsMet, end, behind, IsOfFunctions, IsOfHeads, IsOfRecords, IsOfSet}

-- parts of tests to which all functions, or all records, answer alike
abbrev quiet_function : Polarity → FunctionPart
quiet_function Positive = never_function
quiet_function Negative = always_function

abbrev loud_function : Polarity → FunctionPart
loud_function Positive = always_function
loud_function Negative = never_function

abbrev quiet_record : Polarity → RecordPart
quiet_record Positive = never_record
quiet_record Negative = always_record

abbrev loud_record : Polarity → RecordPart
loud_record Positive = always_record
loud_record Negative = never_record

functions_quiet : (p : Polarity) (f g : Predicate) → function_answer f g (quiet_function p) ≡ quiet p
functions_quiet Positive f g = refl
functions_quiet Negative f g = refl

functions_loud : (p : Polarity) (f g : Predicate) → function_answer f g (loud_function p) ≡ loud p
functions_loud Positive f g = refl
functions_loud Negative f g = refl

records_quiet : (p : Polarity) (types : List ℕ → Option Predicate) → record_answer types (quiet_record p) ≡ quiet p
records_quiet Positive types = refl
records_quiet Negative types = refl

records_loud : (p : Polarity) (types : List ℕ → Option Predicate) → record_answer types (loud_record p) ≡ loud p
records_loud Positive types = refl
records_loud Negative types = refl

not_loud : (p : Polarity) → not (loud (opposite p)) ≡ loud p
not_loud Positive = refl
not_loud Negative = refl

not_quiet : (p : Polarity) → not (quiet (opposite p)) ≡ quiet p
not_quiet Positive = refl
not_quiet Negative = refl

-- what one member of a set says loud, the set does
set_loud : (p : Polarity) (value : ℕ → Predicate) (xs : List ℕ) (x : ℕ) → Contains xs x → (t : Test) → value x t ≡ loud p → set_value p value xs t ≡ loud p
set_loud p value xs x there t e = loud_inside p (value x) (set_value p value xs) t (all_upper value p xs x there) e

-- the field at a label, and the label of a field
field_in : (fields : List FieldSet) → AreRising fields → (field : FieldSet) → Contains fields field → set_at fields field.label ≡ Some field.set
field_in fields rising field there = subst (λ (f : FieldSet). set_at fields f.label ≡ Some f.set) there.2 (found_at fields rising there.0 field there.1)

field_there : (fields : List FieldSet) (label set : List ℕ) → set_at fields label ≡ Some set → (field : FieldSet) × Contains fields field × (field.label ≡ label) × (field.set ≡ set)
field_there fields label set e = let it = set_at-field fields label set e in (it.field, slice_get-contains fields it.number it.field it.there, it.is_label, it.is_set)

module _ (general special : Scheme) (is_g : IsScheme general) (is_s : IsScheme special) (single : IsDeterministic special.automaton) (variable : Flow → ℕ)
    (distinct : (f g : Flow) → Contains special.automaton.flows f → Contains special.automaton.flows g → variable f ≡ variable g → f ≡ g) (T : ℕ → Predicate) (model : IsModel general.automaton T) where
  abbrev a : Automaton
  a = general.automaton

  abbrev b : Automaton
  b = special.automaton

  abbrev den : ℕ → Predicate
  den = plain variable b

  -- the model says yes to the test at a positive state, where the special state says no, and the other way round at a
  -- negative state
  abbrev pub IsCounter : Polarity → ℕ → ℕ → Type 0
  IsCounter p g s = (t : Test) × (T g t ≡ loud p) × (den s t ≡ quiet p)

  -- variables to which the edges of the special state answer alike
  abbrev quiet_vars : Polarity → ℕ → List ℕ
  quiet_vars Positive s = []
  quiet_vars Negative s = map variable (flows_at b s)

  edges_quiet : (p : Polarity) (s : ℕ) (x y : Bool) (part : FunctionPart) (fields : RecordPart) (f : Flow) → Contains (flows_at b s) f → var (variable f) (test (quiet_vars p s) x y part fields) ≡ quiet p
  edges_quiet Positive s x y part fields f there = refl
  edges_quiet Negative s x y part fields f there =
      found_any (λ y. y == variable f) (map variable (flows_at b s)) (variable f) (Contains-map variable (flows_at b s) f there) (eq-eqb (variable f) (variable f) refl)

  -- the special state says what no part says, where its own parts do
  special_quiet : (p : Polarity) (s : ℕ) → IsState b p s → (x y : Bool) (part : FunctionPart) (fields : RecordPart)
      → ((head_at b s).boolean ≡ true → x ≡ quiet p) → ((head_at b s).integer ≡ true → y ≡ quiet p)
      → ((arms : Arms) → (head_at b s).function ≡ Some arms → function_answer (set_value (opposite p) den arms.domain) (set_value p den arms.codomain) part ≡ quiet p)
      → ((sets : List FieldSet) → (head_at b s).fields ≡ Some sets → record_answer (λ label. option_map (set_value p den) (set_at sets label)) fields ≡ quiet p)
      → den s (test (quiet_vars p s) x y part fields) ≡ quiet p
  special_quiet p s state x y part fields booleans integers functions records =
      state_quiet (λ f. var (variable f)) b p s (test (quiet_vars p s) x y part fields) state.polarity
      (edges_quiet p s x y part fields)
      (record { boolean = booleans; integer = integers; function = functions; fields = records })

  -- the model says more than a part of the general head does
  general_loud : (p : Polarity) (g : ℕ) → IsState a p g → (f : Predicate) → IsInside p f (head_value p T (head_at a g)) → (t : Test) → f t ≡ loud p → T g t ≡ loud p
  general_loud p g state f inside t e =
      let whole : IsInside p (head_value p T (head_at a g)) (T g) = subst (λ q. IsInside q (head_value q T (head_at a g)) (T g)) state.polarity (model.heads g) in
      loud_inside p f (T g) t (inside-trans p f (head_value p T (head_at a g)) (T g) inside whole) e

  function_loud : (p : Polarity) (g : ℕ) → IsState a p g → (arms : Arms) → (head_at a g).function ≡ Some arms → (vars : List ℕ) (x y : Bool) (part : FunctionPart) (fields : RecordPart) → function_answer (set_value (opposite p) T arms.domain) (set_value p T arms.codomain) part ≡ loud p → T g (test vars x y part fields) ≡ loud p
  function_loud p g state arms e vars x y part fields answer =
      general_loud p g state (function_value p T arms) (function-inside p T (head_at a g) arms e) (test vars x y part fields) answer

  record_loud : (p : Polarity) (g : ℕ) → IsState a p g → (sets : List FieldSet) → (head_at a g).fields ≡ Some sets → (vars : List ℕ) (x y : Bool) (part : FunctionPart) (fields : RecordPart) → record_answer (λ label. option_map (set_value p T) (set_at sets label)) fields ≡ loud p → T g (test vars x y part fields) ≡ loud p
  record_loud p g state sets e vars x y part fields answer =
      general_loud p g state (record_value p T (set_at sets)) (record-inside p T (head_at a g) sets e) (test vars x y part fields) answer

  module _ (p : Polarity) (g s : ℕ) (at_g : IsState general.automaton p g) (at_s : IsState special.automaton p s) where
    counter_function : (part : FunctionPart) (f h : Arms) → (head_at a g).function ≡ Some f → (head_at b s).function ≡ Some h
        → function_answer (set_value (opposite p) T f.domain) (set_value p T f.codomain) part ≡ loud p
        → function_answer (set_value (opposite p) den h.domain) (set_value p den h.codomain) part ≡ quiet p
        → IsCounter p g s
    counter_function part f h e e' first second = (
      test (quiet_vars p s) (quiet p) (quiet p) part (quiet_record p),
      function_loud p g at_g f e (quiet_vars p s) (quiet p) (quiet p) part (quiet_record p) first,
      special_quiet p s at_s (quiet p) (quiet p) part (quiet_record p) (λ there. refl) (λ there. refl)
          (λ arms there.
          let same : h ≡ arms = cc in
          subst (λ (h : Arms). function_answer (set_value (opposite p) den h.domain) (set_value p den h.codomain) part ≡ quiet p) same second)
          (λ sets there. records_quiet p (λ label. option_map (set_value p den) (set_at sets label))),
    )

    counter_record : (part : RecordPart) (fs hs : List FieldSet) → (head_at a g).fields ≡ Some fs → (head_at b s).fields ≡ Some hs
        → record_answer (λ label. option_map (set_value p T) (set_at fs label)) part ≡ loud p
        → record_answer (λ label. option_map (set_value p den) (set_at hs label)) part ≡ quiet p
        → IsCounter p g s
    counter_record part fs hs e e' first second = (
      test (quiet_vars p s) (quiet p) (quiet p) (quiet_function p) part,
      record_loud p g at_g fs e (quiet_vars p s) (quiet p) (quiet p) (quiet_function p) part first,
      special_quiet p s at_s (quiet p) (quiet p) (quiet_function p) part (λ there. refl) (λ there. refl)
          (λ arms there. functions_quiet p (set_value (opposite p) den arms.domain) (set_value p den arms.codomain))
          (λ sets there.
          let same : hs ≡ sets = cc in
          subst (λ (hs : List FieldSet). record_answer (λ label. option_map (set_value p den) (set_at hs label)) part ≡ quiet p) same second),
    )

    -- the general state has a part, and the special one has none of its kind
    kind_counter : (k : HeadKind) → has_kind k (head_at a g) ≡ true → has_kind k (head_at b s) ≡ false → IsCounter p g s
    kind_counter kind.Bool there absent = (
      test (quiet_vars p s) (loud p) (quiet p) (quiet_function p) (quiet_record p),
      general_loud p g at_g bool (subst (λ x. IsInside p (bit_value p bool x) (head_value p T (head_at a g))) there (booleans-inside p T (head_at a g))) _ refl,
      special_quiet p s at_s (loud p) (quiet p) (quiet_function p) (quiet_record p) (λ e. absurd (cc)) (λ e. refl)
          (λ arms e. functions_quiet p _ _)
          (λ sets e. records_quiet p _),
    )
    kind_counter kind.Int there absent = (
      test (quiet_vars p s) (quiet p) (loud p) (quiet_function p) (quiet_record p),
      general_loud p g at_g int (subst (λ x. IsInside p (bit_value p int x) (head_value p T (head_at a g))) there (integers-inside p T (head_at a g))) _ refl,
      special_quiet p s at_s (quiet p) (loud p) (quiet_function p) (quiet_record p) (λ e. refl) (λ e. absurd (cc))
          (λ arms e. functions_quiet p _ _)
          (λ sets e. records_quiet p _),
    )
    kind_counter kind.Function there absent = go (head_at a g).function refl there
      where
        go : (o : Option Arms) → (head_at a g).function ≡ o → is_some o ≡ true → IsCounter p g s
        go None e some = absurd (cc)
        go (Some arms) e some = (
          test (quiet_vars p s) (quiet p) (quiet p) (loud_function p) (quiet_record p),
          function_loud p g at_g arms e _ _ _ (loud_function p) (quiet_record p) (functions_loud p _ _),
          special_quiet p s at_s (quiet p) (quiet p) (loud_function p) (quiet_record p) (λ e. refl) (λ e. refl)
              (λ arms e. let yes : is_some (head_at b s).function ≡ true = ap is_some e in absurd (cc))
              (λ sets e. records_quiet p _),
        )
    kind_counter kind.Rcd there absent = go (head_at a g).fields refl there
      where
        go : (o : Option (List FieldSet)) → (head_at a g).fields ≡ o → is_some o ≡ true → IsCounter p g s
        go None e some = absurd (cc)
        go (Some sets) e some = (
          test (quiet_vars p s) (quiet p) (quiet p) (quiet_function p) (loud_record p),
          record_loud p g at_g sets e _ _ _ (quiet_function p) (loud_record p) (records_loud p _),
          special_quiet p s at_s (quiet p) (quiet p) (quiet_function p) (loud_record p) (λ e. refl) (λ e. refl)
              (λ arms e. functions_quiet p _ _)
              (λ sets e. let yes : is_some (head_at b s).fields ≡ true = ap is_some e in absurd (cc)),
        )

    -- what both heads name in one place: a counter-test of two of these gives one of the states
    module _ (g' s' : ℕ) (inside : (q : Polarity) → IsState general.automaton q g' → IsState special.automaton q s' → IsCounter q g' s') where
      domain_back : (f h : Arms) → (head_at a g).function ≡ Some f → (head_at b s).function ≡ Some h → Contains f.domain g' → Contains h.domain s' → IsCounter p g s
      domain_back f h e e' in_f in_h =
          let arms : HasArmsIn (IsState a) p (Some f) = subst (HasArmsIn (IsState a) p) e (subst (λ q. HasArmsIn (IsState a) q (head_at a g).function) at_g.polarity (is_g.automaton.heads g).function) in
          let others : HasArmsIn (IsState b) p (Some h) = subst (HasArmsIn (IsState b) p) e' (subst (λ q. HasArmsIn (IsState b) q (head_at b s).function) at_s.polarity (is_s.automaton.heads s).function) in
          let one : HasSingleArms (Some h) = subst HasSingleArms e' (single s).0 in
          let it : IsCounter (opposite p) g' s' = inside (opposite p) (All-contains (IsState a (opposite p)) f.domain g' arms.0 in_f) (All-contains (IsState b (opposite p)) h.domain s' others.0 in_h) in
          counter_function (dom it.0) f h e e'
          (ap not (set_loud (opposite p) T f.domain g' in_f it.0 it.1) ∙ not_loud p)
          (ap not ((λ i. single-value (opposite p) den h.domain s' one.0 in_h i it.0) ∙ it.2) ∙ not_quiet p)

      codomain_back : (f h : Arms) → (head_at a g).function ≡ Some f → (head_at b s).function ≡ Some h → Contains f.codomain g' → Contains h.codomain s' → IsCounter p g s
      codomain_back f h e e' in_f in_h =
          let arms : HasArmsIn (IsState a) p (Some f) = subst (HasArmsIn (IsState a) p) e (subst (λ q. HasArmsIn (IsState a) q (head_at a g).function) at_g.polarity (is_g.automaton.heads g).function) in
          let others : HasArmsIn (IsState b) p (Some h) = subst (HasArmsIn (IsState b) p) e' (subst (λ q. HasArmsIn (IsState b) q (head_at b s).function) at_s.polarity (is_s.automaton.heads s).function) in
          let one : HasSingleArms (Some h) = subst HasSingleArms e' (single s).0 in
          let it : IsCounter p g' s' = inside p (All-contains (IsState a p) f.codomain g' arms.1 in_f) (All-contains (IsState b p) h.codomain s' others.1 in_h) in
          counter_function (cod it.0) f h e e' (set_loud p T f.codomain g' in_f it.0 it.1) ((λ i. single-value p den h.codomain s' one.1 in_h i it.0) ∙ it.2)

      field_back : (fs hs : List FieldSet) (label xs ys : List ℕ) → (head_at a g).fields ≡ Some fs → (head_at b s).fields ≡ Some hs → set_at fs label ≡ Some xs → set_at hs label ≡ Some ys → Contains xs g' → Contains ys s' → IsCounter p g s
      field_back fs hs label xs ys e e' at_fs at_hs in_xs in_ys =
          let sets : HasFieldsIn (IsState a) p (Some fs) = subst (HasFieldsIn (IsState a) p) e (subst (λ q. HasFieldsIn (IsState a) q (head_at a g).fields) at_g.polarity (is_g.automaton.heads g).fields) in
          let others : HasFieldsIn (IsState b) p (Some hs) = subst (HasFieldsIn (IsState b) p) e' (subst (λ q. HasFieldsIn (IsState b) q (head_at b s).fields) at_s.polarity (is_s.automaton.heads s).fields) in
          let it : IsCounter p g' s' =
          inside p (All-contains (IsState a p) xs g' (sets_found (IsState a p) fs sets label xs at_fs) in_xs) (All-contains (IsState b p) ys s' (sets_found (IsState b p) hs others label ys at_hs) in_ys) in
          counter_record (at label it.0) fs hs e e'
          (ap (λ o. field_answer (option_map (set_value p T) o) it.0) at_fs ∙ set_loud p T xs g' in_xs it.0 it.1)
          (ap (λ o. field_answer (option_map (set_value p den) o) it.0) at_hs
          ∙ ((λ i. single-value p den ys s' (single-field hs (subst HasSingleFields e' (single s).1) label ys at_hs) in_ys i it.0) ∙ it.2))

  -- only one of the two records has a label
  lacks_positive : (g s : ℕ) → IsState a Positive g → IsState b Positive s → (fs hs : List FieldSet) → (head_at a g).fields ≡ Some fs → (head_at b s).fields ≡ Some hs → (label ys : List ℕ)
      → set_at fs label ≡ None → set_at hs label ≡ Some ys → IsCounter Positive g s
  lacks_positive g s at_g at_s fs hs e e' label ys absent there =
      counter_record Positive g s at_g at_s (lacks label) fs hs e e'
      (ap (λ o. is_none (option_map (set_value Positive T) o)) absent)
      (ap (λ o. is_none (option_map (set_value Positive den) o)) there)

  lacks_negative : (g s : ℕ) → IsState a Negative g → IsState b Negative s → (fs hs : List FieldSet) → (head_at a g).fields ≡ Some fs → (head_at b s).fields ≡ Some hs → (label xs : List ℕ)
      → set_at fs label ≡ Some xs → set_at hs label ≡ None → IsCounter Negative g s
  lacks_negative g s at_g at_s fs hs e e' label xs there absent =
      counter_record Negative g s at_g at_s (lacks label) fs hs e e'
      (ap (λ o. is_none (option_map (set_value Negative T) o)) there)
      (ap (λ o. is_none (option_map (set_value Negative den) o)) absent)

  -- what both heads name in the same place
  counter_behind : (p : Polarity) (g s g' s' : ℕ) → IsState a p g → IsState b p s → IsOfHeads (head_at a g) (head_at b s) g' s' → ((q : Polarity) → IsState a q g' → IsState b q s' → IsCounter q g' s') → IsCounter p g s
  counter_behind p g s g' s' at_g at_s named inside = elim named [ inl of ↦ functions (head_at a g).function (head_at b s).function refl refl of | inr of ↦ records (head_at a g).fields (head_at b s).fields refl refl of ]
    where
      functions : (o k : Option Arms) → (head_at a g).function ≡ o → (head_at b s).function ≡ k → IsOfFunctions o k g' s' → IsCounter p g s
      functions None k e e' of = absurd of
      functions (Some f) None e e' of = absurd of
      functions (Some f) (Some h) e e' of = elim of [ inl both ↦ domain_back p g s at_g at_s g' s' inside f h e e' both.0 both.1 | inr both ↦ codomain_back p g s at_g at_s g' s' inside f h e e' both.0 both.1 ]

      at_label : (fs hs : List FieldSet) → (head_at a g).fields ≡ Some fs → (head_at b s).fields ≡ Some hs → (field : FieldSet) → Contains hs field → (o : Option (List ℕ)) → set_at fs field.label ≡ o → IsOfSet o field.set g' s' → IsCounter p g s
      at_label fs hs e e' field there None at_fs of = absurd of
      at_label fs hs e e' field there (Some xs) at_fs of =
          let rising : AreRising hs = subst HasRisingLabels e' (is_s.automaton.labels s) in
          field_back p g s at_g at_s g' s' inside fs hs field.label xs field.set e e' at_fs (field_in hs rising field there) of.0 of.1

      records : (o k : Option (List FieldSet)) → (head_at a g).fields ≡ o → (head_at b s).fields ≡ k → IsOfRecords o k g' s' → IsCounter p g s
      records None k e e' of = absurd of
      records (Some fs) None e e' of = absurd of
      records (Some fs) (Some hs) e e' of = at_label fs hs e e' of.0 of.1 (set_at fs of.0.label) refl of.2

  module _ (root : Implies (T general.root.0) (plain variable special.automaton special.root.0))
      (env : (x g s : ℕ) → state_of general.env x ≡ Some g → state_of special.env x ≡ Some s → Implies (plain variable special.automaton s) (T g)) where
    -- a pair that is met is of states of one polarity, and has no counter-test
    met_alike : (g s : ℕ) → IsMet general special g s → AreAlike a b g s
    met_alike g s (end is alike) = alike
    met_alike g s (behind h t met named alike) = alike

    general_at : (g s : ℕ) → AreAlike a b g s → IsState a (polarity_at a g) g
    general_at g s alike = record { in_range = alike.general; polarity = refl }

    special_at : (g s : ℕ) → AreAlike a b g s → IsState b (polarity_at a g) s
    special_at g s alike = record { in_range = alike.special; polarity = sym alike.polarity }

    no_counter : (g s : ℕ) → IsMet general special g s → (p : Polarity) → IsState a p g → IsState b p s → IsCounter p g s → ⊥
    no_counter g s (end (inl (one, two)) alike) Positive at_g at_s (t, first, second) =
        let said : T general.root.0 t ≡ true = ap (λ x. T x t) (sym one) ∙ first in
        let passed : den special.root.0 t ≡ true = root t said in
        let failed : den special.root.0 t ≡ false = ap (λ x. den x t) (sym two) ∙ second in
        absurd (cc)
    no_counter g s (end (inl (one, two)) alike) Negative at_g at_s counter =
        let negative : polarity_at a general.root.0 ≡ Negative = subst (λ x. polarity_at a x ≡ Negative) one at_g.polarity in
        let positive : polarity_at a general.root.0 ≡ Positive = is_g.root.polarity in
        absurd (cc)
    no_counter g s (end (inr (x, one, two)) alike) Negative at_g at_s (t, first, second) =
        let passed : T g t ≡ true = env x g s one two t second in
        absurd (cc)
    no_counter g s (end (inr (x, one, two)) alike) Positive at_g at_s counter =
        let negative : polarity_at a g ≡ Negative = (is_g.env x g one).polarity in
        let positive : polarity_at a g ≡ Positive = at_g.polarity in
        absurd (cc)
    no_counter g s (behind h t met named alike) p at_g at_s counter =
        let above : AreAlike a b h t = met_alike h t met in
        let q : Polarity = polarity_at a h in
        no_counter h t met q (general_at h t above) (special_at h t above)
        (counter_behind q h t g s (general_at h t above) (special_at h t above) named
        (λ q' at_g' at_s'. subst (λ r. IsCounter r g s) (sym at_g.polarity ∙ at_g'.polarity) counter))

    module _ (pairs : List StatePair) (met : AreMet general special pairs) where
      met_at : (g s : ℕ) → IsIn pairs g s → IsMet general special g s
      met_at g s there = (met g s).0 there

      alike_at : (g s : ℕ) → IsIn pairs g s → AreAlike a b g s
      alike_at g s there = met_alike g s (met_at g s there)

      module _ (g s : ℕ) (there : IsIn pairs g s) where
        abbrev p : Polarity
        p = polarity_at general.automaton g

        at_g : IsState a p g
        at_g = general_at g s (alike_at g s there)

        at_s : IsState b p s
        at_s = special_at g s (alike_at g s there)

        none : IsCounter p g s → ⊥
        none counter = no_counter g s (met_at g s there) p at_g at_s counter

        has : (k : HeadKind) (x : Bool) → has_kind k (head_at b s) ≡ x → has_kind k (head_at a g) ≡ true → has_kind k (head_at b s) ≡ true
        has k true e is = e
        has k false e is = absurd (none (kind_counter p g s at_g at_s k is e))

        -- the pairs of what both name in one place
        set_within : (q : Polarity) (xs ys : List ℕ) → IsSingle ys → All (IsState a q) xs → All (IsState b q) ys → ((x y : ℕ) → Contains xs x → Contains ys y → IsOfHeads (head_at a g) (head_at b s) x y) → IsSetWithin (IsIn pairs) xs ys
        set_within q xs ys one in_a in_b named x in_xs =
            let in_ys : Contains ys one.0 = subst (λ zs. Contains zs one.0) (sym one.1) (Contains-here one.0 []) in
            let state : IsState a q x = All-contains (IsState a q) xs x in_a in_xs in
            let other : IsState b q one.0 = All-contains (IsState b q) ys one.0 in_b in_ys in
            let alike : AreAlike a b x one.0 = record { general = state.in_range; special = other.in_range; polarity = state.polarity ∙ sym other.polarity } in
            (one.0, in_ys, (met x one.0).1 (behind g s (met_at g s there) (named x one.0 in_xs in_ys) alike))

        function_in : (o k : Option Arms) → (head_at a g).function ≡ o → (head_at b s).function ≡ k → IsFunctionWithin (IsIn pairs) o k
        function_in None k e e' = tt
        function_in (Some f) None e e' =
            let missing : is_some (head_at b s).function ≡ false = ap is_some e' in
            let there' : is_some (head_at a g).function ≡ true = ap is_some e in
            absurd (none (kind_counter p g s at_g at_s kind.Function there' missing))
        function_in (Some f) (Some h) e e' =
            let arms : HasArmsIn (IsState a) p (Some f) = subst (HasArmsIn (IsState a) p) e (is_g.automaton.heads g).function in
            let others : HasArmsIn (IsState b) p (Some h) = subst (HasArmsIn (IsState b) p) e' (subst (λ q. HasArmsIn (IsState b) q (head_at b s).function) at_s.polarity (is_s.automaton.heads s).function) in
            let one : HasSingleArms (Some h) = subst HasSingleArms e' (single s).0 in
            let named : (x y : ℕ) → IsOfFunctions (Some f) (Some h) x y → IsOfHeads (head_at a g) (head_at b s) x y =
            λ x y of. inl (subst (λ o. IsOfFunctions o (head_at b s).function x y) (sym e) (subst (λ k. IsOfFunctions (Some f) k x y) (sym e') of)) in (
              set_within (opposite p) f.domain h.domain one.0 arms.0 others.0 (λ x y in_f in_h. named x y (inl (in_f, in_h))),
              set_within p f.codomain h.codomain one.1 arms.1 others.1 (λ x y in_f in_h. named x y (inr (in_f, in_h))),
            )

        module _ (fs hs : List FieldSet) (e : (head_at general.automaton g).fields ≡ Some fs) (e' : (head_at special.automaton s).fields ≡ Some hs) where
          named_field : (label xs ys : List ℕ) → set_at fs label ≡ Some xs → set_at hs label ≡ Some ys → (x y : ℕ) → Contains xs x → Contains ys y → IsOfHeads (head_at a g) (head_at b s) x y
          named_field label xs ys at_fs at_hs x y in_xs in_ys =
              let found = field_there hs label ys at_hs in
              let of : IsOfRecords (Some fs) (Some hs) x y =
              (found.0, found.1, subst (λ o. IsOfSet o found.0.set x y) (sym (ap (set_at fs) found.2 ∙ at_fs)) (in_xs, subst (λ zs. Contains zs y) (sym found.3) in_ys)) in
              inr (subst (λ o. IsOfRecords o (head_at b s).fields x y) (sym e) (subst (λ k. IsOfRecords (Some fs) k x y) (sym e') of))

          field_in_at : (q : Polarity) → polarity_at a g ≡ q → (label : List ℕ) (o k : Option (List ℕ)) → set_at fs label ≡ o → set_at hs label ≡ k → IsFieldWithin (IsIn pairs) q o k
          field_in_at q is label (Some xs) (Some ys) at_fs at_hs =
              let sets : HasFieldsIn (IsState a) p (Some fs) = subst (HasFieldsIn (IsState a) p) e (is_g.automaton.heads g).fields in
              let others : HasFieldsIn (IsState b) p (Some hs) = subst (HasFieldsIn (IsState b) p) e' (subst (λ q. HasFieldsIn (IsState b) q (head_at b s).fields) at_s.polarity (is_s.automaton.heads s).fields) in
              set_within p xs ys (single-field hs (subst HasSingleFields e' (single s).1) label ys at_hs) (sets_found (IsState a p) fs sets label xs at_fs) (sets_found (IsState b p) hs others label ys at_hs)
              (named_field label xs ys at_fs at_hs)
          field_in_at Positive is label None None at_fs at_hs = tt
          field_in_at Positive is label (Some xs) None at_fs at_hs = tt
          field_in_at Positive is label None (Some ys) at_fs at_hs =
              absurd (none (subst (λ q. IsCounter q g s) (sym is) (lacks_positive g s (subst (λ q. IsState a q g) is at_g) (subst (λ q. IsState b q s) is at_s) fs hs e e' label ys at_fs at_hs)))
          field_in_at Negative is label None None at_fs at_hs = tt
          field_in_at Negative is label None (Some ys) at_fs at_hs = tt
          field_in_at Negative is label (Some xs) None at_fs at_hs =
              absurd (none (subst (λ q. IsCounter q g s) (sym is) (lacks_negative g s (subst (λ q. IsState a q g) is at_g) (subst (λ q. IsState b q s) is at_s) fs hs e e' label xs at_fs at_hs)))

        fields_in : (o k : Option (List FieldSet)) → (head_at a g).fields ≡ o → (head_at b s).fields ≡ k → IsRecordWithin (IsIn pairs) p (option_map set_at o) (option_map set_at k)
        fields_in None k e e' = tt
        fields_in (Some fs) None e e' =
            let missing : is_some (head_at b s).fields ≡ false = ap is_some e' in
            let there' : is_some (head_at a g).fields ≡ true = ap is_some e in
            absurd (none (kind_counter p g s at_g at_s kind.Rcd there' missing))
        fields_in (Some fs) (Some hs) e e' = λ label. field_in_at fs hs e e' p refl label (set_at fs label) (set_at hs label) refl refl

        heads_in : IsHeadWithin (IsIn pairs) p (parts_of (head_at a g)) (parts_of (head_at b s))
        heads_in = record {
          boolean = has kind.Bool (head_at b s).boolean refl;
          integer = has kind.Int (head_at b s).integer refl;
          function = function_in (head_at a g).function (head_at b s).function refl refl;
          fields = fields_in (head_at a g).fields (head_at b s).fields refl refl;
        }

      flows_in : (h g t s : ℕ) → HasFlow a h g → IsIn pairs h t → IsIn pairs g s → IsAdmissible b t s
      flows_in h g t s edge first second = elim (decide_admissible b is_s.automaton variable single distinct t s is_t is_end) [ inl admissible ↦ admissible | inr apart ↦ absurd (by_test (T h apart.0) apart refl) ]
        where
          is_h : IsState a Negative h
          is_h = is_g.automaton.negative (flow h g) edge

          is_g' : IsState a Positive g
          is_g' = is_g.automaton.positive (flow h g) edge

          is_t : IsState b Negative t
          is_t = subst (λ q. IsState b q t) is_h.polarity (special_at h t (alike_at h t first))

          is_end : IsState b Positive s
          is_end = subst (λ q. IsState b q s) is_g'.polarity (special_at g s (alike_at g s second))

          by_test : (x : Bool) (apart : IsSeparated den t s) → T h apart.0 ≡ x → ⊥
          by_test true apart e = no_counter g s (met_at g s second) Positive is_g' is_end (apart.0, model.flows (flow h g) edge apart.0 e, apart.2)
          by_test false apart e = no_counter h t (met_at h t first) Negative is_h is_t (apart.0, e, apart.1)

      met_is_walk : IsWalk general special pairs
      met_is_walk = record {
        roots = (met general.root.0 special.root.0).1 (end (inl (refl, refl)) (record { general = is_g.root.in_range; special = is_s.root.in_range; polarity = is_g.root.polarity ∙ sym is_s.root.polarity }));
        states = λ g s there. special_at g s (alike_at g s there);
        heads = λ g s there. heads_in g s there;
        flows = flows_in;
      }

-- the pairs that are met from the ends of a scheme and of one that it subsumes
pub subsumed_walk : (general special : Scheme) → IsScheme general → IsScheme special → IsDeterministic special.automaton → DoesSubsume general special → (pairs : List StatePair) → AreMet general special pairs → IsWalk general special pairs
subsumed_walk general special is_g is_s single does pairs met =
    met_is_walk general special is_g is_s single is_c.variable is_c.book.distinct model.value model.model root (λ x g s e e'. env x g s e (state_of special.env x) e' refl) pairs met
  where
    d : (c : book.Scheme) × IsSchemeOf special c
    d = scheme_exists special is_s

    is_c : IsSchemeOf special d.0
    is_c = d.1

    model : HasModel general NoGoal (passes d.0.book d.0.root) (binder_of d.0)
    model = let g = scheme_exists general is_g in model-of_subsumes general is_g g.0 g.1 d.0 (does g.0 d.0 g.1 d.1)

    root : Implies (model.value general.root.0) (plain is_c.variable special.automaton special.root.0)
    root = subst (Implies (model.value general.root.0)) (root-value special is_s d.0 is_c var) model.root

    env : (x g s : ℕ) → state_of general.env x ≡ Some g → (o : Option ℕ) → o ≡ Some s → state_of special.env x ≡ o → Implies (plain is_c.variable special.automaton s) (model.value g)
    env x g s e o at_s e' =
        let above : Implies (binder_passes (plain is_c.variable special.automaton) (state_of special.env x)) (binder_passes model.value (state_of general.env x)) =
        subst (λ f. Implies f (binder_passes model.value (state_of general.env x))) (binder-value special is_s d.0 is_c var x) (model.env x) in
        subst (λ (o : Option ℕ). Implies (binder_passes (plain is_c.variable special.automaton) o) (model.value g)) (e' ∙ at_s)
        (subst (λ (o : Option ℕ). Implies (binder_passes (plain is_c.variable special.automaton) (state_of special.env x)) (binder_passes model.value o)) e above)
