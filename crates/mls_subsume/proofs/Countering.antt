-- Counter-tests: tests at which a model of the general automaton is not within what the special states pass.
--     IsCounter                 a counter-test of a pair
--     counter_before            one of a pair that a step leads to gives one of the pair before
--     counter_along             and so along a path
--     head-counter, label-counter     pairs that fail by a part or a label have one
use Rattle.std.proofs.Common.{◌≡◌, ℕ, ◌==◌, Bool, true, false, not, List, [], map, refl, ap, ◌∙◌, subst, Contains, Some, None}
use Rattle.std.specs.Prelude.{Option, option_map, is_none, is_some}
use Rattle.std.proofs.lemmas.Bool.{eq-eqb}
use Rattle.mls_book.specs.Tests.{Test, test, FunctionPart, never_function, always_function, dom, cod, RecordPart, never_record, always_record, lacks, at}
use Rattle.mls_book.specs.Predicates.{Predicate, var, bool, int, function_answer, record_answer, field_answer}
use Rattle.mls_automaton.specs.declared.automaton.Polarity.{Polarity}
use Rattle.mls_automaton.specs.declared.automaton.Polarity.TheVariants.{Positive, Negative}
use Rattle.mls_automaton.specs.declared.automaton.Arms.{Arms}
use Rattle.mls_automaton.specs.declared.automaton.FieldSet.{FieldSet}
use Rattle.mls_automaton.specs.declared.automaton.Flow.{Flow}
use Rattle.mls_automaton.specs.Automata.{Automaton, head_at, flows_at, opposite, IsState}
use Rattle.mls_automaton.specs.Heads.{set_value, set_at, function_value, record_value, bit_value, head_value}
use Rattle.mls_automaton.specs.Models.{IsInside, HasSingleArms, HasSingleFields, IsClosed, IsModel, IsDeterministic}
use Rattle.mls_automaton.proofs.Lists.{Contains-map, found_any}
use Rattle.mls_automaton.proofs.Signs.{inside-trans}
use Rattle.mls_automaton.proofs.HeadParts.{booleans-inside, integers-inside, function-inside, record-inside}
use Rattle.mls_automaton.proofs.Instances.{plain}
use Rattle.mls_automaton.specs.declared.automaton.HeadKind.{HeadKind}
use Rattle.mls_automaton.specs.declared.automaton.HeadKind.TheVariants as kind
use Rattle.mls_automaton.specs.Automata.{has_kind}
use Rattle.mls_solver.specs.Relations.{InDomain, InCodomain, InField}
use Rattle.mls_solver.proofs.Following.{in_domain-state, in_codomain-state, in_field-state}
use Rattle.mls_flow.proofs.Quiet.{quiet, loud, loud_inside, state_quiet}
use Rattle.mls_flow.proofs.Separating.{single-value, single-field}
use Rattle.mls_subsume.specs.declared.verdict.Step.{Step}
use Rattle.mls_subsume.specs.declared.verdict.Step.TheVariants as step
use Rattle.mls_subsume.specs.Pairs.{Leads, IsPath, none, more}
use Rattle.mls_subsume.specs.Failures.{FailsByLabel}

-- parts of tests to which all functions, or all records, answer alike
abbrev quiet_function : Polarity → FunctionPart
quiet_function Positive = never_function
quiet_function Negative = always_function

abbrev loud_function : Polarity → FunctionPart
loud_function Positive = always_function
loud_function Negative = never_function

abbrev quiet_record : Polarity → RecordPart
quiet_record Positive = never_record
quiet_record Negative = always_record

abbrev loud_record : Polarity → RecordPart
loud_record Positive = always_record
loud_record Negative = never_record

functions_quiet : (p : Polarity) (f g : Predicate) → function_answer f g (quiet_function p) ≡ quiet p
functions_quiet Positive f g = refl
functions_quiet Negative f g = refl

functions_loud : (p : Polarity) (f g : Predicate) → function_answer f g (loud_function p) ≡ loud p
functions_loud Positive f g = refl
functions_loud Negative f g = refl

records_quiet : (p : Polarity) (types : List ℕ → Option Predicate) → record_answer types (quiet_record p) ≡ quiet p
records_quiet Positive types = refl
records_quiet Negative types = refl

records_loud : (p : Polarity) (types : List ℕ → Option Predicate) → record_answer types (loud_record p) ≡ loud p
records_loud Positive types = refl
records_loud Negative types = refl

not_loud : (p : Polarity) → not (loud (opposite p)) ≡ loud p
not_loud Positive = refl
not_loud Negative = refl

not_quiet : (p : Polarity) → not (quiet (opposite p)) ≡ quiet p
not_quiet Positive = refl
not_quiet Negative = refl

-- the states of a pair have one polarity, all along a path
module _ (a b : Automaton) (closed_a : IsClosed a) (closed_b : IsClosed b) where
  leads_states : (step : Step) (p : Polarity) (g s g' s' : ℕ) → IsState a p g → IsState b p s → Leads a b step g s g' s' → (q : Polarity) × IsState a q g' × IsState b q s'
  leads_states step.Domain p g s g' s' is_g is_s leads = (opposite p, in_domain-state a closed_a g p is_g.polarity g' leads.0, in_domain-state b closed_b s p is_s.polarity s' leads.1)
  leads_states step.Codomain p g s g' s' is_g is_s leads = (p, in_codomain-state a closed_a g p is_g.polarity g' leads.0, in_codomain-state b closed_b s p is_s.polarity s' leads.1)
  leads_states (step.At label) p g s g' s' is_g is_s leads = (p, in_field-state a closed_a g p is_g.polarity label g' leads.0, in_field-state b closed_b s p is_s.polarity label s' leads.1)

  pub path_states : (steps : List Step) (g s g' s' : ℕ) → IsPath a b steps g s g' s' → (p : Polarity) → IsState a p g → IsState b p s → (q : Polarity) × IsState a q g' × IsState b q s'
  path_states steps g s g' s' none p is_g is_s = (p, is_g, is_s)
  path_states steps g s g' s' (more {step = step} {rest = rest} {h = h} {t = t} leads path) p is_g is_s =
      let it = leads_states step p g s h t is_g is_s leads in
      path_states rest h t g' s' path it.0 it.1 it.2

module _ (a b : Automaton) (closed_a : IsClosed a) (closed_b : IsClosed b) (single_a : IsDeterministic a) (single_b : IsDeterministic b) (variable : Flow → ℕ) (T : ℕ → Predicate) (model : IsModel a T) where
  abbrev pub den : ℕ → Predicate
  den = plain variable b

  -- the model says yes to the test at a positive state, where the special state says no, and the other way round at a
  -- negative state
  abbrev pub IsCounter : Polarity → ℕ → ℕ → Type 0
  IsCounter p g s = (t : Test) × (T g t ≡ loud p) × (den s t ≡ quiet p)

  -- variables to which the edges of the special state answer alike
  abbrev quiet_vars : Polarity → ℕ → List ℕ
  quiet_vars Positive s = []
  quiet_vars Negative s = map variable (flows_at b s)

  edges_quiet : (p : Polarity) (s : ℕ) (x y : Bool) (part : FunctionPart) (fields : RecordPart) (f : Flow) → Contains (flows_at b s) f → var (variable f) (test (quiet_vars p s) x y part fields) ≡ quiet p
  edges_quiet Positive s x y part fields f there = refl
  edges_quiet Negative s x y part fields f there =
      found_any (λ y. y == variable f) (map variable (flows_at b s)) (variable f) (Contains-map variable (flows_at b s) f there) (eq-eqb (variable f) (variable f) refl)

  -- the special state says what no part says, where its own parts do
  special_quiet : (p : Polarity) (s : ℕ) → IsState b p s → (x y : Bool) (part : FunctionPart) (fields : RecordPart)
      → ((head_at b s).boolean ≡ true → x ≡ quiet p) → ((head_at b s).integer ≡ true → y ≡ quiet p)
      → ((arms : Arms) → (head_at b s).function ≡ Some arms → function_answer (set_value (opposite p) den arms.domain) (set_value p den arms.codomain) part ≡ quiet p)
      → ((sets : List FieldSet) → (head_at b s).fields ≡ Some sets → record_answer (λ label. option_map (set_value p den) (set_at sets label)) fields ≡ quiet p)
      → den s (test (quiet_vars p s) x y part fields) ≡ quiet p
  special_quiet p s state x y part fields booleans integers functions records =
      state_quiet (λ f. var (variable f)) b p s (test (quiet_vars p s) x y part fields) state.polarity
      (edges_quiet p s x y part fields)
      (record { boolean = booleans; integer = integers; function = functions; fields = records })

  -- the model says more than a part of the general head does
  head_inside : (p : Polarity) (g : ℕ) → IsState a p g → IsInside p (head_value p T (head_at a g)) (T g)
  head_inside p g state = subst (λ q. IsInside q (head_value q T (head_at a g)) (T g)) state.polarity (model.heads g)

  general_loud : (p : Polarity) (g : ℕ) → IsState a p g → (f : Predicate) → IsInside p f (head_value p T (head_at a g)) → (t : Test) → f t ≡ loud p → T g t ≡ loud p
  general_loud p g state f inside t e =
      loud_inside p f (T g) t (inside-trans p f (head_value p T (head_at a g)) (T g) inside (head_inside p g state)) e

  function_loud : (p : Polarity) (g : ℕ) → IsState a p g → (arms : Arms) → (head_at a g).function ≡ Some arms → (vars : List ℕ) (x y : Bool) (part : FunctionPart) (fields : RecordPart) → function_answer (set_value (opposite p) T arms.domain) (set_value p T arms.codomain) part ≡ loud p → T g (test vars x y part fields) ≡ loud p
  function_loud p g state arms e vars x y part fields answer =
      general_loud p g state (function_value p T arms) (function-inside p T (head_at a g) arms e) (test vars x y part fields) answer

  record_loud : (p : Polarity) (g : ℕ) → IsState a p g → (sets : List FieldSet) → (head_at a g).fields ≡ Some sets → (vars : List ℕ) (x y : Bool) (part : FunctionPart) (fields : RecordPart) → record_answer (λ label. option_map (set_value p T) (set_at sets label)) fields ≡ loud p → T g (test vars x y part fields) ≡ loud p
  record_loud p g state sets e vars x y part fields answer =
      general_loud p g state (record_value p T (set_at sets)) (record-inside p T (head_at a g) sets e) (test vars x y part fields) answer

  -- one step back
  module _ (p : Polarity) (g s : ℕ) (is_g : IsState a p g) (is_s : IsState b p s) where
    counter_function : (part : FunctionPart) (f h : Arms) → (head_at a g).function ≡ Some f → (head_at b s).function ≡ Some h
        → function_answer (set_value (opposite p) T f.domain) (set_value p T f.codomain) part ≡ loud p
        → function_answer (set_value (opposite p) den h.domain) (set_value p den h.codomain) part ≡ quiet p
        → IsCounter p g s
    counter_function part f h e e' first second = (
      test (quiet_vars p s) (quiet p) (quiet p) part (quiet_record p),
      function_loud p g is_g f e (quiet_vars p s) (quiet p) (quiet p) part (quiet_record p) first,
      special_quiet p s is_s (quiet p) (quiet p) part (quiet_record p) (λ there. refl) (λ there. refl)
          (λ arms there.
          let same : h ≡ arms = cc in
          subst (λ (h : Arms). function_answer (set_value (opposite p) den h.domain) (set_value p den h.codomain) part ≡ quiet p) same second)
          (λ sets there. records_quiet p (λ label. option_map (set_value p den) (set_at sets label))),
    )

    counter_record : (part : RecordPart) (fs hs : List FieldSet) → (head_at a g).fields ≡ Some fs → (head_at b s).fields ≡ Some hs
        → record_answer (λ label. option_map (set_value p T) (set_at fs label)) part ≡ loud p
        → record_answer (λ label. option_map (set_value p den) (set_at hs label)) part ≡ quiet p
        → IsCounter p g s
    counter_record part fs hs e e' first second = (
      test (quiet_vars p s) (quiet p) (quiet p) (quiet_function p) part,
      record_loud p g is_g fs e (quiet_vars p s) (quiet p) (quiet p) (quiet_function p) part first,
      special_quiet p s is_s (quiet p) (quiet p) (quiet_function p) part (λ there. refl) (λ there. refl)
          (λ arms there. functions_quiet p (set_value (opposite p) den arms.domain) (set_value p den arms.codomain))
          (λ sets there.
          let same : hs ≡ sets = cc in
          subst (λ (hs : List FieldSet). record_answer (λ label. option_map (set_value p den) (set_at hs label)) part ≡ quiet p) same second),
    )

    arms_single_a : (f : Arms) → (head_at a g).function ≡ Some f → HasSingleArms (Some f)
    arms_single_a f e = subst HasSingleArms e (single_a g).0

    arms_single_b : (f : Arms) → (head_at b s).function ≡ Some f → HasSingleArms (Some f)
    arms_single_b f e = subst HasSingleArms e (single_b s).0

    domain_before : (g' s' : ℕ) → InDomain a g g' → InDomain b s s' → IsCounter (opposite p) g' s' → IsCounter p g s
    domain_before g' s' left right it =
        counter_function (dom it.0) left.0 right.0 left.1 right.1
        (ap not ((λ i. single-value (opposite p) T left.0.domain g' (arms_single_a left.0 left.1).0 left.2 i it.0) ∙ it.1) ∙ not_loud p)
        (ap not ((λ i. single-value (opposite p) den right.0.domain s' (arms_single_b right.0 right.1).0 right.2 i it.0) ∙ it.2) ∙ not_quiet p)

    codomain_before : (g' s' : ℕ) → InCodomain a g g' → InCodomain b s s' → IsCounter p g' s' → IsCounter p g s
    codomain_before g' s' left right it =
        counter_function (cod it.0) left.0 right.0 left.1 right.1
        ((λ i. single-value p T left.0.codomain g' (arms_single_a left.0 left.1).1 left.2 i it.0) ∙ it.1)
        ((λ i. single-value p den right.0.codomain s' (arms_single_b right.0 right.1).1 right.2 i it.0) ∙ it.2)

    field_before : (label : List ℕ) (g' s' : ℕ) → InField a g label g' → InField b s label s' → IsCounter p g' s' → IsCounter p g s
    field_before label g' s' left right it =
        counter_record (at label it.0) left.0 right.0 left.2 right.2
        (ap (λ o. field_answer (option_map (set_value p T) o) it.0) left.3
        ∙ ((λ i. single-value p T left.1 g' (single-field left.0 (subst HasSingleFields left.2 (single_a g).1) label left.1 left.3) left.4 i it.0) ∙ it.1))
        (ap (λ o. field_answer (option_map (set_value p den) o) it.0) right.3
        ∙ ((λ i. single-value p den right.1 s' (single-field right.0 (subst HasSingleFields right.2 (single_b s).1) label right.1 right.3) right.4 i it.0) ∙ it.2))

    -- the general state has a part, and the special one has none of its kind
    pub head-counter : (k : HeadKind) → has_kind k (head_at a g) ≡ true → has_kind k (head_at b s) ≡ false → IsCounter p g s
    head-counter kind.Bool there absent = (
      test (quiet_vars p s) (loud p) (quiet p) (quiet_function p) (quiet_record p),
      general_loud p g is_g bool (subst (λ x. IsInside p (bit_value p bool x) (head_value p T (head_at a g))) there (booleans-inside p T (head_at a g))) _ refl,
      special_quiet p s is_s (loud p) (quiet p) (quiet_function p) (quiet_record p) (λ e. absurd (cc)) (λ e. refl)
          (λ arms e. functions_quiet p _ _)
          (λ sets e. records_quiet p _),
    )
    head-counter kind.Int there absent = (
      test (quiet_vars p s) (quiet p) (loud p) (quiet_function p) (quiet_record p),
      general_loud p g is_g int (subst (λ x. IsInside p (bit_value p int x) (head_value p T (head_at a g))) there (integers-inside p T (head_at a g))) _ refl,
      special_quiet p s is_s (quiet p) (loud p) (quiet_function p) (quiet_record p) (λ e. refl) (λ e. absurd (cc))
          (λ arms e. functions_quiet p _ _)
          (λ sets e. records_quiet p _),
    )
    head-counter kind.Function there absent = go (head_at a g).function refl there
      where
        go : (o : Option Arms) → (head_at a g).function ≡ o → is_some o ≡ true → IsCounter p g s
        go None e some = absurd (cc)
        go (Some arms) e some = (
          test (quiet_vars p s) (quiet p) (quiet p) (loud_function p) (quiet_record p),
          function_loud p g is_g arms e _ _ _ (loud_function p) (quiet_record p) (functions_loud p _ _),
          special_quiet p s is_s (quiet p) (quiet p) (loud_function p) (quiet_record p) (λ e. refl) (λ e. refl)
              (λ arms e. let yes : is_some (head_at b s).function ≡ true = ap is_some e in absurd (cc))
              (λ sets e. records_quiet p _),
        )
    head-counter kind.Rcd there absent = go (head_at a g).fields refl there
      where
        go : (o : Option (List FieldSet)) → (head_at a g).fields ≡ o → is_some o ≡ true → IsCounter p g s
        go None e some = absurd (cc)
        go (Some sets) e some = (
          test (quiet_vars p s) (quiet p) (quiet p) (quiet_function p) (loud_record p),
          record_loud p g is_g sets e _ _ _ (quiet_function p) (loud_record p) (records_loud p _),
          special_quiet p s is_s (quiet p) (quiet p) (quiet_function p) (loud_record p) (λ e. refl) (λ e. refl)
              (λ arms e. functions_quiet p _ _)
              (λ sets e. let yes : is_some (head_at b s).fields ≡ true = ap is_some e in absurd (cc)),
        )

  -- only one of the two records has a label
  pub label-counter : (p : Polarity) (g s : ℕ) → IsState a p g → IsState b p s → (label : List ℕ) (o other : Option (List FieldSet)) → (head_at a g).fields ≡ o → (head_at b s).fields ≡ other → FailsByLabel p o other label → IsCounter p g s
  label-counter Positive g s is_g is_s label None None e e' it = absurd it
  label-counter Positive g s is_g is_s label (Some fs) None e e' it = absurd it
  label-counter Positive g s is_g is_s label None (Some hs) e e' it = absurd it
  label-counter Positive g s is_g is_s label (Some fs) (Some hs) e e' it =
      counter_record Positive g s is_g is_s (lacks label) fs hs e e'
      (ap (λ o. is_none (option_map (set_value Positive T) o)) it.2)
      (ap (λ o. is_none (option_map (set_value Positive den) o)) it.1)
  label-counter Negative g s is_g is_s label None None e e' it = absurd it
  label-counter Negative g s is_g is_s label (Some fs) None e e' it = absurd it
  label-counter Negative g s is_g is_s label None (Some hs) e e' it = absurd it
  label-counter Negative g s is_g is_s label (Some fs) (Some hs) e e' it =
      counter_record Negative g s is_g is_s (lacks label) fs hs e e'
      (ap (λ o. is_none (option_map (set_value Negative T) o)) it.1)
      (ap (λ o. is_none (option_map (set_value Negative den) o)) it.2)

  -- a counter-test of the pair that a step leads to gives one of the pair before
  pub counter_before : (step : Step) (p : Polarity) (g s g' s' : ℕ) → IsState a p g → IsState b p s → Leads a b step g s g' s' → ((q : Polarity) → IsState a q g' → IsState b q s' → IsCounter q g' s') → IsCounter p g s
  counter_before step.Domain p g s g' s' is_g is_s leads counter =
      domain_before p g s is_g is_s g' s' leads.0 leads.1
      (counter (opposite p) (in_domain-state a closed_a g p is_g.polarity g' leads.0) (in_domain-state b closed_b s p is_s.polarity s' leads.1))
  counter_before step.Codomain p g s g' s' is_g is_s leads counter =
      codomain_before p g s is_g is_s g' s' leads.0 leads.1
      (counter p (in_codomain-state a closed_a g p is_g.polarity g' leads.0) (in_codomain-state b closed_b s p is_s.polarity s' leads.1))
  counter_before (step.At label) p g s g' s' is_g is_s leads counter =
      field_before p g s is_g is_s label g' s' leads.0 leads.1
      (counter p (in_field-state a closed_a g p is_g.polarity label g' leads.0) (in_field-state b closed_b s p is_s.polarity label s' leads.1))

  -- and so one at the end of a path gives one at its beginning
  pub counter_along : (steps : List Step) (g s g' s' : ℕ) → IsPath a b steps g s g' s' → (p : Polarity) → IsState a p g → IsState b p s → ((q : Polarity) → IsState a q g' → IsState b q s' → IsCounter q g' s') → IsCounter p g s
  counter_along steps g s g' s' none p is_g is_s counter = counter p is_g is_s
  counter_along steps g s g' s' (more {step = step} {rest = rest} {h = h} {t = t} leads path) p is_g is_s counter =
      counter_before step p g s h t is_g is_s leads (λ q is_h is_t. counter_along rest h t g' s' path q is_h is_t counter)
