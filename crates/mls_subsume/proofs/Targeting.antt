-- The targets of a pair of heads: they are the pairs to which one step leads, in the order of the steps.
--     target_leads          a step leads to each target
--     leads_target          each pair to which a step leads is a target
--     targets-rise          their steps rise
use Rattle.std.proofs.Common.{◌≡◌, ◌⊎◌, inl, inr, ℕ, zero, suc, ◌<◌, List, [], ◌∷◌, ◌++◌, refl, sym, ap, ◌∙◌, subst, arith, length, get_or, All, Contains, Some, None}
use Rattle.std.specs.Prelude.{Option}
use Rattle.std.specs.Ordering.{nat_cmp}
use Rattle.std.specs.declared.cmp.Ordering.TheVariants.{Less}
use Rattle.std.specs.Cmp.Lexicographic.{slice_cmp}
use Rattle.std.proofs.lemmas.List.Elements.{All-append, All-contains, Contains-append_left, Contains-append_right, Contains-append_cases}
use Rattle.mls_automaton.specs.declared.automaton.Arms.{Arms}
use Rattle.mls_automaton.specs.declared.automaton.FieldSet.{FieldSet}
use Rattle.mls_automaton.specs.Automata.{Automaton, head_at}
use Rattle.mls_automaton.specs.Heads.{AreRising, set_at}
use Rattle.mls_automaton.specs.Models.{HasRisingLabels, HasSingleArms, HasSingleFields, IsDeterministic, IsSingle}
use Rattle.mls_automaton.proofs.Lists.{All-contained, Contains-here, Contains-cases}
use Rattle.mls_solver.specs.Relations.{InDomain, InCodomain, InField}
use Rattle.mls_flow.specs.Needs.{only}
use Rattle.mls_flow.proofs.Fields.{set_at-field, field-set_at}
use Rattle.mls_flow.proofs.Separating.{single-field}
use Rattle.mls_subsume.specs.declared.verdict.Step.{Step}
use Rattle.mls_subsume.specs.declared.verdict.Step.TheVariants as step
use Rattle.mls_subsume.specs.Pairs.{Leads}
use Rattle.mls_subsume.specs.Failures.{step_cmp}
use Rattle.mls_subsume.specs.steps.Targets.{Target, field_target, field_targets, function_targets, head_targets, record_targets, target}

pub none-there : {X : Type 0} (x : X) → Contains [] x → ⊥
none-there x it = let no : it.0 < 0 = it.1 in absurd (omega arith)

-- the one member
only-in : (xs : List ℕ) → IsSingle xs → Contains xs (only xs)
only-in xs single = subst (λ ys. Contains ys (only ys)) (sym single.1) (Contains-here single.0 [])

only-is : (xs : List ℕ) (x : ℕ) → IsSingle xs → Contains xs x → only xs ≡ x
only-is xs x single there =
    elim (Contains-cases single.0 [] x (subst (λ ys. Contains ys x) single.1 there)) [
      | inl same ↦ ap only single.1 ∙ same
      | inr none ↦ absurd (none-there x none)
    ]

same-target : (step : Step) (xs ys : List ℕ) (x y : ℕ) → IsSingle xs → IsSingle ys → Contains xs x → Contains ys y → target step xs ys ≡ record { step = step; general = x; special = y }
same-target step xs ys x y single single' in_x in_y = λ i. record { step = step; general = only-is xs x single in_x i; special = only-is ys y single' in_y i }

-- targets of fields
field-back : (fields others : List FieldSet) (t : Target) → Contains (field_targets fields others) t → (field : FieldSet) × Contains fields field × (set : List ℕ) × (set_at others field.label ≡ Some set) × (target (step.At field.label) field.set set ≡ t)
field-back [] others t there = absurd (none-there t there)
field-back (field ∷ fields) others t there =
    go (set_at others field.label) refl (Contains-append_cases (field_target field (set_at others field.label)) (field_targets fields others) t there)
    (λ inside. let it = field-back fields others t inside in (it.0, Contains-append_right (field ∷ []) fields it.0 it.1, it.2, it.3, it.4))
  where
    go : (o : Option (List ℕ)) → set_at others field.label ≡ o → Contains (field_target field o) t ⊎ Contains (field_targets fields others) t
        → (Contains (field_targets fields others) t → (f : FieldSet) × Contains (field ∷ fields) f × (set : List ℕ) × (set_at others f.label ≡ Some set) × (target (step.At f.label) f.set set ≡ t)) → (f : FieldSet) × Contains (field ∷ fields) f × (set : List ℕ) × (set_at others f.label ≡ Some set) × (target (step.At f.label) f.set set ≡ t)
    go None e (inl first) later = absurd (none-there t first)
    go (Some set) e (inl first) later =
        elim (Contains-cases (target (step.At field.label) field.set set) [] t first) [
          | inl same ↦ (field, Contains-here field fields, set, e, same)
          | inr none ↦ absurd (none-there t none)
        ]
    go o e (inr inside) later = later inside

field-there : (fields others : List FieldSet) (field : FieldSet) (set : List ℕ) → Contains fields field → set_at others field.label ≡ Some set → Contains (field_targets fields others) (target (step.At field.label) field.set set)
field-there [] others field set there at = absurd (none-there field there)
field-there (f ∷ fields) others field set there at =
    elim (Contains-cases f fields field there) [
      | inl same ↦
          Contains-append_left (field_target f (set_at others f.label)) (field_targets fields others) (target (step.At field.label) field.set set)
          (subst (λ (g : FieldSet). Contains (field_target g (set_at others g.label)) (target (step.At field.label) field.set set)) (sym same)
          (subst (λ o. Contains (field_target field o) (target (step.At field.label) field.set set)) (sym at) (Contains-here (target (step.At field.label) field.set set) [])))
      | inr inside ↦
          Contains-append_right (field_target f (set_at others f.label)) (field_targets fields others) (target (step.At field.label) field.set set)
          (field-there fields others field set inside at)
    ]

-- the steps of targets rise
abbrev pub AreStepsRising : List Target → Type 0
AreStepsRising [] = Unit {0}
AreStepsRising (t ∷ targets) = All (λ (u : Target). step_cmp t.step u.step ≡ Less) targets × AreStepsRising targets

rising-append : (first second : List Target) → AreStepsRising first → AreStepsRising second → ((t u : Target) → Contains first t → Contains second u → step_cmp t.step u.step ≡ Less) → AreStepsRising (first ++ second)
rising-append [] second rising rising' before = rising'
rising-append (t ∷ first) second rising rising' before = (
  All-append (λ (u : Target). step_cmp t.step u.step ≡ Less) first second rising.0
      (All-contained (λ (u : Target). step_cmp t.step u.step ≡ Less) second (λ u there. before t u (Contains-here t first) there)),
  rising-append first second rising.1 rising' (λ u v there there'. before u v (Contains-append_right (t ∷ []) first u there) there'),
)

no-later : (P : Target → Type 0) → All P []
no-later P = All-contained P [] (λ t none. absurd (none-there t none))

field_target-rises : (field : FieldSet) (o : Option (List ℕ)) → AreStepsRising (field_target field o)
field_target-rises field None = tt
field_target-rises field (Some set) = (no-later (λ (u : Target). step_cmp (step.At field.label) u.step ≡ Less), tt)

field_target-step : (field : FieldSet) (o : Option (List ℕ)) (t : Target) → Contains (field_target field o) t → t.step ≡ step.At field.label
field_target-step field None t there = absurd (none-there t there)
field_target-step field (Some set) t there =
    elim (Contains-cases (target (step.At field.label) field.set set) [] t there) [
      | inl same ↦ ap (λ (u : Target). u.step) (sym same)
      | inr none ↦ absurd (none-there t none)
    ]

fields-rise : (fields others : List FieldSet) → AreRising fields → AreStepsRising (field_targets fields others)
fields-rise [] others rising = tt
fields-rise (field ∷ fields) others rising =
    rising-append (field_target field (set_at others field.label)) (field_targets fields others) (field_target-rises field (set_at others field.label)) (fields-rise fields others rising.1) (λ t u there there'.
    let it = field-back fields others u there' in
    let f : FieldSet = it.0 in
    let less : slice_cmp nat_cmp field.label f.label ≡ Less = All-contains (λ (later : FieldSet). slice_cmp nat_cmp field.label later.label ≡ Less) fields f rising.0 it.1 in
    subst (λ step. step_cmp step u.step ≡ Less) (sym (field_target-step field (set_at others field.label) t there))
    (subst (λ (v : Target). step_cmp (step.At field.label) v.step ≡ Less) it.4 less))

functions-rise : (o other : Option Arms) → AreStepsRising (function_targets o other)
functions-rise None other = tt
functions-rise (Some f) None = tt
functions-rise (Some f) (Some h) = (
  All-contained (λ (u : Target). step_cmp step.Domain u.step ≡ Less) (target step.Codomain f.codomain h.codomain ∷ []) (λ u there. elim (Contains-cases (target step.Codomain f.codomain h.codomain) [] u there) [
    | inl same ↦ subst (λ (v : Target). step_cmp step.Domain v.step ≡ Less) same refl
    | inr none ↦ absurd (none-there u none)
  ]),
  (no-later (λ (u : Target). step_cmp step.Codomain u.step ≡ Less), tt),
)

records-rise : (o other : Option (List FieldSet)) → HasRisingLabels o → AreStepsRising (record_targets o other)
records-rise None other rising = tt
records-rise (Some fs) None rising = tt
records-rise (Some fs) (Some hs) rising = fields-rise fs hs rising

-- steps to parts of functions come before those to fields
function-first : (o other : Option Arms) (t : Target) → Contains (function_targets o other) t → (label : List ℕ) → step_cmp t.step (step.At label) ≡ Less
function-first None other t there label = absurd (none-there t there)
function-first (Some f) None t there label = absurd (none-there t there)
function-first (Some f) (Some h) t there label =
    elim (Contains-cases (target step.Domain f.domain h.domain) (target step.Codomain f.codomain h.codomain ∷ []) t there) [
      | inl same ↦ subst (λ (v : Target). step_cmp v.step (step.At label) ≡ Less) same refl
      | inr later ↦ elim (Contains-cases (target step.Codomain f.codomain h.codomain) [] t later) [
        | inl same ↦ subst (λ (v : Target). step_cmp v.step (step.At label) ≡ Less) same refl
        | inr none ↦ absurd (none-there t none)
      ]
    ]

record-label : (o other : Option (List FieldSet)) (t : Target) → Contains (record_targets o other) t → (label : List ℕ) × (t.step ≡ step.At label)
record-label None other t there = absurd (none-there t there)
record-label (Some fs) None t there = absurd (none-there t there)
record-label (Some fs) (Some hs) t there = let it = field-back fs hs t there in let f : FieldSet = it.0 in (f.label, ap (λ (u : Target). u.step) (sym it.4))

module _ (a b : Automaton) (g s : ℕ) (single_a : HasSingleArms (head_at a g).function) (single_b : HasSingleArms (head_at b s).function) where
  function-leads : (o other : Option Arms) → (head_at a g).function ≡ o → (head_at b s).function ≡ other → (t : Target) → Contains (function_targets o other) t → Leads a b t.step g s t.general t.special
  function-leads None other e e' t there = absurd (none-there t there)
  function-leads (Some f) None e e' t there = absurd (none-there t there)
  function-leads (Some f) (Some h) e e' t there =
      let one : HasSingleArms (Some f) = subst HasSingleArms e single_a in
      let one' : HasSingleArms (Some h) = subst HasSingleArms e' single_b in
      elim (Contains-cases (target step.Domain f.domain h.domain) (target step.Codomain f.codomain h.codomain ∷ []) t there) [
        | inl same ↦ subst (λ (v : Target). Leads a b v.step g s v.general v.special) same ((f, e, only-in f.domain one.0), (h, e', only-in h.domain one'.0))
        | inr later ↦ elim (Contains-cases (target step.Codomain f.codomain h.codomain) [] t later) [
          | inl same ↦ subst (λ (v : Target). Leads a b v.step g s v.general v.special) same ((f, e, only-in f.codomain one.1), (h, e', only-in h.codomain one'.1))
          | inr none ↦ absurd (none-there t none)
        ]
      ]

module _ (a b : Automaton) (g s : ℕ) (rising : HasRisingLabels (head_at a g).fields) (single_a : HasSingleFields (head_at a g).fields) (single_b : HasSingleFields (head_at b s).fields) where
  record-leads : (o other : Option (List FieldSet)) → (head_at a g).fields ≡ o → (head_at b s).fields ≡ other → (t : Target) → Contains (record_targets o other) t → Leads a b t.step g s t.general t.special
  record-leads None other e e' t there = absurd (none-there t there)
  record-leads (Some fs) None e e' t there = absurd (none-there t there)
  record-leads (Some fs) (Some hs) e e' t there =
      let it = field-back fs hs t there in
      let f : FieldSet = it.0 in
      let set : List ℕ = it.2 in
      let at : set_at fs f.label ≡ Some f.set = field-set_at fs (subst HasRisingLabels e rising) f it.1 in
      subst (λ (v : Target). Leads a b v.step g s v.general v.special) it.4 (
        (fs, f.set, e, at, only-in f.set (single-field fs (subst HasSingleFields e single_a) f.label f.set at)),
        (hs, set, e', it.3, only-in set (single-field hs (subst HasSingleFields e' single_b) f.label set it.3)),
      )

module _ (a b : Automaton) (labels : (s : ℕ) → HasRisingLabels (head_at a s).fields) (single_a : IsDeterministic a) (single_b : IsDeterministic b) (g s : ℕ) where
  pub target_leads : (t : Target) → Contains (head_targets (head_at a g) (head_at b s)) t → Leads a b t.step g s t.general t.special
  target_leads t there =
      elim (Contains-append_cases (function_targets (head_at a g).function (head_at b s).function) (record_targets (head_at a g).fields (head_at b s).fields) t there) [
        | inl function ↦ function-leads a b g s (single_a g).0 (single_b s).0 (head_at a g).function (head_at b s).function refl refl t function
        | inr fields ↦ record-leads a b g s (labels g) (single_a g).1 (single_b s).1 (head_at a g).fields (head_at b s).fields refl refl t fields
      ]

  in-functions : (t : Target) (f h : Arms) → (head_at a g).function ≡ Some f → (head_at b s).function ≡ Some h → Contains (function_targets (Some f) (Some h)) t → Contains (head_targets (head_at a g) (head_at b s)) t
  in-functions t f h e e' there =
      Contains-append_left (function_targets (head_at a g).function (head_at b s).function) (record_targets (head_at a g).fields (head_at b s).fields) t
      (subst (λ o. Contains (function_targets o (head_at b s).function) t) (sym e) (subst (λ o. Contains (function_targets (Some f) o) t) (sym e') there))

  in-records : (t : Target) (fs hs : List FieldSet) → (head_at a g).fields ≡ Some fs → (head_at b s).fields ≡ Some hs → Contains (field_targets fs hs) t → Contains (head_targets (head_at a g) (head_at b s)) t
  in-records t fs hs e e' there =
      Contains-append_right (function_targets (head_at a g).function (head_at b s).function) (record_targets (head_at a g).fields (head_at b s).fields) t
      (subst (λ o. Contains (record_targets o (head_at b s).fields) t) (sym e) (subst (λ o. Contains (record_targets (Some fs) o) t) (sym e') there))

  pub leads_target : (step : Step) (g' s' : ℕ) → Leads a b step g s g' s' → Contains (head_targets (head_at a g) (head_at b s)) (record { step = step; general = g'; special = s' })
  leads_target step.Domain g' s' ((f, e, in_f), (h, e', in_h)) =
      let one : HasSingleArms (Some f) = subst HasSingleArms e (single_a g).0 in
      let one' : HasSingleArms (Some h) = subst HasSingleArms e' (single_b s).0 in
      subst (Contains (head_targets (head_at a g) (head_at b s))) (same-target step.Domain f.domain h.domain g' s' one.0 one'.0 in_f in_h)
      (in-functions (target step.Domain f.domain h.domain) f h e e' (Contains-here (target step.Domain f.domain h.domain) (target step.Codomain f.codomain h.codomain ∷ [])))
  leads_target step.Codomain g' s' ((f, e, in_f), (h, e', in_h)) =
      let one : HasSingleArms (Some f) = subst HasSingleArms e (single_a g).0 in
      let one' : HasSingleArms (Some h) = subst HasSingleArms e' (single_b s).0 in
      subst (Contains (head_targets (head_at a g) (head_at b s))) (same-target step.Codomain f.codomain h.codomain g' s' one.1 one'.1 in_f in_h)
      (in-functions (target step.Codomain f.codomain h.codomain) f h e e'
      (Contains-append_right (target step.Domain f.domain h.domain ∷ []) (target step.Codomain f.codomain h.codomain ∷ []) (target step.Codomain f.codomain h.codomain) (Contains-here (target step.Codomain f.codomain h.codomain) [])))
  leads_target (step.At label) g' s' ((fs, xs, e, at, in_xs), (hs, ys, e', at', in_ys)) =
      let it = set_at-field fs label xs at in
      let f : FieldSet = it.0 in
      let one : IsSingle xs = single-field fs (subst HasSingleFields e (single_a g).1) label xs at in
      let one' : IsSingle ys = single-field hs (subst HasSingleFields e' (single_b s).1) label ys at' in
      subst (Contains (head_targets (head_at a g) (head_at b s))) (same-target (step.At label) xs ys g' s' one one' in_xs in_ys)
      (in-records (target (step.At label) xs ys) fs hs e e'
      (subst (λ l. Contains (field_targets fs hs) (target (step.At l) xs ys)) it.2
      (subst (λ zs. Contains (field_targets fs hs) (target (step.At f.label) zs ys)) it.3
      (field-there fs hs f ys it.1 (subst (λ l. set_at hs l ≡ Some ys) (sym it.2) at')))))

  pub targets-rise : AreStepsRising (head_targets (head_at a g) (head_at b s))
  targets-rise =
      rising-append (function_targets (head_at a g).function (head_at b s).function) (record_targets (head_at a g).fields (head_at b s).fields)
      (functions-rise (head_at a g).function (head_at b s).function) (records-rise (head_at a g).fields (head_at b s).fields (labels g)) (λ t u there there'.
      let it = record-label (head_at a g).fields (head_at b s).fields u there' in
      subst (λ step. step_cmp t.step step ≡ Less) (sym it.1) (function-first (head_at a g).function (head_at b s).function t there it.0))
