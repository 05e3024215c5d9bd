-- Targets are met one after the other.
--     follows-longer, follows-append      what was met stays, and further targets follow
--     follows-field, follows-fields       the fields of two records
--     arms-below, fields-below            the states that heads name are there
use Rattle.std.proofs.Common.{◌≡◌, ◌⊎◌, inl, inr, ℕ, suc, ◌+◌, ◌<◌, ◌≤◌, List, [], ◌∷◌, ◌++◌, take, refl, sym, ap, ◌∙◌, subst, arith, length, get_or, All, Contains, Some, None, length-append}
use Rattle.std.specs.Prelude.{Option}
use Rattle.std.proofs.Math.Seq.{take-suc}
use Rattle.std.proofs.lemmas.List.{append-nil, append_assoc, get_or_default}
use Rattle.std.proofs.lemmas.List.Elements.{All-contains}
use Rattle.mls_automaton.specs.declared.automaton.Arms.{Arms}
use Rattle.mls_automaton.specs.declared.automaton.FieldSet.{FieldSet}
use Rattle.mls_automaton.specs.declared.automaton.Polarity.{Polarity}
use Rattle.mls_automaton.specs.declared.automaton.Polarity.TheVariants.{Positive}
use Rattle.mls_automaton.specs.Automata.{Automaton, opposite, IsState}
use Rattle.mls_automaton.specs.Heads.{set_at}
use Rattle.mls_automaton.specs.Models.{HasArmsIn, HasFieldsIn}
use Rattle.mls_automaton.proofs.Lists.{All-contained}
use Rattle.mls_flow.specs.Needs.{only}
use Rattle.mls_subsume.specs.declared.verdict.Step.TheVariants as step
use Rattle.mls_subsume.specs.Searches.{Met, met_at}
use Rattle.mls_subsume.specs.steps.Queues.{IsMet, Meets}
use Rattle.mls_subsume.specs.steps.Targets.{Follows, Target, field_target, field_targets}

meets-longer : (old new : List Met) (from : ℕ) (t : Target) → Meets old from t.step t.general t.special new → length old ≤ length new
meets-longer old new from t (inl it) = let e : length new ≡ length old = ap length it.1 in omega arith
meets-longer old new from t (inr it) =
    let m : Met = record { general = t.general; special = t.special; steps = (met_at old from).steps ++ t.step ∷ [] } in
    let e : length new ≡ length old + 1 = ap length it ∙ length-append old (m ∷ []) in
    omega arith

pub follows-longer : (old new : List Met) (from : ℕ) (targets : List Target) → Follows old from targets new → length old ≤ length new
follows-longer old new from [] is = let e : length new ≡ length old = ap length is in omega arith
follows-longer old new from (t ∷ targets) is =
    let first : length old ≤ length is.0 = meets-longer old is.0 from t is.1 in
    let rest : length is.0 ≤ length new = follows-longer is.0 new from targets is.2 in
    omega arith

pub follows-append : (old mid new : List Met) (from : ℕ) (first second : List Target) → Follows old from first mid → Follows mid from second new → Follows old from (first ++ second) new
follows-append old mid new from [] second is later = subst (λ xs. Follows xs from second new) is later
follows-append old mid new from (t ∷ first) second is later = (is.0, is.1, follows-append is.0 mid new from first second is.2 later)

pub follows-field : (old new : List Met) (from : ℕ) (field : FieldSet) (others : List FieldSet) (label set : List ℕ) (g s : ℕ) → set_at others field.label ≡ Some set → label ≡ field.label → g ≡ only field.set → s ≡ only set → Meets old from (step.At label) g s new → Follows old from (field_target field (set_at others field.label)) new
follows-field old new from field others label set g s at is_label is_g is_s meets =
    subst (λ o. Follows old from (field_target field o) new) (sym at)
    (new, subst (λ l. Meets old from (step.At l) (only field.set) (only set) new) is_label (subst (λ g. Meets old from (step.At label) g (only set) new) is_g (subst (λ s. Meets old from (step.At label) g s new) is_s meets)), refl)

targets-append : (first second others : List FieldSet) → field_targets (first ++ second) others ≡ field_targets first others ++ field_targets second others
targets-append [] second others = refl
targets-append (f ∷ first) second others =
    ap (λ ts. field_target f (set_at others f.label) ++ ts) (targets-append first second others)
    ∙ sym (append_assoc (field_target f (set_at others f.label)) (field_targets first others) (field_targets second others))

pub follows-fields : (old mid new : List Met) (from : ℕ) (fields others : List FieldSet) (i : ℕ) (field : FieldSet) → i < length fields → field ≡ get_or fields i field → Follows old from (field_targets (take i fields) others) mid
    → Follows mid from (field_target field (set_at others field.label)) new → Follows old from (field_targets (take (i + 1) fields) others) new
follows-fields old mid new from fields others i field low is so-far next =
    subst (λ ts. Follows old from ts new) taken
    (follows-append old mid new from (field_targets (take i fields) others) (field_target field (set_at others field.label)) so-far next)
  where
    longer : take i fields ++ field ∷ [] ≡ take (i + 1) fields
    longer =
        ap (λ (f : FieldSet). take i fields ++ f ∷ []) is ∙ (sym (take-suc fields i field low) ∙ ap (λ j. take j fields) (let e : suc i ≡ i + 1 = omega arith in e))

    taken : field_targets (take i fields) others ++ field_target field (set_at others field.label) ≡ field_targets (take (i + 1) fields) others
    taken =
        ap (λ ts. field_targets (take i fields) others ++ ts) (sym (append-nil (field_target field (set_at others field.label))))
        ∙ (sym (targets-append (take i fields) (field ∷ []) others) ∙ ap (λ fs. field_targets fs others) longer)

-- the states that heads name are there
set-below : (a : Automaton) (p : Polarity) (n : ℕ) (set : List ℕ) → n ≡ length a.states → All (IsState a p) set → All (λ j. j < n) set
set-below a p n set is all = All-contained (λ j. j < n) set (λ j there. subst (λ m. j < m) (sym is) (All-contains (IsState a p) set j all there).in_range)

pub arms-below : (a : Automaton) (p : Polarity) (n : ℕ) (o : Option Arms) → n ≡ length a.states → HasArmsIn (IsState a) p o → HasArmsIn (λ q j. j < n) Positive o
arms-below a p n None is each = tt
arms-below a p n (Some arms) is each = (set-below a (opposite p) n arms.domain is each.0, set-below a p n arms.codomain is each.1)

pub fields-below : (a : Automaton) (p : Polarity) (n : ℕ) (o : Option (List FieldSet)) → n ≡ length a.states → HasFieldsIn (IsState a) p o → HasFieldsIn (λ q j. j < n) Positive o
fields-below a p n None is each = tt
fields-below a p n (Some fields) is each =
    All-contained (λ (f : FieldSet). All (λ j. j < n) f.set) fields
    (λ f there. set-below a p n f.set is (All-contains (λ (f : FieldSet). All (IsState a p) f.set) fields f each there))
