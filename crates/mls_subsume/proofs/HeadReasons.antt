-- The first reason by which two heads fail.
--     kind-first, kinds-fine             kinds of parts
--     alone-first, alone-none            labels that only one record has
--     no-fields, no-other-fields         where one of the two has no record, no label fails
--     reason-kind, reason-label, reason-none       the first reason
--     fails-by-head, by-head-or-flow     failures by heads, and by flow
use Rattle.std.proofs.Common.{◌≡◌, ◌≢◌, ◌⊎◌, inl, inr, ℕ, zero, suc, ◌+◌, ◌<◌, ◌≤◌, true, false, List, [], ◌∷◌, refl, sym, ap, ◌∙◌, subst, arith, length, get_or, Contains, Some, None}
use Rattle.std.specs.Prelude.{Option, is_some, option_map}
use Rattle.std.specs.Ordering.{nat_cmp}
use Rattle.std.specs.declared.cmp.Ordering.TheVariants.{Less}
use Rattle.std.specs.Cmp.Lexicographic.{slice_cmp}
use Rattle.std.proofs.lemmas.Bool.{cases_eq, cases_lt}
use Rattle.std.proofs.lemmas.List.{get_or_default}
use Rattle.mls_automaton.specs.declared.automaton.Polarity.{Polarity}
use Rattle.mls_automaton.specs.declared.automaton.Polarity.TheVariants.{Positive, Negative}
use Rattle.mls_automaton.specs.declared.automaton.FieldSet.{FieldSet}
use Rattle.mls_automaton.specs.declared.automaton.Head.{Head}
use Rattle.mls_automaton.specs.declared.automaton.HeadKind.{HeadKind}
use Rattle.mls_automaton.specs.declared.automaton.HeadKind.TheVariants as kind
use Rattle.mls_automaton.specs.declared.scheme.Scheme.{Scheme}
use Rattle.mls_automaton.specs.Automata.{has_kind, head_at}
use Rattle.mls_automaton.specs.Heads.{AreRising, set_at}
use Rattle.mls_automaton.proofs.CombinedStates.{found_at}
use Rattle.mls_automaton.proofs.JoinedFields.{rising-less}
use Rattle.mls_solver.specs.Clashes.{rank}
use Rattle.mls_flow.proofs.Fields.{set_at-field}
use Rattle.mls_subsume.specs.declared.verdict.Reason.{Reason}
use Rattle.mls_subsume.specs.declared.verdict.Reason.TheVariants as reason
use Rattle.mls_subsume.specs.Failures.{Fails, FailsByHead, FailsByLabel, HasLabelAlone, IsFirstMissing, IsFirstReason, IsLeast, IsReasonBefore}

-- the second head has this kind where the first has it
abbrev pub IsFine : Head → Head → HeadKind → Type 0
IsFine h k kind = has_kind kind h ≡ true → has_kind kind k ≡ true

same-rank : (kind other : HeadKind) → rank other ≡ rank kind → other ≡ kind
same-rank kind.Bool kind.Bool e = refl
same-rank kind.Bool kind.Int e = absurd (omega arith)
same-rank kind.Bool kind.Function e = absurd (omega arith)
same-rank kind.Bool kind.Rcd e = absurd (omega arith)
same-rank kind.Int kind.Bool e = absurd (omega arith)
same-rank kind.Int kind.Int e = refl
same-rank kind.Int kind.Function e = absurd (omega arith)
same-rank kind.Int kind.Rcd e = absurd (omega arith)
same-rank kind.Function kind.Bool e = absurd (omega arith)
same-rank kind.Function kind.Int e = absurd (omega arith)
same-rank kind.Function kind.Function e = refl
same-rank kind.Function kind.Rcd e = absurd (omega arith)
same-rank kind.Rcd kind.Bool e = absurd (omega arith)
same-rank kind.Rcd kind.Int e = absurd (omega arith)
same-rank kind.Rcd kind.Function e = absurd (omega arith)
same-rank kind.Rcd kind.Rcd e = refl

kind-before : (kind other : HeadKind) → rank kind < rank other → IsReasonBefore (reason.Head kind) (reason.Head other)
kind-before kind.Bool kind.Bool low = absurd (omega arith)
kind-before kind.Bool kind.Int low = refl
kind-before kind.Bool kind.Function low = refl
kind-before kind.Bool kind.Rcd low = refl
kind-before kind.Int kind.Bool low = absurd (omega arith)
kind-before kind.Int kind.Int low = absurd (omega arith)
kind-before kind.Int kind.Function low = refl
kind-before kind.Int kind.Rcd low = refl
kind-before kind.Function kind.Bool low = absurd (omega arith)
kind-before kind.Function kind.Int low = absurd (omega arith)
kind-before kind.Function kind.Function low = absurd (omega arith)
kind-before kind.Function kind.Rcd low = refl
kind-before kind.Rcd kind.Bool low = absurd (omega arith)
kind-before kind.Rcd kind.Int low = absurd (omega arith)
kind-before kind.Rcd kind.Function low = absurd (omega arith)
kind-before kind.Rcd kind.Rcd low = absurd (omega arith)

pub kind-first : (h k : Head) (kind : HeadKind) → has_kind kind h ≡ true → has_kind kind k ≡ false → ((other : HeadKind) → rank other < rank kind → IsFine h k other) → IsFirstMissing h k (Some kind)
kind-first h k kind has lacks fine = (has, lacks, λ other has' lacks'. go other has' lacks' (cases_lt (rank other) (rank kind)) (cases_eq (rank other) (rank kind)))
  where
    go : (other : HeadKind) → has_kind other h ≡ true → has_kind other k ≡ false → (rank other < rank kind) ⊎ (rank kind ≤ rank other) → (rank other ≡ rank kind) ⊎ (rank other ≢ rank kind) → (other ≡ kind) ⊎ (rank kind < rank other)
    go other has' lacks' (inl low) order = let there : has_kind other k ≡ true = fine other low has' in absurd (cc)
    go other has' lacks' (inr high) (inl same) = inl (same-rank kind other same)
    go other has' lacks' (inr high) (inr apart) = inr (omega arith)

module _ (h k : Head) where
  pub bool-first : h.boolean ≡ true → k.boolean ≡ false → IsFirstMissing h k (Some kind.Bool)
  bool-first has lacks = kind-first h k kind.Bool has lacks (λ other low. absurd (omega arith))

  pub int-first : IsFine h k kind.Bool → h.integer ≡ true → k.integer ≡ false → IsFirstMissing h k (Some kind.Int)
  int-first boolean has lacks = kind-first h k kind.Int has lacks fine
    where
      fine : (other : HeadKind) → rank other < 1 → IsFine h k other
      fine kind.Bool low = boolean
      fine kind.Int low = absurd (omega arith)
      fine kind.Function low = absurd (omega arith)
      fine kind.Rcd low = absurd (omega arith)

  pub function-first : IsFine h k kind.Bool → IsFine h k kind.Int → has_kind kind.Function h ≡ true → has_kind kind.Function k ≡ false → IsFirstMissing h k (Some kind.Function)
  function-first boolean integer has lacks = kind-first h k kind.Function has lacks fine
    where
      fine : (other : HeadKind) → rank other < 2 → IsFine h k other
      fine kind.Bool low = boolean
      fine kind.Int low = integer
      fine kind.Function low = absurd (omega arith)
      fine kind.Rcd low = absurd (omega arith)

  pub record-first : IsFine h k kind.Bool → IsFine h k kind.Int → IsFine h k kind.Function → has_kind kind.Rcd h ≡ true → has_kind kind.Rcd k ≡ false → IsFirstMissing h k (Some kind.Rcd)
  record-first boolean integer function has lacks = kind-first h k kind.Rcd has lacks fine
    where
      fine : (other : HeadKind) → rank other < 3 → IsFine h k other
      fine kind.Bool low = boolean
      fine kind.Int low = integer
      fine kind.Function low = function
      fine kind.Rcd low = absurd (omega arith)

  pub kinds-fine : IsFine h k kind.Bool → IsFine h k kind.Int → IsFine h k kind.Function → IsFine h k kind.Rcd → IsFirstMissing h k None
  kinds-fine boolean integer function fields kind.Bool = boolean
  kinds-fine boolean integer function fields kind.Int = integer
  kinds-fine boolean integer function fields kind.Function = function
  kinds-fine boolean integer function fields kind.Rcd = fields

-- labels: none of the first fields is alone
abbrev pub HasNoneAlone : List FieldSet → List FieldSet → ℕ → Type 0
HasNoneAlone fields others i = (j : ℕ) (d : FieldSet) → j < i → set_at others (get_or fields j d).label ≡ None → ⊥

module _ (fields others : List FieldSet) (rising : AreRising fields) where
  -- the field of a label that only the first record has
  alone-field : (label : List ℕ) → HasLabelAlone (Some fields) (Some others) label → (j : ℕ) × (field : FieldSet) × (j < length fields) × (get_or fields j field ≡ field) × (field.label ≡ label) × (set_at others field.label ≡ None)
  alone-field label alone =
      let it = set_at-field fields label alone.0 alone.1 in
      let there = it.1 in
      (there.0, it.0, there.1, there.2, it.2, subst (λ l. set_at others l ≡ None) (sym it.2) alone.2)

  pub alone-none : HasNoneAlone fields others (length fields) → IsLeast (HasLabelAlone (Some fields) (Some others)) None
  alone-none none label alone =
      let it = alone-field label alone in
      none it.0 it.1 it.2 (subst (λ (f : FieldSet). set_at others f.label ≡ None) (sym it.3) it.5)

  pub alone-first : (i : ℕ) (field : FieldSet) → i < length fields → get_or fields i field ≡ field → set_at others field.label ≡ None → HasNoneAlone fields others i → IsLeast (HasLabelAlone (Some fields) (Some others)) (Some field.label)
  alone-first i field low is lacks none = (
    (field.set, subst (λ (f : FieldSet). set_at fields f.label ≡ Some f.set) is (found_at fields rising i field low), lacks),
    λ label alone.
        let it = alone-field label alone in
        let j : ℕ = it.0 in
        go label j it.1 it.2 it.3 it.4 it.5 (cases_eq j i) (cases_lt j i),
  )
    where
      go : (label : List ℕ) (j : ℕ) (other : FieldSet) → j < length fields → get_or fields j other ≡ other → other.label ≡ label → set_at others other.label ≡ None → (j ≡ i) ⊎ (j ≢ i) → (j < i) ⊎ (i ≤ j) → (label ≡ field.label) ⊎ (slice_cmp nat_cmp field.label label ≡ Less)
      go label j other low_j at is_label lacks' (inl same) order =
          let e : other ≡ field = sym at ∙ (get_or_default fields j other field low_j ∙ (ap (λ k. get_or fields k field) same ∙ is)) in
          inl (sym is_label ∙ ap (λ (f : FieldSet). f.label) e)
      go label j other low_j at is_label lacks' (inr apart) (inl before) = absurd (none j other before (subst (λ (f : FieldSet). set_at others f.label ≡ None) (sym at) lacks'))
      go label j other low_j at is_label lacks' (inr apart) (inr behind) =
          let less : i < j = omega arith in
          inr (subst (λ l. slice_cmp nat_cmp field.label l ≡ Less) is_label
          (subst (λ (f : FieldSet). slice_cmp nat_cmp field.label f.label ≡ Less) at
          (subst (λ (f : FieldSet). slice_cmp nat_cmp f.label (get_or fields j other).label ≡ Less) (sym (get_or_default fields i field other low) ∙ is) (rising-less fields rising i j other less low_j))))

  -- one field more is not alone
  pub alone-more : (i : ℕ) (field : FieldSet) → i < length fields → get_or fields i field ≡ field → (set_at others field.label ≡ None → ⊥) → HasNoneAlone fields others i → HasNoneAlone fields others (i + 1)
  alone-more i field low is has none j d low_j lacks =
      elim (cases_eq j i) [
        | inl same ↦
            let e : get_or fields j d ≡ field = ap (λ k. get_or fields k d) same ∙ (get_or_default fields i d field low ∙ is) in
            has (subst (λ (f : FieldSet). set_at others f.label ≡ None) e lacks)
        | inr other ↦ none j d (omega arith) lacks
      ]

-- a field that was not found
pub not-there : {X Y : Type 0} (f : X → Y) (found : Option X) (there : Option Y) → option_map f found ≡ there → is_some found ≡ false → there ≡ None
not-there f None there is e = sym is
not-there f (Some x) there is e = let e : true ≡ false = e in absurd (cc)

pub no-fields : (p : Polarity) (other : Option (List FieldSet)) → IsLeast (FailsByLabel p None other) None
no-fields Positive None label fails = fails
no-fields Positive (Some hs) label fails = fails
no-fields Negative None label fails = fails
no-fields Negative (Some hs) label fails = fails

pub no-other-fields : (p : Polarity) (o : Option (List FieldSet)) → IsLeast (FailsByLabel p o None) None
no-other-fields Positive None label fails = fails
no-other-fields Positive (Some fs) label fails = fails
no-other-fields Negative None label fails = fails
no-other-fields Negative (Some fs) label fails = fails

-- reasons
module _ (p : Polarity) (h k : Head) where
  pub reason-kind : (kind : HeadKind) → IsFirstMissing h k (Some kind) → IsFirstReason p h k (Some (reason.Head kind))
  reason-kind kind it = ((it.0, it.1), later)
    where
      of-kind : (other : HeadKind) → (other ≡ kind) ⊎ (rank kind < rank other) → (reason.Head other ≡ reason.Head kind) ⊎ IsReasonBefore (reason.Head kind) (reason.Head other)
      of-kind other (inl same) = inl (ap reason.Head same)
      of-kind other (inr low) = inr (kind-before kind other low)

      later : (other : Reason) → FailsByHead p h k other → (other ≡ reason.Head kind) ⊎ IsReasonBefore (reason.Head kind) other
      later (reason.Head other) fails = of-kind other (it.2 other fails.0 fails.1)
      later (reason.Label label) fails = inr refl
      later reason.Flow fails = absurd fails

  pub reason-label : (label : List ℕ) → IsFirstMissing h k None → IsLeast (FailsByLabel p h.fields k.fields) (Some label) → IsFirstReason p h k (Some (reason.Label label))
  reason-label label fine it = (it.0, later)
    where
      of-label : (other : List ℕ) → (other ≡ label) ⊎ (slice_cmp nat_cmp label other ≡ Less) → (reason.Label other ≡ reason.Label label) ⊎ IsReasonBefore (reason.Label label) (reason.Label other)
      of-label other (inl same) = inl (ap reason.Label same)
      of-label other (inr less) = inr less

      later : (other : Reason) → FailsByHead p h k other → (other ≡ reason.Label label) ⊎ IsReasonBefore (reason.Label label) other
      later (reason.Head kind) fails = let there : has_kind kind k ≡ true = fine kind fails.0 in let no : has_kind kind k ≡ false = fails.1 in absurd (cc)
      later (reason.Label other) fails = of-label other (it.1 other fails)
      later reason.Flow fails = absurd fails

  pub reason-none : IsFirstMissing h k None → IsLeast (FailsByLabel p h.fields k.fields) None → IsFirstReason p h k None
  reason-none fine none (reason.Head kind) fails = let there : has_kind kind k ≡ true = fine kind fails.0 in let no : has_kind kind k ≡ false = fails.1 in absurd (cc)
  reason-none fine none (reason.Label label) fails = none label fails
  reason-none fine none reason.Flow fails = fails

-- failures
pub fails-by-head : (general special : Scheme) (p : Polarity) (g s : ℕ) (why : Reason) → FailsByHead p (head_at general.automaton g) (head_at special.automaton s) why → Fails general special p g s why
fails-by-head general special p g s (reason.Head kind) fails = fails
fails-by-head general special p g s (reason.Label label) fails = fails
fails-by-head general special p g s reason.Flow fails = absurd fails

pub by-head-or-flow : (general special : Scheme) (p : Polarity) (g s : ℕ) (why : Reason) → Fails general special p g s why → FailsByHead p (head_at general.automaton g) (head_at special.automaton s) why ⊎ (why ≡ reason.Flow)
by-head-or-flow general special p g s (reason.Head kind) fails = inl fails
by-head-or-flow general special p g s (reason.Label label) fails = inl fails
by-head-or-flow general special p g s reason.Flow fails = inr refl
