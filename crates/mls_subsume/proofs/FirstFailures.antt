-- The first failure, read from the pairs in the order in which they were met.
--     head-found       the first pair that fails by its heads, with its first reason
--     no-head          where none does
--     flow-found       the first pair that fails by flow, where none fails by its heads
--     flow-none        where none does, no pair fails
use Rattle.std.proofs.Common.{◌≡◌, ◌⊎◌, inl, inr, ℕ, ◌<◌, ◌≤◌, List, [], refl, sym, ap, ◌∙◌, subst, arith, length, get_or, All, Contains, Some, None}
use Rattle.std.specs.Prelude.{◌↔◌, Option}
use Rattle.std.specs.Ordering.{nat_cmp}
use Rattle.std.specs.declared.cmp.Ordering.TheVariants.{Less}
use Rattle.std.specs.Cmp.Lexicographic.{slice_cmp}
use Rattle.std.proofs.lemmas.List.Elements.{All-contains, Contains-get_or}
use Rattle.mls_automaton.specs.declared.automaton.Polarity.{Polarity}
use Rattle.mls_automaton.specs.declared.automaton.Polarity.TheVariants.{Positive, Negative}
use Rattle.mls_automaton.specs.declared.automaton.Flow.{Flow}
use Rattle.mls_automaton.specs.declared.automaton.Head.{Head}
use Rattle.mls_automaton.specs.declared.scheme.Scheme.{Scheme}
use Rattle.mls_automaton.specs.Automata.{Automaton, polarity_at, head_at, flow, HasFlow, IsState}
use Rattle.mls_automaton.specs.Schemes.{IsScheme}
use Rattle.mls_automaton.proofs.Lists.{All-contained}
use Rattle.mls_flow.specs.Admissible.{IsAdmissible}
use Rattle.mls_flow.specs.Needs.{IsPair}
use Rattle.mls_flow.specs.Tables.{IsExactAt, OfPairs, Table}
use Rattle.mls_subsume.specs.declared.verdict.Reason.{Reason}
use Rattle.mls_subsume.specs.declared.verdict.Reason.TheVariants as reason
use Rattle.mls_subsume.specs.Pairs.{IsPaired}
use Rattle.mls_subsume.specs.Failures.{Fails, FailsByHead, IsFirstFailure, IsFirstReason, flow_rank, reason_key}
use Rattle.mls_subsume.specs.Searches.{FailsByHeadAt, HasNoFailure, HasNoHeadFailure, IsRising, IsSearch, Met, met_at}
use Rattle.mls_subsume.specs.steps.Asked.{IsAsked, IsAskedAt, IsFirstRefused, IsGranted}
use Rattle.mls_subsume.specs.steps.Queues.{IsMet}
use Rattle.mls_subsume.proofs.Exploring.{met_at-contained, state-of}
use Rattle.mls_subsume.proofs.HeadReasons.{by-head-or-flow, fails-by-head}
use Rattle.mls_subsume.proofs.Queues.{queue_failure}
use Rattle.mls_subsume.proofs.Searching.{met_first, path_of}

abbrev no_met : Met
no_met = record { general = 0; special = 0; steps = [] }

-- a reason by heads counts before all flow
head-rank : (general special : Scheme) (m : Met) (why : Reason) → FailsByHeadAt general special m why → flow_rank why ≡ 0
head-rank general special m (reason.Head kind) fails = refl
head-rank general special m (reason.Label label) fails = refl
head-rank general special m reason.Flow fails = absurd fails

flow-rank : (why : Reason) → why ≡ reason.Flow → flow_rank why ≡ 1
flow-rank why e = ap flow_rank e

-- the first reason of the pair of this number
pub first-at : (general special : Scheme) (met : List Met) (k g s : ℕ) → g ≡ (met_at met k).general → s ≡ (met_at met k).special → (p : Polarity) (h h' : Head) (o : Option Reason) → p ≡ polarity_at general.automaton g → h ≡ head_at general.automaton g
    → h' ≡ head_at special.automaton s → IsFirstReason p h h' o
    → IsFirstReason (polarity_at general.automaton (met_at met k).general) (head_at general.automaton (met_at met k).general) (head_at special.automaton (met_at met k).special) o
first-at general special met k g s is_g is_s p h h' o is_p is_h is_h' first =
    subst (λ g. IsFirstReason (polarity_at general.automaton g) (head_at general.automaton g) (head_at special.automaton (met_at met k).special) o) is_g
    (subst (λ s. IsFirstReason (polarity_at general.automaton g) (head_at general.automaton g) (head_at special.automaton s) o) is_s
    (subst (λ p. IsFirstReason p (head_at general.automaton g) (head_at special.automaton s) o) is_p
    (subst (λ h. IsFirstReason p h (head_at special.automaton s) o) is_h (subst (λ h'. IsFirstReason p h h' o) is_h' first))))

-- a table that knows all that is asked is exact there
pub exact-of : (a b : Automaton) (met : List Met) (t : Table) (wanted slice : List Flow) → slice ≡ wanted → All (Contains t.known) slice → OfPairs t.known (IsExactAt b t)
    → ((k : ℕ) → k < length met → (f : Flow) → IsAskedAt a met k f → Contains wanted f) → (k : ℕ) (f : Flow) → k < length met → IsAskedAt a met k f → Contains t.flows f ↔ IsAdmissible b f.negative.0 f.positive.0
exact-of a b met t wanted slice same known exact all k f low asked =
    exact f.negative.0 f.positive.0 (All-contains (Contains t.known) slice f known (subst (λ xs. Contains xs f) (sym same) (all k low f asked)))

-- no pair before this one fails by its heads
abbrev pub HasNoHeadBefore : Scheme → Scheme → List Met → ℕ → Type 0
HasNoHeadBefore general special met k = (j : ℕ) (why : Reason) → j < k → FailsByHeadAt general special (met_at met j) why → ⊥

pub no-head : (general special : Scheme) (met : List Met) → HasNoHeadBefore general special met (length met) → HasNoHeadFailure general special met
no-head general special met none m why there fails =
    let at = met_at-contained met m there in
    none at.0 why at.1 (subst (λ (n : Met). FailsByHeadAt general special n why) (sym at.2) fails)

module _ (general special : Scheme) (met : List Met) (it : IsSearch general special met) (rising : IsRising met) where
  abbrev FailsAt : ℕ → Reason → Type 0
  FailsAt k why = Fails general special (polarity_at general.automaton (met_at met k).general) (met_at met k).general (met_at met k).special why

  abbrev ByHead : ℕ → Reason → Type 0
  ByHead k why = FailsByHeadAt general special (met_at met k) why

  cases : (k : ℕ) (why : Reason) → FailsAt k why → ByHead k why ⊎ (why ≡ reason.Flow)
  cases k = by-head-or-flow general special (polarity_at general.automaton (met_at met k).general) (met_at met k).general (met_at met k).special

  module _ (k : ℕ) (why : Reason) (low : k < length met) (none : HasNoHeadBefore general special met k) (first : IsFirstReason (polarity_at general.automaton (met_at met k).general) (head_at general.automaton (met_at met k).general) (head_at special.automaton (met_at met k).special) (Some why)) where
    rank : flow_rank why ≡ 0
    rank = head-rank general special (met_at met k) why first.0

    earlier : (j : ℕ) (other : Reason) → j < k → ByHead j other ⊎ (other ≡ reason.Flow) → flow_rank why < flow_rank other
    earlier j other low_j (inl fails) = absurd (none j other low_j fails)
    earlier j other low_j (inr is) = let e : flow_rank other ≡ 1 = flow-rank other is in let e' : flow_rank why ≡ 0 = rank in omega arith

    same-pair : (other : Reason) → flow_rank why ≡ flow_rank other → ByHead k other ⊎ (other ≡ reason.Flow) → (other ≡ why) ⊎ (slice_cmp nat_cmp (reason_key why) (reason_key other) ≡ Less)
    same-pair other same (inl fails) = first.1 other fails
    same-pair other same (inr is) = let e : flow_rank other ≡ 1 = flow-rank other is in let e' : flow_rank why ≡ 0 = rank in absurd (omega arith)

    pub head-found : IsFirstFailure general special (path_of (met_at met k) why)
    head-found =
        queue_failure general special met it rising k why low
        (fails-by-head general special (polarity_at general.automaton (met_at met k).general) (met_at met k).general (met_at met k).special why first.0)
        (λ j other low_j fails. earlier j other low_j (cases j other fails))
        (λ j other low_j fails. let e : flow_rank why ≡ 0 = rank in omega arith)
        (λ other fails same. same-pair other same (cases k other fails))

  -- flow
  paired-met : (h t : ℕ) → IsPaired general special h t → IsMet met h t
  paired-met h t paired = let by = met_first general special met it paired.0 h t paired.1 in (by.0, by.1, by.2, by.3)

  met-paired : (h t : ℕ) → IsMet met h t → IsPaired general special h t
  met-paired h t is =
      let m : Met = is.0 in
      subst (λ h. IsPaired general special h t) is.2 (subst (λ t. IsPaired general special m.general t) is.3 (m.steps, it.leads m is.1))

  module _ (flows : List Flow) (heads : HasNoHeadFailure general special met) (exact : (k : ℕ) (f : Flow) → k < length met → IsAskedAt general.automaton met k f → Contains flows f ↔ IsAdmissible special.automaton f.negative.0 f.positive.0) where
    no-head-at : (k : ℕ) (why : Reason) → k < length met → ByHead k why → ⊥
    no-head-at k why low fails = heads (met_at met k) why (Contains-get_or met k no_met low) fails

    flow-granted : (k : ℕ) → k < length met → IsGranted general.automaton met flows k → (p : Polarity) → polarity_at general.automaton (met_at met k).general ≡ p → Fails general special p (met_at met k).general (met_at met k).special reason.Flow → ⊥
    flow-granted k low granted Negative is fails = fails
    flow-granted k low granted Positive is (h, t, edge, paired, refused) =
        let asked : IsAskedAt general.automaton met k (flow t (met_at met k).special) = (is, refl, h, edge, paired-met h t paired) in
        refused ((exact k (flow t (met_at met k).special) low asked).0 (granted (flow t (met_at met k).special) asked))

    granted-fine : (k : ℕ) (why : Reason) → k < length met → IsGranted general.automaton met flows k → FailsAt k why → ByHead k why ⊎ (why ≡ reason.Flow) → ⊥
    granted-fine k why low granted fails (inl head) = no-head-at k why low head
    granted-fine k why low granted fails (inr is) = flow-granted k low granted (polarity_at general.automaton (met_at met k).general) refl (subst (FailsAt k) is fails)

    pub flow-none : IsFirstRefused general.automaton met flows None → HasNoFailure general special met
    flow-none granted m why there fails =
        let at = met_at-contained met m there in
        let fails_at : FailsAt at.0 why = subst (λ (n : Met). Fails general special (polarity_at general.automaton n.general) n.general n.special why) (sym at.2) fails in
        granted-fine at.0 why at.1 (granted at.0 at.1) fails_at (cases at.0 why fails_at)

    module _ (k : ℕ) (refused : IsFirstRefused general.automaton met flows (Some k)) where
      low : k < length met
      low = refused.0

      fails : FailsAt k reason.Flow
      fails =
          let f : Flow = refused.1.0 in
          let asked : IsAskedAt general.automaton met k f = refused.1.1 in
          subst (λ p. Fails general special p (met_at met k).general (met_at met k).special reason.Flow) (sym asked.0) (
            asked.2,
            f.negative.0,
            asked.3,
            met-paired asked.2 f.negative.0 asked.4,
            λ admissible. refused.1.2 ((exact k f low asked).1 (subst (IsAdmissible special.automaton f.negative.0) (sym asked.1) admissible)),
          )

      all : (j : ℕ) (other : Reason) → j < length met → ByHead j other ⊎ (other ≡ reason.Flow) → 1 ≤ flow_rank other
      all j other low_j (inl head) = absurd (no-head-at j other low_j head)
      all j other low_j (inr is) = let e : flow_rank other ≡ 1 = flow-rank other is in omega arith

      only-flow : (other : Reason) → ByHead k other ⊎ (other ≡ reason.Flow) → (other ≡ reason.Flow) ⊎ (slice_cmp nat_cmp (reason_key reason.Flow) (reason_key other) ≡ Less)
      only-flow other (inl head) = absurd (no-head-at k other low head)
      only-flow other (inr is) = inl is

      pub flow-found : IsFirstFailure general special (path_of (met_at met k) reason.Flow)
      flow-found =
          queue_failure general special met it rising k reason.Flow low fails
          (λ j other low_j fails_j. let low_k : k < length met = low in absurd (granted-fine j other (omega arith) (refused.2 j low_j) fails_j (cases j other fails_j)))
          (λ j other low_j fails_j. all j other low_j (cases j other fails_j))
          (λ other fails_k same. only-flow other (cases k other fails_k))

-- what is asked are pairs of states
pub asked-pair : (general special : Scheme) (is_g : IsScheme general) (is_s : IsScheme special) (met : List Met) → IsSearch general special met → (k : ℕ) (f : Flow) → k < length met → IsAskedAt general.automaton met k f → IsPair special.automaton f
asked-pair general special is_g is_s met it k f low asked = (
  let m : Met = asked.4.0 in
      let here = state-of general special is_g is_s met it.leads m asked.4.1 in
      let is_h : IsState general.automaton here.0 asked.2 = subst (IsState general.automaton here.0) asked.4.2 here.1 in
      let is_n : IsState general.automaton Negative asked.2 = is_g.automaton.negative (flow asked.2 (met_at met k).general) asked.3 in
      subst (IsState special.automaton Negative) asked.4.3 (subst (λ p. IsState special.automaton p m.special) (sym is_h.polarity ∙ is_n.polarity) here.2),
  let here = state-of general special is_g is_s met it.leads (met_at met k) (Contains-get_or met k no_met low) in
      subst (IsState special.automaton Positive) (sym asked.1) (subst (λ p. IsState special.automaton p (met_at met k).special) (sym here.1.polarity ∙ asked.0) here.2),
)
