-- Pairs of states that fail, and the first of their paths.
use Rattle.std.specs.Prelude.{◌≡◌, ◌⊎◌, ℕ, ◌<◌, true, false, List, [], ◌∷◌, length, Option, Some, None}
use Rattle.std.specs.Ordering.{nat_cmp}
use Rattle.std.specs.declared.cmp.Ordering.{Ordering}
use Rattle.std.specs.declared.cmp.Ordering.TheVariants.{Less}
use Rattle.std.specs.Cmp.Lexicographic.{slice_cmp}
use Rattle.mls_automaton.specs.declared.automaton.Polarity.{Polarity}
use Rattle.mls_automaton.specs.declared.automaton.Polarity.TheVariants.{Positive, Negative}
use Rattle.mls_automaton.specs.declared.automaton.FieldSet.{FieldSet}
use Rattle.mls_automaton.specs.declared.automaton.Head.{Head}
use Rattle.mls_automaton.specs.declared.automaton.HeadKind.{HeadKind}
use Rattle.mls_automaton.specs.declared.scheme.Scheme.{Scheme}
use Rattle.mls_automaton.specs.Automata.{polarity_at, head_at, HasFlow}
use Rattle.mls_automaton.specs.Heads.{set_at}
use Rattle.mls_automaton.specs.Automata.{has_kind}
use Rattle.mls_solver.specs.Clashes.{rank}
use Rattle.mls_flow.specs.Admissible.{IsAdmissible}
use Rattle.mls_subsume.specs.declared.verdict.Step.{Step}
use Rattle.mls_subsume.specs.declared.verdict.Step.TheVariants as step
use Rattle.mls_subsume.specs.declared.verdict.Reason.{Reason}
use Rattle.mls_subsume.specs.declared.verdict.Reason.TheVariants as reason
use Rattle.mls_subsume.specs.declared.verdict.Path.{Path}
use Rattle.mls_subsume.specs.Pairs.{IsPathTo, IsPaired}

-- both have a record, and only the first has the label
abbrev pub HasLabelAlone : Option (List FieldSet) → Option (List FieldSet) → List ℕ → Type 0
HasLabelAlone (Some fields) (Some others) label =
    (set : List ℕ) × (set_at fields label ≡ Some set) × (set_at others label ≡ None)
HasLabelAlone _ _ label = ⊥

-- only the special one of two positive states has the label, or only the general one of two negative states
abbrev pub FailsByLabel : Polarity → Option (List FieldSet) → Option (List FieldSet) → List ℕ → Type 0
FailsByLabel Positive general special label = HasLabelAlone special general label
FailsByLabel Negative general special label = HasLabelAlone general special label

-- The heads of a pair of this polarity fail for this reason.
abbrev pub FailsByHead : Polarity → Head → Head → Reason → Type 0
FailsByHead p h k (reason.Head kind) = (has_kind kind h ≡ true) × (has_kind kind k ≡ false)
FailsByHead p h k (reason.Label label) = FailsByLabel p h.fields k.fields label
FailsByHead p h k reason.Flow = ⊥

-- The pair of states of this polarity fails for this reason. By flow it fails where the general state has an edge
-- from a state that is paired with one from which no flow is admissible to the special state.
abbrev pub Fails : Scheme → Scheme → Polarity → ℕ → ℕ → Reason → Type 0
Fails general special p g s (reason.Head kind) =
    (has_kind kind (head_at general.automaton g) ≡ true) × (has_kind kind (head_at special.automaton s) ≡ false)
Fails general special p g s (reason.Label label) =
    FailsByLabel p (head_at general.automaton g).fields (head_at special.automaton s).fields label
Fails general special Positive g s reason.Flow =
    (h t : ℕ) × HasFlow general.automaton h g × IsPaired general special h t
    × (IsAdmissible special.automaton t s → ⊥)
Fails general special Negative g s reason.Flow = ⊥

-- the path leads to a pair that fails for its reason
abbrev pub IsFailure : Scheme → Scheme → Path → Type 0
IsFailure general special path =
    (g s : ℕ) × IsPathTo general special path.steps g s
    × Fails general special (polarity_at general.automaton g) g s path.reason

-- Steps are ordered: the domain, the codomain, then labels by their bytes.
abbrev pub step_key : Step → List ℕ
step_key step.Domain = 0 ∷ []
step_key step.Codomain = 1 ∷ []
step_key (step.At label) = 2 ∷ label

abbrev pub step_cmp : Step → Step → Ordering
step_cmp first second = slice_cmp nat_cmp (step_key first) (step_key second)

-- reasons in their order: parts, then labels by their bytes
abbrev pub reason_key : Reason → List ℕ
reason_key (reason.Head kind) = 0 ∷ rank kind ∷ []
reason_key (reason.Label label) = 1 ∷ label
reason_key reason.Flow = 2 ∷ []

abbrev pub IsReasonBefore : Reason → Reason → Type 0
IsReasonBefore first second = slice_cmp nat_cmp (reason_key first) (reason_key second) ≡ Less

-- the first kind of which only the first head has a part, or none where there is no such kind
abbrev pub IsFirstMissing : Head → Head → Option HeadKind → Type 0
IsFirstMissing h k None = (kind : HeadKind) → has_kind kind h ≡ true → has_kind kind k ≡ true
IsFirstMissing h k (Some kind) =
    (has_kind kind h ≡ true) × (has_kind kind k ≡ false)
    × ((other : HeadKind) → has_kind other h ≡ true → has_kind other k ≡ false
    → (other ≡ kind) ⊎ (rank kind < rank other))

-- the least label of some labels, or none where there is none
abbrev pub IsLeast : (List ℕ → Type 0) → Option (List ℕ) → Type 0
IsLeast P None = (label : List ℕ) → P label → ⊥
IsLeast P (Some label) =
    P label × ((other : List ℕ) → P other → (other ≡ label) ⊎ (slice_cmp nat_cmp label other ≡ Less))

-- the first reason by which heads fail, or none where there is no such reason
abbrev pub IsFirstReason : Polarity → Head → Head → Option Reason → Type 0
IsFirstReason p h k None = (why : Reason) → FailsByHead p h k why → ⊥
IsFirstReason p h k (Some why) =
    FailsByHead p h k why
    × ((other : Reason) → FailsByHead p h k other → (other ≡ why) ⊎ IsReasonBefore why other)

-- a failure by flow counts only where there is no other
abbrev pub flow_rank : Reason → ℕ
flow_rank (reason.Head kind) = 0
flow_rank (reason.Label label) = 0
flow_rank reason.Flow = 1

-- the shorter path, and of two of one length the first step by step
abbrev pub StepsBefore : List Step → List Step → Type 0
StepsBefore first second =
    (length first < length second) ⊎ ((length first ≡ length second) × (slice_cmp step_cmp first second ≡ Less))

-- Of two failures the one by a part or a label comes first, then the one with the first path, and of those with one
-- path the one with the first reason.
abbrev pub ComesBefore : Path → Path → Type 0
ComesBefore p q =
    (flow_rank p.reason < flow_rank q.reason)
    ⊎ ((flow_rank p.reason ≡ flow_rank q.reason)
    × (StepsBefore p.steps q.steps
    ⊎ ((p.steps ≡ q.steps) × (slice_cmp nat_cmp (reason_key p.reason) (reason_key q.reason) ≡ Less))))

-- the first of all failures
pub record IsFirstFailure (general special : Scheme) (path : Path) : Type 0 where
  pub failure : IsFailure general special path
  pub first : (other : Path) → IsFailure general special other → (other ≡ path) ⊎ ComesBefore path other
