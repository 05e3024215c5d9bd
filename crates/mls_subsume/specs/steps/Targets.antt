-- The pairs to which one step leads from a pair of heads, in the order of the steps.
use Rattle.std.specs.Prelude.{◌≡◌, ℕ, List, [], ◌∷◌, ◌++◌, Option, Some, None}
use Rattle.mls_automaton.specs.declared.automaton.Arms.{Arms}
use Rattle.mls_automaton.specs.declared.automaton.FieldSet.{FieldSet}
use Rattle.mls_automaton.specs.declared.automaton.Head.{Head}
use Rattle.mls_automaton.specs.Heads.{set_at}
use Rattle.mls_flow.specs.Needs.{only}
use Rattle.mls_subsume.specs.declared.verdict.Step.{Step}
use Rattle.mls_subsume.specs.declared.verdict.Step.TheVariants as step
use Rattle.mls_subsume.specs.Searches.{Met}
use Rattle.mls_subsume.specs.steps.Queues.{Meets}

-- a step, and the pair to which it leads
pub record Target : Type 0 where
  pub step : Step
  pub general : ℕ
  pub special : ℕ

abbrev pub target : Step → List ℕ → List ℕ → Target
target step xs ys = record { step = step; general = only xs; special = only ys }

abbrev pub function_targets : Option Arms → Option Arms → List Target
function_targets (Some arms) (Some others) =
    target step.Domain arms.domain others.domain ∷ target step.Codomain arms.codomain others.codomain ∷ []
function_targets _ _ = []

-- the field and the set at its label in the other record, if it is there
abbrev pub field_target : FieldSet → Option (List ℕ) → List Target
field_target field None = []
field_target field (Some set) = target (step.At field.label) field.set set ∷ []

abbrev pub field_targets : List FieldSet → List FieldSet → List Target
field_targets [] others = []
field_targets (field ∷ fields) others = field_target field (set_at others field.label) ++ field_targets fields others

abbrev pub record_targets : Option (List FieldSet) → Option (List FieldSet) → List Target
record_targets (Some fields) (Some others) = field_targets fields others
record_targets _ _ = []

abbrev pub head_targets : Head → Head → List Target
head_targets h k = function_targets h.function k.function ++ record_targets h.fields k.fields

-- these targets are met one after the other from the pair of this number
abbrev pub Follows : List Met → ℕ → List Target → List Met → Type 0
Follows old from [] new = new ≡ old
Follows old from (t ∷ targets) new =
    (mid : List Met) × Meets old from t.step t.general t.special mid × Follows mid from targets new
