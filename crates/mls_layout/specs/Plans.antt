-- Plans: the steps and the let lines of a section, where the pairs of each step are still to be found.
use Rattle.std.specs.Prelude.{◌≡◌, ℕ, suc, ◌<◌, List, [], ◌∷◌, ◌++◌, length, All, Contains, None}
use Rattle.mls_book.specs.declared.book.Node.{Node}
use Rattle.mls_deriv.specs.declared.derivation.SectionLine.{SectionLine}
use Rattle.mls_deriv.specs.declared.derivation.SectionLine.TheVariants as line
use Rattle.mls_deriv.specs.declared.derivation.StepLine.{StepLine}
use Rattle.mls_deriv.specs.declared.derivation.StepRule.{StepRule}
use Rattle.mls_deriv.specs.declared.derivation.StepRule.TheVariants as rule
use Rattle.mls_deriv.specs.declared.claim.Pair.{Pair}
use Rattle.mls_deriv.specs.declared.claim.Put.{Put}
use Rattle.mls_deriv.specs.Pairs.{put_at}
use Rattle.mls_pairs.specs.PairLists.{IsInside, IsPairList}
use Rattle.mls_layout.specs.Emitted.{asked_at}
use Rattle.mls_layout.specs.Runs.{lines_of}

-- a step with its put lines, or a let line
pub data PlannedLine : Type 0 where
  a_step_with : StepLine → List Put → PlannedLine
  a_let : (k number : ℕ) → PlannedLine

-- the steps of a plan
abbrev pub planned_steps : List PlannedLine → List StepLine
planned_steps [] = []
planned_steps (a_step_with step puts ∷ plan) = step ∷ planned_steps plan
planned_steps (a_let k number ∷ plan) = planned_steps plan

-- no variable stands twice
abbrev pub HaveOwnVariables : List Put → Type 0
HaveOwnVariables [] = Unit {0}
HaveOwnVariables (put ∷ puts) = (put_at puts put.variable ≡ None) × HaveOwnVariables puts

-- only a step by pairs has put lines and pair lines
abbrev pub StandBehind : StepRule → List Put → List Pair → Type 0
StandBehind (rule.Sub number) puts pairs = Unit {0}
StandBehind _ puts pairs = (puts ≡ []) × (pairs ≡ [])

-- The pairs of a step behind these steps are a list of what it asks for. Each variable is put in once, and all nodes are
-- nodes of the book; a step that is not one by pairs has neither.
pub record HasPairs (book : List Node) (steps : List StepLine) (step : StepLine) (puts : List Put) (pairs : List Pair) :
    Type 0 where
  pub list : IsPairList book puts (asked_at steps step) pairs
  pub inside : All (IsInside (length book)) pairs
  pub low : All (λ put. put.node < length book) puts
  pub own : HaveOwnVariables puts
  pub behind : StandBehind step.rule puts pairs

-- The lines of a plan behind these steps: each of its steps has a list of the pairs that it asks for, whichever it is.
abbrev pub AreLinesOf : List Node → List StepLine → List PlannedLine → List SectionLine → Type 0
AreLinesOf book steps [] lines = lines ≡ []
AreLinesOf book steps (a_step_with step puts ∷ plan) lines =
    (pairs : List Pair) × (rest : List SectionLine) × HasPairs book steps step puts pairs
    × (lines ≡ lines_of step puts pairs ++ rest) × AreLinesOf book (steps ++ step ∷ []) plan rest
AreLinesOf book steps (a_let k number ∷ plan) lines =
    (rest : List SectionLine) × (lines ≡ line.Let k number ∷ rest) × AreLinesOf book steps plan rest

-- there is no let line
abbrev pub HasNoLets : List PlannedLine → Type 0
HasNoLets [] = Unit {0}
HasNoLets (a_step_with step puts ∷ plan) = HasNoLets plan
HasNoLets (a_let k number ∷ plan) = ⊥

-- Each let line stands behind its step and once for its let, where so many steps and these lets come before.
abbrev pub LetsStand : (steps : ℕ) → (lets : List ℕ) → List PlannedLine → Type 0
LetsStand steps lets [] = Unit {0}
LetsStand steps lets (a_step_with step puts ∷ plan) = LetsStand (suc steps) lets plan
LetsStand steps lets (a_let k number ∷ plan) =
    (number < steps) × (Contains lets k → ⊥) × LetsStand steps (k ∷ lets) plan
