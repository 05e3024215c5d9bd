-- Rows: what a node adds to the steps of a section.
use Rattle.std.specs.Prelude.{◌≡◌, ℕ, true, List, [], ◌∷◌, ◌++◌, Some}
use Rattle.std.specs.FinMap as env
use Rattle.mls_book.specs.Schemes.{Env, Scheme, IsScheme}
use Rattle.mls_deriv.specs.declared.derivation.BinderNode.{BinderNode}
use Rattle.mls_deriv.specs.declared.derivation.Mode.{Mode}
use Rattle.mls_deriv.specs.declared.derivation.Mode.TheVariants.{Rl}
use Rattle.mls_deriv.specs.declared.derivation.SectionLine.{SectionLine}
use Rattle.mls_deriv.specs.declared.derivation.StepLine.{StepLine}
use Rattle.mls_deriv.specs.Steps.{env_of, IsRising, Before, Says}
use Rattle.mls_layout.specs.Shown.{IsShown}
use Rattle.mls_layout.specs.Runs.{IsRun}
use Rattle.mls_layout.specs.Plans.{PlannedLine, planned_steps, AreLinesOf}

-- the same place of the section, after these steps
abbrev pub at : Before → List StepLine → Before
at b steps = record b { steps = steps }

-- what a step with this environment and type concludes
abbrev pub concluded : Before → Env → ℕ → Scheme
concluded b d t = record { book = b.book; env = d; root = t }

-- a step may have this environment and type: what they name is there, and the binders rise
pub record Fits (b : Before) (d : List BinderNode) (t : ℕ) : Type 0 where
  pub scheme : IsScheme (concluded b (env_of d) t)
  pub rising : IsRising d

-- A plan leads from these steps to more steps, whichever lists of pairs its steps have, and what was said stays.
pub record Leads (b : Before) (steps more : List StepLine) : Type 0 where
  pub plan : List PlannedLine
  pub adds : more ≡ steps ++ planned_steps plan
  pub run : (lines : List SectionLine) → AreLinesOf b.book steps plan lines → IsRun (at b steps) lines (at b more)
  pub kept : (number part : ℕ) (s : Scheme) → Says (at b steps) number part s → Says (at b more) number part s

-- the last of these steps is about this part, with this environment and type
pub record EndsWith (steps : List StepLine) (part : ℕ) (d : Env) (t : ℕ) : Type 0 where
  pub earlier : List StepLine
  pub last : StepLine
  pub is : steps ≡ earlier ++ last ∷ []
  pub about : last.node ≡ part
  pub env : env_of last.env ≡ d
  pub root : last.root.0 ≡ t

-- a plan leads to a step about this part, with this environment and type
pub record HasRow (b : Before) (steps : List StepLine) (part : ℕ) (d : Env) (t : ℕ) : Type 0 where
  pub more : List StepLine
  pub leads : Leads b steps more
  pub number : ℕ
  pub says : Says (at b more) number part (concluded b d t)
  pub ends : EndsWith more part d t

-- each binder of the first environment has a node in the second one that is shown to be below
abbrev pub Widens : Before → (base claims : Mode → ℕ → ℕ → Type 0) → Env → Env → Type 0
Widens b base claims d d' = (x n : ℕ) → env.get d x ≡ Some n → (m : ℕ) × (env.get d' x ≡ Some m)
    × IsShown b.book [] base claims true Rl m n

-- the second environment has the nodes of the first
abbrev pub Keeps : Env → Env → Type 0
Keeps d d' = (x n : ℕ) → env.get d x ≡ Some n → env.get d' x ≡ Some n
