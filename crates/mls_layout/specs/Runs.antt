-- Runs of lines: what a node adds to the lines of a section.
use Rattle.std.specs.Prelude.{◌≡◌, ℕ, List, [], ◌∷◌, ◌++◌, map}
use Rattle.mls_book.specs.declared.book.NodeId.{NodeId}
use Rattle.mls_deriv.specs.declared.derivation.BinderNode.{BinderNode}
use Rattle.mls_deriv.specs.declared.derivation.SectionLine.{SectionLine}
use Rattle.mls_deriv.specs.declared.derivation.SectionLine.TheVariants as line
use Rattle.mls_deriv.specs.declared.derivation.StepLine.{StepLine}
use Rattle.mls_deriv.specs.declared.derivation.StepRule.{StepRule}
use Rattle.mls_deriv.specs.declared.claim.Put.{Put}
use Rattle.mls_deriv.specs.declared.claim.Pair.{Pair}
use Rattle.mls_deriv.specs.Steps.{puts_of, pairs_of, Before}
use Rattle.mls_deriv.specs.Sections.{steps_of, AreAllowed}

abbrev pub id : ℕ → NodeId
id n = record { 0 = n }

abbrev pub put_lines : List Put → List SectionLine
put_lines puts = map (λ (put : Put). line.Put put.variable (id put.node)) puts

abbrev pub pair_lines : List Pair → List SectionLine
pair_lines pairs = map (λ (pair : Pair). line.Pair pair.mode (id pair.left) (id pair.right)) pairs

-- a step with its put lines and its pair lines
abbrev pub lines_of : StepLine → List Put → List Pair → List SectionLine
lines_of step puts pairs = line.Step step ∷ (put_lines puts ++ pair_lines pairs)

abbrev pub a_step : ℕ → StepRule → List BinderNode → ℕ → StepLine
a_step part rule env root = record { node = part; rule = rule; env = env; root = id root }

-- no put line and no pair line stands first
pub record BeginsAnew (lines : List SectionLine) : Type 0 where
  pub puts : puts_of lines ≡ []
  pub pairs : pairs_of lines ≡ []

-- the lines are allowed after `b`, and what stands before the next ones is `c`
pub record IsRun (b : Before) (lines : List SectionLine) (c : Before) : Type 0 where
  pub steps : c.steps ≡ b.steps ++ steps_of lines
  pub anew : (rest : List SectionLine) → BeginsAnew rest → BeginsAnew (lines ++ rest)
  pub allowed : (rest : List SectionLine) → BeginsAnew rest → AreAllowed c rest → AreAllowed b (lines ++ rest)
