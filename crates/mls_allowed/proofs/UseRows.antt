-- A step with put lines.
--     put_row
use Rattle.std.proofs.Common.{◌≡◌, ℕ, ◌<◌, true, List, length, refl, Some}
use Rattle.std.specs.FinMap as env
use Rattle.mls_book.specs.Schemes.{Env, IsScheme}
use Rattle.mls_deriv.specs.declared.derivation.BinderNode.{BinderNode}
use Rattle.mls_deriv.specs.declared.derivation.Mode.{Mode}
use Rattle.mls_deriv.specs.declared.derivation.Mode.TheVariants.{Lr, Rl}
use Rattle.mls_deriv.specs.declared.derivation.StepLine.{StepLine}
use Rattle.mls_deriv.specs.declared.derivation.StepRule.TheVariants as rule
use Rattle.mls_deriv.specs.Pairs.{put_at}
use Rattle.mls_deriv.specs.declared.claim.Put.{Put}
use Rattle.mls_deriv.specs.Steps.{env_of, Before, Says}
use Rattle.mls_layout.specs.Shown.{IsShown, AreShown}
use Rattle.mls_layout.specs.Runs.{a_step}
use Rattle.mls_layout.specs.Rows.{at, concluded, Fits, HasRow}
use Rattle.mls_allowed.proofs.Subs.{sub_allowed}
use Rattle.mls_allowed.proofs.Rows.{row_step}

module _ (b : Before) where
  -- a step with put lines
  module _ (puts : List Put) (low : (x n : ℕ) → put_at puts x ≡ Some n → n < length b.book) (base claims : Mode → ℕ → ℕ → Type 0)
      (shown : AreShown b.book puts base claims) where
    pub put_row : (steps : List StepLine) (number part : ℕ) (d : Env) (t : ℕ) (wider : List BinderNode) (u : ℕ)
        → Says (at b steps) number part (concluded b d t) → IsScheme (concluded b d t) → Fits b wider u
        → IsShown b.book puts base claims true Lr t u
        → ((x n : ℕ) → env.get d x ≡ Some n → (m : ℕ) × (env.get (env_of wider) x ≡ Some m) × IsShown b.book puts base claims true Rl m n)
        → HasRow b steps part (env_of wider) u
    put_row steps number part d t wider u says is is' below widens =
        row_step b steps (a_step part (rule.Sub number) wider u) puts
        (sub_allowed (at b steps) puts base claims shown low (a_step part (rule.Sub number) wider u) number (concluded b d t) refl says refl is'.scheme is'.rising below widens)
