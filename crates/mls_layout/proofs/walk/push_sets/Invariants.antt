use Rattle.std.proofs.Common.{◌≡◌, ℕ, take, Contains}
use Rattle.mls_layout.specs.Walks.{IsOfAny}
use Rattle.mls_layout.specs.steps.Walking.{Lists}
use Rattle.mls_layout.proofs.walk.push_sets.Given as goal

-- the states so far, each with all of the other set
abbrev pub invariant-loop-state : goal.invariant-loop-state
invariant-loop-state l = Lists (IsOfAny (take l.state-index l.general) (λ (x : ℕ) g s. (g ≡ x) × Contains l.special s)) l.initial.into l.into
