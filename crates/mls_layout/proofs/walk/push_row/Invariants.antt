use Rattle.std.proofs.Common.{◌≡◌, ℕ, take}
use Rattle.mls_layout.specs.Walks.{IsOfAny}
use Rattle.mls_layout.specs.steps.Walking.{Lists}
use Rattle.mls_layout.proofs.walk.push_row.Given as goal

-- the states so far
abbrev pub invariant-loop-special : goal.invariant-loop-special
invariant-loop-special l = Lists (IsOfAny (take l.special-index l.specials) (λ (x : ℕ) g s. (g ≡ l.general) × (s ≡ x))) l.initial.into l.into
