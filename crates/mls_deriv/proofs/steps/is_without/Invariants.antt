use Rattle.std.proofs.Common.{◌≡◌, ◌↔◌, ◌≤◌, drop, length}
use Rattle.mls_deriv.specs.inner.Rules.{without}
use Rattle.mls_deriv.proofs.steps.is_without.Given as goal

-- what is left of both is alike exactly if both are
abbrev pub invariant-loop-entry : goal.invariant-loop-entry
invariant-loop-entry l = record {
  low : l.at ≤ length l.env;
  alike : (drop l.at l.env ≡ without l.binder (drop l.entry-index l.other)) ↔ (l.env ≡ without l.binder l.other);
}
