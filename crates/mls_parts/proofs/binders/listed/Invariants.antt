use Rattle.std.proofs.Common.{◌≡◌, ◌++◌, ℕ, map}
use Rattle.std.specs.Prelude.{Bool}
use Rattle.mls_parts.specs.steps.MetBinders.{unbound}
use Rattle.mls_parts.proofs.binders.listed.Given as goal

-- with those of the entries that are left they are all
abbrev pub invariant-loop-x : goal.invariant-loop-x
invariant-loop-x l = record {
  all : l.all ++ map (λ (entry : ℕ × Bool). entry.0) l.x-iterator ≡ map (λ (entry : ℕ × Bool). entry.0) l.met.entries;
  around : l.around ++ unbound l.x-iterator ≡ unbound l.met.entries;
}
