use Rattle.std.proofs.Common.{◌≡◌, ℕ, take}
use Rattle.std.specs.BTreeMap.{get}
use Rattle.std.specs.Ordering.{nat_cmp}
use Rattle.mls_parts.specs.steps.MetBinders.{met_env}
use Rattle.mls_parts.proofs.binders.meet_env.Given as goal

-- the binders so far are noted
abbrev pub invariant-loop-entry : goal.invariant-loop-entry
invariant-loop-entry l = (y : ℕ) → get nat_cmp l.met y ≡ met_env y (take l.entry-index l.env) (get nat_cmp l.initial.met y)
