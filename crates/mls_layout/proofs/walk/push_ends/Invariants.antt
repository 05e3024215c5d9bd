use Rattle.std.proofs.Common.{take}
use Rattle.mls_layout.specs.steps.Walking.{IsOfEntries, Lists}
use Rattle.mls_layout.proofs.walk.push_ends.Given as goal

-- the binders so far
abbrev pub invariant-loop-entry : goal.invariant-loop-entry
invariant-loop-entry l = Lists (IsOfEntries l.states (take l.entry-index l.env)) l.initial.ends l.ends
