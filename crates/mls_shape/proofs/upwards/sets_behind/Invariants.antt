use Rattle.std.proofs.Common.{ℕ, ◌<◌, All, get_or}
use Rattle.mls_automaton.specs.declared.automaton.FieldSet.{FieldSet}
use Rattle.mls_shape.specs.steps.Upwards.{StandsBehind}
use Rattle.mls_shape.proofs.upwards.sets_behind.Given as goal

-- the fields so far
abbrev pub invariant-loop-field : goal.invariant-loop-field
invariant-loop-field l = (k : ℕ) (d : FieldSet) → k < l.field-index → All (StandsBehind l.a l.s) (get_or l.fields k d).set
