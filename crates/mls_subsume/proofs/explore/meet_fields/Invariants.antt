use Rattle.std.proofs.Common.{◌≡◌, take}
use Rattle.mls_subsume.specs.steps.Targets.{Follows, field_targets}
use Rattle.mls_subsume.proofs.explore.meet_fields.Given as goal

abbrev pub invariant-loop-field : goal.invariant-loop-field
invariant-loop-field l =
    (l.queue.states ≡ l.fn.queue.states)
    × Follows l.fn.queue.met l.from (field_targets (take l.field-index l.fields) l.others) l.queue.met
