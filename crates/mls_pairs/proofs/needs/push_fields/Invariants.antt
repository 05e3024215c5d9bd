use Rattle.std.proofs.Common.{◌≡◌, ◌++◌, take}
use Rattle.std.specs.List.{flat_map}
use Rattle.mls_pairs.specs.steps.Needs.{field_needs}
use Rattle.mls_pairs.proofs.needs.push_fields.Given as goal

-- those of the fields so far
abbrev pub invariant-loop-other : goal.invariant-loop-other
invariant-loop-other l = l.needs ≡ l.fn.needs ++ flat_map (field_needs l.mode l.fields) (take l.other-index l.others)
