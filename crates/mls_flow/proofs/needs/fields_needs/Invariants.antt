use Rattle.std.proofs.Common.{◌≡◌, take, map}
use Rattle.std.specs.Prelude.{true}
use Rattle.mls_flow.specs.Needs.{field_need, has_all}
use Rattle.mls_flow.proofs.needs.fields_needs.Given as goal

abbrev pub invariant-loop-other : goal.invariant-loop-other
invariant-loop-other l =
    (l.needs ≡ map (field_need l.fields) (take l.other-index l.others)) × (has_all l.fields (take l.other-index l.others) ≡ true)
