use Rattle.std.proofs.Common.{take}
use Rattle.mls_layout.specs.LaidOut.{place_of}
use Rattle.mls_layout.specs.steps.Planned.{Extends}
use Rattle.mls_layout.specs.steps.Owned.{AreFields}
use Rattle.mls_layout.proofs.layout.owned.plan_fields.Given as goal

-- the first fields
abbrev pub invariant-loop-set : goal.invariant-loop-set
invariant-loop-set l = record {
  extends : Extends l.fn.trees l.trees;
  are : AreFields l.trees (place_of l.places) l.polarity (take l.set-index l.sets) l.fields;
}
