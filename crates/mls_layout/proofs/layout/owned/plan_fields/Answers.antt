use Rattle.mls_layout.specs.LaidOut.{place_of}
use Rattle.mls_layout.proofs.PlannedTrees.{extends_then}
use Rattle.mls_layout.proofs.OwnNodes.{places_low, fields_next}
use Rattle.mls_layout.proofs.layout.owned.plan_fields.Goals as goal

pub plan_field-requires : goal.plan_field-requires
plan_field-requires c = places_low (place_of c.args.places.now) c.args.trees.now c.loop-set.trees c.loop-set.invariant.extends c.requires

pub loop-set-preserved : goal.loop-set-preserved
loop-set-preserved c = record {
  extends = extends_then c.args.trees.now c.loop-set.trees c.plan_field.new.trees c.loop-set.invariant.extends c.in_ok-field.ensures.extends;
  are =
      fields_next (place_of c.args.places.now) c.args.polarity c.loop-set.trees c.plan_field.new.trees c.args.sets.now c.loop-set.set-index c.set-item.result c.loop-set.fields c.push.new.self c.in_ok-field.field
      c.loop-set-test.true c.set-item.is c.in_ok-field.ensures.extends c.loop-set.invariant.are c.in_ok-field.ensures.label c.in_ok-field.ensures.tree c.in_ok-push.ensures.ok;
}
