use Rattle.std.proofs.Common.{◌∙◌, refl, arith}
use Rattle.mls_biunify.proofs.PlacedStates.{places-kept, placed-first, placed-last, placed-more}
use Rattle.mls_biunify.proofs.frozen.place_flows.Goals as goal

pub loop-place-init : goal.loop-place-init
loop-place-init c = record { states = refl; flows = placed-first c.args.table.now c.args.numbers.now c.args.into.now c.requires.none }

pub place_flows_at-requires-clause-places : goal.place_flows_at-requires-clause-places
place_flows_at-requires-clause-places c = places-kept c.args.table.now c.args.numbers.now c.args.into.now c.loop-place.into c.loop-place.invariant.states c.requires.places

pub loop-place-preserved : goal.loop-place-preserved
loop-place-preserved c = record {
  states = c.in_ok-place_flows_at.ensures.states ∙ c.loop-place.invariant.states;
  flows = placed-more c.args.table.now c.args.numbers.now c.loop-place.place c.loop-place.into c.place_flows_at.new.into c.loop-place.invariant.flows c.in_ok-place_flows_at.ensures;
}

pub returns-clause-flows : goal.returns-clause-flows
returns-clause-flows c = placed-last c.args.table.now c.args.numbers.now c.loop-place.place c.loop-place.into (omega arith) c.loop-place.invariant.flows
