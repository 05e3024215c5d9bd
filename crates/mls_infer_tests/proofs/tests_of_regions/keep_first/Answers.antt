use Rattle.mls_infer_tests.proofs.TestRegions.{states_region, states_there}
use Rattle.mls_infer_tests.proofs.tests_of_regions.keep_first.Goals as goal

pub keep_among-requires-clause-states : goal.keep_among-requires-clause-states
keep_among-requires-clause-states c =
    states_there c.args.live.now c.absorb.new.self c.ready-before.ensures.live c.ready-after.ensures.live c.args.a.now c.requires.closed c.in_ok-numbers.numbers
    c.in_ok-numbers.ensures.copy c.in_ok-numbers.ensures.states c.in_ok-numbers.ensures.flows c.in_ok-states.states.items c.in_ok-states.ensures

pub keep_among-requires-clause-region : goal.keep_among-requires-clause-region
keep_among-requires-clause-region c =
    states_region c.args.live.now c.absorb.new.self c.ready-before.ensures.live c.ready-after.ensures.live c.args.a.now c.requires.closed c.in_ok-numbers.numbers
    c.in_ok-numbers.ensures.copy c.in_ok-numbers.ensures.states c.in_ok-numbers.ensures.flows c.in_ok-states.states.items c.in_ok-states.ensures
