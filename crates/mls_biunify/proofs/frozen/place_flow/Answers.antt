use Rattle.mls_biunify.proofs.PlacedStates.{found-flow, missing-flow, place-found}
use Rattle.mls_biunify.proofs.frozen.place_flow.Goals as goal

pub add_flow-requires-clause-negative : goal.add_flow-requires-clause-negative
add_flow-requires-clause-negative c =
    let at = place-found c.args.numbers.now c.args.target c.binary_search.result c.in-Ok.other c.in-Ok.is c.requires.rises c.binary_search.ensures.position in
    (c.requires.ends c.in-Ok.other at.0 at.1).0

pub add_flow-requires-clause-positive : goal.add_flow-requires-clause-positive
add_flow-requires-clause-positive c =
    let at = place-found c.args.numbers.now c.args.target c.binary_search.result c.in-Ok.other c.in-Ok.is c.requires.rises c.binary_search.ensures.position in
    (c.requires.ends c.in-Ok.other at.0 at.1).1

pub returns-in_ok-add_flow-in-Ok-clause-flows : goal.returns-in_ok-add_flow-in-Ok-clause-flows
returns-in_ok-add_flow-in-Ok-clause-flows c =
    found-flow c.args.numbers.now c.args.place c.args.target c.in-Ok.other c.requires.rises
    (place-found c.args.numbers.now c.args.target c.binary_search.result c.in-Ok.other c.in-Ok.is c.requires.rises c.binary_search.ensures.position)
    c.args.into.now c.add_flow.new.self c.in_ok-add_flow-in-Ok.ensures.flows

pub returns-in-Err-clause-flows : goal.returns-in-Err-clause-flows
returns-in-Err-clause-flows c = missing-flow c.args.numbers.now c.args.place c.args.target c.binary_search.result c.in-Err.field-0 c.in-Err.is c.requires.rises c.binary_search.ensures.position c.args.into.now
