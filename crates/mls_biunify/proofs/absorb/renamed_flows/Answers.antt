use Rattle.std.proofs.Common.{◌<◌, length, get_or, rules}
use Rattle.std.proofs.lemmas.List.Elements.{Contains-get_or}
use Rattle.mls_automaton.specs.declared.automaton.Flow.{Flow}
use Rattle.mls_automaton.specs.Automata.{flow}
use Rattle.mls_biunify.proofs.Filling.{flow-ends}
use Rattle.mls_biunify.proofs.absorb.renamed_flows.Goals as goal

pub bounds-numbers-flow : goal.bounds-numbers-flow
bounds-numbers-flow c =
    let f : Flow = get_or c.flows-flow-items.result.now c.loop-flow.flow-index (flow 0 0) in
    (flow-ends c.args.a.now c.args.numbers.now c.flows-flow-items.result.now c.requires.closed c.requires.count c.flows-flow-items.ensures.flows f (Contains-get_or c.flows-flow-items.result.now c.loop-flow.flow-index (flow 0 0) c.loop-flow-test.true)).0

pub offset_bounds-numbers-flow : goal.offset_bounds-numbers-flow
offset_bounds-numbers-flow c =
    let f : Flow = get_or c.flows-flow-items.result.now c.loop-flow.flow-index (flow 0 0) in
    let low : (get_or c.flows-flow-items.result.now c.loop-flow.flow-index (flow 0 0)).negative.0 < length c.args.numbers.now =
    (flow-ends c.args.a.now c.args.numbers.now c.flows-flow-items.result.now c.requires.closed c.requires.count c.flows-flow-items.ensures.flows f (Contains-get_or c.flows-flow-items.result.now c.loop-flow.flow-index (flow 0 0) c.loop-flow-test.true)).0 in
    search rules

pub bounds-numbers-flow-in-loop-flow : goal.bounds-numbers-flow-in-loop-flow
bounds-numbers-flow-in-loop-flow c =
    let f : Flow = get_or c.flows-flow-items.result.now c.loop-flow.flow-index (flow 0 0) in
    (flow-ends c.args.a.now c.args.numbers.now c.flows-flow-items.result.now c.requires.closed c.requires.count c.flows-flow-items.ensures.flows f (Contains-get_or c.flows-flow-items.result.now c.loop-flow.flow-index (flow 0 0) c.loop-flow-test.true)).1

pub offset_bounds-numbers-flow-in-loop-flow : goal.offset_bounds-numbers-flow-in-loop-flow
offset_bounds-numbers-flow-in-loop-flow c =
    let f : Flow = get_or c.flows-flow-items.result.now c.loop-flow.flow-index (flow 0 0) in
    let low : (get_or c.flows-flow-items.result.now c.loop-flow.flow-index (flow 0 0)).positive.0 < length c.args.numbers.now =
    (flow-ends c.args.a.now c.args.numbers.now c.flows-flow-items.result.now c.requires.closed c.requires.count c.flows-flow-items.ensures.flows f (Contains-get_or c.flows-flow-items.result.now c.loop-flow.flow-index (flow 0 0) c.loop-flow-test.true)).1 in
    search rules
