use Rattle.std.proofs.Common.{◌∙◌, ◌<◌, length, arith}
use Rattle.mls_automaton.specs.declared.automaton.Polarity.TheVariants.{Positive, Negative}
use Rattle.mls_scheme.proofs.UsedVariables.{edges-first, edges-more, edges-whole, set_states}
use Rattle.mls_scheme.proofs.edges.add_edges.Goals as goal

pub loop-x-init : goal.loop-x-init
loop-x-init c = (edges-first c.args.automaton.now c.args.negative.now c.args.positive.now, λ i. c.args.automaton.now.states)

pub add_pairs-requires-clause-negative : goal.add_pairs-requires-clause-negative
add_pairs-requires-clause-negative c =
    set_states c.args.automaton.now c.loop-x.automaton Negative c.args.negative.now c.loop-x.x c.index-negative-x.result c.index-negative-x.result c.loop-x-test.true c.index-negative-x.is c.loop-x.invariant.1 c.requires.negative

pub add_pairs-requires-clause-positive : goal.add_pairs-requires-clause-positive
add_pairs-requires-clause-positive c =
    let low : c.loop-x.x < length c.args.negative.now = c.loop-x-test.true in
    let size = c.requires.size in
    set_states c.args.automaton.now c.loop-x.automaton Positive c.args.positive.now c.loop-x.x c.index-positive-x.result c.index-positive-x.result (omega arith) c.index-positive-x.is c.loop-x.invariant.1 c.requires.positive

pub loop-x-preserved : goal.loop-x-preserved
loop-x-preserved c = (
  edges-more c.args.automaton.now c.loop-x.automaton c.add_pairs.new.automaton c.args.negative.now c.args.positive.now c.loop-x.x c.index-negative-x.result c.index-positive-x.result c.index-negative-x.result c.index-positive-x.result c.loop-x-test.true c.requires.size
      c.index-negative-x.is c.index-positive-x.is c.loop-x.invariant.0 c.in_ok-add_pairs.ensures.flows,
  c.in_ok-add_pairs.ensures.states ∙ c.loop-x.invariant.1,
)

pub returns-clause-flows : goal.returns-clause-flows
returns-clause-flows c = edges-whole c.args.automaton.now c.loop-x.automaton c.args.negative.now c.args.positive.now c.loop-x.x c.loop-x-test.false c.loop-x.invariant.0
