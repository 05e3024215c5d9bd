use Rattle.std.proofs.Common.{◌∙◌, None}
use Rattle.mls_scheme.proofs.NodeStates.{states-more, states-none}
use Rattle.mls_scheme.proofs.states.states_of.Goals as goal

pub loop-i-init : goal.loop-i-init
loop-i-init c = (c.in_ok-visits.ensures.limit ∙ c.len.ensures.len, states-none c.args.book.now c.args.signs.now c.in_ok-automaton.automaton c.in_ok-automaton.ensures)

pub loop-i-preserved : goal.loop-i-preserved
loop-i-preserved c = (
  c.in_ok-add_node.ensures.limit ∙ c.loop-i.invariant.0,
  states-more c.args.book.now c.args.signs.now c.loop-i.i None c.loop-i.automaton c.add_node.new.automaton c.loop-i-test.true c.loop-i.invariant.1 c.in_ok-add_node.ensures.node,
)
