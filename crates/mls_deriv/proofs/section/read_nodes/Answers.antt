use Rattle.mls_deriv.proofs.FrontLines.{no_more_lines, nodes_more, nodes_stop, nodes_end}
use Rattle.mls_deriv.proofs.section.read_nodes.Goals as goal

pub returns-in-None : goal.returns-in-None
returns-in-None c =
    nodes_stop c.args.text.now c.loop-front.rest.now c.in-Some.front.line.now c.in-Some.front.rest.now c.loop-front.nodes.items c.loop-front.invariant.spelled c.loop-front.invariant.forms
    c.in-Some.ensures.0 c.in-Some.ensures.1 (rw c.in-None.is at c.in_ok-read_node.ensures)

pub loop-front-preserved : goal.loop-front-preserved
loop-front-preserved c =
    let more = nodes_more c.args.text.now c.loop-front.rest.now c.in-Some.front.line.now c.in-Some.front.rest.now c.loop-front.nodes.items c.push.new.self.items c.in-Some-2.node
    c.loop-front.invariant.spelled c.loop-front.invariant.forms c.in-Some.ensures.1 (rw c.in-Some-2.is at c.in_ok-read_node.ensures) c.in_ok-push-in-Some-2.ensures.items in
    record { spelled = more.0; forms = more.1 }

pub returns : goal.returns
returns c =
    nodes_end c.args.text.now c.loop-front.rest.now c.loop-front.nodes.items c.loop-front.invariant.spelled c.loop-front.invariant.forms
    (no_more_lines c.loop-front.rest.now c.front_of.result c.front_of.ensures c.in_default.not-Some)
