use Rattle.std.proofs.Common.{◌≡◌, ◌<◌, List, length, get_or, rules}
use Rattle.std.specs.BTreeMap.{get}
use Rattle.std.specs.Ordering.{nat_cmp}
use Rattle.mls_term.specs.declared.term.TermNode.{TermNode}
use Rattle.mls_infer.proofs.FirstParts.{first_more}
use Rattle.mls_infer.proofs.firsts.firsts_of.Goals as goal

pub loop-node-preserved : goal.loop-node-preserved
loop-node-preserved c =
    let nodes : List TermNode = c.args.nodes.now in
    let node : TermNode = c.node-item.result in
    let low : c.loop-node.node-index < length nodes = search rules in
    let is : get_or nodes c.loop-node.node-index node ≡ node = search rules in
    first_more nodes c.loop-node.node-index node low is (get nat_cmp c.loop-node.firsts) (get nat_cmp c.note.new.firsts) c.loop-node.invariant c.in_ok-note.ensures
