use Rattle.std.proofs.Common.{◌≡◌, rules, arith, length, subst}
use Rattle.mls_shape.specs.steps.Partitions.{PartsNodes}
use Rattle.mls_shape.proofs.Partitions.{on_ok_any, nodes_more, nodes_all}
use Rattle.mls_shape.proofs.partition.Partition.split.Goals as goal

pub loop-node-preserved : goal.loop-node-preserved
loop-node-preserved c = (
  search rules,
  let more = c.in_ok-part.ensures.grows in let before = c.loop-node.invariant.1 in omega (arith, more, before),
  nodes_more c.len-first.result c.args.nodes.now c.loop-node.node-index c.loop-node-test.true c.args.self.now c.loop-node.self c.part.new.self c.loop-node.invariant.2 c.in_ok-part.ensures.parts,
)

pub returns-clause-parts : goal.returns-clause-parts
returns-clause-parts c =
    let first : c.len-first.result ≡ length c.args.self.now.members.items = search rules in
    let parts : PartsNodes c.len-first.result c.args.nodes.now c.args.self.now c.loop-node.self =
    nodes_all c.len-first.result c.args.nodes.now c.loop-node.node-index c.args.self.now c.loop-node.self c.loop-node-test.false c.loop-node.invariant.2 in
    on_ok_any c.add_from.result
    (subst (λ first. PartsNodes first c.args.nodes.now c.args.self.now (record { blocks = c.loop-node.self.blocks; members = c.loop-node.self.members; parts = c.loop-node.self.parts; agenda = c.add_from.new.self })) first
    (record { moved = parts.moved; how = parts.how }))
