use Rattle.std.proofs.Common.{reverse}
use Rattle.mls_typetext.proofs.Pushed.{next_ordered}
use Rattle.mls_typetext.proofs.bind.bind.Goals as goal

pub push-requires : goal.push-requires
push-requires c = next_ordered (reverse c.args.nodes.items) c.loop-node.book c.loop-node.left.items c.pop.new.self.items c.in-Some.node c.requires c.loop-node.invariant c.in-Some.ensures.items
