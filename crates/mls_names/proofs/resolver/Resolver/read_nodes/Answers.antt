use Rattle.std.proofs.Common.{◌-◌, arith}
use Rattle.mls_names.proofs.Counting.{counts_below}
use Rattle.mls_names.proofs.WholeWalks.{node_below, waiting_within, all_read}
use Rattle.mls_names.proofs.resolver.Resolver.read_nodes.Goals as goal

pub read_node-requires-clause-counts : goal.read_node-requires-clause-counts
read_node-requires-clause-counts c = counts_below c.args.nodes.now c.args.counts.now c.requires.counts

pub read_node-requires-clause-parts : goal.read_node-requires-clause-parts
read_node-requires-clause-parts c = node_below c.args.nodes.now c.args.counts.now c.requires.counts c.requires.nodes (c.loop-i.i - 1) c.index-nodes-i.result (omega arith) c.index-nodes-i.is

pub read_node-requires-clause-within : goal.read_node-requires-clause-within
read_node-requires-clause-within c =
    waiting_within c.args.nodes.now c.args.counts.now c.requires.counts c.requires.nodes c.loop-i.i c.loop-i.self c.requires.idle.0 c.args.terms.now c.loop-i.terms c.loop-i.unknown
    (c.loop-i.invariant c.requires.idle.0 c.requires.idle.1)

pub returns : goal.returns
returns c =
    all_read c.args.nodes.now c.args.counts.now c.requires.counts c.args.self.now c.loop-i.self c.next_stretch.new.self c.args.terms.now c.loop-i.terms c.loop-i.unknown c.in_ok-next_stretch.field-0 c.loop-i.i (omega arith)
    c.loop-i.invariant c.in_ok-next_stretch.ensures
