use Rattle.std.proofs.Common.{◌≡◌, Contains, get_or, length, arith}
use Rattle.mls_biunify.specs.steps.Settlement.{GetsEdges, GivenBy}
use Rattle.mls_biunify.proofs.Collected.{collected-none, collected-more, collected-all, from_none}
use Rattle.mls_biunify.proofs.SettledEdges.{ends-given, ends-distinct}
use Rattle.mls_biunify.proofs.SettledHeads.{pair_there}
use Rattle.mls_biunify.proofs.settlement.new_ends.Goals as goal

pub loop-i-init : goal.loop-i-init
loop-i-init c = collected-none (GetsEdges c.args.table.now.automaton) (Contains c.new-ends.result.items) c.args.relation.now.pairs

pub before-requires : goal.before-requires
before-requires c =
    let len : c.len-i-end.result ≡ length c.args.relation.now.pairs = c.len-i-end.ensures in
    (pair_there c.args.table.now c.args.relation.now c.requires c.loop-i.i (omega arith) c.pair.result.0.0 c.pair.result.1.0 c.pair.ensures).0.there

pub loop-i-preserved : goal.loop-i-preserved
loop-i-preserved c =
    let len : c.len-i-end.result ≡ length c.args.relation.now.pairs = c.len-i-end.ensures in
    collected-more (GetsEdges c.args.table.now.automaton) (Contains c.new-ends.result.items) (Contains c.loop-i.ends.items) (Contains c.push_ends.new.ends.items) c.args.relation.now.pairs c.loop-i.i (0, 0) (omega arith) c.loop-i.invariant
    (ends-given c.args.table.now.automaton c.pair.result.0.0 c.pair.result.1.0 (get_or c.args.relation.now.pairs c.loop-i.i (0, 0)) c.pair.ensures c.loop-i.ends.items c.push_ends.new.ends.items c.before-in-loop-i.result.now c.as_slice.result.now c.as_slice.ensures.members c.before-in-loop-i.ensures.partners c.in_ok-push_ends.ensures)

pub returns : goal.returns
returns c =
    let len : c.len-i-end.result ≡ length c.args.relation.now.pairs = c.len-i-end.ensures in
    ends-distinct (GivenBy c.args.relation.now.pairs (GetsEdges c.args.table.now.automaton)) c.loop-i.ends.items c.distinct.result.items c.distinct.ensures
    (from_none (GetsEdges c.args.table.now.automaton) c.new-ends.result.items (Contains c.loop-i.ends.items) c.args.relation.now.pairs c.new-ends.ensures.items
    (collected-all (GetsEdges c.args.table.now.automaton) (Contains c.new-ends.result.items) (Contains c.loop-i.ends.items) c.args.relation.now.pairs c.loop-i.i (omega arith) c.loop-i.invariant))
