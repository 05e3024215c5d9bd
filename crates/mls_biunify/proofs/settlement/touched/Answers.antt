use Rattle.std.proofs.Common.{◌≡◌, Contains, get_or, length, arith}
use Rattle.mls_biunify.specs.steps.Settlement.{TouchedBy}
use Rattle.mls_biunify.proofs.Collected.{collected-none, collected-more, collected-all, from_none}
use Rattle.mls_biunify.proofs.SettledHeads.{pair_there, pair_touches}
use Rattle.mls_biunify.proofs.settlement.touched.Goals as goal

pub loop-i-init : goal.loop-i-init
loop-i-init c = collected-none (TouchedBy c.args.table.now.automaton) (Contains c.new-set.result) c.args.relation.now.pairs

pub before-requires : goal.before-requires
before-requires c =
    let len : c.len-i-end.result ≡ length c.args.relation.now.pairs = c.len-i-end.ensures in
    (pair_there c.args.table.now c.args.relation.now c.requires c.loop-i.i (omega arith) c.pair.result.0.0 c.pair.result.1.0 c.pair.ensures).0.there

pub after-requires : goal.after-requires
after-requires c =
    let len : c.len-i-end.result ≡ length c.args.relation.now.pairs = c.len-i-end.ensures in
    (pair_there c.args.table.now c.args.relation.now c.requires c.loop-i.i (omega arith) c.pair.result.0.0 c.pair.result.1.0 c.pair.ensures).1.there

pub loop-i-preserved : goal.loop-i-preserved
loop-i-preserved c =
    let len : c.len-i-end.result ≡ length c.args.relation.now.pairs = c.len-i-end.ensures in
    collected-more (TouchedBy c.args.table.now.automaton) (Contains c.new-set.result) (Contains c.loop-i.set) (Contains c.insert_all-in-loop-i.new.set) c.args.relation.now.pairs c.loop-i.i (0, 0) (omega arith) c.loop-i.invariant
    (pair_touches c.args.table.now.automaton c.pair.result.0.0 c.pair.result.1.0 (get_or c.args.relation.now.pairs c.loop-i.i (0, 0)) c.pair.ensures c.loop-i.set c.insert_all.new.set c.insert_all-in-loop-i.new.set c.before-in-loop-i.result.now c.after.result.now
    c.in_ok-insert_all.ensures c.in_ok-insert_all-2.ensures c.before-in-loop-i.ensures.partners c.after.ensures.partners)

pub returns : goal.returns
returns c =
    let len : c.len-i-end.result ≡ length c.args.relation.now.pairs = c.len-i-end.ensures in
    from_none (TouchedBy c.args.table.now.automaton) c.new-set.result (Contains c.loop-i.set) c.args.relation.now.pairs c.new-set.ensures
    (collected-all (TouchedBy c.args.table.now.automaton) (Contains c.new-set.result) (Contains c.loop-i.set) c.args.relation.now.pairs c.loop-i.i (omega arith) c.loop-i.invariant)
