use Rattle.std.proofs.Common.{◌≡◌, length, arith}
use Rattle.mls_solver.proofs.Searching.{held_at}
use Rattle.mls_solver.proofs.Settling.{touched-none, touched-more, touched_found}
use Rattle.mls_solver.proofs.settle.touched.Goals as goal

pub loop-i-init : goal.loop-i-init
loop-i-init c = touched-none c.args.a.now c.args.found.now c.new-all.result.keys c.new-all.ensures.empty

pub partners-requires : goal.partners-requires
partners-requires c =
    let len : c.len-i-end.result ≡ length c.args.found.now.pairs = c.len-i-end.ensures in
    (c.requires.states c.pair.result.0.0 c.pair.result.1.0 (held_at c.args.found.now c.loop-i.i c.pair.result.0.0 c.pair.result.1.0 (omega arith) c.pair.ensures)).0.in_range

pub partners-requires-in-loop-i : goal.partners-requires-in-loop-i
partners-requires-in-loop-i c =
    let len : c.len-i-end.result ≡ length c.args.found.now.pairs = c.len-i-end.ensures in
    (c.requires.states c.pair.result.0.0 c.pair.result.1.0 (held_at c.args.found.now c.loop-i.i c.pair.result.0.0 c.pair.result.1.0 (omega arith) c.pair.ensures)).1.in_range

pub loop-i-preserved : goal.loop-i-preserved
loop-i-preserved c =
    touched-more c.args.a.now c.requires.closed c.args.found.now c.loop-i.i c.pair.result.0.0 c.pair.result.1.0 c.pair.ensures
    c.partners.result.now c.partners-in-loop-i.result.now c.as_slice.result.now c.as_slice-in-loop-i.result.now c.partners.ensures.partners c.partners-in-loop-i.ensures.partners
    c.as_slice.ensures.members c.as_slice-in-loop-i.ensures.members
    c.loop-i.all.keys c.insert_all.new.set.keys c.insert_all-in-loop-i.new.set.keys c.loop-i.invariant c.in_ok-insert_all.ensures c.in_ok-insert_all-2.ensures

pub returns-clause-all : goal.returns-clause-all
returns-clause-all c =
    let len : c.len-i-end.result ≡ length c.args.found.now.pairs = c.len-i-end.ensures in
    touched_found c.args.a.now c.args.found.now c.loop-i.i c.loop-i.all.keys (omega arith) c.loop-i.invariant

pub returns-clause-in_range : goal.returns-clause-in_range
returns-clause-in_range c = c.loop-i.invariant.in_range
