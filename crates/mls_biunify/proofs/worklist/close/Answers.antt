use Rattle.std.proofs.Common.{◌≡◌, ◌<◌, ◌≤◌, length, sym, subst, arith}
use Rattle.mls_solver.proofs.Taking.{taken-none, taken-next, taken-all}
use Rattle.mls_biunify.proofs.RelatedThere.{there_at}
use Rattle.mls_biunify.proofs.worklist.close.Goals as goal

pub loop-next-init : goal.loop-next-init
loop-next-init c = taken-none c.args.table.now.automaton c.args.room.now

pub add_consequences-requires-clause-rows : goal.add_consequences-requires-clause-rows
add_consequences-requires-clause-rows c = subst (λ k. c.args.table.now.limit ≤ k) (sym c.loop-next.invariant.follows.positives) c.requires.rows

pub add_consequences-requires-clause-columns : goal.add_consequences-requires-clause-columns
add_consequences-requires-clause-columns c = subst (λ k. c.args.table.now.limit ≤ k) (sym c.loop-next.invariant.follows.negatives) c.requires.columns

pub add_consequences-requires-clause-held : goal.add_consequences-requires-clause-held
add_consequences-requires-clause-held c =
    let len : c.len.result ≡ length c.loop-next.room.pairs = c.len.ensures in
    let low : c.loop-next.next < length c.loop-next.room.pairs = omega arith in
    (there_at c.args.table.now c.limit-limit.ensures.is c.args.room.now c.loop-next.room c.requires.states c.loop-next.invariant.follows c.loop-next.next low c.pair.result.0.0 c.pair.result.1.0 c.pair.ensures).0

pub add_consequences-requires-clause-positive : goal.add_consequences-requires-clause-positive
add_consequences-requires-clause-positive c =
    let len : c.len.result ≡ length c.loop-next.room.pairs = c.len.ensures in
    let low : c.loop-next.next < length c.loop-next.room.pairs = omega arith in
    (there_at c.args.table.now c.limit-limit.ensures.is c.args.room.now c.loop-next.room c.requires.states c.loop-next.invariant.follows c.loop-next.next low c.pair.result.0.0 c.pair.result.1.0 c.pair.ensures).1

pub add_consequences-requires-clause-negative : goal.add_consequences-requires-clause-negative
add_consequences-requires-clause-negative c =
    let len : c.len.result ≡ length c.loop-next.room.pairs = c.len.ensures in
    let low : c.loop-next.next < length c.loop-next.room.pairs = omega arith in
    (there_at c.args.table.now c.limit-limit.ensures.is c.args.room.now c.loop-next.room c.requires.states c.loop-next.invariant.follows c.loop-next.next low c.pair.result.0.0 c.pair.result.1.0 c.pair.ensures).2

pub loop-next-preserved : goal.loop-next-preserved
loop-next-preserved c =
    let len : c.len.result ≡ length c.loop-next.room.pairs = c.len.ensures in
    let low : c.loop-next.next < length c.loop-next.room.pairs = omega arith in
    taken-next c.args.table.now.automaton c.args.room.now c.loop-next.room c.add_consequences.new.room c.loop-next.next c.pair.result.0.0 c.pair.result.1.0
    c.loop-next.invariant low c.pair.ensures c.in_ok-add_consequences.ensures.follows c.in_ok-add_consequences.ensures.has

pub returns-clause-relation : goal.returns-clause-relation
returns-clause-relation c =
    let len : c.len.result ≡ length c.loop-next.room.pairs = c.len.ensures in
    let all : length c.loop-next.room.pairs ≤ c.loop-next.next = omega arith in
    taken-all c.args.table.now.automaton c.args.room.now c.loop-next.room c.loop-next.next c.loop-next.invariant all
