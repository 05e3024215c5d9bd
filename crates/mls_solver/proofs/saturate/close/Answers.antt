use Rattle.std.proofs.Common.{◌≡◌, ℕ, ◌<◌, ◌≤◌, List, Contains, length, subst, arith}
use Rattle.mls_solver.proofs.Taking.{taken-none, taken-next, taken-all, room_of-kept}
use Rattle.mls_solver.proofs.saturate.close.Goals as goal

pub loop-next-init : goal.loop-next-init
loop-next-init c = taken-none c.args.a.now c.args.room.now

pub add_consequences-requires-clause-states : goal.add_consequences-requires-clause-states
add_consequences-requires-clause-states c = room_of-kept c.args.a.now c.args.room.now c.loop-next.room c.loop-next.invariant.follows c.requires.states

pub add_consequences-requires-clause-positive : goal.add_consequences-requires-clause-positive
add_consequences-requires-clause-positive c =
    c.requires.states.row_is c.pair.result.0.0 (subst (λ (rows : List ℕ). Contains rows c.pair.result.0.0) c.loop-next.invariant.follows.rows c.pair.ensures.row)

pub add_consequences-requires-clause-negative : goal.add_consequences-requires-clause-negative
add_consequences-requires-clause-negative c =
    c.requires.states.column_is c.pair.result.1.0 (subst (λ (columns : List ℕ). Contains columns c.pair.result.1.0) c.loop-next.invariant.follows.columns c.pair.ensures.column)

pub loop-next-preserved : goal.loop-next-preserved
loop-next-preserved c =
    let len : c.len.result ≡ length c.loop-next.room.pairs = c.len.ensures.len in
    let low : c.loop-next.next < length c.loop-next.room.pairs = omega arith in
    taken-next c.args.a.now c.args.room.now c.loop-next.room c.add_consequences.new.room c.loop-next.next c.pair.result.0.0 c.pair.result.1.0
    c.loop-next.invariant low c.pair.ensures.pair c.add_consequences.ensures.follows c.add_consequences.ensures.has

pub returns-clause-relation : goal.returns-clause-relation
returns-clause-relation c =
    let len : c.len.result ≡ length c.loop-next.room.pairs = c.len.ensures.len in
    let all : length c.loop-next.room.pairs ≤ c.loop-next.next = omega arith in
    taken-all c.args.a.now c.args.room.now c.loop-next.room c.loop-next.next c.loop-next.invariant all
