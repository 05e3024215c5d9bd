use Rattle.std.proofs.Common.{subst}
use Rattle.mls_automaton.specs.declared.automaton.Head.{Head}
use Rattle.mls_automaton.specs.Automata.{head_at}
use Rattle.mls_solver.specs.steps.Growth.{Relates}
use Rattle.mls_solver.specs.steps.Consequences.{ByHeads}
use Rattle.mls_solver.proofs.Taking.{Follows-kept, room_of-kept, heads_in_range, heads-follow, consequences}
use Rattle.mls_solver.proofs.saturate.add_consequences.Goals as goal

pub head-requires : goal.head-requires
head-requires c = c.requires.positive.in_range

pub head-requires-2 : goal.head-requires-2
head-requires-2 c = c.requires.negative.in_range

pub add_by_heads-requires : goal.add_by_heads-requires
add_by_heads-requires c q m by =
    heads_in_range c.args.a.now c.requires.closed c.args.room.now c.args.positive.0 c.args.negative.0 c.requires.held c.requires.positive c.requires.negative c.requires.states q m
    (subst (λ (h : Head). ByHeads h (head_at c.args.a.now c.args.negative.0) q m) c.head.ensures
    (subst (λ (h : Head). ByHeads c.head.result.now h q m) c.head-2.ensures by))

pub add_after-requires-clause-states : goal.add_after-requires-clause-states
add_after-requires-clause-states c =
    room_of-kept c.args.a.now c.args.room.now c.add_by_heads.new.room (heads-follow c.args.a.now c.requires.closed c.args.room.now c.args.positive.0 c.args.negative.0 c.requires.held c.add_by_heads.new.room (subst (λ (h : Head). Relates c.args.room.now c.add_by_heads.new.room (ByHeads h (head_at c.args.a.now c.args.negative.0))) c.head.ensures
    (subst (λ (h : Head). Relates c.args.room.now c.add_by_heads.new.room (ByHeads c.head.result.now h)) c.head-2.ensures c.add_by_heads.ensures))) c.requires.states

pub add_after-requires-clause-held : goal.add_after-requires-clause-held
add_after-requires-clause-held c =
    Follows-kept c.args.a.now c.args.room.now c.add_by_heads.new.room (heads-follow c.args.a.now c.requires.closed c.args.room.now c.args.positive.0 c.args.negative.0 c.requires.held c.add_by_heads.new.room (subst (λ (h : Head). Relates c.args.room.now c.add_by_heads.new.room (ByHeads h (head_at c.args.a.now c.args.negative.0))) c.head.ensures
    (subst (λ (h : Head). Relates c.args.room.now c.add_by_heads.new.room (ByHeads c.head.result.now h)) c.head-2.ensures c.add_by_heads.ensures))) c.args.positive.0 c.args.negative.0 c.requires.held

pub add_before-requires-clause-states : goal.add_before-requires-clause-states
add_before-requires-clause-states c =
    room_of-kept c.args.a.now c.add_by_heads.new.room c.add_after.new.room c.add_after.ensures.follows
    (room_of-kept c.args.a.now c.args.room.now c.add_by_heads.new.room (heads-follow c.args.a.now c.requires.closed c.args.room.now c.args.positive.0 c.args.negative.0 c.requires.held c.add_by_heads.new.room (subst (λ (h : Head). Relates c.args.room.now c.add_by_heads.new.room (ByHeads h (head_at c.args.a.now c.args.negative.0))) c.head.ensures
    (subst (λ (h : Head). Relates c.args.room.now c.add_by_heads.new.room (ByHeads c.head.result.now h)) c.head-2.ensures c.add_by_heads.ensures))) c.requires.states)

pub add_before-requires-clause-held : goal.add_before-requires-clause-held
add_before-requires-clause-held c =
    Follows-kept c.args.a.now c.add_by_heads.new.room c.add_after.new.room c.add_after.ensures.follows c.args.positive.0 c.args.negative.0
    (Follows-kept c.args.a.now c.args.room.now c.add_by_heads.new.room (heads-follow c.args.a.now c.requires.closed c.args.room.now c.args.positive.0 c.args.negative.0 c.requires.held c.add_by_heads.new.room (subst (λ (h : Head). Relates c.args.room.now c.add_by_heads.new.room (ByHeads h (head_at c.args.a.now c.args.negative.0))) c.head.ensures
    (subst (λ (h : Head). Relates c.args.room.now c.add_by_heads.new.room (ByHeads c.head.result.now h)) c.head-2.ensures c.add_by_heads.ensures))) c.args.positive.0 c.args.negative.0 c.requires.held)

pub returns-clause-follows : goal.returns-clause-follows
returns-clause-follows c =
    (consequences c.args.a.now c.requires.closed c.args.room.now c.args.positive.0 c.args.negative.0 c.requires.held c.add_by_heads.new.room c.add_after.new.room c.add_before.new.room (subst (λ (h : Head). Relates c.args.room.now c.add_by_heads.new.room (ByHeads h (head_at c.args.a.now c.args.negative.0))) c.head.ensures
    (subst (λ (h : Head). Relates c.args.room.now c.add_by_heads.new.room (ByHeads c.head.result.now h)) c.head-2.ensures c.add_by_heads.ensures))
    c.add_after.ensures.follows c.add_after.ensures.has c.add_before.ensures.follows c.add_before.ensures.has).0

pub returns-clause-has : goal.returns-clause-has
returns-clause-has c =
    (consequences c.args.a.now c.requires.closed c.args.room.now c.args.positive.0 c.args.negative.0 c.requires.held c.add_by_heads.new.room c.add_after.new.room c.add_before.new.room (subst (λ (h : Head). Relates c.args.room.now c.add_by_heads.new.room (ByHeads h (head_at c.args.a.now c.args.negative.0))) c.head.ensures
    (subst (λ (h : Head). Relates c.args.room.now c.add_by_heads.new.room (ByHeads c.head.result.now h)) c.head-2.ensures c.add_by_heads.ensures))
    c.add_after.ensures.follows c.add_after.ensures.has c.add_before.ensures.follows c.add_before.ensures.has).1
