use Rattle.std.proofs.Common.{◌≤◌, subst, sym}
use Rattle.mls_automaton.specs.declared.automaton.Head.{Head}
use Rattle.mls_automaton.specs.Automata.{head_at}
use Rattle.mls_solver.specs.steps.Consequences.{ByHeads}
use Rattle.mls_biunify.proofs.RelatedThere.{heads_fit, pair_consequences, heads_grow, grown_kept}
use Rattle.mls_biunify.proofs.worklist.add_consequences.Goals as goal

pub add_by_heads-requires : goal.add_by_heads-requires
add_by_heads-requires c q m by =
    heads_fit c.args.table.now c.head.ensures.is c.args.room.now c.requires.rows c.requires.columns c.args.positive.0 c.args.negative.0 c.requires.positive c.requires.negative q m
    (subst (λ (h : Head). ByHeads h (head_at c.args.table.now.automaton c.args.negative.0) q m) c.head.ensures.head
    (subst (λ (h : Head). ByHeads c.head.result.now h q m) c.head-2.ensures.head by))

pub add_after-requires-clause-held : goal.add_after-requires-clause-held
add_after-requires-clause-held c =
    grown_kept c.args.room.now c.add_by_heads.new.room (ByHeads c.head.result.now c.head-2.result.now) c.in_ok-add_by_heads.ensures c.args.positive.0 c.args.negative.0 c.requires.held

pub add_before-requires-clause-rows : goal.add_before-requires-clause-rows
add_before-requires-clause-rows c =
    subst (λ k. c.args.table.now.limit ≤ k) (sym c.in_ok-add_after.ensures.follows.positives)
    (subst (λ k. c.args.table.now.limit ≤ k) (sym c.in_ok-add_by_heads.ensures.positives) c.requires.rows)

pub add_before-requires-clause-columns : goal.add_before-requires-clause-columns
add_before-requires-clause-columns c =
    subst (λ k. c.args.table.now.limit ≤ k) (sym c.in_ok-add_after.ensures.follows.negatives)
    (subst (λ k. c.args.table.now.limit ≤ k) (sym c.in_ok-add_by_heads.ensures.negatives) c.requires.columns)

pub add_before-requires-clause-held : goal.add_before-requires-clause-held
add_before-requires-clause-held c =
    heads_grow c.args.table.now c.add_by_heads.new.room c.add_after.new.room c.in_ok-add_after.ensures.follows c.args.positive.0 c.args.negative.0
    (grown_kept c.args.room.now c.add_by_heads.new.room (ByHeads c.head.result.now c.head-2.result.now) c.in_ok-add_by_heads.ensures c.args.positive.0 c.args.negative.0 c.requires.held)

pub returns-clause-follows : goal.returns-clause-follows
returns-clause-follows c =
    (pair_consequences c.args.table.now c.head.ensures.is c.args.room.now c.args.positive.0 c.args.negative.0 c.requires.held c.head.result.now c.head-2.result.now c.head.ensures.head c.head-2.ensures.head c.add_by_heads.new.room c.add_after.new.room c.add_before.new.room c.in_ok-add_by_heads.ensures
    c.in_ok-add_after.ensures.follows c.in_ok-add_after.ensures.has c.in_ok-add_before.ensures.follows c.in_ok-add_before.ensures.has).0

pub returns-clause-has : goal.returns-clause-has
returns-clause-has c =
    (pair_consequences c.args.table.now c.head.ensures.is c.args.room.now c.args.positive.0 c.args.negative.0 c.requires.held c.head.result.now c.head-2.result.now c.head.ensures.head c.head-2.ensures.head c.add_by_heads.new.room c.add_after.new.room c.add_before.new.room c.in_ok-add_by_heads.ensures
    c.in_ok-add_after.ensures.follows c.in_ok-add_after.ensures.has c.in_ok-add_before.ensures.follows c.in_ok-add_before.ensures.has).1
