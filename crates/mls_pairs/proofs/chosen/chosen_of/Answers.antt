use Rattle.std.proofs.Common.{◌<◌, ◌≤◌, List, length, rules, subst}
use Rattle.mls_deriv.specs.declared.claim.Pair.{Pair}
use Rattle.mls_pairs.specs.steps.Growth.{Finds}
use Rattle.mls_pairs.proofs.Choosing.{choosing_first, choosing_next, choosing_last}
use Rattle.mls_pairs.proofs.chosen.chosen_of.Goals as goal

pub loop-next-init : goal.loop-next-init
loop-next-init c =
    choosing_first c.args.book.now c.args.table.now c.args.wanted.now c.in_ok-held.held c.in_ok-chosen.chosen c.add_all.new.self c.in_ok-chosen.ensures.empty c.in_ok-held.ensures
    (subst (λ (l : List Pair). Finds c.in_ok-chosen.chosen c.add_all.new.self l) c.as_slice.ensures c.in_ok-add_all.ensures)

pub add_reason-requires : goal.add_reason-requires
add_reason-requires c = c.loop-next.invariant.is

pub loop-next-preserved : goal.loop-next-preserved
loop-next-preserved c =
    let low : c.loop-next.next < length c.loop-next.chosen.pairs = search rules in
    let added = c.in_ok-is_there.ensures c.if-not-is_there.false in
    choosing_next c.args.book.now c.args.table.now c.args.wanted.now added.0 c.loop-next.chosen c.add_reason.new.chosen c.loop-next.next c.at-pair.result low
    c.at-pair.ensures c.loop-next.invariant added.1 added.2

pub returns : goal.returns
returns c =
    let all : length c.loop-next.chosen.pairs ≤ c.loop-next.next = search rules in
    choosing_last c.args.book.now c.args.table.now c.args.wanted.now c.loop-next.next c.loop-next.chosen all c.loop-next.invariant
