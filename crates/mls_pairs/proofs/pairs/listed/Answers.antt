use Rattle.std.proofs.Common.{true, false, List, sym, subst}
use Rattle.mls_deriv.specs.declared.claim.Pair.{Pair}
use Rattle.mls_deriv.specs.declared.table.Table.{Table}
use Rattle.mls_pairs.specs.Lines.{IsTable}
use Rattle.mls_pairs.specs.steps.Deleting.{Deletes, IsHeldBy, Sweeps}
use Rattle.mls_pairs.specs.steps.Rounds.{AreThose}
use Rattle.mls_pairs.proofs.Deletions.{deletes_trans, held_left, held_table}
use Rattle.mls_pairs.proofs.Rounding.{left_first, left_inside}
use Rattle.mls_pairs.proofs.Sweeping.{swept_fewer, swept_list}
use Rattle.mls_pairs.proofs.pairs.listed.Goals as goal

pub loop-alloc-init : goal.loop-alloc-init
loop-alloc-init c = (left_first c.args.book.now c.args.puts.now c.args.wanted.now c.in_ok-found.found.pairs c.in_ok-found.ensures.whole, c.in_ok-found.ensures.table)

pub returns-then-not-is_less-clause-pairs : goal.returns-then-not-is_less-clause-pairs
returns-then-not-is_less-clause-pairs c =
    let pairs : List Pair = c.loop-alloc.found.pairs in
    swept_list c.args.book.now c.args.puts.now c.args.wanted.now pairs c.loop-alloc.found.table c.sweep-is_less.new.table c.loop-alloc.invariant.0 c.loop-alloc.invariant.1
    (subst (λ (ps : List Pair). Sweeps c.args.book.now ps c.loop-alloc.found.table c.sweep-is_less.new.table false) c.as_slice.ensures
    (subst (Sweeps c.args.book.now c.as_slice.result.now c.loop-alloc.found.table c.sweep-is_less.new.table) c.if-not-is_less.true c.sweep-is_less.ensures))

pub returns-then-not-is_less-clause-inside : goal.returns-then-not-is_less-clause-inside
returns-then-not-is_less-clause-inside c = left_inside c.args.book.now c.args.puts.now c.args.wanted.now c.loop-alloc.found.pairs c.loop-alloc.invariant.0

pub returns-then-not-is_less-clause-table : goal.returns-then-not-is_less-clause-table
returns-then-not-is_less-clause-table c =
    subst (IsTable c.args.puts.now c.loop-alloc.found.pairs) (sym (c.sweep-is_less.ensures.same c.if-not-is_less.true)) c.loop-alloc.invariant.1

pub loop-alloc-smaller : goal.loop-alloc-smaller
loop-alloc-smaller c =
    let pairs : List Pair = c.loop-alloc.found.pairs in
    swept_fewer c.args.book.now pairs c.in_ok-found-2.found.pairs c.loop-alloc.found.table c.sweep-is_less.new.table c.in_ok-found-2.found.table
    (subst (λ (ps : List Pair). Sweeps c.args.book.now ps c.loop-alloc.found.table c.sweep-is_less.new.table true) c.as_slice.ensures
    (subst (Sweeps c.args.book.now c.as_slice.result.now c.loop-alloc.found.table c.sweep-is_less.new.table) c.if-not-is_less.false c.sweep-is_less.ensures))
    c.in_ok-found-2.ensures.deletes c.in_ok-found-2.ensures.those

pub loop-alloc-preserved : goal.loop-alloc-preserved
loop-alloc-preserved c =
    let pairs : List Pair = c.loop-alloc.found.pairs in
    let old : Table = c.loop-alloc.found.table in
    let new : Table = c.in_ok-found-2.found.table in
    let deletes : Deletes c.args.book.now old new = deletes_trans c.args.book.now c.sweep-is_less.ensures.deletes c.in_ok-found-2.ensures.deletes in
    let those : AreThose (IsHeldBy new) pairs c.in_ok-found-2.found.pairs = c.in_ok-found-2.ensures.those in (
      held_left c.args.book.now c.args.puts.now c.args.wanted.now pairs c.in_ok-found-2.found.pairs old new c.loop-alloc.invariant.1 deletes those c.loop-alloc.invariant.0,
      held_table c.args.book.now c.args.puts.now pairs c.in_ok-found-2.found.pairs old new c.loop-alloc.invariant.1 deletes those,
    )
