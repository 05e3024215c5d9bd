use Rattle.std.proofs.Common.{false, List, length, sym, subst, arith}
use Rattle.std.proofs.lemmas.List.{drop_all}
use Rattle.mls_deriv.specs.declared.claim.Pair.{Pair}
use Rattle.mls_pairs.specs.steps.Deleting.{Sweeps}
use Rattle.mls_pairs.proofs.Sweeping.{look_next_gone, look_next_kept, swept_none}
use Rattle.mls_pairs.proofs.deleting.sweep.Goals as goal

pub loop-left-init : goal.loop-left-init
loop-left-init c = (
  subst (λ (ps : List Pair). Sweeps c.args.book.now ps c.args.table.now c.args.table.now false) (sym (drop_all (length c.args.pairs.now) c.args.pairs.now (omega arith)))
      (swept_none c.args.book.now c.args.table.now),
  omega arith,
)

pub loop-left-preserved-then-deletes : goal.loop-left-preserved-then-deletes
loop-left-preserved-then-deletes c = (
  look_next_gone c.args.book.now c.args.pairs.now c.loop-left.left _ c.args.table.now c.loop-left.table c.deletes.new.table c.loop-left.is_less c.deletes.result
      c.loop-left-test.true c.loop-left.invariant.1 c.if-deletes.true c.loop-left.invariant.0 c.deletes.ensures,
  omega (arith, c.loop-left-test.true, c.loop-left.invariant.1),
)

pub loop-left-preserved : goal.loop-left-preserved
loop-left-preserved c = (
  look_next_kept c.args.book.now c.args.pairs.now c.loop-left.left _ c.args.table.now c.loop-left.table c.deletes.new.table c.loop-left.is_less c.deletes.result
      c.loop-left-test.true c.loop-left.invariant.1 c.if-deletes.false c.loop-left.invariant.0 c.deletes.ensures,
  omega (arith, c.loop-left-test.true, c.loop-left.invariant.1),
)
