use Rattle.std.proofs.Common.{arith}
use Rattle.mls_biunify.proofs.Copied.{copied-none, copied-more, copied-to}
use Rattle.mls_biunify.proofs.copy.copied_states.Goals as goal

pub loop-s-init : goal.loop-s-init
loop-s-init c = copied-none c.args.table.now c.new-copy.result c.new-copy.ensures

pub loop-s-preserved : goal.loop-s-preserved
loop-s-preserved c = copied-more c.args.table.now c.loop-s.s c.loop-s.copy c.copy_state.new.copy c.loop-s.invariant c.in_ok-copy_state.ensures

pub returns : goal.returns
returns c = copied-to c.args.table.now c.loop-s.s c.loop-s.copy c.loop-s.invariant (omega (arith, c.limit-s-end.ensures.limit))
