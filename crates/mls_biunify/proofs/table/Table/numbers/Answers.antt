use Rattle.mls_biunify.proofs.Numbers.{numbers-more}
use Rattle.mls_biunify.proofs.table.Table.numbers.Goals as goal

pub loop-s-preserved : goal.loop-s-preserved
loop-s-preserved c = numbers-more c.args.self.now.there c.loop-s.set c.push_number.new.set c.loop-s.s c.loop-s.invariant c.in_ok-push_number.ensures
