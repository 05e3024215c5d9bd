use Rattle.std.proofs.Common.{refl}
use Rattle.mls_lines.proofs.Growing.{grows_laid}
use Rattle.mls_lines.proofs.writer.Writer.counted_meet.Goals as goal

pub returns-clause-grows : goal.returns-clause-grows
returns-clause-grows c = grows_laid c.args.self.now c.meet.new.self _ c.in_ok-met.ensures.grows refl refl refl
