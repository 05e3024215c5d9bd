use Rattle.std.proofs.Common.{refl}
use Rattle.mls_lines.proofs.Bringing.{taken_brings}
use Rattle.mls_lines.proofs.writer.Writer.adapted.Goals as goal

pub returns-clause-brings : goal.returns-clause-brings
returns-clause-brings c = λ rising sound low root_low.
    let taken = c.in_ok-from.ensures.takes sound root_low in
    taken_brings c.args.self.now c.taken.new.self _ c.args.node c.args.env.now c.args.root c.in_ok-from.from c.in_ok-to.to sound low root_low taken
    (c.in_ok-to.ensures rising taken.adds.counted taken.stands) refl refl
