use Rattle.mls_typetext.proofs.NamesKnown.{labelled}
use Rattle.mls_typetext.proofs.resolve.NameReader.add_label.Goals as goal

pub returns-clause-known : goal.returns-clause-known
returns-clause-known c = labelled c.args.self.now c.add.new.self c.args.label c.in_ok-is_new.ensures.labels
