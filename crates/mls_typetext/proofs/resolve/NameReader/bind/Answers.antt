use Rattle.std.proofs.Common.{Some}
use Rattle.mls_typetext.proofs.NamesKnown.{named}
use Rattle.mls_typetext.proofs.resolve.NameReader.bind.Goals as goal

pub returns-clause-known : goal.returns-clause-known
returns-clause-known c = named c.args.self.now c.insert.new.self c.args.name (Some c.args.body) c.in_ok-outer.ensures.updates
