use Rattle.std.proofs.Common.{None, sym, ap, ◌∙◌}
use Rattle.mls_typetext.specs.steps.NameMachine.{naming}
use Rattle.mls_typetext.specs.steps.NameReaders.{known_of}
use Rattle.mls_typetext.proofs.NamesKnown.{named}
use Rattle.mls_typetext.proofs.resolve.NameReader.leave.Goals as goal

pub returns-in-None-clause-known : goal.returns-in-None-clause-known
returns-in-None-clause-known c =
    named c.args.self.now c.remove.new.self c.args.name None c.remove.ensures.updates ∙ ap (λ outer. naming c.args.name outer (known_of c.args.self.now)) (sym c.in-None.is)
