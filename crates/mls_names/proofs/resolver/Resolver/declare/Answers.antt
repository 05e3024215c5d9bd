use Rattle.std.proofs.Common.{refl}
use Rattle.mls_names.specs.declared.resolver.Meaning.TheVariants as meaning
use Rattle.mls_names.proofs.Tasks.{fine, declares}
use Rattle.mls_names.proofs.resolver.Resolver.declare.Goals as goal

pub returns-clause-ready : goal.returns-clause-ready
returns-clause-ready c =
    fine c.ok_or.result _
    (declares c.args.self.now (record { meanings = c.insert.new.self; tasks = c.args.self.now.tasks }) c.args.name.now c.in_ok-copied.field-0 (meaning.Scheme c.args.number)
    c.in_ok-insert.ensures.updates c.in_ok-copied.ensures refl)
