use Rattle.mls_names.proofs.Tasks.{binds}
use Rattle.mls_names.proofs.resolver.Resolver.bind.Goals as goal

pub returns : goal.returns
returns c =
    binds c.args.self.now (record { meanings = c.insert.new.self; tasks = c.push.new.self }) c.args.name.now c.in_ok-copied.field-0 c.in_ok-copied-2.field-0 c.args.meaning c.in_ok-outside.outside
    c.in_ok-outside.ensures.updates c.in_ok-copied.ensures c.in_ok-outside.ensures.old c.in_ok-push.ensures.items c.in_ok-copied-2.ensures
