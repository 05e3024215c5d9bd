use Rattle.mls_names.specs.steps.Walks.{EntersBinder}
use Rattle.mls_names.proofs.Tasks.{on_ok, enters_binder}
use Rattle.mls_names.proofs.resolver.Resolver.enter_binder.Goals as goal

pub returns : goal.returns
returns c =
    on_ok c.push.result _ (EntersBinder c.args.self.now c.push.new.self c.args.stretch c.args.next c.args.name.now)
    (enters_binder c.args.self.now c.bind.new.self c.push.new.self c.args.stretch c.args.next c.args.name.now c.in_ok-bind.ensures) c.push.ensures
