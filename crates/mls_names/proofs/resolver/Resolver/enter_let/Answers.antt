use Rattle.std.proofs.Common.{subst}
use Rattle.mls_names.specs.steps.Walks.{Pushes, EntersLet}
use Rattle.mls_names.proofs.Tasks.{on_ok, enters_let}
use Rattle.mls_names.proofs.resolver.Resolver.enter_let.Goals as goal

pub returns : goal.returns
returns c =
    on_ok c.push-2.result (Pushes c.bind.new.self c.push-2.new.self c.after.result) (EntersLet c.args.self.now c.push-2.new.self c.args.stretch c.args.next c.args.name.now c.args.first)
    (λ h. enters_let c.args.self.now c.push.new.self c.bind.new.self c.push-2.new.self c.args.stretch c.args.next c.args.name.now c.args.first c.in_ok-push.ensures c.in_ok-bind.ensures
    (subst (λ s. Pushes c.bind.new.self c.push-2.new.self s) c.after.ensures h)) c.push-2.ensures
