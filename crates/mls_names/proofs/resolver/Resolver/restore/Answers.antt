use Rattle.std.proofs.Common.{Some, None, refl, sym, subst}
use Rattle.mls_names.specs.declared.resolver.Resolver.{Resolver}
use Rattle.mls_names.specs.steps.Walks.{Restores}
use Rattle.mls_names.proofs.Tasks.{restores}
use Rattle.mls_names.proofs.resolver.Resolver.restore.Goals as goal

pub returns-in_ok-insert-in-Some : goal.returns-in_ok-insert-in-Some
returns-in_ok-insert-in-Some c =
    let new : Resolver = record { meanings = c.insert.new.self; tasks = c.args.self.now.tasks } in
    subst (Restores c.args.self.now new c.args.name) (sym c.in-Some.is) (restores c.args.self.now new c.args.name (Some c.in-Some.meaning) c.in_ok-insert-in-Some.ensures.updates refl)

pub returns-in-None : goal.returns-in-None
returns-in-None c =
    let new : Resolver = record { meanings = c.remove.new.self; tasks = c.args.self.now.tasks } in
    subst (Restores c.args.self.now new c.args.name) (sym c.in-None.is) (restores c.args.self.now new c.args.name None c.remove.ensures.updates refl)
