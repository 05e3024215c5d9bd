use Rattle.mls_scheme.proofs.UsedVariables.{use-here}
use Rattle.mls_scheme.proofs.uses.add_use.Goals as goal

pub returns-in_ok-insert-in-Var : goal.returns-in_ok-insert-in-Var
returns-in_ok-insert-in-Var c =
    use-here c.args.node.now c.in-Var.x c.args.i c.args.uses.now.items c.index_mut.result.now c.index_mut.result.now c.insert.new.self c.in-Var.is (c.requires c.in-Var.x c.in-Var.is) c.index_mut.ensures.value c.in_ok-insert-in-Var.ensures.ok
