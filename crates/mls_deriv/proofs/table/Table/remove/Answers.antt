use Rattle.std.proofs.Common.{sym, subst}
use Rattle.mls_deriv.specs.inner.Tables.{RemovesPair}
use Rattle.mls_deriv.proofs.Tables.{lr_removed, rl_removed, pp_removed}
use Rattle.mls_deriv.proofs.table.Table.remove.Goals as goal

pub returns-in-Lr : goal.returns-in-Lr
returns-in-Lr c =
    let t = c.args.self.now in
    subst (λ mode. RemovesPair mode c.args.left c.args.right t (record { puts = t.puts; lr = c.remove.new.self; rl = t.rl; pp = t.pp })) (sym c.in-Lr.is)
    (lr_removed t.puts t.lr t.rl t.pp c.remove.new.self c.args.left c.args.right c.remove.ensures)

pub returns-in-Rl : goal.returns-in-Rl
returns-in-Rl c =
    let t = c.args.self.now in
    subst (λ mode. RemovesPair mode c.args.left c.args.right t (record { puts = t.puts; lr = t.lr; rl = c.remove-in-Rl.new.self; pp = t.pp })) (sym c.in-Rl.is)
    (rl_removed t.puts t.lr t.rl t.pp c.remove-in-Rl.new.self c.args.left c.args.right c.remove-in-Rl.ensures)

pub returns-in-Pp : goal.returns-in-Pp
returns-in-Pp c =
    let t = c.args.self.now in
    subst (λ mode. RemovesPair mode c.args.left c.args.right t (record { puts = t.puts; lr = t.lr; rl = t.rl; pp = c.remove-in-Pp.new.self })) (sym c.in-Pp.is)
    (pp_removed t.puts t.lr t.rl t.pp c.remove-in-Pp.new.self c.args.left c.args.right c.remove-in-Pp.ensures)
