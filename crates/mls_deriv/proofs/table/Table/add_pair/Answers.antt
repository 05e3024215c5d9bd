use Rattle.std.proofs.Common.{sym, subst}
use Rattle.mls_deriv.specs.inner.Tables.{AddsPair}
use Rattle.mls_deriv.proofs.Tables.{lr_added, rl_added, pp_added}
use Rattle.mls_deriv.proofs.table.Table.add_pair.Goals as goal

pub returns-in_ok-is_new-in-Lr-clause-adds : goal.returns-in_ok-is_new-in-Lr-clause-adds
returns-in_ok-is_new-in-Lr-clause-adds c =
    let t = c.args.self.now in
    subst (λ mode. AddsPair mode c.args.left c.args.right t (record { puts = t.puts; lr = c.insert.new.self; rl = t.rl; pp = t.pp })) (sym c.in-Lr.is)
    (lr_added t.puts t.lr t.rl t.pp c.insert.new.self c.args.left c.args.right c.in_ok-is_new-in-Lr.ensures.adds)

pub returns-in_ok-is_new-in-Rl-clause-adds : goal.returns-in_ok-is_new-in-Rl-clause-adds
returns-in_ok-is_new-in-Rl-clause-adds c =
    let t = c.args.self.now in
    subst (λ mode. AddsPair mode c.args.left c.args.right t (record { puts = t.puts; lr = t.lr; rl = c.insert-in-Rl.new.self; pp = t.pp })) (sym c.in-Rl.is)
    (rl_added t.puts t.lr t.rl t.pp c.insert-in-Rl.new.self c.args.left c.args.right c.in_ok-is_new-in-Rl.ensures.adds)

pub returns-in_ok-is_new-in-Pp-clause-adds : goal.returns-in_ok-is_new-in-Pp-clause-adds
returns-in_ok-is_new-in-Pp-clause-adds c =
    let t = c.args.self.now in
    subst (λ mode. AddsPair mode c.args.left c.args.right t (record { puts = t.puts; lr = t.lr; rl = t.rl; pp = c.insert-in-Pp.new.self })) (sym c.in-Pp.is)
    (pp_added t.puts t.lr t.rl t.pp c.insert-in-Pp.new.self c.args.left c.args.right c.in_ok-is_new-in-Pp.ensures.adds)
