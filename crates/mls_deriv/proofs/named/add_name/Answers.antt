use Rattle.std.proofs.Common.{◌++◌, subst}
use Rattle.mls_deriv.specs.inner.Names.{StandsAt}
use Rattle.mls_deriv.proofs.StandingNames.{stand_more}
use Rattle.mls_deriv.proofs.named.add_name.Goals as goal

pub returns-in_ok-insert : goal.returns-in_ok-insert
returns-in_ok-insert c =
    stand_more c.args.book.now (c.args.declared.now ++ c.args.earlier.now) c.args.g c.args.n.0 c.args.names.now c.insert.new.self c.requires c.in_ok-insert.ensures.updates
    (subst (StandsAt c.args.book.now c.args.n.0) c.scheme_at.ensures (c.stands.ensures c.if-stands.true))
