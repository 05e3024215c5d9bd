use Rattle.std.proofs.Common.{rules}
use Rattle.std.proofs.lemmas.Fn.{filter_same}
use Rattle.mls_deriv.specs.inner.Tables.{is_other}
use Rattle.mls_deriv.proofs.pair_set.take_out.Goals as goal

pub returns : goal.returns
returns c =
    filter_same _ (is_other c.args.left c.args.right) _ (λ p b g k. search rules)
    c.args.pairs.now.items c.retain.new.self.items c.retain.ensures.filtered
