use Rattle.std.proofs.Common.{◌↔◌, ◌<◌, ◌∙◌, IsTrue, length, nat_lt, rules, subst, sym}
use Rattle.mls_deriv.specs.inner.Environments.{top_node}
use Rattle.mls_deriv.specs.inner.Rules.{AreLow}
use Rattle.mls_deriv.proofs.Environments.{top_low}
use Rattle.mls_deriv.proofs.env.Shared.are_low.Goals as goal

pub returns-else-is_empty : goal.returns-else-is_empty
returns-else-is_empty c =
    let some : 0 < length c.args.self.now = search rules in
    subst (λ top. IsTrue (nat_lt top c.args.count) ↔ AreLow c.args.count c.args.self.now) (sym (c.self.invariant.1 ∙ (λ n. top_node (c.self.view_is n))))
    (top_low c.args.self.now c.args.count some)
