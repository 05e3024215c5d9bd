use Rattle.std.proofs.Common.{◌++◌}
use Rattle.std.specs.BTreeMap.{get}
use Rattle.std.specs.Ordering.{nat_cmp}
use Rattle.mls_deriv.proofs.CheckedSteps.{allowed_found}
use Rattle.mls_deriv.proofs.check.is_allowed.Goals as goal

pub returns : goal.returns
returns c = λ known let_is.
    let both = allowed_found c.args.nodes.now (c.args.declared.now ++ c.args.earlier.now) c.args.book.now c.args.steps.now known c.args.lines.now c.args.step.now
    c.in_ok-table.table (get nat_cmp c.args.lets.now) c.requires.closed c.requires.rising (c.in_ok-table.ensures) let_is in
    (λ h. both.0 (c.in_ok-found.ensures.0 h), λ a. c.in_ok-found.ensures.1 (both.1 a))
