use Rattle.std.proofs.Common.{sym, ap, ◌∙◌}
use Rattle.std.specs.Ordering.{is_le}
use Rattle.mls_solver.proofs.FirstClashes.{earlier_right}
use Rattle.mls_solver.proofs.clash.earlier.Goals as goal

pub returns-else-is_le : goal.returns-else-is_le
returns-else-is_le c =
    earlier_right c.args.a.now c.args.first c.args.other c.in-Some.left c.in-Some-other.right c.in-Some.is c.in-Some-other.is
    (ap is_le (sym c.compare.ensures) ∙ (sym c.is_le.ensures ∙ c.if-is_le.false))
