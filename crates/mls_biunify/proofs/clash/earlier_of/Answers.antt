use Rattle.std.proofs.Common.{[], ◌∷◌, sym, ap, ◌∙◌}
use Rattle.std.specs.Ordering.{is_le}
use Rattle.mls_solver.specs.Clashes.{key_cmp, kind_key}
use Rattle.mls_solver.proofs.FirstClashes.{earlier_right}
use Rattle.mls_biunify.proofs.clash.earlier_of.Goals as goal

pub returns-else-is_le : goal.returns-else-is_le
returns-else-is_le c =
    earlier_right c.args.table.now.automaton c.args.first c.args.other c.in-Some.left c.in-Some-other.right c.in-Some.is c.in-Some-other.is
    (sym (ap is_le (c.compare_heads.ensures ∙ (λ i. key_cmp (kind_key (c.head-lower.ensures.head i) c.in-Some.left.kind ∷ (c.in-Some.left.positive.0 ∷ c.in-Some.left.negative.0 ∷ []) ∷ []) (kind_key (c.head.ensures.head i) c.in-Some-other.right.kind ∷ (c.in-Some-other.right.positive.0 ∷ c.in-Some-other.right.negative.0 ∷ []) ∷ [])))) ∙ (sym c.is_le.ensures ∙ c.if-is_le.false))
