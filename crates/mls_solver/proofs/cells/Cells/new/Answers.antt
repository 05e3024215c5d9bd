use Rattle.std.proofs.Common.{◌≡◌, ◌^◌, ◌≤◌, Bool, List, length, ap, sym, ◌∙◌, subst, arith}
use Rattle.std.proofs.lemmas.List.{length-replicate}
use Rattle.mls_solver.specs.steps.Cells.{AreCells}
use Rattle.mls_solver.proofs.CellSteps.{cells-empty}
use Rattle.mls_solver.proofs.cells.Cells.new.Goals as goal

pub invariant_of-result : goal.invariant_of-result
invariant_of-result c =
    let small : c.args.limit ≤ 2 ^ 32 = omega arith in
    let same : length c.in_ok-order.order.items ≡ c.args.limit = ap length c.in_ok-order.ensures ∙ length-replicate c.args.limit 0 in
    subst (λ (marks : List Bool). AreCells marks c.in_ok-order.order.items 0) (sym c.in_ok-marks.ensures) (cells-empty c.args.limit c.in_ok-order.order.items small same)
