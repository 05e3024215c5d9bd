use Rattle.std.proofs.Common.{◌≡◌, ◌<◌, ℕ, ◌&&◌, ◌++◌, Bool, false, List, All, length, take, drop, get_or, subst, sym, ◌∙◌, ap, arith}
use Rattle.std.specs.Prelude.{not}
use Rattle.std.proofs.Math.Seq.{take-length}
use Rattle.std.proofs.lemmas.List.{take-append-le}
use Rattle.mls_solver.specs.steps.Among.{is_among}
use Rattle.mls_solver.specs.steps.Cells.{AreCells}
use Rattle.mls_solver.proofs.CellSteps.{cells-below, cells-cleared}
use Rattle.mls_solver.proofs.cells.Cells.clear.Goals as goal

pub unmark-requires : goal.unmark-requires
unmark-requires c =
    subst (λ (marks : List Bool). All (λ x. x < length marks) (take c.self.inside.len c.deref.result.now)) (sym c.as_mut_slice.ensures.value)
    (subst (λ (order : List ℕ). All (λ x. x < length c.self.inside.marks.items) (take c.self.inside.len order)) (sym c.deref.ensures.value)
    (cells-below c.self.inside.marks.items c.self.inside.order.items c.self.inside.len c.self.invariant))

pub invariant_of-self : goal.invariant_of-self
invariant_of-self c =
    let new : List Bool = c.unmark.new.marks in
    let old : List Bool = c.self.inside.marks.items in
    let same : length new ≡ length old = c.unmark.auto.marks ∙ ap length c.as_mut_slice.ensures.value in
    let full : c.self.inside.marks.len ≡ length new = c.self.inside.marks.ok.0 ∙ sym same in
    let written : take c.self.inside.marks.len (new ++ drop (length new) old) ≡ new =
    (λ i. take (full i) (new ++ drop (length new) old)) ∙ (take-append-le (length new) new (drop (length new) old) (omega arith) ∙ take-length new) in
    subst (λ (marks : List Bool). AreCells marks c.self.inside.order.items 0) (sym written)
    (cells-cleared old new c.self.inside.order.items c.self.inside.len c.self.invariant same
    (λ x. c.unmark.ensures x
    ∙ (λ i. get_or (c.as_mut_slice.ensures.value i) x false && not (is_among (take c.self.inside.len (c.deref.ensures.value i)) x))))
