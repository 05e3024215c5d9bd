use Rattle.std.proofs.Common.{◌≡◌, ◌<◌, ◌↔◌, true, false, length, take, get_or, Contains, subst, sym, ◌∙◌}
use Rattle.std.specs.Prelude.{IsTrue}
use Rattle.std.proofs.lemmas.List.{get_or_default}
use Rattle.mls_solver.specs.steps.Numbers.{Numbers}
use Rattle.mls_solver.proofs.CellSteps.{cells-marked}
use Rattle.mls_solver.proofs.cells.Cells.contains.Goals as goal

pub returns : goal.returns
returns c =
    let low : c.args.x < length c.self.inside.marks.items = subst (λ (v : Numbers). c.args.x < v.limit) (sym c.self.view_is) c.requires in
    let read : c.index.result.now ≡ get_or c.self.inside.marks.items c.args.x false =
    c.index.ensures ∙ get_or_default c.self.inside.marks.items c.args.x c.index.result.now false low in
    subst (λ (v : Numbers). IsTrue c.index.result.now ↔ Contains v.members c.args.x) c.self.view_is
    (subst (λ b. (b ≡ true) ↔ Contains (take c.self.inside.len c.self.inside.order.items) c.args.x) (sym read)
    (cells-marked c.self.inside.marks.items c.self.inside.order.items c.self.inside.len c.self.invariant c.args.x))
