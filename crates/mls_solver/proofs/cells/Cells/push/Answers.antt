use Rattle.std.proofs.Common.{◌≡◌, ◌<◌, ◌+◌, ◌++◌, ◌∷◌, [], false, length, take, get_or, Contains, subst, sym}
use Rattle.std.proofs.Math.ListN.{set}
use Rattle.mls_solver.specs.steps.Numbers.{Numbers}
use Rattle.mls_solver.proofs.CellSteps.{cells-room, cells-more, cells-members, cells-bound, cells-marked, cells-unmarked}
use Rattle.mls_solver.proofs.cells.Cells.push.Goals as goal

pub index_mut-requires-2 : goal.index_mut-requires-2
index_mut-requires-2 c =
    let low : c.args.x < length c.self.inside.marks.items = subst (λ (v : Numbers). c.args.x < v.limit) (sym c.self.view_is) c.requires.in_range in
    let new : get_or c.self.inside.marks.items c.args.x false ≡ false =
    cells-unmarked (get_or c.self.inside.marks.items c.args.x false) (Contains (take c.self.inside.len c.self.inside.order.items) c.args.x)
    (cells-marked c.self.inside.marks.items c.self.inside.order.items c.self.inside.len c.self.invariant c.args.x)
    (λ it. c.requires.new (subst (λ (v : Numbers). Contains v.members c.args.x) c.self.view_is it)) in
    subst (λ n. c.self.inside.len < n) (sym c.self.inside.order.ok.0) (cells-room c.self.inside.marks.items c.self.inside.order.items c.self.inside.len c.self.invariant c.args.x low new)

pub invariant_of-self : goal.invariant_of-self
invariant_of-self c =
    let low : c.args.x < length c.self.inside.marks.items = subst (λ (v : Numbers). c.args.x < v.limit) (sym c.self.view_is) c.requires.in_range in
    let new : get_or c.self.inside.marks.items c.args.x false ≡ false =
    cells-unmarked (get_or c.self.inside.marks.items c.args.x false) (Contains (take c.self.inside.len c.self.inside.order.items) c.args.x)
    (cells-marked c.self.inside.marks.items c.self.inside.order.items c.self.inside.len c.self.invariant c.args.x)
    (λ it. c.requires.new (subst (λ (v : Numbers). Contains v.members c.args.x) c.self.view_is it)) in
    cells-more c.self.inside.marks.items c.self.inside.order.items c.self.inside.len c.self.invariant c.args.x low new

pub returns-clause-members : goal.returns-clause-members
returns-clause-members c =
    let low : c.args.x < length c.self.inside.marks.items = subst (λ (v : Numbers). c.args.x < v.limit) (sym c.self.view_is) c.requires.in_range in
    let new : get_or c.self.inside.marks.items c.args.x false ≡ false =
    cells-unmarked (get_or c.self.inside.marks.items c.args.x false) (Contains (take c.self.inside.len c.self.inside.order.items) c.args.x)
    (cells-marked c.self.inside.marks.items c.self.inside.order.items c.self.inside.len c.self.invariant c.args.x)
    (λ it. c.requires.new (subst (λ (v : Numbers). Contains v.members c.args.x) c.self.view_is it)) in
    subst (λ (v : Numbers). take (c.self.inside.len + 1) (set c.self.inside.order.items c.self.inside.len c.args.x) ≡ v.members ++ c.args.x ∷ []) c.self.view_is (cells-members c.self.inside.marks.items c.self.inside.order.items c.self.inside.len c.self.invariant c.args.x low new)

pub returns-clause-bound : goal.returns-clause-bound
returns-clause-bound c =
    let low : c.args.x < length c.self.inside.marks.items = subst (λ (v : Numbers). c.args.x < v.limit) (sym c.self.view_is) c.requires.in_range in
    let new : get_or c.self.inside.marks.items c.args.x false ≡ false =
    cells-unmarked (get_or c.self.inside.marks.items c.args.x false) (Contains (take c.self.inside.len c.self.inside.order.items) c.args.x)
    (cells-marked c.self.inside.marks.items c.self.inside.order.items c.self.inside.len c.self.invariant c.args.x)
    (λ it. c.requires.new (subst (λ (v : Numbers). Contains v.members c.args.x) c.self.view_is it)) in
    cells-bound c.self.inside.marks.items c.self.inside.order.items c.self.inside.len c.self.invariant c.args.x low new
