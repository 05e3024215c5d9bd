use Rattle.std.proofs.Common.{List, ℕ, subst}
use Rattle.std.specs.Prelude.{◌↔◌}
use Rattle.mls_layout.specs.LaidOut.{place_of}
use Rattle.mls_layout.specs.Trees.{IsNodeIn, IsPlaceIn}
use Rattle.mls_layout.specs.steps.Planned.{end_of}
use Rattle.mls_layout.proofs.Gathering.{gathered}
use Rattle.mls_layout.proofs.PlannedTrees.{tree_as}
use Rattle.mls_layout.proofs.OwnNodes.{set_low}
use Rattle.mls_layout.proofs.layout.owned.plan_set.Goals as goal

pub plan-requires : goal.plan-requires
plan-requires c =
    let place = place_of c.args.places.now in
    let same : (i : ℕ) → IsNodeIn c.add_nodes.new.ids i ↔ IsPlaceIn place c.as_slice.result.now i =
    gathered (IsPlaceIn place c.as_slice.result.now) c.new-ids.result c.add_nodes.new.ids c.new-ids.ensures c.in_ok-add_nodes.ensures in
    set_low place c.as_slice.result.now c.add_nodes.new.ids (end_of c.args.trees.now) same c.requires

pub returns-clause-tree : goal.returns-clause-tree
returns-clause-tree c =
    let place = place_of c.args.places.now in
    let same : (i : ℕ) → IsNodeIn c.add_nodes.new.ids i ↔ IsPlaceIn place c.args.set.now i =
    subst (λ (set : List ℕ). (i : ℕ) → IsNodeIn c.add_nodes.new.ids i ↔ IsPlaceIn place set i) c.as_slice.ensures.members
    (gathered (IsPlaceIn place c.as_slice.result.now) c.new-ids.result c.add_nodes.new.ids c.new-ids.ensures c.in_ok-add_nodes.ensures) in
    tree_as c.plan.new.self c.args.polarity (IsNodeIn c.add_nodes.new.ids) (IsPlaceIn place c.args.set.now) c.in_ok-root.root.0 c.in_ok-root.ensures.tree same
