use Rattle.std.proofs.Common.{◌≡◌, ◌<◌, Some, get_or, rules, subst}
use Rattle.std.specs.BTreeMap.{get}
use Rattle.std.specs.Ordering.{nat_cmp}
use Rattle.mls_layout.specs.steps.Planned.{IsRoot, Planned, end_of}
use Rattle.mls_layout.proofs.PlannedTrees.{known_is}
use Rattle.mls_layout.proofs.layout.planned.PlannedTrees.known_root.Goals as goal

pub returns-then-is_tree_of : goal.returns-then-is_tree_of
returns-then-is_tree_of c =
    let found : get nat_cmp c.self.inside.known c.args.sum ≡ Some c.in-Some.field-0.now = search rules in
    let there : get_or c.self.inside.trees c.in-Some.field-0.now.0 c.in-Some-get.tree.now ≡ c.in-Some-get.tree.now = search rules in
    subst (λ (plan : Planned). IsRoot plan c.args.polarity c.args.members.now c.in-Some.field-0.now.1.0 × (c.in-Some.field-0.now.1.0 < end_of plan)) c.self.view_is
    (known_is (record { start = c.self.inside.start; trees = c.self.inside.trees }) c.self.inside.end c.in-Some.field-0.now c.args.polarity c.args.members.now c.in-Some-get.tree.now
    c.self.invariant.0.counted (c.self.invariant.1 c.args.sum c.in-Some.field-0.now found) there (c.is_tree_of.ensures c.if-is_tree_of.true))
