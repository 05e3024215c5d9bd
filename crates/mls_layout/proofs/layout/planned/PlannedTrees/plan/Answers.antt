use Rattle.mls_layout.specs.Trees.{IsNodeIn}
use Rattle.mls_layout.specs.steps.Planned.{end_of}
use Rattle.mls_layout.proofs.PlannedTrees.{all_members, members_low, tree_made}
use Rattle.mls_layout.proofs.layout.planned.PlannedTrees.plan.Goals as goal

pub root_of-requires : goal.root_of-requires
root_of-requires c =
    members_low c.in_ok-once.once (IsNodeIn c.args.members) (end_of c.args.self.now) c.in_ok-once.ensures
    (all_members c.args.members (end_of c.args.self.now) c.requires)

pub returns-clause-tree : goal.returns-clause-tree
returns-clause-tree c =
    tree_made c.root_of.new.self c.args.polarity c.in_ok-once.once (IsNodeIn c.args.members) c.in_ok-root.root.0 c.in_ok-root.ensures.root c.in_ok-root.ensures.low c.in_ok-once.ensures
