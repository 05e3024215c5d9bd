use Rattle.std.proofs.Common.{List, sym, subst}
use Rattle.mls_parts.specs.declared.pose.Need.{Need}
use Rattle.mls_parts.specs.MetNeeds.{AreNeeds, HasMet}
use Rattle.mls_parts.proofs.PartPosed.{are_needs, part_posed}
use Rattle.mls_parts.proofs.pose.pose_part.Goals as goal

pub pose_nodes-requires-clause-begun : goal.pose_nodes-requires-clause-begun
pose_nodes-requires-clause-begun c = (c.args.binders.now, c.in_ok-posing.ensures, c.requires.posable)

pub meet_needs-requires-clause-closed : goal.meet_needs-requires-clause-closed
meet_needs-requires-clause-closed c = c.in_ok-pose_nodes.ensures.good.closed

pub meet_needs-requires-clause-needs : goal.meet_needs-requires-clause-needs
meet_needs-requires-clause-needs c =
    subst (λ (needs : List Need). AreNeeds c.pose_nodes.new.self.automaton c.pose_nodes.new.self.binders needs) (sym c.as_slice.ensures)
    (are_needs c.pose_nodes.new.self c.in_ok-pose_nodes.ensures.good)

pub returns : goal.returns
returns c =
    part_posed c.args.nodes.now c.args.known.now.globals c.args.known.now.lets c.args.binders.now c.args.part.now c.in_ok-posing.posing c.pose_nodes.new.self c.meet_needs.new.automaton
    c.in_ok-posing.ensures c.requires.posable c.in_ok-pose_nodes.ensures
    (subst (λ (needs : List Need). HasMet c.pose_nodes.new.self.binders needs c.pose_nodes.new.self.automaton c.meet_needs.new.automaton) c.as_slice.ensures c.in_ok-meet_needs.ensures)
