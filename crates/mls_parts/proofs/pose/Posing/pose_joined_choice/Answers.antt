use Rattle.std.proofs.Common.{refl}
use Rattle.mls_parts.proofs.Posings.{joined_choice}
use Rattle.mls_parts.proofs.pose.Posing.pose_joined_choice.Goals as goal

pub returns : goal.returns
returns c =
    joined_choice c.args.self.now c.push_choice_goals.new.self _ c.args.node c.args.condition c.args.first c.args.second c.in_ok-bit.bit.0 c.args.root c.args.into c.state.new.self c.bool_head.result
    c.in_ok-bit.ensures.ok c.bool_head.ensures c.in_ok-bit.ensures.number c.in_ok-push_choice_goals.ensures
    refl refl refl c.in_ok-insert.ensures.updates refl refl c.in_ok-insert-2.ensures.updates
