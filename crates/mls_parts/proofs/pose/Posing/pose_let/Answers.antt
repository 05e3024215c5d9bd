use Rattle.std.proofs.Common.{ap, ◌∙◌}
use Rattle.mls_parts.specs.Posings.{number_at}
use Rattle.mls_parts.proofs.Copies.{copy_posed}
use Rattle.mls_parts.proofs.pose.Posing.pose_let.Goals as goal

pub returns : goal.returns
returns c =
    copy_posed c.args.self.now c.push_copy.new.self c.args.node c.insert.new.self c.insert-2.new.self c.args.known.now c.root-root.result _ _
    c.in_ok-first.ensures.copy c.in_ok-insert.ensures.updates (c.root-root.ensures ∙ ap (λ rs. number_at rs c.args.second) c.in_ok-first.ensures.copy.roots)
    c.in_ok-insert-2.ensures.updates c.in_ok-first.ensures.first
