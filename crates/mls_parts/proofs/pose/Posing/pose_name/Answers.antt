use Rattle.std.proofs.Common.{◌+◌, ap, ◌∙◌}
use Rattle.mls_parts.proofs.Copies.{copy_posed}
use Rattle.mls_parts.proofs.pose.Posing.pose_name.Goals as goal

pub returns : goal.returns
returns c =
    copy_posed c.args.self.now c.push_copy.new.self c.args.node c.insert.new.self c.insert-2.new.self c.args.known.now c.in_ok-root.root _ _
    c.in_ok-first.ensures.copy c.in_ok-insert.ensures.updates (c.in_ok-root.ensures ∙ ap (λ n. n + c.args.known.now.root.0) c.in_ok-first.ensures.first)
    c.in_ok-insert-2.ensures.updates c.in_ok-first.ensures.first
