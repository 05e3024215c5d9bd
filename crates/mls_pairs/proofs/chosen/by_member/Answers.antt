use Rattle.std.proofs.Common.{inl, inr, Some}
use Rattle.std.specs.Prelude.{All}
use Rattle.mls_deriv.specs.inner.Tables.{put_in}
use Rattle.mls_pairs.specs.steps.Reasons.{IsHeld, IsReasonFor, LeftReason, RightReason}
use Rattle.mls_pairs.proofs.Choosing.{found_held}
use Rattle.mls_pairs.proofs.chosen.by_member.Goals as goal

pub returns-in-Some : goal.returns-in-Some
returns-in-Some c =
    found_held (RightReason c.args.pair c.args.right.now) (All (IsHeld c.args.table.now)) (IsReasonFor c.args.table.now c.args.pair c.args.left.now c.args.right.now)
    c.in_ok-by_join.field-0 (Some c.in-Some.reason) c.in_ok-by_join.ensures c.in-Some.ensures.same c.in-Some.ensures.held
    (λ reason shows held. record { held = held; shows = inl (inr (shows (put_in c.args.table.now))) })

pub returns : goal.returns
returns c =
    found_held (LeftReason c.args.pair c.args.left.now) (All (IsHeld c.args.table.now)) (IsReasonFor c.args.table.now c.args.pair c.args.left.now c.args.right.now)
    c.in_ok-by_meet.field-0 c.held-2.result c.in_ok-by_meet.ensures c.held-2.ensures.same c.held-2.ensures.held
    (λ reason shows held. record { held = held; shows = inl (inl (shows (put_in c.args.table.now))) })
