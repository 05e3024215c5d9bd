use Rattle.std.proofs.Common.{◌≡◌, ◌∙◌, ◌+◌, ◌<◌, length, suc, arith, List, refl, sym, ap, subst, None, get_or}
use Rattle.mls_deriv.specs.declared.derivation.BinderNode.{BinderNode}
use Rattle.mls_deriv.specs.Steps.{IsRising}
use Rattle.mls_parts.specs.Posings.{root_in}
use Rattle.mls_lines.specs.Conclusions.{IsJoined}
use Rattle.mls_lines.specs.Writer.{HasLowEnv, own_node}
use Rattle.mls_layout.specs.declared.layout.LaidOut.{LaidOut}
use Rattle.mls_lines.proofs.LowNodes.{arrow_low, two_low, up}
use Rattle.mls_lines.proofs.GoingOn.{sound_grown, sound_brought}
use Rattle.mls_lines.proofs.PlainForms.{apply_writes}
use Rattle.mls_lines.proofs.Lengthening.{lengthens_grown, lengthens_kept}
use Rattle.mls_lines.proofs.writer.Writer.plain_apply.Goals as goal

pub returns-clause-writes : goal.returns-clause-writes
returns-clause-writes c = λ k parts sound have posed.
    let w = c.args.self.now in
    let p = c.args.view.now.posing.now in
    let grown = c.joined.new.self in
    let once = c.adapted.new.self in
    let twice = c.adapted-2.new.self in
    let arrow = c.in_ok-arrow.arrow in
    let left = c.in_ok-left.ensures sound.rising in
    let right = c.in_ok-right.ensures sound.rising in
    let grows = c.in_ok-env.ensures.grows in
    let joins = subst (λ (d : List BinderNode). IsJoined (own_node w p) grown.laid.book d c.in_ok-right.right c.in_ok-env.env) c.as_slice.ensures
    (subst (λ (d : List BinderNode). IsJoined (own_node w p) grown.laid.book c.as_slice.result.now d c.in_ok-env.env) c.as_slice-2.ensures
    (c.in_ok-env.ensures.joined (subst IsRising (sym c.as_slice.ensures) left.rising) (subst IsRising (sym c.as_slice-2.ensures) right.rising))) in
    let now = sound_grown w grown grows sound in
    let all = arrow_low w.laid.book sound.closed arrow.node.0 arrow.from arrow.to c.in_ok-arrow.ensures.node in
    let low = two_low w grown p sound grows c.args.function c.args.argument arrow.node.0 arrow.from.0 c.in_ok-left.left c.in_ok-right.right c.in_ok-env.env left right all.0 all.1 joins in
    let it = c.in_ok-first.ensures.brings joins.rising now low (up w grown p sound grows arrow.node.0 all.0) in
    let then_now = sound_brought grown once c.args.function c.in_ok-env.env arrow.node c.in_ok-first.first it now in
    let later = c.in_ok-second.ensures.brings joins.rising then_now (subst (λ (l : LaidOut). HasLowEnv (length l.book) c.in_ok-env.env) (sym it.laid) low)
    (subst (λ (l : LaidOut). arrow.from.0 < length l.book) (sym it.laid) (up w grown p sound grows arrow.from.0 all.1)) in
    let goal_is : c.in_ok-goal.goal ≡ suc (suc (root_in p c.args.node)) =
    let raised : c.in_ok-goal.goal ≡ 2 + c.root.result = c.in_ok-goal.ensures in
    let root : c.root.result ≡ root_in p c.args.node = c.root.ensures in
    omega (arith, raised, root) in
    let there = have.functions (suc (suc (root_in p c.args.node))) arrow.node (ap (λ s. get_or w.laid.own.functions s None) (sym goal_is) ∙ c.in_ok-arrow.ensures.own) in
    apply_writes c.args.view.now.globals.now c.args.view.now.firsts.now c.args.view.now.known.now.lets k p parts c.args.node w sound grown once twice _ grows c.args.function c.args.argument c.in_ok-env.env arrow.node arrow.from arrow.to
    c.in_ok-first.first c.in_ok-second.second it later c.in_ok-own.own refl refl c.in_ok-left.left c.in_ok-right.right posed there c.in_ok-arrow.ensures.node left right joins c.in_ok-own.ensures

pub returns-clause-lengthens : goal.returns-clause-lengthens
returns-clause-lengthens c =
    lengthens_kept c.args.self.now.laid c.joined.new.self.laid c.adapted-2.new.self.laid (lengthens_grown c.args.self.now c.joined.new.self c.in_ok-env.ensures.grows)
    (c.in_ok-second.ensures.laid ∙ c.in_ok-first.ensures.laid)
