use Rattle.std.proofs.Common.{◌∙◌, List, refl, sym, ap, subst, None, get_or, length}
use Rattle.mls_deriv.specs.declared.derivation.BinderNode.{BinderNode}
use Rattle.mls_deriv.specs.Steps.{IsRising}
use Rattle.mls_parts.specs.Posings.{root_in}
use Rattle.mls_lines.specs.Conclusions.{IsWith, IsWithout}
use Rattle.mls_lines.proofs.LowNodes.{arrow_low, offers_low, with_low}
use Rattle.mls_lines.proofs.PlainForms.{fun_writes}
use Rattle.mls_lines.proofs.writer.Writer.plain_fun.Goals as goal

pub returns-clause-writes : goal.returns-clause-writes
returns-clause-writes c = λ k parts sound have.
    let w = c.args.self.now in
    let arrow = c.in_ok-arrow.arrow in
    let offers = c.in_ok-offer.ensures sound.rising in
    let longer = subst (λ (d : List BinderNode). IsWith d c.args.x arrow.from.0 c.in_ok-inner.inner) c.as_slice.ensures (c.in_ok-inner.ensures (subst IsRising (sym c.as_slice.ensures) offers.rising)) in
    let shorter = subst (λ (d : List BinderNode). IsWithout d c.args.x c.in_ok-env.env) c.as_slice-2.ensures (c.in_ok-env.ensures (subst IsRising (sym c.as_slice-2.ensures) offers.rising)) in
    let all = arrow_low w.laid.book sound.closed arrow.node.0 arrow.from arrow.to c.in_ok-arrow.ensures.node in
    let low = with_low (length w.laid.book) c.in_ok-offer.offer c.in_ok-inner.inner c.args.x arrow.from.0 longer all.1 (offers_low w c.args.view.now.posing.now sound c.args.body arrow.to.0 c.in_ok-offer.offer all.2 offers) in
    let it = c.in_ok-step.ensures.brings longer.rising sound low all.2 in
    let there = have.functions (root_in c.args.view.now.posing.now c.args.node) arrow.node (ap (λ s. get_or w.laid.own.functions s None) (sym c.root.ensures) ∙ c.in_ok-arrow.ensures.own) in
    fun_writes c.args.view.now.globals.now c.args.view.now.firsts.now c.args.view.now.known.now.lets k c.args.view.now.posing.now parts c.args.node w sound c.adapted.new.self _ c.args.body c.in_ok-inner.inner arrow.to c.in_ok-step.step it c.in_ok-own.own
    refl refl c.args.x arrow.node arrow.from c.in_ok-offer.offer c.in_ok-env.env there c.in_ok-arrow.ensures.node offers longer shorter c.in_ok-own.ensures
