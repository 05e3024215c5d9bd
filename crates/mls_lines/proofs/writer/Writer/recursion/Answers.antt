use Rattle.std.proofs.Common.{◌∙◌, ◌<◌, List, length, refl, sym, ap, subst}
use Rattle.mls_book.specs.declared.book.NodeId.{NodeId}
use Rattle.mls_deriv.specs.declared.derivation.BinderNode.{BinderNode}
use Rattle.mls_deriv.specs.Steps.{IsRising}
use Rattle.mls_layout.specs.LaidOut.{place_of}
use Rattle.mls_lines.specs.Conclusions.{IsWith, IsWithout}
use Rattle.mls_lines.proofs.LowNodes.{offers_low, with_low}
use Rattle.mls_parts.specs.Posings.{root_in}
use Rattle.mls_lines.proofs.PlainForms.{rec_writes}
use Rattle.mls_lines.proofs.writer.Writer.recursion.Goals as goal

pub returns-clause-writes : goal.returns-clause-writes
returns-clause-writes c = λ k parts sound have.
    let w = c.args.self.now in
    let root = c.place-root.result in
    let offers = c.in_ok-offer.ensures sound.rising in
    let longer = subst (λ (d : List BinderNode). IsWith d c.args.x root.0 c.in_ok-inner.inner) c.as_slice.ensures (c.in_ok-inner.ensures (subst IsRising (sym c.as_slice.ensures) offers.rising)) in
    let shorter = subst (λ (d : List BinderNode). IsWithout d c.args.x c.in_ok-env.env) c.as_slice-2.ensures (c.in_ok-env.ensures (subst IsRising (sym c.as_slice-2.ensures) offers.rising)) in
    let place = ap (λ (n : NodeId). n.0) c.place-root.ensures ∙ ap (place_of w.laid.places) c.root.ensures in
    let root_low : root.0 < length w.laid.book = subst (λ n. n < length w.laid.book) (sym place) (sound.places (root_in c.args.view.now.posing.now c.args.body)) in
    let low = with_low (length w.laid.book) c.in_ok-offer.offer c.in_ok-inner.inner c.args.x root.0 longer root_low (offers_low w c.args.view.now.posing.now sound c.args.body root.0 c.in_ok-offer.offer root_low offers) in
    let it = c.in_ok-step.ensures.brings longer.rising sound low root_low in
    rec_writes c.args.view.now.globals.now c.args.view.now.firsts.now c.args.view.now.known.now.lets k c.args.view.now.posing.now parts c.args.node w sound c.adapted.new.self _ c.args.body c.in_ok-inner.inner root c.in_ok-step.step it c.in_ok-own.own refl
    refl c.args.x c.in_ok-offer.offer c.in_ok-env.env place offers longer shorter c.in_ok-own.ensures
