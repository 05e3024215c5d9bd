use Rattle.std.proofs.Common.{◌≡◌, ◌∙◌, true, false, List, refl, sym, ap, subst}
use Rattle.mls_book.specs.declared.book.NodeId.{NodeId}
use Rattle.mls_deriv.specs.declared.claim.Put.{Put}
use Rattle.mls_deriv.specs.declared.derivation.BinderNode.{BinderNode}
use Rattle.mls_deriv.specs.Steps.{IsRising}
use Rattle.mls_layout.specs.LaidOut.{place_of}
use Rattle.mls_lines.specs.Conclusions.{IsPlaced}
use Rattle.mls_lines.specs.Puts.{ShareVariable}
use Rattle.mls_lines.specs.Writer.{own_node}
use Rattle.mls_lines.proofs.PlainLets.{settled_as_is, settled_put_in}
use Rattle.mls_lines.proofs.PutLists.{not_shared}
use Rattle.mls_lines.proofs.writer.Writer.settled.Goals as goal

pub returns-then-not-share_variables-clause-settles : goal.returns-then-not-share_variables-clause-settles
returns-then-not-share_variables-clause-settles c = λ x follow sound.
    let own : List Put = c.in_ok-inner.inner.puts in
    let puts : List Put = c.args.puts.now in
    settled_as_is c.args.self.now c.plain.new.self c.args.view.now.posing.now c.args.node c.in_ok-inner.inner puts (c.in_ok-inner.ensures.takes sound)
    (not_shared own puts
    (λ shared.
    let are : c.share_variables.result ≡ true = (c.share_variables.ensures x follow).1 (subst (λ (l : List Put). ShareVariable l puts) (sym c.as_slice.ensures) shared) in
    let are_not : c.share_variables.result ≡ false = c.if-not-share_variables.true in
    absurd (cc)))

pub returns-clause-settles : goal.returns-clause-settles
returns-clause-settles c = λ x follow sound.
    let w = c.args.self.now in
    let now = c.plain.new.self in
    let p = c.args.view.now.posing.now in
    let inner = c.in_ok-inner.inner in
    let puts : List Put = c.args.puts.now in
    let it = c.in_ok-inner.ensures.takes sound in
    let shared = subst (λ (l : List Put). ShareVariable l puts) c.as_slice.ensures ((c.share_variables.ensures x follow).0 c.if-not-share_variables.false) in
    let placed = subst (λ (d : List BinderNode). IsPlaced (own_node now p) d c.in_ok-env.env) c.as_slice-2.ensures (c.in_ok-env.ensures (subst IsRising (sym c.as_slice-2.ensures) it.rising)) in
    let place = ap (λ (n : NodeId). n.0) c.place-root.ensures ∙ ap (place_of now.laid.places) c.root.ensures in
    let adapts = c.in_ok-own.ensures placed.rising it.adds.counted it.stands in
    settled_put_in w now _ p c.args.node inner c.in_ok-own.own puts c.in_ok-env.env c.place-root.result sound it shared placed place adapts refl refl
