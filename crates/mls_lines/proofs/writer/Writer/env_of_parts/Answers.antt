use Rattle.std.proofs.Common.{◌≡◌, ◌∙◌, ◌++◌, ◌<◌, ◌≤◌, ◌∷◌, [], List, take, get_or, length, sym, ap, subst, arith, Some}
use Rattle.std.proofs.lemmas.List.{get_or_default, take_all, take_more}
use Rattle.mls_deriv.specs.declared.derivation.BinderNode.{BinderNode}
use Rattle.mls_deriv.specs.Steps.{IsRising}
use Rattle.mls_book.specs.declared.book.NodeId.{NodeId}
use Rattle.mls_book.specs.Books.{field_at}
use Rattle.mls_term.specs.declared.term.Part.{Part}
use Rattle.mls_lines.specs.Conclusions.{IsJoined}
use Rattle.mls_lines.specs.Writer.{own_node}
use Rattle.mls_lines.specs.PlainRecords.{JoinsParts}
use Rattle.mls_lines.proofs.Growing.{grows_itself, grows_then}
use Rattle.mls_lines.proofs.PlainRecords.{all_joined_rising, field_of_part, joins_more, joins_none, rising_grown}
use Rattle.mls_lines.proofs.writer.Writer.env_of_parts.Goals as goal

pub loop-number-init : goal.loop-number-init
loop-number-init c = record {
  grows = grows_itself c.args.self.now;
  joins = λ fields are rising. joins_none c.args.self.now c.args.view.now.posing.now fields c.args.self.now c.new-env.result c.new-env.ensures;
}

pub loop-number-preserved : goal.loop-number-preserved
loop-number-preserved c =
    let w = c.args.self.now in
    let p = c.args.view.now.posing.now in
    let now = c.loop-number.self in
    let new = c.joined.new.self in
    let part : Part = c.index-parts-number.result in
    let u : NodeId = get_or c.args.fields.now c.loop-number.number (record { 0 = 0 }) in
    let d : List BinderNode = c.loop-number.env in
    let e : List BinderNode = c.in_ok-offered.offered in
    let joined : List BinderNode = c.in_ok-env.env in
    let first : c.as_slice.result.now ≡ d = c.as_slice.ensures in
    let second : c.as_slice-in-loop-number.result.now ≡ e = c.as_slice-in-loop-number.ensures in
    let grows = c.loop-number.invariant.grows in
    record {
      grows = grows_then w now new grows c.in_ok-env.ensures.grows;
      joins = λ fields are rising.
          let before = c.loop-number.invariant.joins fields are rising in
          let long : length c.args.parts.now ≤ length c.args.fields.now = c.requires in
          let low : c.loop-number.number < length c.args.parts.now = c.loop-number-test.true in
          let inside : c.loop-number.number < length c.args.fields.now = omega (arith, long, low) in
          let node_is : u ≡ get_or c.args.fields.now c.loop-number.number u = get_or_default c.args.fields.now c.loop-number.number (record { 0 = 0 }) u inside in
          let at : field_at part.label fields ≡ Some u =
          subst (λ (one : Part). field_at one.label fields ≡ Some u) (sym c.index-parts-number.is) (field_of_part fields c.args.parts.now c.args.fields.now c.loop-number.number part u are c.loop-number-test.true inside ∙ ap (λ (n : NodeId). Some n) (sym node_is)) in
          let offers = c.in_ok-offered.ensures (rising_grown w now grows rising) in
          let env_rising : IsRising d = all_joined_rising (own_node w p) now.laid.book [] d before.offered before.joins tt in
          let it : IsJoined (own_node now p) new.laid.book d e joined =
          subst (λ (l : List BinderNode). IsJoined (own_node now p) new.laid.book l e joined) first
          (subst (λ (l : List BinderNode). IsJoined (own_node now p) new.laid.book c.as_slice.result.now l joined) second
          (c.in_ok-env.ensures.joined (subst IsRising (sym first) env_rising) (subst IsRising (sym second) offers.rising))) in
          subst (λ (parts : List Part). JoinsParts w new p fields parts joined)
          (ap (λ (one : Part). take c.loop-number.number c.args.parts.now ++ one ∷ []) c.index-parts-number.is ∙ sym (take_more c.args.parts.now c.loop-number.number part c.loop-number-test.true))
          (joins_more w p fields now new (take c.loop-number.number c.args.parts.now) part u d e joined grows c.in_ok-env.ensures.grows before at offers it);
    }

pub returns-clause-joins : goal.returns-clause-joins
returns-clause-joins c = λ fields are rising.
    subst (λ (parts : List Part). JoinsParts c.args.self.now c.loop-number.self c.args.view.now.posing.now fields parts c.loop-number.env)
    (take_all c.loop-number.number c.args.parts.now c.loop-number-test.false) (c.loop-number.invariant.joins fields are rising)
