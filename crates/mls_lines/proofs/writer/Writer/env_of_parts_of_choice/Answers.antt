use Rattle.std.proofs.Common.{List, sym, subst}
use Rattle.mls_book.specs.declared.book.Node.{Node}
use Rattle.mls_layout.specs.declared.layout.Places.{Places}
use Rattle.mls_layout.specs.LaidOut.{place_of}
use Rattle.mls_parts.specs.Posings.{binder_in}
use Rattle.mls_deriv.specs.declared.derivation.BinderNode.{BinderNode}
use Rattle.mls_deriv.specs.Steps.{IsRising}
use Rattle.mls_lines.specs.Conclusions.{IsJoined}
use Rattle.mls_lines.specs.Writer.{own_node}
use Rattle.mls_lines.proofs.GoingOn.{joined_stays}
use Rattle.mls_lines.proofs.Growing.{grows_then}
use Rattle.mls_lines.proofs.writer.Writer.env_of_parts_of_choice.Goals as goal

pub returns-clause-grows : goal.returns-clause-grows
returns-clause-grows c = grows_then c.args.self.now c.joined.new.self c.joined-2.new.self c.in_ok-upper.ensures.grows c.in_ok-env.ensures.grows

pub returns-clause-joins : goal.returns-clause-joins
returns-clause-joins c = λ rising.
    let w = c.args.self.now in
    let p = c.args.view.now.posing.now in
    let once = c.joined.new.self in
    let new = c.joined-2.new.self in
    let left = c.in_ok-left.ensures rising in
    let middle = c.in_ok-middle.ensures rising in
    let right = c.in_ok-right.ensures rising in
    let first = subst (λ (d : List BinderNode). IsJoined (own_node w p) once.laid.book d c.in_ok-middle.middle c.in_ok-upper.upper) c.as_slice.ensures
    (subst (λ (d : List BinderNode). IsJoined (own_node w p) once.laid.book c.as_slice.result.now d c.in_ok-upper.upper) c.as_slice-2.ensures
    (c.in_ok-upper.ensures.joined (subst IsRising (sym c.as_slice.ensures) left.rising) (subst IsRising (sym c.as_slice-2.ensures) middle.rising))) in
    let second = subst (λ (d : List BinderNode). IsJoined (own_node once p) new.laid.book d c.in_ok-right.right c.in_ok-env.env) c.as_slice-3.ensures
    (subst (λ (d : List BinderNode). IsJoined (own_node once p) new.laid.book c.as_slice-3.result.now d c.in_ok-env.env) c.as_slice-4.ensures
    (c.in_ok-env.ensures.joined (subst IsRising (sym c.as_slice-3.ensures) first.rising) (subst IsRising (sym c.as_slice-4.ensures) right.rising))) in
    let grows = c.in_ok-env.ensures.grows in
    record {
      left = c.in_ok-left.left;
      middle = c.in_ok-middle.middle;
      right = c.in_ok-right.right;
      upper = c.in_ok-upper.upper;
      offers_left = left;
      offers_middle = middle;
      offers_right = right;
      joins_upper =
          subst (λ (book : List Node). IsJoined (own_node w p) book c.in_ok-left.left c.in_ok-middle.middle c.in_ok-upper.upper) (sym grows.book)
          (joined_stays (own_node w p) once.laid.book grows.more c.in_ok-left.left c.in_ok-middle.middle c.in_ok-upper.upper first);
      joins =
          subst (λ (places : Places). IsJoined (λ x. place_of places (binder_in p x)) new.laid.book c.in_ok-upper.upper c.in_ok-right.right c.in_ok-env.env)
          c.in_ok-upper.ensures.grows.places second;
    }
