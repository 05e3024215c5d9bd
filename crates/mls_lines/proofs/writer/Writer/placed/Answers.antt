use Rattle.std.proofs.Common.{◌∙◌, List, map, sym, ap, subst}
use Rattle.std.proofs.lemmas.List.{take_all}
use Rattle.mls_deriv.specs.declared.derivation.BinderNode.{BinderNode}
use Rattle.mls_lines.specs.Conclusions.{IsPlaced}
use Rattle.mls_lines.specs.Writer.{own_node}
use Rattle.mls_lines.proofs.JoinedEnvironments.{own_entry, placed_entries}
use Rattle.mls_lines.proofs.writer.Writer.placed.Goals as goal

pub returns : goal.returns
returns c = λ rising.
    let d : List BinderNode = c.args.env.now in
    let node = own_node c.args.self.now c.args.view.now.posing.now in
    subst (IsPlaced node d)
    (sym (c.loop-entry.invariant ∙ ap (λ (es : List BinderNode). map (own_entry node) es) (take_all c.loop-entry.entry-index d c.loop-entry-test.false)))
    (placed_entries node d rising)
