use Rattle.std.proofs.Common.{◌≡◌, ◌∙◌, ◌++◌, ◌==◌, ◌<◌, ap, sym, rules, length, get_or, List}
use Rattle.std.specs.Global.{Vec}
use Rattle.mls_print.specs.declared.components.Item.{Item as LaidItem}
use Rattle.mls_print.specs.steps.Items.{items_told, push_items}
use Rattle.mls_print.proofs.RowItems.{joined_step}
use Rattle.mls_print.proofs.components.joined.Goals as goal

pub loop-i-preserved : goal.loop-i-preserved
loop-i-preserved c = λ sets around.
    let all : List (Vec LaidItem) = c.args.components.now in
    let one : Vec LaidItem = c.index-components-i.result in
    let low : c.loop-i.i < length all = search rules in
    let read : c.as_slice.result.now ≡ (get_or all c.loop-i.i one).items = c.as_slice.ensures.value ∙ ap (λ (v : Vec LaidItem). v.items) c.index-components-i.is in
    c.in_ok-add_component.ensures sets around
    ∙ ((λ k. c.loop-i.invariant sets around k ++ push_items c.args.polarity (c.loop-i.i == 0) (items_told sets around (read k)))
    ∙ sym (joined_step c.args.polarity (λ (v : Vec LaidItem). items_told sets around v.items) all c.loop-i.i one low))
