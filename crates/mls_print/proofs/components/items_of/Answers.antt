use Rattle.std.proofs.Common.{◌∙◌, ap}
use Rattle.std.specs.Global.{Vec}
use Rattle.std.proofs.Common.{List}
use Rattle.mls_print.specs.declared.components.Item.{Item as LaidItem}
use Rattle.mls_print.specs.steps.Printing.{component_items}
use Rattle.mls_print.specs.steps.Items.{components_told}
use Rattle.mls_print.proofs.RowItems.{components-joined}
use Rattle.mls_print.proofs.components.items_of.Goals as goal

pub returns : goal.returns
returns c = λ sets around.
    c.in_ok-items.ensures sets around
    ∙ (ap (λ (all : List (Vec LaidItem)). component_items c.args.polarity (components_told sets around all)) c.as_slice.ensures.value
    ∙ (ap (component_items c.args.polarity) (c.in_ok-components.ensures sets around)
    ∙ components-joined sets around c.args.polarity c.args.row.now))
