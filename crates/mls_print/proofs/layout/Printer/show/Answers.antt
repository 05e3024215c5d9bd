use Rattle.std.proofs.Common.{◌≡◌, ◌∙◌, ◌++◌, ◌∷◌, [], ap, refl, reverse, List}
use Rattle.mls_print.specs.declared.components.Item.{Item as LaidItem}
use Rattle.mls_print.specs.declared.components.Item.TheVariants.{Leave}
use Rattle.mls_print.specs.declared.row.Row.{Row}
use Rattle.mls_print.specs.steps.Items.{row_items}
use Rattle.mls_print.proofs.LayoutRounds.{begun_advances}
use Rattle.mls_print.proofs.layout.Printer.show.Goals as goal

pub returns : goal.returns
returns c =
    let table = c.args.table.now in
    let stack : c.push_reversed.new.stack.items ≡ (c.args.self.now.items.items ++ Leave c.args.set ∷ []) ++ reverse c.in_ok-items.items.items =
    c.in_ok-push_reversed.ensures ∙ ap (λ (front : List LaidItem). front ++ reverse c.in_ok-items.items.items) c.in_ok-push-2.ensures.items in
    begun_advances table c.requires.table c.in_ok-items.items.items c.args.self.now _ c.args.polarity c.args.set c.index.result.now c.requires.below c.requires.safe.shown c.requires.new
    (λ sets around. c.in_ok-items.ensures sets around ∙ ap (λ (row : Row). row_items sets around c.args.polarity row) c.index.ensures)
    stack refl c.in_ok-push.ensures.items refl
