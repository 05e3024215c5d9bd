use Rattle.std.proofs.Common.{◌≡◌, ℕ, List, take}
use Rattle.mls_print.specs.steps.Printing.{Place}
use Rattle.mls_print.specs.steps.Items.{items_told, components_told}
use Rattle.mls_print.proofs.RowItems.{joined_items}
use Rattle.mls_print.proofs.components.joined.Given as goal

abbrev pub invariant-loop-i : goal.invariant-loop-i
invariant-loop-i l =
    (sets : ℕ → List ℕ) (around : List Place)
    → items_told sets around l.items.items ≡ joined_items l.polarity (components_told sets around (take l.i l.components))
