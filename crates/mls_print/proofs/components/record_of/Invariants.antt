use Rattle.std.proofs.Common.{◌≡◌, ◌∷◌, ℕ, List, take, map, codes}
use Rattle.mls_print.specs.steps.Printing.{Place, text}
use Rattle.mls_print.specs.steps.Tables.{labelled}
use Rattle.mls_print.specs.steps.Items.{items_told}
use Rattle.mls_print.proofs.RowItems.{started}
use Rattle.mls_print.proofs.components.record_of.Given as goal

abbrev pub invariant-loop-i : goal.invariant-loop-i
invariant-loop-i l =
    (sets : ℕ → List ℕ) (around : List Place)
    → items_told sets around l.items.items ≡ text (codes "{") ∷ started around l.polarity (map (labelled sets) (take l.i l.fields))
