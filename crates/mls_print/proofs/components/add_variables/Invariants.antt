use Rattle.std.proofs.Common.{◌≡◌, ◌++◌, ℕ, List, take}
use Rattle.mls_print.specs.steps.Printing.{Place}
use Rattle.mls_print.specs.steps.Items.{components_told, variable_items}
use Rattle.mls_print.proofs.components.add_variables.Given as goal

abbrev pub invariant-loop-s : goal.invariant-loop-s
invariant-loop-s l =
    (sets : ℕ → List ℕ) (around : List Place)
    → components_told sets around l.components.items ≡ components_told sets around l.initial.components.items ++ variable_items (take l.s-index l.variables)
