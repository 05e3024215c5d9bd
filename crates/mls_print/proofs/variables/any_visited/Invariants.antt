use Rattle.std.proofs.Common.{◌≡◌, get_or, take, None, false}
use Rattle.std.specs.Prelude.{is_some}
use Rattle.std.specs.List.{list_any}
use Rattle.mls_print.proofs.variables.any_visited.Given as goal

abbrev pub invariant-loop-s : goal.invariant-loop-s
invariant-loop-s l = list_any (λ s. is_some (get_or l.order.numbers.items s None)) (take l.s-index l.states) ≡ false
