use Rattle.std.proofs.Common.{◌≡◌, get_or, take, None}
use Rattle.std.specs.List.{filter_map}
use Rattle.mls_print.proofs.variables.numbers_of.Given as goal

abbrev pub invariant-loop-s : goal.invariant-loop-s
invariant-loop-s l = l.found.items ≡ filter_map (λ s. get_or l.numbers s None) (take l.s-index l.states)
