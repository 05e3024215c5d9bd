use Rattle.std.proofs.Common.{◌≡◌, get_or, take, map}
use Rattle.mls_print.proofs.variables.states_of.Given as goal

abbrev pub invariant-loop-k : goal.invariant-loop-k
invariant-loop-k l = l.states.items ≡ map (λ k. get_or l.order k 0) (take l.k-index l.numbers)
