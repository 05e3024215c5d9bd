use Rattle.std.proofs.Common.{◌≡◌, take, false}
use Rattle.std.specs.List.{list_any}
use Rattle.mls_automaton.specs.Automata.{head_at}
use Rattle.mls_print.proofs.join.has_boolean.Given as goal

abbrev pub invariant-loop-s : goal.invariant-loop-s
invariant-loop-s l = list_any (λ s. (head_at l.automaton s).boolean) (take l.s-index l.set) ≡ false
