use Rattle.std.proofs.Common.{◌≡◌, take, false}
use Rattle.std.specs.Prelude.{is_some}
use Rattle.std.specs.List.{list_any}
use Rattle.mls_automaton.specs.Automata.{head_at}
use Rattle.mls_print.proofs.join.has_function.Given as goal

abbrev pub invariant-loop-s : goal.invariant-loop-s
invariant-loop-s l = list_any (λ s. is_some (head_at l.automaton s).function) (take l.s-index l.set) ≡ false
