use Rattle.std.proofs.Common.{◌≡◌, ◌≤◌, take, length}
use Rattle.std.specs.Prelude.{is_some, filter}
use Rattle.mls_automaton.specs.Automata.{head_at}
use Rattle.mls_print.proofs.record.count_records.Given as goal

abbrev pub invariant-loop-s : goal.invariant-loop-s
invariant-loop-s l = (l.records ≡ length (filter (λ s. is_some (head_at l.automaton s).fields) (take l.s-index l.set))) × (l.records ≤ l.s-index)
