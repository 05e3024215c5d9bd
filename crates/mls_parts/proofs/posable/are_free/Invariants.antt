use Rattle.std.proofs.Common.{ℕ, ◌<◌}
use Rattle.mls_automaton.specs.Automata.{head_at, polarity_at}
use Rattle.mls_automaton.specs.Models.{HasStatesIn}
use Rattle.mls_layout.specs.steps.Posable.{IsFree}
use Rattle.mls_parts.proofs.posable.are_free.Given as goal

-- the heads so far name none of them
abbrev pub invariant-loop-s : goal.invariant-loop-s
invariant-loop-s l = (k : ℕ) → k < l.s → HasStatesIn (λ q. IsFree l.states) (polarity_at l.automaton k) (head_at l.automaton k)
