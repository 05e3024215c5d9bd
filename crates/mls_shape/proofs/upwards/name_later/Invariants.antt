use Rattle.std.proofs.Common.{ℕ, ◌<◌}
use Rattle.mls_automaton.specs.Automata.{polarity_at, head_at}
use Rattle.mls_automaton.specs.Models.{HasStatesIn}
use Rattle.mls_shape.specs.steps.Upwards.{StandsBehind}
use Rattle.mls_shape.proofs.upwards.name_later.Given as goal

-- the states so far
abbrev pub invariant-loop-s : goal.invariant-loop-s
invariant-loop-s l = (t : ℕ) → t < l.s → HasStatesIn (λ q c. StandsBehind l.a t c) (polarity_at l.a t) (head_at l.a t)
