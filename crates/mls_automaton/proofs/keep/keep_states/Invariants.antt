use Rattle.std.proofs.Common.{◌≡◌, [], map, take}
use Rattle.mls_automaton.specs.Automata.{state_at}
use Rattle.mls_automaton.specs.Embeddings.{renamed_state}
use Rattle.mls_automaton.specs.steps.Numbers.{number_in}
use Rattle.mls_automaton.proofs.keep.keep_states.Given as goal

-- the states so far
abbrev pub invariant-loop-s : goal.invariant-loop-s
invariant-loop-s l =
    (l.states.states ≡ map (λ s. renamed_state (number_in l.kept.numbers) (state_at l.a s)) (take l.s-index l.s-items)) × (l.states.flows ≡ [])
