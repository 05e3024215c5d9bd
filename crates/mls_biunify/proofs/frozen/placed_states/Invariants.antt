use Rattle.std.proofs.Common.{◌≡◌, [], map, take}
use Rattle.mls_automaton.specs.Automata.{state_at}
use Rattle.mls_automaton.specs.Embeddings.{renamed_state}
use Rattle.mls_biunify.specs.steps.Renaming.{place_among}
use Rattle.mls_biunify.proofs.frozen.placed_states.Given as goal

-- the states so far
abbrev pub invariant-loop-s : goal.invariant-loop-s
invariant-loop-s l =
    (l.states.states ≡ map (λ s. renamed_state (place_among l.numbers) (state_at l.table.automaton s)) (take l.s-index l.numbers)) × (l.states.flows ≡ [])
