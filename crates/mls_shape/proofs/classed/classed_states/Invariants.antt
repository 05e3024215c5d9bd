use Rattle.std.proofs.Common.{◌≡◌, [], map, take}
use Rattle.mls_automaton.specs.Automata.{state_at}
use Rattle.mls_shape.specs.steps.Classes.{class_in}
use Rattle.mls_shape.specs.steps.Classed.{classed_state}
use Rattle.mls_shape.proofs.classed.classed_states.Given as goal

-- the states so far
abbrev pub invariant-loop-s : goal.invariant-loop-s
invariant-loop-s l = (l.d.states ≡ map (λ s. classed_state (class_in l.classes.numbers.items) (state_at l.a s)) (take l.s-index l.s-items)) × (l.d.flows ≡ [])
