use Rattle.std.proofs.Common.{◌≡◌, ◌+◌, length}
use Rattle.mls_automaton.specs.Models.{IsClosed}
use Rattle.mls_scheme.specs.Merged.{IsMerged}
use Rattle.mls_scheme.specs.steps.Meeting.{first_of, second_of, HasSameFront}
use Rattle.mls_scheme.proofs.absorb.add_states.Given as goal

-- the states so far
abbrev pub invariant-loop-pair : goal.invariant-loop-pair
invariant-loop-pair l =
    IsMerged (first_of (length l.fn.automaton.states) l.shared) (second_of (length l.fn.automaton.states) l.shared) l.fn.automaton l.automaton
    × IsClosed l.automaton
    × (length l.automaton.states ≡ length l.fn.automaton.states + l.pair-index)
    × HasSameFront (length l.fn.automaton.states) l.fn.automaton l.automaton
