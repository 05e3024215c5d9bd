use Rattle.std.proofs.Common.{◌≡◌, ◌<◌, ◌↔◌, ◌⊎◌}
use Rattle.mls_automaton.specs.Automata.{HasFlow}
use Rattle.mls_scheme.specs.steps.Uses.{IsUsedPair}
use Rattle.mls_scheme.proofs.edges.add_edges.Given as goal

-- the variables so far
abbrev pub invariant-loop-x : goal.invariant-loop-x
invariant-loop-x l =
    ((n p : _) → HasFlow l.automaton n p ↔ HasFlow l.fn.automaton n p ⊎ ((x : _) × (x < l.x) × IsUsedPair l.negative l.positive x n p))
    × (l.automaton.states ≡ l.fn.automaton.states)
