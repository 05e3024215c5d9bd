use Rattle.std.proofs.Common.{◌≡◌, ◌↔◌, ◌⊎◌, take, Contains}
use Rattle.mls_automaton.specs.Automata.{HasFlow}
use Rattle.mls_scheme.proofs.edges.add_pairs.Given as goal

-- the edges so far
abbrev pub invariant-loop-n : goal.invariant-loop-n
invariant-loop-n l =
    ((n p : _) → HasFlow l.automaton n p ↔ HasFlow l.fn.automaton n p ⊎ (Contains (take l.n-index l.n-items) n × Contains l.positive p))
    × (l.automaton.states ≡ l.fn.automaton.states)
