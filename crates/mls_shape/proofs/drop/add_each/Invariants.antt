use Rattle.std.proofs.Common.{◌≡◌, ◌↔◌, ◌⊎◌, take, Contains}
use Rattle.mls_automaton.specs.Automata.{flow, HasFlow}
use Rattle.mls_shape.proofs.drop.add_each.Given as goal

abbrev pub invariant-loop-edge : goal.invariant-loop-edge
invariant-loop-edge l =
    ((n p : _) → HasFlow l.automaton n p ↔ HasFlow l.fn.automaton n p ⊎ Contains (take l.edge-index l.flows) (flow n p))
    × (l.automaton.states ≡ l.fn.automaton.states)
