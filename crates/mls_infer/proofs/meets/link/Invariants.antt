use Rattle.std.proofs.Common.{◌≡◌, ◌↔◌, ◌⊎◌, ℕ, take, Contains}
use Rattle.mls_automaton.specs.Automata.{HasFlow}
use Rattle.mls_infer.proofs.meets.link.Given as goal

-- the edges so far
abbrev pub invariant-loop-end : goal.invariant-loop-end
invariant-loop-end l =
    ((n p : ℕ) → HasFlow l.live.table n p ↔ HasFlow l.fn.live.table n p ⊎ ((n ≡ l.state.0) × Contains (take l.end-index l.end-items) p))
    × (l.live.table.states ≡ l.fn.live.table.states) × (l.live.there ≡ l.fn.live.there)
