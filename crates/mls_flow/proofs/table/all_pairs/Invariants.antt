use Rattle.std.proofs.Common.{ℕ, ◌<◌, All, Contains}
use Rattle.mls_automaton.specs.declared.automaton.Polarity.TheVariants.{Positive, Negative}
use Rattle.mls_automaton.specs.Automata.{IsState, flow}
use Rattle.mls_flow.specs.Needs.{IsPair}
use Rattle.mls_flow.proofs.table.all_pairs.Given as goal

abbrev pub invariant-loop-n : goal.invariant-loop-n
invariant-loop-n l =
    All (IsPair l.a) l.pairs.items
    × ((n p : ℕ) → n < l.n → IsState l.a Negative n → IsState l.a Positive p → Contains l.pairs.items (flow n p))
