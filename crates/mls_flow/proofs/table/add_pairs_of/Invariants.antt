use Rattle.std.proofs.Common.{ℕ, ◌<◌, All, Contains}
use Rattle.mls_automaton.specs.declared.automaton.Polarity.TheVariants.{Positive}
use Rattle.mls_automaton.specs.Automata.{IsState, flow}
use Rattle.mls_flow.specs.Needs.{IsPair}
use Rattle.mls_flow.proofs.table.add_pairs_of.Given as goal

abbrev pub invariant-loop-p : goal.invariant-loop-p
invariant-loop-p l =
    All (IsPair l.a) l.pairs.items
    × All (Contains l.pairs.items) l.fn.pairs.items
    × ((p : ℕ) → p < l.p → IsState l.a Positive p → Contains l.pairs.items (flow l.negative p))
