use Rattle.std.proofs.Common.{◌≡◌, ◌++◌}
use Rattle.std.specs.Prelude.{map}
use Rattle.mls_layout.specs.steps.Sources.{node_id}
use Rattle.mls_layout.proofs.layout.distinct.nodes_of.Given as goal

-- those so far, and the others
abbrev pub invariant-loop-number : goal.invariant-loop-number
invariant-loop-number l = map node_id l.numbers.keys ≡ l.ids ++ map node_id l.number-iterator
