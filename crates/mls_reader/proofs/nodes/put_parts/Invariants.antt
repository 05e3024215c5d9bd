use Rattle.std.proofs.Common.{◌≡◌, ◌++◌, reverse}
use Rattle.mls_reader.specs.steps.Arranging.{parts}
use Rattle.mls_reader.proofs.nodes.put_parts.Given as goal

abbrev pub invariant-loop : goal.invariant-loop
invariant-loop l = reverse l.later.items ≡ parts l.counter ++ reverse l.initial.later.items
