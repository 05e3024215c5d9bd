use Rattle.std.proofs.Common.{◌≡◌, map, take}
use Rattle.mls_biunify.specs.steps.Absorbing.{renamed_pair}
use Rattle.mls_biunify.proofs.absorb.renamed_flows.Given as goal

-- the edges so far
abbrev pub invariant-loop-flow : goal.invariant-loop-flow
invariant-loop-flow l = l.edges.items ≡ map (renamed_pair l.numbers) (take l.flow-index l.flow-items)
