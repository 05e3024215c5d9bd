use Rattle.std.proofs.Common.{◌≡◌, ◌++◌, take}
use Rattle.std.specs.List.{flat_map}
use Rattle.mls_typenodes.specs.ReadPlaces.{flow_ends}
use Rattle.mls_typenodes.proofs.read_places.push_ends.Given as goal

-- the edges so far
abbrev pub invariant-loop-flow : goal.invariant-loop-flow
invariant-loop-flow l = l.into ≡ l.fn.into ++ flat_map flow_ends (take l.flow-index l.flows)
