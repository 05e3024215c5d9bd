use Rattle.std.proofs.Common.{◌≡◌, ◌++◌, map, take}
use Rattle.mls_shape.specs.steps.Graphs.{colour}
use Rattle.mls_shape.proofs.graph.colours_of.Given as goal

abbrev pub invariant-loop-edge : goal.invariant-loop-edge
invariant-loop-edge l = l.colours.items ≡ l.classes ++ map (colour l.count) (take l.edge-index l.edges)
