use Rattle.std.proofs.Common.{◌≡◌, ◌++◌, ◌∷◌}
use Rattle.std.specs.List.{flat_map}
use Rattle.mls_typenodes.specs.ReadPlaces.{flow_ends, names_below}
use Rattle.mls_typenodes.proofs.read_places.states_in_use.Given as goal

-- those of the states so far
abbrev pub invariant-loop-s : goal.invariant-loop-s
invariant-loop-s l =
    l.states ≡ (l.scheme.root.0 ∷ flat_map flow_ends l.scheme.automaton.flows) ++ names_below l.scheme.automaton l.s
