use Rattle.std.proofs.Common.{◌≡◌, ◌++◌, [], take, get_or}
use Rattle.std.specs.List.{flat_map}
use Rattle.mls_shape.proofs.edges.add_holders.Given as goal

abbrev pub invariant-loop-q : goal.invariant-loop-q
invariant-loop-q l = l.targets.items ≡ l.initial.targets.items ++ flat_map (λ q. get_or l.holders q []) (take l.q-index l.states)
