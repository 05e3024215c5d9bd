use Rattle.std.proofs.Common.{◌≡◌, ◌+◌, take, map}
use Rattle.mls_layout.specs.LaidOut.{node_of}
use Rattle.mls_lines.proofs.puts.copies.Given as goal

-- the nodes of the copies so far
abbrev pub invariant-loop-state : goal.invariant-loop-state
invariant-loop-state l = l.ids ≡ map (λ s. node_of l.places (l.first + s)) (take l.state-index l.states)
