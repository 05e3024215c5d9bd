use Rattle.std.proofs.Common.{◌≡◌, take}
use Rattle.mls_layout.specs.LaidOut.{place_of}
use Rattle.mls_layout.specs.steps.Sources.{Gathers}
use Rattle.mls_layout.proofs.Gathering.{BySome}
use Rattle.mls_layout.proofs.layout.states.add_nodes.Given as goal

-- those of the first states
abbrev pub invariant-loop-s : goal.invariant-loop-s
invariant-loop-s l = Gathers (BySome (take l.s-index l.states) (λ s i. place_of l.places s ≡ i)) l.fn.ids l.ids
