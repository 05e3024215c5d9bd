use Rattle.std.proofs.Common.{◌≡◌, length}
use Rattle.mls_scheme.specs.steps.Layers.{measure, IsLooking}
use Rattle.mls_scheme.proofs.layer.atoms_of.Given as goal

-- the nodes and the atoms so far
abbrev pub invariant-loop-i : goal.invariant-loop-i
invariant-loop-i l = (l.visits.limit ≡ length l.book) × IsLooking l.book l.top l.visits.members l.found.items l.left.items

abbrev pub decreases-loop-i : goal.decreases-loop-i
decreases-loop-i l = measure l.book l.left.items
