use Rattle.std.proofs.Common.{◌≡◌, length, reverse, []}
use Rattle.mls_typetext.specs.steps.Measuring.{measure_all, state_of}
use Rattle.mls_typetext.proofs.measure.measure.Given as goal

-- the pieces that are left make of what was measured what all make of nothing
abbrev pub invariant-loop-item : goal.invariant-loop-item
invariant-loop-item l =
    measure_all (record { names = []; sizes = []; totals = []; pieces = [] }) (reverse l.fn.items.items) ≡ measure_all (state_of l.measuring) (reverse l.left.items)

abbrev pub decreases-loop-item : goal.decreases-loop-item
decreases-loop-item l = length l.left.items
