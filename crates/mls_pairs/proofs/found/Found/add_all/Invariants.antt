use Rattle.std.proofs.Common.{take}
use Rattle.mls_pairs.specs.steps.Growth.{Finds}
use Rattle.mls_pairs.proofs.found.Found.add_all.Given as goal

-- those so far are found
abbrev pub invariant-loop-pair : goal.invariant-loop-pair
invariant-loop-pair l = Finds l.fn.self l.self (take l.pair-index l.pairs)
