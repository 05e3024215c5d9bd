use Rattle.std.proofs.Common.{◌≡◌, take}
use Rattle.mls_solver.specs.steps.Growth.{BySome, Relates}
use Rattle.mls_solver.proofs.search.add_set.Given as goal

abbrev pub invariant-loop-n : goal.invariant-loop-n
invariant-loop-n l = Relates l.initial.found l.found (BySome (take l.n-index l.negatives) (λ m p n. (p ≡ l.positive) × (n ≡ m)))
