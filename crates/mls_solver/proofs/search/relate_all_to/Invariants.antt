use Rattle.std.proofs.Common.{◌≡◌, take}
use Rattle.mls_solver.specs.steps.Growth.{BySome, Relates}
use Rattle.mls_solver.proofs.search.relate_all_to.Given as goal

abbrev pub invariant-loop-p : goal.invariant-loop-p
invariant-loop-p l = Relates l.initial.found l.found (BySome (take l.p-index l.positives) (λ m p n. (p ≡ m) × (n ≡ l.negative)))
