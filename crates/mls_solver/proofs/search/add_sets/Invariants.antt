use Rattle.std.proofs.Common.{◌≡◌, take}
use Rattle.mls_solver.specs.steps.Growth.{BySome, Relates}
use Rattle.mls_solver.proofs.search.add_sets.Given as goal

abbrev pub invariant-loop-p : goal.invariant-loop-p
invariant-loop-p l = Relates l.initial.found l.found (BySome (take l.p-index l.positives) (λ q. BySome l.negatives (λ m p n. (p ≡ q) × (n ≡ m))))
