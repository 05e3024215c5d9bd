use Rattle.std.proofs.Common.{◌≡◌, ℕ, ◌&&◌, false, get_or, take}
use Rattle.std.specs.Prelude.{not}
use Rattle.mls_solver.specs.steps.Among.{is_among}
use Rattle.mls_solver.proofs.cells.unmark.Given as goal

abbrev pub invariant-loop-x : goal.invariant-loop-x
invariant-loop-x l = (q : ℕ) → get_or l.marks q false ≡ (get_or l.initial.marks q false && not (is_among (take l.x-index l.members) q))
