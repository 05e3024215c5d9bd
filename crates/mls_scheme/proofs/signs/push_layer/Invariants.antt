use Rattle.std.proofs.Common.{◌≡◌, ◌++◌, take}
use Rattle.mls_scheme.specs.steps.Signs.{layer_tasks}
use Rattle.mls_scheme.proofs.signs.push_layer.Given as goal

-- the atoms so far
abbrev pub invariant-loop-j : goal.invariant-loop-j
invariant-loop-j l = l.work.items ≡ l.fn.work.items ++ layer_tasks l.book l.sign (take l.j-index l.atoms)
