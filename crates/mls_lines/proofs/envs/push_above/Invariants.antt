use Rattle.std.proofs.Common.{◌≡◌, ◌++◌, take}
use Rattle.mls_lines.specs.Stepping.{above}
use Rattle.mls_lines.proofs.envs.push_above.Given as goal

-- those so far
abbrev pub invariant-loop-entry : goal.invariant-loop-entry
invariant-loop-entry l = l.left ≡ l.fn.left ++ above l.binder (take l.entry-index l.env)
