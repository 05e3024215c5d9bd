use Rattle.std.proofs.Common.{◌≡◌, ◌++◌, map, take}
use Rattle.mls_lines.specs.declared.envs.Needed.TheVariants as needed
use Rattle.mls_lines.proofs.envs.push_alone.Given as goal

-- those so far
abbrev pub invariant-loop-entry : goal.invariant-loop-entry
invariant-loop-entry l = l.all ≡ l.fn.all ++ map needed.One (take l.entry-index l.env)
