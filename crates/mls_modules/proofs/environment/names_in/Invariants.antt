use Rattle.std.proofs.Common.{◌≡◌, map, take}
use Rattle.mls_modules.proofs.environment.names_in.Given as goal

-- the names so far
abbrev pub invariant-loop-val : goal.invariant-loop-val
invariant-loop-val l = l.names ≡ map (λ v. v.name) (take l.val-index l.vals)
