use Rattle.std.proofs.Common.{◌≡◌, ◌++◌, map, take}
use Rattle.mls_modules.proofs.environment.add_declared.Given as goal

-- the schemes so far were added
abbrev pub invariant-loop-val : goal.invariant-loop-val
invariant-loop-val l = l.names.schemes ≡ l.initial.names.schemes ++ map (λ v. v.scheme) (take l.val-index l.vals)
