use Rattle.std.proofs.Common.{◌≡◌, ◌+◌, ◌++◌, take}
use Rattle.mls_names.specs.Resolution.{Scope, schemes_from}
use Rattle.mls_names.specs.steps.Walks.{IsReady}
use Rattle.mls_names.proofs.resolver.Resolver.declare_all.Given as goal

-- the names so far have their schemes
abbrev pub invariant-loop-name : goal.invariant-loop-name
invariant-loop-name l = record {
  next : l.schemes ≡ l.first + l.name-index;
  ready : (scope : Scope) → IsReady l.initial.self scope → IsReady l.self (schemes_from l.first (take l.name-index l.names) ++ scope);
}
