use Rattle.std.proofs.Common.{◌≡◌, ◌+◌, [], take}
use Rattle.mls_names.specs.Resolution.{declared_from, declared_count}
use Rattle.mls_names.specs.steps.Walks.{IsReady}
use Rattle.mls_names.proofs.resolver.Resolver.declare_imports.Given as goal

-- the names of the imports so far have their schemes
abbrev pub invariant-loop-names : goal.invariant-loop-names
invariant-loop-names l = record {
  next : l.schemes ≡ 5 + declared_count (take l.names-index l.declared);
  ready : IsReady l.initial.self [] → IsReady l.self (declared_from 5 (take l.names-index l.declared));
}
