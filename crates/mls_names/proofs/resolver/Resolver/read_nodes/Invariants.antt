use Rattle.std.proofs.Common.{drop}
use Rattle.mls_names.specs.Resolution.{Scope}
use Rattle.mls_names.specs.steps.Walks.{IsReady, IsAt, walk}
use Rattle.mls_names.proofs.WholeWalks.{whole}
use Rattle.mls_names.proofs.resolver.Resolver.read_nodes.Given as goal

-- the nodes from this one on are read
abbrev pub invariant-loop-i : goal.invariant-loop-i
invariant-loop-i l = (scope : Scope) → IsReady l.fn.self scope → IsAt scope l.self l.terms l.unknown (walk l.counts (drop l.i l.nodes) (whole scope l.fn.terms))
