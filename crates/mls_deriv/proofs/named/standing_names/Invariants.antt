use Rattle.std.proofs.Common.{◌++◌}
use Rattle.mls_deriv.specs.inner.Names.{DoStand}
use Rattle.mls_deriv.proofs.named.standing_names.Given as goal

-- the names so far stand in the book
abbrev pub invariant-loop-line : goal.invariant-loop-line
invariant-loop-line l = DoStand l.section.nodes (l.declared ++ l.earlier) l.names
