use Rattle.std.proofs.Common.{◌≡◌, length}
use Rattle.mls_lines.specs.Puts.{ArePutsFrom, IsNodeOfCopy, IsPutOfEdge}
use Rattle.mls_lines.proofs.puts.let_puts.Given as goal

-- the variables of the edges so far
abbrev pub invariant-loop-number : goal.invariant-loop-number
invariant-loop-number l = record {
  count : length l.puts ≡ l.number;
  each : ArePutsFrom (IsPutOfEdge (IsNodeOfCopy l.places l.posing l.scheme l.first) l.scheme.automaton.flows l.variable) l.variable l.puts;
}
