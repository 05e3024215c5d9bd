use Rattle.std.proofs.Common.{take}
use Rattle.mls_parts.specs.steps.Twins.{AddsEdgesTo, IsWider}
use Rattle.mls_parts.proofs.first_type.push_edges.Given as goal

-- the states are there still, and the edges so far are new
abbrev pub invariant-loop-end : goal.invariant-loop-end
invariant-loop-end l = record {
  wider : IsWider l.fn.automaton l.automaton;
  adds : AddsEdgesTo l.fn.automaton l.automaton l.from.0 (take l.end-index l.ends);
}
