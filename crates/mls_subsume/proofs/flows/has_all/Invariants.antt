use Rattle.std.proofs.Common.{All, Contains, take}
use Rattle.mls_subsume.proofs.flows.has_all.Given as goal

abbrev pub invariant-loop-f : goal.invariant-loop-f
invariant-loop-f l = All (Contains l.table.flows) (take l.f-index l.flows)
