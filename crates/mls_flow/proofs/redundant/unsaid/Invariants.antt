use Rattle.std.proofs.Common.{take}
use Rattle.mls_flow.specs.Claims.{kept_at}
use Rattle.mls_flow.specs.Needs.{AreKeptOf, IsSaid}
use Rattle.mls_flow.proofs.redundant.unsaid.Given as goal

abbrev pub invariant-loop-edge : goal.invariant-loop-edge
invariant-loop-edge l =
    AreKeptOf (IsSaid l.a l.pairs.list l.claims (kept_at l.marks)) (take l.edge-index l.edge-items) l.kept.items
