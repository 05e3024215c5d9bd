use Rattle.mls_infer.specs.Finishing.{scope_of}
use Rattle.mls_infer.proofs.NodeTurns.{StandsAt}
use Rattle.mls_infer.proofs.infer.infer_nodes.Given as goal

abbrev pub invariant-loop-i : goal.invariant-loop-i
invariant-loop-i l = StandsAt (scope_of l.names l.firsts) l.nodes l.i l.done.live l.done.nodes.items
