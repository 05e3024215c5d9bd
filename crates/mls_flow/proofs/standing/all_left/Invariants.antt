use Rattle.std.proofs.Common.{◌≡◌, take, map}
use Rattle.mls_flow.specs.steps.Losing.{all_of}
use Rattle.mls_flow.proofs.standing.all_left.Given as goal

abbrev pub invariant-loop-claim : goal.invariant-loop-claim
invariant-loop-claim l = l.left.items ≡ map all_of (take l.claim-index l.claims)
