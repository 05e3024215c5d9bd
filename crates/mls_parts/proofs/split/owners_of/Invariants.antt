use Rattle.mls_parts.specs.steps.Owners.{AreSettled}
use Rattle.mls_parts.proofs.split.owners_of.Given as goal

-- the last nodes have given their parts to their owners
abbrev pub invariant-loop-back : goal.invariant-loop-back
invariant-loop-back l = AreSettled l.nodes l.back l.owners.items
