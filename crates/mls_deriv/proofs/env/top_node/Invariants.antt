use Rattle.std.proofs.Common.{◌≡◌, drop}
use Rattle.mls_deriv.specs.inner.Environments.{higher, top_node}
use Rattle.mls_deriv.proofs.env.top_node.Given as goal

-- the highest node so far, and of what is left
abbrev pub invariant-loop-entry : goal.invariant-loop-entry
invariant-loop-entry l = higher l.top (top_node (drop l.entry-index l.env)) ≡ top_node l.env
