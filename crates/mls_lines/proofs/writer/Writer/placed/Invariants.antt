use Rattle.std.proofs.Common.{◌≡◌, take, map}
use Rattle.mls_lines.specs.Writer.{own_node}
use Rattle.mls_lines.proofs.JoinedEnvironments.{own_entry}
use Rattle.mls_lines.proofs.writer.Writer.placed.Given as goal

-- the binders so far with their own nodes
abbrev pub invariant-loop-entry : goal.invariant-loop-entry
invariant-loop-entry l = l.placed ≡ map (own_entry (own_node l.self l.view.posing.now)) (take l.entry-index l.env)
