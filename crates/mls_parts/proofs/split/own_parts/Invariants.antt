use Rattle.std.proofs.Common.{take}
use Rattle.mls_parts.specs.steps.Owners.{Gives, IsPart}
use Rattle.mls_parts.proofs.split.own_parts.Given as goal

-- the parts so far have the root
abbrev pub invariant-loop-part : goal.invariant-loop-part
invariant-loop-part l = Gives (IsPart (take l.part-index l.parts) l.root) l.initial.owners.items l.owners.items
