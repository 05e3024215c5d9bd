use Rattle.std.proofs.Common.{map}
use Rattle.mls_infer.specs.Joining.{AreRows, part_labels}
use Rattle.mls_term.specs.declared.term.Part.{Part}
use Rattle.mls_parts.specs.Posings.{root_in}
use Rattle.mls_parts.proofs.pose.Posing.rows_of.Given as goal

-- the rows of those so far
abbrev pub invariant-loop-part : goal.invariant-loop-part
invariant-loop-part l = AreRows l.part-index (part_labels l.parts) (map (λ (part : Part). root_in l.self part.child) l.parts) l.rows
