use Rattle.std.proofs.Common.{List, map, take}
use Rattle.mls_infer.specs.Doing.{AreTaken, schemes_known}
use Rattle.mls_infer.specs.Finished.{child_of}
use Rattle.mls_infer.specs.Joining.{part_labels}
use Rattle.mls_infer.specs.Pending.{AreRowsOf}
use Rattle.mls_infer.specs.Regions.{TablePart}
use Rattle.mls_infer.proofs.infer.rows_of.Given as goal

abbrev pub invariant-loop-part : goal.invariant-loop-part
invariant-loop-part l =
    (taken : List TablePart)
    × AreTaken (schemes_known l.initial.done.live l.initial.done.nodes.items) (take l.part-index (map child_of l.parts)) l.done.live l.done.nodes.items taken
    × AreRowsOf (take l.part-index (part_labels l.parts)) taken l.rows
