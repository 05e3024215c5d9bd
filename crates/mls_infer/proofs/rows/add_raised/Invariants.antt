use Rattle.std.proofs.Common.{◌≡◌, ◌++◌, take}
use Rattle.mls_infer.specs.Joining.{raised_entries}
use Rattle.mls_infer.proofs.rows.add_raised.Given as goal

abbrev pub invariant-loop-entry : goal.invariant-loop-entry
invariant-loop-entry l = l.env ≡ l.initial.env ++ raised_entries l.up (take l.entry-index l.entries)
