use Rattle.std.proofs.Common.{◌≡◌, map, take}
use Rattle.mls_biunify.specs.Live.{number_of}
use Rattle.mls_infer.specs.Constraints.{renamed_entry}
use Rattle.mls_infer.proofs.pending.renumbered.Given as goal

abbrev pub invariant-loop-entry : goal.invariant-loop-entry
invariant-loop-entry l = l.entries ≡ map (renamed_entry (number_of l.numbers)) (take l.entry-index l.env)
