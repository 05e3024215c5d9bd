use Rattle.std.proofs.Common.{◌≡◌, map, take}
use Rattle.mls_biunify.specs.steps.Renaming.{number_by}
use Rattle.mls_biunify.proofs.rename.rename_set.Given as goal

-- the new numbers so far
abbrev pub invariant-loop-s : goal.invariant-loop-s
invariant-loop-s l = l.renamed ≡ map (number_by l.numbers) (take l.s-index l.s-items)
