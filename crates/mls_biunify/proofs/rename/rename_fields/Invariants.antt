use Rattle.std.proofs.Common.{◌≡◌, map, take}
use Rattle.mls_automaton.specs.Embeddings.{renamed_field}
use Rattle.mls_biunify.specs.steps.Renaming.{number_by}
use Rattle.mls_biunify.proofs.rename.rename_fields.Given as goal

-- the fields so far
abbrev pub invariant-loop-field : goal.invariant-loop-field
invariant-loop-field l = l.renamed ≡ map (renamed_field (number_by l.numbers)) (take l.field-index l.fields)
