use Rattle.std.proofs.Common.{◌≡◌, map, take}
use Rattle.mls_automaton.specs.Embeddings.{renamed_field}
use Rattle.mls_automaton.specs.steps.Numbers.{number_in}
use Rattle.mls_automaton.proofs.renumber.renumber_field_sets.Given as goal

-- the fields so far
abbrev pub invariant-loop-field : goal.invariant-loop-field
invariant-loop-field l = l.renamed ≡ map (renamed_field (number_in l.numbers)) (take l.field-index l.fields)
