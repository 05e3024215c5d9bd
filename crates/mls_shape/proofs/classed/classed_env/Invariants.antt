use Rattle.std.proofs.Common.{◌≡◌, map, take}
use Rattle.mls_automaton.specs.steps.Keeping.{renamed_entry}
use Rattle.mls_shape.specs.steps.Classes.{class_in}
use Rattle.mls_shape.proofs.classed.classed_env.Given as goal

-- the entries so far
abbrev pub invariant-loop-entry : goal.invariant-loop-entry
invariant-loop-entry l = l.classed ≡ map (renamed_entry (class_in l.classes)) (take l.entry-index l.entry-items)
