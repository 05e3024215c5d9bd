use Rattle.std.proofs.Common.{◌≡◌, map, take}
use Rattle.mls_automaton.specs.steps.Keeping.{renamed_entry}
use Rattle.mls_biunify.specs.steps.Renaming.{place_among}
use Rattle.mls_biunify.proofs.frozen.placed_env.Given as goal

-- the entries so far
abbrev pub invariant-loop-entry : goal.invariant-loop-entry
invariant-loop-entry l = l.placed ≡ map (renamed_entry (place_among l.numbers)) (take l.entry-index l.env)
