use Rattle.std.proofs.Common.{take}
use Rattle.mls_automaton.specs.Automata.{HasFlow}
use Rattle.mls_biunify.specs.steps.Keeping.{AreShortened}
use Rattle.mls_biunify.proofs.keep.cuts_after.Given as goal

-- what is left of the sets of the states so far
abbrev pub invariant-loop-s : goal.invariant-loop-s
invariant-loop-s l = AreShortened (HasFlow l.table.automaton) l.found (take l.s-index l.kept) l.cuts.items
