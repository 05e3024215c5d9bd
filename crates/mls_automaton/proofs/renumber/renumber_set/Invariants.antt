use Rattle.std.proofs.Common.{◌≡◌, map, take}
use Rattle.mls_automaton.specs.steps.Numbers.{number_in}
use Rattle.mls_automaton.proofs.renumber.renumber_set.Given as goal

-- the new numbers so far
abbrev pub invariant-loop-s : goal.invariant-loop-s
invariant-loop-s l = l.renamed ≡ map (number_in l.numbers) (take l.s-index l.s-items)
