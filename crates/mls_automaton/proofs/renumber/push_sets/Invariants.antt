use Rattle.std.proofs.Common.{◌≡◌, ◌++◌, map, take}
use Rattle.mls_automaton.specs.steps.Numbers.{number_in}
use Rattle.mls_automaton.proofs.renumber.push_sets.Given as goal

-- those so far stand behind the old ones
abbrev pub invariant-loop-set : goal.invariant-loop-set
invariant-loop-set l = l.into.items ≡ l.fn.into.items ++ map (map (number_in l.numbers)) (take l.set-index l.sets)
