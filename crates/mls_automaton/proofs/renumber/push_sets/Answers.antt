use Rattle.mls_automaton.specs.steps.Numbers.{KeepsOrder, number_in}
use Rattle.mls_automaton.proofs.Renumbered.{at-item}
use Rattle.mls_automaton.proofs.renumber.push_sets.Goals as goal

pub renumber_set-requires : goal.renumber_set-requires
renumber_set-requires c =
    at-item (KeepsOrder (number_in c.args.numbers.now)) c.args.sets.now c.set-item.result c.loop-set.set-index c.requires c.set-item.is c.loop-set-test.true
