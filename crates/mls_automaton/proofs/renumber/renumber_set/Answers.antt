use Rattle.mls_automaton.specs.steps.Numbers.{number_in}
use Rattle.mls_automaton.proofs.Renumbered.{numbers-rise}
use Rattle.mls_automaton.proofs.renumber.renumber_set.Goals as goal

pub push-requires : goal.push-requires
push-requires c =
    numbers-rise (number_in c.args.numbers.now) c.args.set.now c.as_slice-s-items.result.now c.loop-s.s-index c.in_ok-number.number c.loop-s.renamed
    c.requires c.as_slice-s-items.ensures.rises c.as_slice-s-items.ensures.members c.loop-s-test.true c.loop-s.invariant c.in_ok-number.ensures
