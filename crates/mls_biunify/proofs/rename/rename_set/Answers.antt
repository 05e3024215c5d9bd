use Rattle.mls_automaton.proofs.Renumbered.{numbers-rise}
use Rattle.mls_biunify.specs.steps.Renaming.{number_by}
use Rattle.mls_biunify.proofs.rename.rename_set.Goals as goal

pub push-requires : goal.push-requires
push-requires c =
    numbers-rise (number_by c.args.numbers.now) c.args.set.now c.as_slice-s-items.result.now c.loop-s.s-index c.of-number.result c.loop-s.renamed
    c.requires.order c.as_slice-s-items.ensures.rises c.as_slice-s-items.ensures.members c.loop-s-test.true c.loop-s.invariant c.of-number.ensures
