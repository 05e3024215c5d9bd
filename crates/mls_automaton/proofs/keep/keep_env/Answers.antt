use Rattle.mls_automaton.specs.steps.Numbers.{number_in}
use Rattle.mls_automaton.proofs.KeptSchemes.{entries-rise}
use Rattle.mls_automaton.proofs.keep.keep_env.Goals as goal

pub push-requires : goal.push-requires
push-requires c =
    entries-rise (number_in c.args.numbers.now) c.args.env.now c.as_slice-entry-items.result.now c.loop-entry.entry-index (record { binder = 0; state = record { 0 = 0 } }) c.loop-entry.kept
    c.as_slice-entry-items.ensures.rise c.as_slice-entry-items.ensures.entries c.loop-entry-test.true c.loop-entry.invariant
