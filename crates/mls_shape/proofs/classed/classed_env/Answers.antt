use Rattle.mls_automaton.proofs.KeptSchemes.{entries-rise}
use Rattle.mls_shape.specs.steps.Classes.{class_in}
use Rattle.mls_shape.proofs.classed.classed_env.Goals as goal

pub push-requires : goal.push-requires
push-requires c =
    entries-rise (class_in c.args.classes.now) c.args.env.now c.as_slice-entry-items.result.now c.loop-entry.entry-index (record { binder = 0; state = record { 0 = 0 } }) c.loop-entry.classed
    c.as_slice-entry-items.ensures.rise c.as_slice-entry-items.ensures.entries c.loop-entry-test.true c.loop-entry.invariant
