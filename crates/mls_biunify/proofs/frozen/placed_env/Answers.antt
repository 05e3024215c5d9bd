use Rattle.std.proofs.Common.{refl}
use Rattle.mls_automaton.proofs.KeptSchemes.{entries-rise}
use Rattle.mls_biunify.specs.steps.Renaming.{place_among}
use Rattle.mls_biunify.proofs.frozen.placed_env.Goals as goal

pub push-requires : goal.push-requires
push-requires c =
    entries-rise (place_among c.args.numbers.now) c.args.env.now c.args.env.now c.loop-entry.entry-index (record { binder = 0; state = record { 0 = 0 } }) c.loop-entry.placed
    c.requires.binders refl c.loop-entry-test.true c.loop-entry.invariant
