use Rattle.std.proofs.Common.{sym, subst}
use Rattle.mls_automaton.specs.declared.scheme.EnvEntry.{EnvEntry}
use Rattle.mls_scheme.specs.steps.Environments.{AreUnder}
use Rattle.mls_scheme.proofs.MetEnvironments.{raised-rise}
use Rattle.mls_scheme.proofs.environments.raise_all.Goals as goal

pub push-requires : goal.push-requires
push-requires c =
    subst (λ (e : EnvEntry). AreUnder c.loop-entry.raised e.binder) (sym c.in_ok-entry.ensures)
    (raised-rise c.args.up c.args.env.now c.as_slice-entry-items.result.now c.loop-entry.entry-index (record { binder = 0; state = record { 0 = 0 } }) c.loop-entry.raised
    c.as_slice-entry-items.ensures.rise c.as_slice-entry-items.ensures.entries c.loop-entry-test.true c.loop-entry.invariant)
