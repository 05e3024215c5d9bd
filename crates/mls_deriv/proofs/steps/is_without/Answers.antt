use Rattle.mls_deriv.proofs.Entries.{without_end}
use Rattle.mls_deriv.proofs.steps.is_without.Goals as goal

pub returns : goal.returns
returns c = without_end _ _ _ _ _ c.loop-entry.invariant.low c.loop-entry-test.false c.loop-entry.invariant.alike
