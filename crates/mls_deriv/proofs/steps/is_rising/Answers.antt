use Rattle.std.proofs.Common.{refl}
use Rattle.mls_deriv.proofs.Entries.{all_less, not_rising}
use Rattle.mls_deriv.proofs.steps.is_rising.Goals as goal

pub returns-then-env-i : goal.returns-then-env-i
returns-then-env-i c = (λ h. absurd (cc), not_rising _ _ _ c.loop-i.auto.i c.loop-i-test.true c.if-env-i.true)

pub returns : goal.returns
returns c = (λ h. all_less _ _ c.loop-i-test.false c.loop-i.invariant, λ h. refl)
