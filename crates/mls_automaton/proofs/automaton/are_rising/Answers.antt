use Rattle.std.proofs.Common.{refl}
use Rattle.mls_automaton.proofs.RisingLabels.{not_rising, all_less}
use Rattle.mls_automaton.proofs.automaton.are_rising.Goals as goal

pub returns-then-not-lt : goal.returns-then-not-lt
returns-then-not-lt c = (λ h. absurd (cc), not_rising _ _ _ _ c.loop-i.auto.i c.loop-i-test.true c.if-not-lt.ensures)

pub returns : goal.returns
returns c = (λ h. all_less _ _ c.loop-i-test.false c.loop-i.invariant, λ h. refl)
