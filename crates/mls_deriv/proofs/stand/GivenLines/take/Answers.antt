use Rattle.std.proofs.Common.{sym, subst, Some, None}
use Rattle.mls_deriv.specs.declared.derivation.SectionLine.{SectionLine}
use Rattle.mls_deriv.specs.Texts.{after}
use Rattle.mls_deriv.specs.inner.GivenLines.{IsGiven}
use Rattle.mls_deriv.proofs.GivenSets.{holds_more, puts_more}
use Rattle.mls_deriv.proofs.stand.GivenLines.take.Goals as goal

pub returns-in_ok-insert-in-Let : goal.returns-in_ok-insert-in-Let
returns-in_ok-insert-in-Let c = λ g is.
    let held = c.args.self.now in
    subst (λ (l : SectionLine). IsGiven (after g l) (record { steps = held.steps; lets = c.insert.new.self; puts = None })) (sym c.in-Let.is)
    (record { steps = is.steps; lets = holds_more g.lets held.lets c.insert.new.self c.in-Let.k is.lets c.in_ok-insert-in-Let.ensures.updates; puts = tt })

pub returns-in_ok-insert-in-Put : goal.returns-in_ok-insert-in-Put
returns-in_ok-insert-in-Put c = λ g is.
    let held = c.args.self.now in
    subst (λ (l : SectionLine). IsGiven (after g l) (record { steps = held.steps; lets = held.lets; puts = Some c.insert-in-Some.new.self })) (sym c.in-Put.is)
    (record { steps = is.steps; lets = is.lets; puts = puts_more g.puts held.puts c.in-Some.variables c.insert-in-Some.new.self c.in-Put.x is.puts c.in-Some.is c.in_ok-insert-in-Put.ensures.updates })
