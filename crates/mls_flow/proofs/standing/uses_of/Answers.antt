use Rattle.std.proofs.Common.{◌≡◌, false, true, subst}
use Rattle.std.proofs.lemmas.List.{get_or_default}
use Rattle.mls_flow.specs.declared.standing.Claim.{Claim}
use Rattle.mls_flow.specs.Claims.{way, no_claim}
use Rattle.mls_flow.specs.steps.Losing.{AddsUses, IsIn}
use Rattle.mls_flow.proofs.Using.{uses-more, uses-all}
use Rattle.mls_flow.proofs.standing.uses_of.Goals as goal

pub loop-i-preserved : goal.loop-i-preserved
loop-i-preserved c =
    let First : Claim → Type 0 = λ claim. AddsUses c.loop-i.uses.items c.add_way.new.uses.items (λ u j. (u ≡ record { claim = c.loop-i.i; is_second = false }) × IsIn (way claim false) j) in
    let Second : Claim → Type 0 = λ claim. AddsUses c.add_way.new.uses.items c.add_way-in-loop-i.new.uses.items (λ u j. (u ≡ record { claim = c.loop-i.i; is_second = true }) × IsIn (way claim true) j) in
    uses-more c.args.claims.now c.loop-i.i c.loop-i-test.true c.loop-i.uses.items c.add_way.new.uses.items c.add_way-in-loop-i.new.uses.items
    c.loop-i.invariant
    (subst First (get_or_default c.args.claims.now c.loop-i.i c.index-claims-i.result no_claim c.loop-i-test.true) c.in_ok-add_way.ensures)
    (subst Second (get_or_default c.args.claims.now c.loop-i.i c.index-claims-i-in-loop-i.result no_claim c.loop-i-test.true) c.in_ok-add_way-2.ensures)

pub returns : goal.returns
returns c = uses-all c.args.claims.now c.loop-i.i c.loop-i.uses.items c.loop-i-test.false c.loop-i.auto.i-end c.loop-i.invariant
