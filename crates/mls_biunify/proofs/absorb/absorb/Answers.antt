use Rattle.std.proofs.Common.{◌∙◌, sym, subst}
use Rattle.mls_automaton.specs.Sets.{Rises}
use Rattle.mls_biunify.specs.steps.Absorbing.{AddsCopy, AreEmpty, AreLoose, AreUnfilled, Claims, Fills}
use Rattle.mls_biunify.proofs.Claiming.{added-copy, claimed-loose, claims-sorted, distinct-rise, released, unfilled-claims}
use Rattle.mls_biunify.proofs.absorb.absorb.Goals as goal

pub fill-requires-clause-rises : goal.fill-requires-clause-rises
fill-requires-clause-rises c =
    subst Rises (sym c.as_slice.ensures.value)
    (distinct-rise c.in_ok-claimed.claimed.items c.in_order-numbers.result.items c.in_ok-claimed.ensures.distinct c.in_order-numbers.ensures.permutation c.in_order-numbers.ensures.sorted)

pub fill-requires-clause-loose : goal.fill-requires-clause-loose
fill-requires-clause-loose c =
    subst (AreLoose c.claim_all.new.table) (sym c.as_slice.ensures.value)
    (claimed-loose c.args.table.now c.claim_all.new.table c.in_order-numbers.result.items c.limit-limit.ensures.is
    (claims-sorted c.args.table.now c.claim_all.new.table c.in_ok-claimed.claimed.items c.in_order-numbers.result.items c.in_order-numbers.ensures.permutation c.in_ok-claimed.ensures.ok))

pub fill-requires-clause-empty : goal.fill-requires-clause-empty
fill-requires-clause-empty c =
    subst (AreEmpty c.claim_all.new.table) (sym c.as_slice.ensures.value)
    (claims-sorted c.args.table.now c.claim_all.new.table c.in_ok-claimed.claimed.items c.in_order-numbers.result.items c.in_order-numbers.ensures.permutation c.in_ok-claimed.ensures.ok).empty

pub remove_all-requires : goal.remove_all-requires
remove_all-requires c =
    let sorted : Claims c.args.table.now c.claim_all.new.table c.in_order-numbers.result.items =
    claims-sorted c.args.table.now c.claim_all.new.table c.in_ok-claimed.claimed.items c.in_order-numbers.result.items c.in_order-numbers.ensures.permutation c.in_ok-claimed.ensures.ok in
    claimed-loose c.args.table.now c.fill.new.table c.in_order-numbers.result.items c.limit-limit.ensures.is
    (unfilled-claims c.args.table.now c.claim_all.new.table c.fill.new.table c.in_order-numbers.result.items sorted
    (subst (AreUnfilled c.claim_all.new.table c.fill.new.table) c.as_slice.ensures.value c.in-Err.ensures.err))

pub returns-in-Err-clause-err : goal.returns-in-Err-clause-err
returns-in-Err-clause-err c =
    let sorted : Claims c.args.table.now c.claim_all.new.table c.in_order-numbers.result.items =
    claims-sorted c.args.table.now c.claim_all.new.table c.in_ok-claimed.claimed.items c.in_order-numbers.result.items c.in_order-numbers.ensures.permutation c.in_ok-claimed.ensures.ok in
    released c.args.table.now c.fill.new.table c.remove_all.new.table c.in_order-numbers.result.items c.limit-limit.ensures.is c.remove_all.ensures.is
    (unfilled-claims c.args.table.now c.claim_all.new.table c.fill.new.table c.in_order-numbers.result.items sorted
    (subst (AreUnfilled c.claim_all.new.table c.fill.new.table) c.as_slice.ensures.value c.in-Err.ensures.err))
    c.remove_all.ensures.removes

pub returns-in-Ok-clause-ok : goal.returns-in-Ok-clause-ok
returns-in-Ok-clause-ok c =
    let sorted : Claims c.args.table.now c.claim_all.new.table c.in_order-numbers.result.items =
    claims-sorted c.args.table.now c.claim_all.new.table c.in_ok-claimed.claimed.items c.in_order-numbers.result.items c.in_order-numbers.ensures.permutation c.in_ok-claimed.ensures.ok in
    subst (AddsCopy c.args.table.now c.fill.new.table c.args.a.now) (sym (c.in-Ok.ensures.set ∙ c.as_slice.ensures.value))
    (added-copy c.args.table.now c.claim_all.new.table c.fill.new.table c.args.a.now c.in_order-numbers.result.items sorted
    (subst (Fills c.claim_all.new.table c.fill.new.table c.args.a.now) c.as_slice.ensures.value c.in-Ok.ensures.ok))
