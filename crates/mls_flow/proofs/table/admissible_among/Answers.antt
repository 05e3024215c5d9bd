use Rattle.std.proofs.Common.{ap, sym, subst, length, All}
use Rattle.mls_flow.specs.Claims.{IsAmong}
use Rattle.mls_flow.specs.Pairs.{Pairs}
use Rattle.mls_flow.proofs.Claimed.{claims-among}
use Rattle.mls_flow.proofs.Tabled.{pairs-so-far, all-pairs, wanted-known, known-exact, known-below}
use Rattle.mls_flow.proofs.table.admissible_among.Goals as goal

pub claims_of-requires-clause-pairs : goal.claims_of-requires-clause-pairs
claims_of-requires-clause-pairs c =
    pairs-so-far c.args.a.now c.args.wanted.now c.requires.states c.in_ok-pairs.pairs.list c.number_each.new.pairs.list (ap (λ (v : Pairs). v.list) c.in_ok-pairs.ensures) c.in_ok-number_each.ensures.extends

pub standing-requires : goal.standing-requires
standing-requires c =
    subst (λ cs. All (IsAmong (length cs)) cs) (sym c.as_slice.ensures.value)
    (claims-among c.args.a.now c.claims_of.new.pairs.list c.in_ok-claims.claims.items c.in_ok-claims.ensures.each c.in_ok-claims.ensures.all)

pub returns-clause-known : goal.returns-clause-known
returns-clause-known c =
    wanted-known c.args.a.now c.args.wanted.now c.requires.states c.in_ok-pairs.pairs.list c.number_each.new.pairs.list (ap (λ (v : Pairs). v.list) c.in_ok-pairs.ensures) c.in_ok-number_each.ensures.extends
    c.claims_of.new.pairs.list c.in_ok-claims.ensures.extends c.in_ok-number_each.field-0 c.in_ok-number_each.ensures.numbers

pub returns-clause-pairs : goal.returns-clause-pairs
returns-clause-pairs c =
    all-pairs c.args.a.now c.args.wanted.now c.requires.states c.in_ok-pairs.pairs.list c.number_each.new.pairs.list (ap (λ (v : Pairs). v.list) c.in_ok-pairs.ensures) c.in_ok-number_each.ensures.extends
    c.claims_of.new.pairs.list c.in_ok-claims.ensures.extends

pub returns-clause-admissible : goal.returns-clause-admissible
returns-clause-admissible c =
    known-exact c.args.a.now c.args.wanted.now c.requires.states c.in_ok-pairs.pairs.list c.number_each.new.pairs.list (ap (λ (v : Pairs). v.list) c.in_ok-pairs.ensures) c.in_ok-number_each.ensures.extends
    c.claims_of.new.pairs.list c.in_ok-claims.ensures.extends c.requires.closed c.requires.deterministic c.in_ok-claims.claims.items c.as_slice.result.now c.as_slice.ensures.value
    c.in_ok-claims.ensures.each c.in_ok-claims.ensures.all c.in_ok-marks.marks.items c.in_ok-marks.ensures.greatest

pub returns-clause-below : goal.returns-clause-below
returns-clause-below c =
    known-below c.args.a.now c.args.wanted.now c.requires.states c.in_ok-pairs.pairs.list c.number_each.new.pairs.list (ap (λ (v : Pairs). v.list) c.in_ok-pairs.ensures) c.in_ok-number_each.ensures.extends
    c.claims_of.new.pairs.list c.in_ok-claims.ensures.extends c.requires.closed c.requires.deterministic c.in_ok-claims.claims.items c.as_slice.result.now c.as_slice.ensures.value
    c.in_ok-claims.ensures.each c.in_ok-claims.ensures.all c.in_ok-marks.marks.items c.in_ok-marks.ensures.greatest
