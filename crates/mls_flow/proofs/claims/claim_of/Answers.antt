use Rattle.std.proofs.Common.{◌<◌, ◌∙◌, sym, subst}
use Rattle.mls_flow.proofs.Numbers.{claim-made, needs-extend, record-pair}
use Rattle.mls_flow.proofs.claims.claim_of.Goals as goal

pub numbers_of-requires-2 : goal.numbers_of-requires-2
numbers_of-requires-2 c = λ f there.
    let pair =
    record-pair c.args.a.now c.requires.closed c.requires.deterministic c.args.pair c.requires.pair c.head-lower.result.now c.head-upper.result.now c.head-lower.ensures c.head-upper.ensures
    c.in_ok-functions.functions c.in_ok-records.records c.in_ok-functions.ensures c.in_ok-records.ensures f there in
    subst (λ s. f.negative.0 < s) (sym (c.in_ok-first.ensures.states ∙ c.requires.states)) pair.0.in_range

pub returns-clause-extends : goal.returns-clause-extends
returns-clause-extends c =
    needs-extend c.args.a.now c.requires.closed c.requires.deterministic c.args.pair c.requires.pair c.head-lower.result.now c.head-upper.result.now c.head-lower.ensures c.head-upper.ensures
    c.in_ok-functions.functions c.in_ok-records.records c.in_ok-functions.ensures c.in_ok-records.ensures
    c.args.pairs.now.list c.numbers_of.new.pairs.list c.numbers_of-2.new.pairs.list c.in_ok-first.ensures.extends c.in_ok-second.ensures.extends

pub returns-clause-claim : goal.returns-clause-claim
returns-clause-claim c =
    claim-made c.args.a.now c.requires.closed c.requires.deterministic c.args.pair c.requires.pair c.head-lower.result.now c.head-upper.result.now c.head-lower.ensures c.head-upper.ensures
    c.in_ok-functions.functions c.in_ok-records.records c.in_ok-functions.ensures c.in_ok-records.ensures
    c.args.pairs.now.list c.numbers_of.new.pairs.list c.numbers_of-2.new.pairs.list c.in_ok-first.ensures.extends c.in_ok-second.ensures.extends
    (record { holds = c.holds_at_once-holds.result; first = c.in_ok-first.first; second = c.in_ok-second.second }) c.holds_at_once-holds.ensures
    c.in_ok-first.ensures.numbers c.in_ok-second.ensures.numbers
