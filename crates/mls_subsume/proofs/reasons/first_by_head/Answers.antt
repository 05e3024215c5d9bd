use Rattle.std.proofs.Common.{◌≡◌, ◌<◌, ◌≤◌, ◌∙◌, sym, ap, subst, arith, length, Some}
use Rattle.mls_subsume.specs.Failures.{IsFirstFailure, IsFirstReason}
use Rattle.mls_subsume.specs.Searches.{IsFirstByHead}
use Rattle.mls_subsume.proofs.Exploring.{general-there, special-there}
use Rattle.mls_subsume.proofs.FirstFailures.{first-at, head-found, no-head}
use Rattle.mls_subsume.proofs.reasons.first_by_head.Goals as goal

pub polarity-polarity-requires : goal.polarity-polarity-requires
polarity-polarity-requires c =
    let low : c.loop-number.number < c.len-number-end.result = c.loop-number-test.true in
    let size : c.len-number-end.result ≡ length c.args.queue.now.met = c.len-number-end.ensures in
    general-there c.args.general.now c.args.special.now c.requires.general c.requires.special c.args.queue.now.met c.requires.search c.loop-number.number (omega arith) c.pair-pair.result.general.0 c.pair-pair.ensures.general

pub head-first-requires : goal.head-first-requires
head-first-requires c =
    let low : c.loop-number.number < c.len-number-end.result = c.loop-number-test.true in
    let size : c.len-number-end.result ≡ length c.args.queue.now.met = c.len-number-end.ensures in
    general-there c.args.general.now c.args.special.now c.requires.general c.requires.special c.args.queue.now.met c.requires.search c.loop-number.number (omega arith) c.pair-pair.result.general.0 c.pair-pair.ensures.general

pub head-second-requires : goal.head-second-requires
head-second-requires c =
    let low : c.loop-number.number < c.len-number-end.result = c.loop-number-test.true in
    let size : c.len-number-end.result ≡ length c.args.queue.now.met = c.len-number-end.ensures in
    special-there c.args.general.now c.args.special.now c.requires.general c.requires.special c.args.queue.now.met c.requires.search c.loop-number.number (omega arith) c.pair-pair.result.special.0 c.pair-pair.ensures.special

pub returns-in-Some : goal.returns-in-Some
returns-in-Some c =
    let low : c.loop-number.number < c.len-number-end.result = c.loop-number-test.true in
    let size : c.len-number-end.result ≡ length c.args.queue.now.met = c.len-number-end.ensures in
    subst (λ steps. IsFirstFailure c.args.general.now c.args.special.now (record { steps = steps; reason = c.in-Some.reason })) (sym c.in_ok-steps.ensures)
    (head-found c.args.general.now c.args.special.now c.args.queue.now.met c.requires.search c.requires.rising c.loop-number.number c.in-Some.reason (omega arith) c.loop-number.invariant
    (first-at c.args.general.now c.args.special.now c.args.queue.now.met c.loop-number.number c.pair-pair.result.general.0 c.pair-pair.result.special.0 c.pair-pair.ensures.general c.pair-pair.ensures.special
    c.polarity-polarity.result c.head-first.result.now c.head-second.result.now (Some c.in-Some.reason) c.polarity-polarity.ensures c.head-first.ensures c.head-second.ensures
    (subst (IsFirstReason c.polarity-polarity.result c.head-first.result.now c.head-second.result.now) c.in-Some.is c.in_ok-reason.ensures)))

pub returns : goal.returns
returns c =
    let high : c.len-number-end.result ≤ c.loop-number.number = c.loop-number-test.false in
    let size : c.len-number-end.result ≡ length c.args.queue.now.met = c.len-number-end.ensures in
    no-head c.args.general.now c.args.special.now c.args.queue.now.met (λ j why low fails. c.loop-number.invariant j why (let low : j < length c.args.queue.now.met = low in omega arith) fails)
