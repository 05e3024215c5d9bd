use Rattle.std.proofs.Common.{◌≡◌, ◌<◌, ◌≤◌, ◌∙◌, ℕ, sym, subst, arith, length, All, Contains}
use Rattle.mls_flow.proofs.Tabled.{refused}
use Rattle.mls_subsume.proofs.AskedFlows.{granted-here, refused-here}
use Rattle.mls_subsume.proofs.flows.first_refused.Goals as goal

pub returns-then-not-has_all : goal.returns-then-not-has_all
returns-then-not-has_all c =
    let low : c.loop-number.number < c.len-number-end.result = c.loop-number-test.true in
    let size : c.len-number-end.result ≡ length c.args.queue.now.met = c.len-number-end.ensures in (
      omega arith,
      refused-here c.args.general.now c.args.queue.now.met c.loop-number.number c.args.table.now.flows c.in_ok-asked.asked c.pair.result.general.0 c.pair.result.special.0
          c.pair.ensures.general c.pair.ensures.special c.in_ok-asked.ensures
          (λ all. refused c.has_all.result (All (Contains c.args.table.now.flows) c.as_slice.result.now) c.has_all.ensures c.if-not-has_all.true
          (subst (All (Contains c.args.table.now.flows)) (sym c.as_slice.ensures) all)),
      c.loop-number.invariant,
    )

pub loop-number-preserved : goal.loop-number-preserved
loop-number-preserved c =
    granted-here c.args.general.now c.args.queue.now.met c.loop-number.number c.args.table.now.flows c.in_ok-asked.asked c.pair.result.general.0 c.pair.result.special.0
    c.pair.ensures.general c.pair.ensures.special c.in_ok-asked.ensures
    (subst (All (Contains c.args.table.now.flows)) c.as_slice.ensures (c.has_all.ensures.0 c.if-not-has_all.false)) c.loop-number.invariant

pub returns : goal.returns
returns c = λ k low.
    let low : k < length c.args.queue.now.met = low in
    let high : c.len-number-end.result ≤ c.loop-number.number = c.loop-number-test.false in
    let size : c.len-number-end.result ≡ length c.args.queue.now.met = c.len-number-end.ensures in
    c.loop-number.invariant k (omega arith)
