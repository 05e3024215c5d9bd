use Rattle.std.proofs.Common.{◌∙◌, ◌≤◌, length}
use Rattle.mls_flow.proofs.Tabled.{refused}
use Rattle.mls_subsume.proofs.Exploring.{explore-done, explore-start, explore-step, state-at, not-past}
use Rattle.mls_subsume.proofs.explore.explore.Goals as goal

pub loop-next-init : goal.loop-next-init
loop-next-init c = (c.in_ok-queue.ensures.states ∙ c.len-states.ensures.len, explore-start c.args.general.now c.args.special.now c.in_ok-queue.queue.met c.in_ok-queue.ensures.met)

pub returns-then-ends_before-clause-search : goal.returns-then-ends_before-clause-search
returns-then-ends_before-clause-search c =
    explore-done c.args.general.now c.args.special.now c.loop-next.queue.met c.loop-next.next c.loop-next.invariant.1 (c.ends_before.ensures.0 c.if-ends_before.true)

pub follow-requires-clause-from : goal.follow-requires-clause-from
follow-requires-clause-from c =
    not-past (length c.loop-next.queue.met) c.loop-next.next
    (refused c.ends_before.result (length c.loop-next.queue.met ≤ c.loop-next.next) c.ends_before.ensures c.if-ends_before.false)

pub follow-requires-clause-general : goal.follow-requires-clause-general
follow-requires-clause-general c =
    (state-at c.args.general.now c.args.special.now c.requires.general c.requires.special c.loop-next.queue.met c.loop-next.invariant.1.leads c.loop-next.next
    (not-past (length c.loop-next.queue.met) c.loop-next.next
    (refused c.ends_before.result (length c.loop-next.queue.met ≤ c.loop-next.next) c.ends_before.ensures c.if-ends_before.false))).1.in_range

pub follow-requires-clause-special : goal.follow-requires-clause-special
follow-requires-clause-special c =
    (state-at c.args.general.now c.args.special.now c.requires.general c.requires.special c.loop-next.queue.met c.loop-next.invariant.1.leads c.loop-next.next
    (not-past (length c.loop-next.queue.met) c.loop-next.next
    (refused c.ends_before.result (length c.loop-next.queue.met ≤ c.loop-next.next) c.ends_before.ensures c.if-ends_before.false))).2.in_range

pub loop-next-preserved : goal.loop-next-preserved
loop-next-preserved c = (
  c.in_ok-follow.ensures.states ∙ c.loop-next.invariant.0,
  explore-step c.args.general.now c.args.special.now c.requires.general c.requires.special c.requires.general_deterministic c.requires.special_deterministic c.loop-next.queue.met c.follow.new.queue.met
      c.loop-next.next c.loop-next.invariant.1
      (not-past (length c.loop-next.queue.met) c.loop-next.next
      (refused c.ends_before.result (length c.loop-next.queue.met ≤ c.loop-next.next) c.ends_before.ensures c.if-ends_before.false))
      c.in_ok-follow.ensures.follows,
)
