use Rattle.std.proofs.Common.{inl, inr, arith, sym, subst, get_or, All}
use Rattle.std.proofs.lemmas.Bool.{cases_eq}
use Rattle.std.proofs.lemmas.List.{get_or_default}
use Rattle.mls_shape.specs.steps.Upwards.{StandsBehind}
use Rattle.mls_shape.proofs.upwards.are_behind.Goals as goal

pub loop-member-preserved : goal.loop-member-preserved
loop-member-preserved c k low =
    elim (cases_eq k c.loop-member.member-index) [
      | inl same ↦
          subst (λ k. StandsBehind c.args.a.now c.args.s (get_or c.as_slice-member-items.result.now k 0)) (sym same)
          (c.is_behind.ensures c.if-not-is_behind.false)
      | inr apart ↦ c.loop-member.invariant k (omega (arith, apart, low))
    ]

pub returns : goal.returns
returns c it =
    subst (All (StandsBehind c.args.a.now c.args.s)) c.as_slice-member-items.ensures.members
    (λ k d low.
    subst (StandsBehind c.args.a.now c.args.s) (get_or_default c.as_slice-member-items.result.now k 0 d low)
    (c.loop-member.invariant k (omega (arith, low, c.loop-member-test.false))))
