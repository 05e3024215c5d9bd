use Rattle.std.proofs.Common.{◌<◌, Contains, Some, refl, subst, sym}
use Rattle.mls_solver.specs.steps.Consequences.{ByFunctions}
use Rattle.mls_solver.proofs.Relating.{Relates-then}
use Rattle.mls_solver.proofs.HeadRules.{by_domain, by_codomain, by_functions-cases}
use Rattle.mls_biunify.proofs.worklist.add_by_arms.Goals as goal

pub add_sets-requires : goal.add_sets-requires
add_sets-requires c p n left right =
    c.requires p n
    (by_domain (Some c.args.arms.now) (Some c.args.others.now) c.args.arms.now c.args.others.now refl refl c.as_slice.result.now c.as_slice-2.result.now c.as_slice.ensures.members c.as_slice-2.ensures.members p n left right)

pub add_sets-requires-2 : goal.add_sets-requires-2
add_sets-requires-2 c p n left right =
    let in_range =
    c.requires p n
    (by_codomain (Some c.args.arms.now) (Some c.args.others.now) c.args.arms.now c.args.others.now refl refl c.as_slice-3.result.now c.as_slice-4.result.now c.as_slice-3.ensures.members c.as_slice-4.ensures.members p n left right) in (
      subst (λ k. p < k) (sym c.in_ok-add_sets.ensures.positives) in_range.0,
      subst (λ k. n < k) (sym c.in_ok-add_sets.ensures.negatives) in_range.1,
    )

pub returns : goal.returns
returns c =
    Relates-then c.args.room.now c.add_sets.new.room c.add_sets-2.new.room
    (λ p n. Contains c.as_slice.result.now p × Contains c.as_slice-2.result.now n)
    (λ p n. Contains c.as_slice-3.result.now p × Contains c.as_slice-4.result.now n)
    (ByFunctions (Some c.args.arms.now) (Some c.args.others.now)) c.in_ok-add_sets.ensures c.in_ok-add_sets-2.ensures
    (λ p n it. by_domain (Some c.args.arms.now) (Some c.args.others.now) c.args.arms.now c.args.others.now refl refl c.as_slice.result.now c.as_slice-2.result.now c.as_slice.ensures.members c.as_slice-2.ensures.members p n it.0 it.1)
    (λ p n it. by_codomain (Some c.args.arms.now) (Some c.args.others.now) c.args.arms.now c.args.others.now refl refl c.as_slice-3.result.now c.as_slice-4.result.now c.as_slice-3.ensures.members c.as_slice-4.ensures.members p n it.0 it.1)
    (by_functions-cases (Some c.args.arms.now) (Some c.args.others.now) c.args.arms.now c.args.others.now refl refl c.as_slice.result.now c.as_slice-2.result.now c.as_slice-3.result.now c.as_slice-4.result.now
    c.as_slice.ensures.members c.as_slice-2.ensures.members c.as_slice-3.ensures.members c.as_slice-4.ensures.members)
