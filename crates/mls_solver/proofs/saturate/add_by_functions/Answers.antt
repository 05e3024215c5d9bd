use Rattle.std.proofs.Common.{ℕ, List, Contains, subst, sym}
use Rattle.mls_solver.specs.steps.Consequences.{ByFunctions}
use Rattle.mls_solver.proofs.Relating.{Relates-then}
use Rattle.mls_solver.proofs.HeadRules.{by_domain, by_codomain, by_functions-cases}
use Rattle.mls_solver.proofs.saturate.add_by_functions.Goals as goal

pub add_sets-requires : goal.add_sets-requires
add_sets-requires c p n left right =
    c.requires p n
    (by_domain c.args.upper.now c.args.lower.now c.in-Some.arms c.in-Some-lower.others c.in-Some.is c.in-Some-lower.is c.as_slice.result.now c.as_slice-in-Some-lower.result.now c.as_slice.ensures.members c.as_slice-in-Some-lower.ensures.members p n left right)

pub add_sets-requires-in-Some-lower : goal.add_sets-requires-in-Some-lower
add_sets-requires-in-Some-lower c p n left right =
    let in_range =
    c.requires p n
    (by_codomain c.args.upper.now c.args.lower.now c.in-Some.arms c.in-Some-lower.others c.in-Some.is c.in-Some-lower.is c.as_slice-in-Some-lower-2.result.now c.as_slice-in-Some-lower-3.result.now c.as_slice-in-Some-lower-2.ensures.members c.as_slice-in-Some-lower-3.ensures.members p n left right) in (
      subst (λ (rows : List ℕ). Contains rows p) (sym c.add_sets.ensures.rows) in_range.0,
      subst (λ (columns : List ℕ). Contains columns n) (sym c.add_sets.ensures.columns) in_range.1,
    )

pub returns-in-Some-lower : goal.returns-in-Some-lower
returns-in-Some-lower c =
    Relates-then c.args.room.now c.add_sets.new.room c.add_sets-in-Some-lower.new.room
    (λ p n. Contains c.as_slice.result.now p × Contains c.as_slice-in-Some-lower.result.now n)
    (λ p n. Contains c.as_slice-in-Some-lower-2.result.now p × Contains c.as_slice-in-Some-lower-3.result.now n)
    (ByFunctions c.args.upper.now c.args.lower.now) c.add_sets.ensures c.add_sets-in-Some-lower.ensures
    (λ p n it. by_domain c.args.upper.now c.args.lower.now c.in-Some.arms c.in-Some-lower.others c.in-Some.is c.in-Some-lower.is c.as_slice.result.now c.as_slice-in-Some-lower.result.now c.as_slice.ensures.members c.as_slice-in-Some-lower.ensures.members p n it.0 it.1)
    (λ p n it. by_codomain c.args.upper.now c.args.lower.now c.in-Some.arms c.in-Some-lower.others c.in-Some.is c.in-Some-lower.is c.as_slice-in-Some-lower-2.result.now c.as_slice-in-Some-lower-3.result.now c.as_slice-in-Some-lower-2.ensures.members c.as_slice-in-Some-lower-3.ensures.members p n it.0 it.1)
    (by_functions-cases c.args.upper.now c.args.lower.now c.in-Some.arms c.in-Some-lower.others c.in-Some.is c.in-Some-lower.is c.as_slice.result.now c.as_slice-in-Some-lower.result.now c.as_slice-in-Some-lower-2.result.now c.as_slice-in-Some-lower-3.result.now
    c.as_slice.ensures.members c.as_slice-in-Some-lower.ensures.members c.as_slice-in-Some-lower-2.ensures.members c.as_slice-in-Some-lower-3.ensures.members)
