use Rattle.std.proofs.Common.{inl, inr}
use Rattle.mls_solver.specs.steps.Consequences.{ByFunctions, ByRecords, ByHeads}
use Rattle.mls_solver.proofs.Relating.{Relates-then}
use Rattle.mls_solver.proofs.search.add_by_heads.Goals as goal

pub returns : goal.returns
returns c =
    Relates-then c.args.found.now c.add_by_functions.new.found c.add_by_records.new.found
    (ByFunctions c.args.upper.now.function c.args.lower.now.function) (ByRecords c.args.upper.now.fields c.args.lower.now.fields)
    (ByHeads c.args.upper.now c.args.lower.now) c.in_ok-add_by_functions.ensures c.in_ok-add_by_records.ensures
    (λ p n it. inl it) (λ p n it. inr it) (λ p n it. it)
