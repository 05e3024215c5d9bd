use Rattle.std.proofs.Common.{◌≡◌, [], List, ℕ, subst, rules}
use Rattle.mls_layout.specs.Walks.{IsOfFunctions, IsOfRecords}
use Rattle.mls_layout.specs.steps.Walking.{Lists}
use Rattle.mls_layout.proofs.MetPairs.{lists_then}
use Rattle.mls_layout.proofs.walk.named_by.Goals as goal

pub returns : goal.returns
returns c =
    let empty : c.new-named.result ≡ [] = search rules in
    lists_then (IsOfFunctions c.args.general.now.function c.args.special.now.function) (IsOfRecords c.args.general.now.fields c.args.special.now.fields)
    [] c.push_functions.new.into c.push_records.new.into
    (subst (λ (old : List (ℕ × ℕ)). Lists (IsOfFunctions c.args.general.now.function c.args.special.now.function) old c.push_functions.new.into) empty c.in_ok-push_functions.ensures) c.in_ok-push_records.ensures
