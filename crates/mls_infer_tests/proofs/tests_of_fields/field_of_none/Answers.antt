use Rattle.std.proofs.Common.{◌≡◌, List, rules, sym, subst}
use Rattle.mls_term.specs.declared.term.TermNode.{TermNode}
use Rattle.mls_term.specs.WellFormed.{IsTerm}
use Rattle.mls_infer_tests.proofs.TestFields.{field_of_none, field_of_none_is}
use Rattle.mls_infer_tests.proofs.tests_of_fields.field_of_none.Goals as goal

pub returns : goal.returns
returns g c =
    let are : c.push-6.new.self ≡ field_of_none = search rules in
    subst (λ (nodes : List TermNode). IsTerm 0 nodes 0 1) (sym are) field_of_none_is
