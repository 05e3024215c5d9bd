use Rattle.std.proofs.Common.{◌≡◌, List, rules, sym, subst}
use Rattle.mls_term.specs.declared.term.TermNode.{TermNode}
use Rattle.mls_term.specs.WellFormed.{IsTerm}
use Rattle.mls_infer_tests.proofs.TestTerms.{every_form, every_form_is}
use Rattle.mls_infer_tests.proofs.tests_of_terms.every_form.Goals as goal

pub returns : goal.returns
returns g c =
    let are : c.push-17.new.self ≡ every_form = search rules in
    subst (λ (nodes : List TermNode). IsTerm 0 nodes 3 1) (sym are) every_form_is
