use Rattle.std.proofs.Common.{◌≡◌, List, [], ◌∷◌, rules, sym, subst}
use Rattle.mls_term.specs.declared.term.TermForm.TheVariants as form
use Rattle.mls_term.specs.declared.term.TermNode.{TermNode}
use Rattle.mls_term.specs.WellFormed.{IsTerm}
use Rattle.mls_infer_tests.proofs.TestTerms.{node_of, number_of_number_is}
use Rattle.mls_infer_tests.proofs.tests_of_terms.number_of_number.Goals as goal

pub returns : goal.returns
returns c =
    let are : c.push-3.new.self ≡ node_of (form.Number 1) ∷ node_of (form.Number 1) ∷ node_of (form.Apply 0 1) ∷ [] = search rules in
    subst (λ (nodes : List TermNode). IsTerm 0 nodes 0 0) (sym are) number_of_number_is
