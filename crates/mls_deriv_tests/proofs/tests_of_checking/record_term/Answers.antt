use Rattle.std.proofs.Common.{◌≡◌, List, [], ◌∷◌, rules, sym, subst}
use Rattle.mls_term.specs.declared.term.TermForm.TheVariants as form
use Rattle.mls_term.specs.declared.term.TermNode.{TermNode}
use Rattle.mls_term.specs.WellFormed.{IsTerm}
use Rattle.mls_deriv_tests.proofs.TestTerms.{node_of, one_part, record_is}
use Rattle.mls_deriv_tests.proofs.tests_of_checking.record_term.Goals as goal

pub returns : goal.returns
returns c =
    let are : c.push-2.new.self ≡ node_of (form.Number 1) ∷ node_of (form.Make one_part) ∷ [] = search rules in
    subst (λ (nodes : List TermNode). IsTerm 0 nodes 0 0) (sym are) record_is
