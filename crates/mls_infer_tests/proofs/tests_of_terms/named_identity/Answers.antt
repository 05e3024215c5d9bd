use Rattle.std.proofs.Common.{◌≡◌, List, [], ◌∷◌, rules, sym, subst}
use Rattle.mls_term.specs.declared.term.TermForm.TheVariants as form
use Rattle.mls_term.specs.declared.term.TermNode.{TermNode}
use Rattle.mls_term.specs.WellFormed.{IsTerm}
use Rattle.mls_infer_tests.proofs.TestTerms.{node_of, named_identity_is}
use Rattle.mls_infer_tests.proofs.tests_of_terms.named_identity.Goals as goal

pub returns : goal.returns
returns c =
    let are : c.push-4.new.self ≡ node_of (form.Bound 0) ∷ node_of (form.Fun 0 0) ∷ node_of (form.Inner 0) ∷ node_of (form.Let 0 1 2) ∷ [] = search rules in
    subst (λ (nodes : List TermNode). IsTerm 0 nodes 1 1) (sym are) named_identity_is
