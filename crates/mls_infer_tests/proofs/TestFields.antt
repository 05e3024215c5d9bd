-- The projections of the tests are terms.
use Rattle.std.proofs.Common.{◌≡◌, true, List, ℕ, zero, suc, ◌≢◌, [], ◌∷◌, ap, get_or, refl, arith}
use Rattle.std.specs.List.{AllPairs}
use Rattle.mls_automaton.proofs.Lists.{Contains-here}
use Rattle.mls_term.specs.declared.term.Part.{Part}
use Rattle.mls_term.specs.declared.term.TermForm.TheVariants as form
use Rattle.mls_term.specs.declared.term.TermNode.{TermNode}
use Rattle.mls_term.specs.Terms.{TermTree, bound, inner, number, truth, fun, choice, fix, local, make, project, a_field, no_field, before, field_nodes, field_roots, postorder, field_postorder}
use Rattle.mls_term.specs.WellFormed.{IsTerm}
use Rattle.mls_infer_tests.proofs.TestTerms.{no_numbers, node_of, one_number}

abbrev first_label : List ℕ
first_label = 108 ∷ []

abbrev second_label : List ℕ
second_label = 109 ∷ []

abbrev third_label : List ℕ
third_label = 110 ∷ []

abbrev record_of : ℕ → ℕ → List Part
record_of e f = record { label = first_label; child = e } ∷ record { label = second_label; child = f } ∷ []

abbrev record_tree : TermTree → TermTree → TermTree
record_tree e f = make 0 (a_field first_label e (a_field second_label f no_field))

differs : (a b : ℕ) → a ≡ 108 → b ≡ 109 → a ≡ b → ⊥
differs a b first second same = omega arith

two_labels : AllPairs {X = List ℕ} (λ x y. x ≢ y) (first_label ∷ second_label ∷ [])
two_labels zero zero d less low = absurd (omega arith)
two_labels zero (suc zero) d less low = λ same. differs 108 109 refl refl (ap (λ (xs : List ℕ). get_or xs 0 0) same)
two_labels zero (suc (suc j)) d less low = absurd (omega arith)
two_labels (suc i) zero d less low = absurd (omega arith)
two_labels (suc i) (suc j) d less low = absurd (omega arith)

abbrev pub field_of_binder : List TermNode
field_of_binder = node_of (form.Bound 0) ∷ node_of (form.Number 1) ∷ node_of (form.Make (record_of 0 1)) ∷ node_of (form.Inner 0)
    ∷ node_of (form.Project 3 first_label) ∷ node_of (form.Let 0 2 4) ∷ node_of (form.Fun 0 5) ∷ []

pub field_of_binder_is : IsTerm 0 field_of_binder 1 1
unfolding postorder before field_postorder field_nodes field_roots
field_of_binder_is = record {
  tree = fun 0 0 (local 0 0 (record_tree (bound 0 0) (number 0 1)) (project 0 (inner 0 0) first_label));
  nodes_are = refl;
  scoped = ((two_labels, (Contains-here 0 [], (tt, tt))), Contains-here 0 []);
  binder_numbers = one_number;
  let_numbers = one_number;
}

abbrev pub field_of_itself : List TermNode
field_of_itself = node_of (form.Bound 0) ∷ node_of (form.Number 1) ∷ node_of (form.Make (record_of 0 1)) ∷ node_of (form.Rec 0 2)
    ∷ node_of (form.Inner 0) ∷ node_of (form.Project 4 first_label) ∷ node_of (form.Let 0 3 5) ∷ []

pub field_of_itself_is : IsTerm 0 field_of_itself 1 1
unfolding postorder before field_postorder field_nodes field_roots
field_of_itself_is = record {
  tree = local 0 0 (fix 0 0 (record_tree (bound 0 0) (number 0 1))) (project 0 (inner 0 0) first_label);
  nodes_are = refl;
  scoped = ((two_labels, (Contains-here 0 [], (tt, tt))), Contains-here 0 []);
  binder_numbers = one_number;
  let_numbers = one_number;
}

abbrev pub field_of_either : List TermNode
field_of_either = node_of (form.Truth true) ∷ node_of (form.Bound 0) ∷ node_of (form.Number 1) ∷ node_of (form.Number 1)
    ∷ node_of (form.Make (record_of 2 3)) ∷ node_of (form.If 0 1 4) ∷ node_of (form.Inner 0) ∷ node_of (form.Project 6 first_label)
    ∷ node_of (form.Let 0 5 7) ∷ node_of (form.Fun 0 8) ∷ []

pub field_of_either_is : IsTerm 0 field_of_either 1 1
unfolding postorder before field_postorder field_nodes field_roots
field_of_either_is = record {
  tree = fun 0 0 (local 0 0 (choice 0 (truth 0 true) (bound 0 0) (record_tree (number 0 1) (number 0 1))) (project 0 (inner 0 0) first_label));
  nodes_are = refl;
  scoped = ((tt, Contains-here 0 [], (two_labels, (tt, (tt, tt)))), Contains-here 0 []);
  binder_numbers = one_number;
  let_numbers = one_number;
}

abbrev pub field_of_none : List TermNode
field_of_none = node_of (form.Number 1) ∷ node_of (form.Number 1) ∷ node_of (form.Make (record_of 0 1)) ∷ node_of (form.Inner 0)
    ∷ node_of (form.Project 3 third_label) ∷ node_of (form.Let 0 2 4) ∷ []

pub field_of_none_is : IsTerm 0 field_of_none 0 1
unfolding postorder before field_postorder field_nodes field_roots
field_of_none_is = record {
  tree = local 0 0 (record_tree (number 0 1) (number 0 1)) (project 0 (inner 0 0) third_label);
  nodes_are = refl;
  scoped = ((two_labels, (tt, (tt, tt))), Contains-here 0 []);
  binder_numbers = no_numbers;
  let_numbers = one_number;
}
