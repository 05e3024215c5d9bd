-- The small expressions of the tests are terms.
use Rattle.std.proofs.Common.{true, List, ℕ, zero, suc, ◌<◌, ◌≢◌, [], ◌∷◌, All, refl, arith}
use Rattle.std.specs.List.{AllPairs}
use Rattle.mls_automaton.proofs.Lists.{Contains-here, Contains-later}
use Rattle.mls_term.specs.declared.term.Part.{Part}
use Rattle.mls_term.specs.declared.term.TermForm.{TermForm}
use Rattle.mls_term.specs.declared.term.TermForm.TheVariants as form
use Rattle.mls_term.specs.declared.term.TermNode.{TermNode}
use Rattle.mls_term.specs.Terms.{TermTree, bound, inner, number, truth, fun, apply, choice, fix, local, make, project, a_field, no_field, before, field_nodes, field_roots, postorder, field_postorder}
use Rattle.mls_term.specs.WellFormed.{IsTerm, IsScoped, AreNumbersBelow}

abbrev pub node_of : TermForm → TermNode
node_of f = record { at = 0; form = f }

pub no_numbers : AreNumbersBelow 0 []
no_numbers = record { count_is = refl; below = λ k d low. absurd (omega arith); distinct = λ i j d less low. absurd (omega arith) }

pub one_number : AreNumbersBelow 1 (0 ∷ [])
one_number = record { count_is = refl; below = one_below; distinct = λ i j d less low. absurd (omega arith) }
  where
    one_below : All (λ n. n < 1) (0 ∷ [])
    one_below zero d low = omega arith
    one_below (suc k) d low = absurd (omega arith)

pub identity_is : IsTerm 0 (node_of (form.Bound 0) ∷ node_of (form.Fun 0 0) ∷ []) 1 0
unfolding postorder before
identity_is = record { tree = fun 0 0 (bound 0 0); nodes_are = refl; scoped = Contains-here 0 []; binder_numbers = one_number; let_numbers = no_numbers }

pub named_identity_is : IsTerm 0 (node_of (form.Bound 0) ∷ node_of (form.Fun 0 0) ∷ node_of (form.Inner 0) ∷ node_of (form.Let 0 1 2) ∷ []) 1 1
unfolding postorder before
named_identity_is = record { tree = local 0 0 (fun 0 0 (bound 0 0)) (inner 0 0); nodes_are = refl; scoped = (Contains-here 0 [], Contains-here 0 []); binder_numbers = one_number; let_numbers = one_number }

pub number_of_number_is : IsTerm 0 (node_of (form.Number 1) ∷ node_of (form.Number 1) ∷ node_of (form.Apply 0 1) ∷ []) 0 0
unfolding postorder before
number_of_number_is = record { tree = apply 0 (number 0 1) (number 0 1); nodes_are = refl; scoped = (tt, tt); binder_numbers = no_numbers; let_numbers = no_numbers }

three_below : All (λ n. n < 3) (0 ∷ 1 ∷ 2 ∷ [])
three_below zero d low = omega arith
three_below (suc zero) d low = omega arith
three_below (suc (suc zero)) d low = omega arith
three_below (suc (suc (suc k))) d low = absurd (omega arith)

three_distinct : AllPairs {X = ℕ} (λ m n. m ≢ n) (0 ∷ 1 ∷ 2 ∷ [])
three_distinct zero zero d less low = absurd (omega arith)
three_distinct zero (suc zero) d less low = λ same. omega arith
three_distinct zero (suc (suc zero)) d less low = λ same. omega arith
three_distinct zero (suc (suc (suc j))) d less low = absurd (omega arith)
three_distinct (suc i) zero d less low = absurd (omega arith)
three_distinct (suc zero) (suc zero) d less low = absurd (omega arith)
three_distinct (suc zero) (suc (suc zero)) d less low = λ same. omega arith
three_distinct (suc zero) (suc (suc (suc j))) d less low = absurd (omega arith)
three_distinct (suc (suc i)) (suc j) d less low = absurd (omega arith)

three_numbers : AreNumbersBelow 3 (0 ∷ 1 ∷ 2 ∷ [])
three_numbers = record { count_is = refl; below = three_below; distinct = three_distinct }

abbrev label : List ℕ
label = 108 ∷ []

abbrev pub one_field : List Part
one_field = record { label = label; child = 1 } ∷ []

abbrev pub every_form : List TermNode
every_form = node_of (form.Truth true) ∷ node_of (form.Bound 0) ∷ node_of (form.Make one_field)
    ∷ node_of (form.Project 2 label) ∷ node_of (form.Bound 0) ∷ node_of (form.If 0 3 4) ∷ node_of (form.Fun 0 5)
    ∷ node_of (form.Bound 1) ∷ node_of (form.Bound 2) ∷ node_of (form.Apply 7 8) ∷ node_of (form.Fun 2 9)
    ∷ node_of (form.Rec 1 10) ∷ node_of (form.Inner 0) ∷ node_of (form.Number 1) ∷ node_of (form.Apply 12 13)
    ∷ node_of (form.Apply 11 14) ∷ node_of (form.Let 0 6 15) ∷ []

abbrev tree : TermTree
tree = local 0 0 (fun 0 0 (choice 0 (truth 0 true) (project 0 (make 0 (a_field label (bound 0 0) no_field)) label) (bound 0 0)))
    (apply 0 (fix 0 1 (fun 0 2 (apply 0 (bound 0 1) (bound 0 2)))) (apply 0 (inner 0 0) (number 0 1)))

tree_scoped : IsScoped [] [] 0 tree
tree_scoped = (
  (tt, ((λ i j d less low. absurd (omega arith)), (Contains-here 0 [], tt)), Contains-here 0 []),
  ((Contains-later 2 (1 ∷ []) 1 (Contains-here 1 []), Contains-here 2 (1 ∷ [])), (Contains-here 0 [], tt)),
)

pub every_form_is : IsTerm 0 every_form 3 1
unfolding postorder before field_postorder field_nodes field_roots
every_form_is = record { tree = tree; nodes_are = refl; scoped = tree_scoped; binder_numbers = three_numbers; let_numbers = one_number }
