-- The small expressions of the tests are terms.
use Rattle.std.proofs.Common.{List, ℕ, zero, suc, ◌<◌, ◌≢◌, [], ◌∷◌, All, refl, arith}
use Rattle.mls_term.specs.declared.term.Part.{Part}
use Rattle.mls_term.specs.declared.term.TermForm.{TermForm}
use Rattle.mls_term.specs.declared.term.TermForm.TheVariants as form
use Rattle.mls_term.specs.declared.term.TermNode.{TermNode}
use Rattle.mls_term.specs.Terms.{bound, number, fun, make, a_field, no_field, before, field_nodes, field_roots, postorder, field_postorder}
use Rattle.mls_term.specs.WellFormed.{IsTerm, AreNumbersBelow}

abbrev pub node_of : TermForm → TermNode
node_of f = record { at = 0; form = f }

no_numbers : AreNumbersBelow 0 []
no_numbers = record { count_is = refl; below = λ k d low. absurd (omega arith); distinct = λ i j d less low. absurd (omega arith) }

one_number : AreNumbersBelow 1 (0 ∷ [])
one_number = record { count_is = refl; below = one_below; distinct = λ i j d less low. absurd (omega arith) }
  where
    one_below : All (λ n. n < 1) (0 ∷ [])
    one_below zero d low = omega arith
    one_below (suc k) d low = absurd (omega arith)

pub identity_is : IsTerm 0 (node_of (form.Bound 0) ∷ node_of (form.Fun 0 0) ∷ []) 1 0
unfolding postorder before
identity_is = record { tree = fun 0 0 (bound 0 0); nodes_are = refl; scoped = (0, omega arith, refl); binder_numbers = one_number; let_numbers = no_numbers }

abbrev label : List ℕ
label = 97 ∷ []

abbrev pub one_part : List Part
one_part = record { label = label; child = 0 } ∷ []

pub record_is : IsTerm 0 (node_of (form.Number 1) ∷ node_of (form.Make one_part) ∷ []) 0 0
unfolding postorder before field_postorder field_nodes field_roots
record_is = record { tree = make 0 (a_field label (number 0 1) no_field); nodes_are = refl; scoped = ((λ i j d less low. absurd (omega arith)), (tt, tt)); binder_numbers = no_numbers; let_numbers = no_numbers }
