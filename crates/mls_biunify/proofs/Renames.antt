-- Sets and heads under other numbers.
use Rattle.std.proofs.Common.{◌≡◌, inl, inr, ℕ, zero, suc, cond, ◌<◌, ◌≤◌, List, [], ◌∷◌, refl, sym, ap, ◌∙◌, subst, arith, length, get_or, Contains, Option, Some, None}
use Rattle.std.specs.List.Sorted.{IsBinarySearchResult, IsSearchInRange}
use Rattle.std.specs.Ordering.{nat_cmp}
use Rattle.std.specs.Prelude.{Result, MatchResult, Ok, Err}
use Rattle.std.proofs.lemmas.Bool.{le-ltb, lt-ltb}
use Rattle.std.proofs.lemmas.List.Elements.{Contains-get_or}
use Rattle.mls_automaton.specs.declared.automaton.Arms.{Arms}
use Rattle.mls_automaton.specs.declared.automaton.FieldSet.{FieldSet}
use Rattle.mls_automaton.specs.declared.automaton.Head.{Head}
use Rattle.mls_automaton.specs.Reached.{HeadNames, InFunction, InRecord}
use Rattle.mls_automaton.specs.Sets.{Rises}
use Rattle.mls_automaton.specs.steps.Searching.{IsBelow}
use Rattle.mls_automaton.specs.steps.Numbers.{KeepsOrder, KeepsOrderInArms, KeepsOrderInFields, KeepsOrderInHead}
use Rattle.mls_automaton.proofs.RisingSets.{Cuts, found-cuts}
use Rattle.mls_biunify.specs.Live.{number_of}
use Rattle.mls_biunify.specs.steps.Renaming.{place_among}

-- numbers that rise keep the order of the numbers in whose place they stand
pub order-kept : (numbers set : List ℕ) → Rises numbers → IsBelow (Contains set) (length numbers) → KeepsOrder (number_of numbers) set
order-kept numbers set rises low i j in-i in-j less = rises i j less (low j in-j)

pub head-order : (numbers : List ℕ) (h : Head) → Rises numbers → IsBelow (HeadNames h) (length numbers) → KeepsOrderInHead (number_of numbers) h
head-order numbers h rises low = (arms h.function (λ j it. low j (inl it)), fields h.fields (λ j it. low j (inr it)))
  where
    arms : (o : Option Arms) → IsBelow (InFunction o) (length numbers) → KeepsOrderInArms (number_of numbers) o
    arms None below = tt
    arms (Some a) below = (order-kept numbers a.domain rises (λ j it. below j (a, refl, inl it)), order-kept numbers a.codomain rises (λ j it. below j (a, refl, inr it)))

    fields : (o : Option (List FieldSet)) → IsBelow (InRecord o) (length numbers) → KeepsOrderInFields (number_of numbers) o
    fields None below = tt
    fields (Some fs) below = λ k d low. order-kept numbers (get_or fs k d).set rises (λ j it. below j (fs, refl, (get_or fs k d, Contains-get_or fs k d low, it)))

-- a place that parts the numbers below from the others
pub cut-place : (xs : List ℕ) (s i : ℕ) → i ≤ length xs → Cuts xs s i → place_among xs s ≡ i
cut-place [] s i low it = omega arith
cut-place (x ∷ rest) s zero low it =
    let high : s ≤ x = it.high 0 (omega arith) (omega arith) in
    ap (λ b. cond b (suc (place_among rest s)) 0) (le-ltb x s high)
cut-place (x ∷ rest) s (suc i) low it =
    let less : x < s = it.low 0 (omega arith) (omega arith) in
    ap (λ b. cond b (suc (place_among rest s)) 0) (lt-ltb x s less)
    ∙ ap suc (cut-place rest s i (omega arith) (record { low = λ k under small. it.low (suc k) (omega arith) (omega arith); high = λ k over small. it.high (suc k) (omega arith) (omega arith) }))

module _ (xs : List ℕ) (s : ℕ) (r : Result ℕ ℕ) (i : ℕ) where
  pub found-place : r ≡ Ok i → Rises xs → IsSearchInRange r (length xs) → IsBinarySearchResult (λ y. nat_cmp y s) xs r → i ≡ place_among xs s
  found-place e rises range it =
      let low : i < length xs = subst (λ q. IsSearchInRange q (length xs)) e range in
      sym (cut-place xs s i (omega arith) (subst (λ q. MatchResult q (Cuts xs s) (Cuts xs s)) e (found-cuts xs s r rises it)))

  pub missing-place : r ≡ Err i → Rises xs → IsSearchInRange r (length xs) → IsBinarySearchResult (λ y. nat_cmp y s) xs r → i ≡ place_among xs s
  missing-place e rises range it =
      sym (cut-place xs s i (subst (λ q. IsSearchInRange q (length xs)) e range) (subst (λ q. MatchResult q (Cuts xs s) (Cuts xs s)) e (found-cuts xs s r rises it)))
