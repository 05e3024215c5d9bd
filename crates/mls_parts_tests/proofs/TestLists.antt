-- Nodes of a part that come once and behind their parts, one after another: no node, and one more.
use Rattle.std.proofs.Common.{◌≡◌, ◌⊎◌, inl, inr, ℕ, ◌+◌, ◌<◌, List, [], ◌∷◌, ◌++◌, sym, ◌∙◌, subst, length, take, get_or, Contains, arith, Some, length-append}
use Rattle.std.specs.Prelude.{IsTrue}
use Rattle.std.specs.BTreeSet.{BTreeSet, contains}
use Rattle.std.specs.Ordering.{nat_cmp}
use Rattle.std.proofs.lemmas.List.{get_or_append_left, get_or_push, take-append-le, take_all}
use Rattle.std.proofs.lemmas.List.Elements.{All-push, Contains-get_or}
use Rattle.std.proofs.lemmas.List.Quantifiers.{all_pairs_push}
use Rattle.mls_book.proofs.LongerBooks.{below_or_more}
use Rattle.mls_term.specs.declared.term.TermForm.{TermForm}
use Rattle.mls_term.specs.declared.term.TermNode.{TermNode}
use Rattle.mls_deriv.specs.Steps.{form_at}
use Rattle.mls_layout.specs.PosedNodes.{HasPartsIn}
use Rattle.mls_parts.specs.PosedParts.{IsPartList}
use Rattle.mls_parts.proofs.PartLists.{parts_more}
use Rattle.mls_layout.specs.steps.Posable.{Has, HasJust, MayFollow}

pub list_none : (nodes : List TermNode) → IsPartList nodes []
list_none nodes = record {
  in_range = λ k d low. absurd (omega (arith, low));
  once = λ i j d before low. absurd (omega (arith, low));
  behind = λ k f low e. absurd (omega (arith, low));
}

pub list_more : (nodes : List TermNode) (xs : List ℕ) (done : BTreeSet ℕ) (i : ℕ) → IsPartList nodes xs → HasJust nat_cmp xs done → MayFollow nodes done i → IsPartList nodes (xs ++ i ∷ [])
list_more nodes xs done i it just next = record {
  in_range = All-push (λ j. j < length nodes) xs i it.in_range next.in_range;
  once = all_pairs_push (λ j k. j ≡ k → ⊥) xs i it.once (λ k d low same. next.new (there ((just i).1 (subst (Contains xs) same (Contains-get_or xs k d low)))));
  behind = λ k f low e. behind k f (below_or_more k (length xs)) low e;
}
  where
    there : IsTrue (contains nat_cmp done i) → Has done i
    there h = record { is = h }

    many : length (xs ++ i ∷ []) ≡ length xs + 1
    many = length-append xs (i ∷ [])

    behind : (k : ℕ) (f : TermForm) → (k < length xs) ⊎ ((j : ℕ) × (k ≡ length xs + j)) → k < length (xs ++ i ∷ []) → form_at nodes (get_or (xs ++ i ∷ []) k 0) ≡ Some f → HasPartsIn (Contains (take k (xs ++ i ∷ []))) f
    behind k f (inl before) low e =
        let same : get_or (xs ++ i ∷ []) k 0 ≡ get_or xs k 0 = get_or_append_left xs (i ∷ []) 0 k before in
        let front : take k (xs ++ i ∷ []) ≡ take k xs = take-append-le k xs (i ∷ []) (omega (arith, before)) in
        subst (λ (ys : List ℕ). HasPartsIn (Contains ys) f) (sym front) (it.behind k f before (subst (λ j. form_at nodes j ≡ Some f) same e))
    behind k f (inr (j, at)) low e =
        let last : k ≡ length xs = omega (arith, low, many, at) in
        let same : get_or (xs ++ i ∷ []) k 0 ≡ i = get_or_push xs i 0 k (sym last) in
        let front : take k (xs ++ i ∷ []) ≡ xs = take-append-le k xs (i ∷ []) (omega (arith, last)) ∙ take_all k xs (omega (arith, last)) in
        subst (λ (ys : List ℕ). HasPartsIn (Contains ys) f) (sym front)
        (parts_more (Has done) (Contains xs) (λ j h. (just j).0 h.is) f (next.parts f (subst (λ j. form_at nodes j ≡ Some f) same e)))
