-- The schemes of the parts of a node, taken one after another.
--     some_there, scheme_there     each part has a scheme
--     next_taken, not_taken        parts of a record in turn
--     other_item                   what is not changed stays
use Rattle.std.proofs.Common.{◌≡◌, ◌≢◌, ◌⊎◌, inl, inr, ℕ, zero, suc, ◌+◌, ◌<◌, List, [], ◌∷◌, ◌++◌, length, map, take, get_or, All, Contains, refl, sym, ap, ◌∙◌, subst, arith, Some, slice_get, slice_set}
use Rattle.std.specs.List.{AllPairs}
use Rattle.std.proofs.lemmas.List.{get_or-take, length-take-le, take_more}
use Rattle.std.proofs.lemmas.List.Elements.{All-head}
use Rattle.mls_automaton.specs.declared.scheme.Scheme.{Scheme}
use Rattle.mls_automaton.proofs.Lists.{Contains-cases}
use Rattle.mls_term.specs.declared.term.Part.{Part}
use Rattle.mls_term.specs.declared.term.TermForm.{TermForm}
use Rattle.mls_typing.proofs.Lists.{nothing_in}
use Rattle.mls_infer.specs.Finished.{Finished, Has, HasEach, child_of}
use Rattle.mls_infer.specs.Constraints.{HasStates}
use Rattle.mls_infer.specs.Finishing.{HasParts}
use Rattle.mls_infer.specs.Forms.{children}

each_some : (done : Finished) (is : List ℕ) (ss : List Scheme) (i : ℕ) → HasEach done is ss → Contains is i → (s : Scheme) × Has done i s × (All HasStates ss → HasStates s)
each_some done [] [] i each inside = absurd (nothing_in i inside)
each_some done [] (s ∷ ss) i each inside = absurd each
each_some done (j ∷ is) [] i each inside = absurd each
each_some done (j ∷ is) (s ∷ ss) i each inside = by_case (Contains-cases j is i inside) (each_some done is ss i each.1)
  where
    by_case : (j ≡ i) ⊎ Contains is i → (Contains is i → (t : Scheme) × Has done i t × (All HasStates ss → HasStates t)) → (t : Scheme) × Has done i t × (All HasStates (s ∷ ss) → HasStates t)
    by_case (inl same) later = let P : ℕ → Type 0 = λ i. Has done i s in (s, subst P same each.0, λ all. All-head HasStates s ss all)
    by_case (inr there) later = let it = later there in (it.0, it.1, λ all. it.2 (λ k d low. all (suc k) d (omega arith)))

pub one_scheme : (done : Finished) (i : ℕ) (s t : Scheme) → Has done i s → Has done i t → s ≡ t
one_scheme done i s t a b = let both : Some (Some s) ≡ Some (Some t) = sym a ∙ b in cc

module _ (node : TermForm) (done : Finished) (parts : HasParts node done) (i : ℕ) (inside : Contains (children node) i) where
  pub some_there : (s : Scheme) × Has done i s
  some_there = let it = each_some done (children node) parts.schemes i parts.each inside in (it.0, it.1)

  pub scheme_there : (s : Scheme) → Has done i s → HasStates s
  scheme_there s has = let it = each_some done (children node) parts.schemes i parts.each inside in subst HasStates (one_scheme done i it.0 s it.1 has) (it.2 parts.are)

-- one more was taken
pub next_taken : {X : Type 0} (xs : List X) (n : ℕ) (x : X) → n < length xs → get_or xs n x ≡ x → take (n + 1) xs ≡ take n xs ++ x ∷ []
next_taken xs n x low is = take_more xs n x low ∙ ap (λ x. take n xs ++ x ∷ []) is

module _ (cs : List ℕ) (n c : ℕ) (low : n < length cs) (is : get_or cs n c ≡ c) where
  pub child_inside : Contains cs c
  child_inside = (n, low, is)

  pub not_taken : AllPairs (λ i j. i ≢ j) cs → Contains (take n cs) c → ⊥
  not_taken pairs inside =
      let k : ℕ = inside.0 in
      let size : length (take n cs) ≡ n = length-take-le n cs (omega arith) in
      let below : k < length (take n cs) = inside.1 in
      pairs k n c (omega arith) low (sym (get_or-take n cs k c (omega arith)) ∙ (inside.2 ∙ sym is))

-- the root of a part
pub child_at : (parts : List Part) (i : ℕ) (part : Part) → i < length parts → get_or parts i part ≡ part → get_or (map child_of parts) i part.child ≡ part.child
child_at [] i part low is = absurd (omega arith)
child_at (x ∷ xs) zero part low is = ap child_of is
child_at (x ∷ xs) (suc i) part low is = child_at xs i part (omega arith) is

-- where one item of a list is changed, the others stay
pub other_item : {X : Type 0} (xs : List X) (i j : ℕ) (x : X) → j ≢ i → slice_get (slice_set xs i x) j ≡ slice_get xs j
other_item [] i j x apart = refl
other_item (y ∷ ys) zero zero x apart = absurd (apart refl)
other_item (y ∷ ys) zero (suc j) x apart = refl
other_item (y ∷ ys) (suc i) zero x apart = refl
other_item (y ∷ ys) (suc i) (suc j) x apart = other_item ys i j x (λ same. apart (ap suc same))
