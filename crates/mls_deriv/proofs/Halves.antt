-- The first entry with a key, by a search by halves among entries whose keys rise.
--     keys_rise     the answers of the search rise
--     found         an entry that the search found is the first with its key
--     lacking       where it found none, there is none
use Rattle.std.proofs.Common.{◌≡◌, ◌⊎◌, inl, inr, ℕ, zero, suc, ◌<◌, ◌≤◌, Bool, true, false, List, [], ◌∷◌, refl, sym, ap, subst, arith, length, get_or, Some, None, Decides}
use Rattle.std.specs.Prelude.{cond, find}
use Rattle.std.specs.Ordering.{ordering_index, ordering_reverse}
use Rattle.std.specs.declared.cmp.Ordering.{Ordering}
use Rattle.std.specs.declared.cmp.Ordering.TheVariants.{Less, Equal, Greater}
use Rattle.std.specs.List.Sorted.{IsNonDecreasingBy, IsPartitionPoint}
use Rattle.std.proofs.lemmas.Bool.{cases_eq, cases_lt}
use Rattle.std.specs.Cmp.{IsTotalOrder}

-- the first entry that passes
find_at : {X : Type 0} (p : X → Bool) (xs : List X) (i : ℕ) (x : X) → i < length xs → x ≡ get_or xs i x → p x ≡ true
    → ((j : ℕ) → j < i → p (get_or xs j x) ≡ false) → find p xs ≡ Some x
find_at p [] i x low is passes before = absurd (omega arith)
find_at p (y ∷ rest) zero x low is passes before = cc
find_at {X} p (y ∷ rest) (suc i) x low is passes before =
    let first : p y ≡ false = before 0 (omega arith) in
    subst (λ b. cond b (Some y) (find p rest) ≡ Some x) (sym first)
    (find_at p rest i x (omega arith) is passes (λ j lower. before (suc j) (omega arith)))

-- none passes
find_none : {X : Type 0} (p : X → Bool) (xs : List X) → ((j : ℕ) (d : X) → j < length xs → p (get_or xs j d) ≡ false) → find p xs ≡ None
find_none p [] none = refl
find_none p (y ∷ rest) none =
    subst (λ b. cond b (Some y) (find p rest) ≡ None) (sym (none 0 y (omega arith))) (find_none p rest (λ j d low. none (suc j) d (omega arith)))

module _ {X K : Type 0} (key : X → K) (compare : K → K → Ordering) (total : IsTotalOrder compare) (same : K → K → Bool)
    (decides : (a b : K) → Decides (same a b) (a ≡ b)) (ties : (a b : K) → compare a b ≡ Equal → a ≡ b) (xs : List X)
    (rising : (i j : ℕ) (d : X) → i < j → j < length xs → compare (key (get_or xs i d)) (key (get_or xs j d)) ≡ Less) (k : K) where
  answers_rise : (x y : K) → compare x y ≡ Less → (o : Ordering) → compare x k ≡ o → (o' : Ordering) → compare y k ≡ o' → ordering_index o ≤ ordering_index o'
  answers_rise x y less Less e o' e' = omega arith
  answers_rise x y less Equal e Less e' = let below : compare x k ≡ Less = total.trans x y k less e' in absurd (cc)
  answers_rise x y less Equal e Equal e' = omega arith
  answers_rise x y less Equal e Greater e' = omega arith
  answers_rise x y less Greater e Less e' = let below : compare x k ≡ Less = total.trans x y k less e' in absurd (cc)
  answers_rise x y less Greater e Equal e' = let below : compare x k ≡ Less = subst (λ l. compare x l ≡ Less) (ties y k e') less in absurd (cc)
  answers_rise x y less Greater e Greater e' = omega arith

  tied_itself : (o : Ordering) → o ≡ ordering_reverse o → o ≡ Equal
  tied_itself Less e = absurd (cc)
  tied_itself Equal e = refl
  tied_itself Greater e = absurd (cc)

  itself : compare k k ≡ Equal
  itself = tied_itself (compare k k) (total.antisymm k k)

  pub keys_rise : IsNonDecreasingBy (λ x. ordering_index (compare (key x) k)) xs
  keys_rise i j d le low = go (cases_eq i j)
    where
      strict : (i ≡ j → ⊥) → i < j
      strict other = elim (cases_lt i j) [ inl low' ↦ low' | inr high ↦ absurd (other (omega arith)) ]

      go : (i ≡ j) ⊎ (i ≡ j → ⊥) → ordering_index (compare (key (get_or xs i d)) k) ≤ ordering_index (compare (key (get_or xs j d)) k)
      go (inl is) = let e : ordering_index (compare (key (get_or xs i d)) k) ≡ ordering_index (compare (key (get_or xs j d)) k) = ap (λ n. ordering_index (compare (key (get_or xs n d)) k)) is in omega arith
      go (inr other) = answers_rise (key (get_or xs i d)) (key (get_or xs j d)) (rising i j d (strict other) low) _ refl _ refl

  -- a key that is less or greater is another one
  other_key : (x : X) → (compare (key x) k ≡ Less) ⊎ (compare (key x) k ≡ Greater) → (b : Bool) → same (key x) k ≡ b → b ≡ false
  other_key x where_it false e = refl
  other_key x (inl less) true e = let tie : compare (key x) k ≡ Equal = subst (λ l. compare l k ≡ Equal) (sym ((decides (key x) k).0 e)) itself in absurd (cc)
  other_key x (inr greater) true e = let tie : compare (key x) k ≡ Equal = subst (λ l. compare l k ≡ Equal) (sym ((decides (key x) k).0 e)) itself in absurd (cc)

  pub found : (i : ℕ) (x : X) → i < length xs → x ≡ get_or xs i x → compare (key x) k ≡ Equal → find (λ y. same (key y) k) xs ≡ Some x
  found i x low is e =
      find_at (λ y. same (key y) k) xs i x low is ((decides (key x) k).1 (ties (key x) k e))
      (λ j before. other_key (get_or xs j x) (inl (subst (λ l. compare (key (get_or xs j x)) l ≡ Less) (ties (key x) k e)
      (subst (λ y. compare (key (get_or xs j x)) (key y) ≡ Less) (sym is) (rising j i x before low)))) _ refl)

  pub lacking : (i : ℕ) → IsPartitionPoint (λ y. compare (key y) k ≡ Less) (λ y. compare (key y) k ≡ Greater) xs i → find (λ y. same (key y) k) xs ≡ None
  lacking i split = find_none (λ y. same (key y) k) xs (λ j d low. other_key (get_or xs j d) (side j d low) _ refl)
    where
      side : (j : ℕ) (d : X) → j < length xs → (compare (key (get_or xs j d)) k ≡ Less) ⊎ (compare (key (get_or xs j d)) k ≡ Greater)
      side j d low = elim (cases_lt j i) [
        | inl before ↦ inl (split.0 j d (omega arith) before)
        | inr behind ↦ inr (split.1 j d (omega arith) low)
      ]
