-- A stable sort by labels puts fields in their order.
use denote.Param.Members.{Mut}
use denote.Ref.{Bor}
use Rattle.std.proofs.Common.{◌≡◌, ℕ, suc, ◌<◌, ◌≤◌, Bool, true, false, List, [], ◌∷◌, length, get_or, refl, sym, ap, ◌∙◌, subst, arith}
use Rattle.std.specs.Prelude.{cond, filter, not, ◌&&◌}
use Rattle.std.specs.Ordering.{nat_cmp, is_lt, ordering_reverse}
use Rattle.std.specs.declared.cmp.Ordering.{Ordering}
use Rattle.std.specs.declared.cmp.Ordering.TheVariants.{Less, Equal, Greater}
use Rattle.std.specs.Cmp.{IsStrictWeakOrder}
use Rattle.std.specs.Cmp.Lexicographic.{slice_cmp}
use Rattle.std.specs.Fn.{Called, ComparesAs}
use Rattle.std.specs.List.Sorted.{IsSortedBy, IsSortedByClosure, IsStableBy, IsStableByClosure, ties}
use Rattle.std.proofs.lemmas.Fn.{always_returns_same}
use Rattle.std.proofs.lemmas.Cmp.{nat_list_cmp_total}
use Rattle.std.proofs.lemmas.List.Sorted.{sorted_far, ranks_by}
use Rattle.mls_book.specs.declared.book.Field.{Field}
use Rattle.mls_typetext.specs.Books.{placed_by, placed}
use Rattle.mls_typetext.specs.steps.Laying.{in_order}

module _ {X : Type 0} (lt : X → X → Bool) (order : IsStrictWeakOrder lt) where
  -- no element of the list is less than this one
  abbrev pub IsLow : X → List X → Type 0
  IsLow x [] = Unit {0}
  IsLow x (y ∷ ys) = (lt y x ≡ false) × IsLow x ys

  abbrev pub IsUp : List X → Type 0
  IsUp [] = Unit {0}
  IsUp (x ∷ xs) = IsLow x xs × IsUp xs

  low_of : (x : X) (xs : List X) → ((k : ℕ) → k < length xs → lt (get_or xs k x) x ≡ false) → IsLow x xs
  low_of x [] h = tt
  low_of x (y ∷ ys) h = (h 0 (omega arith), low_of x ys (λ k p. h (suc k) (omega arith)))

  up_of : (xs : List X) → ((i j : ℕ) (d : X) → i ≤ j → j < length xs → lt (get_or xs j d) (get_or xs i d) ≡ false) → IsUp xs
  up_of [] h = tt
  up_of (x ∷ xs) h = (low_of x xs (λ k p. h 0 (suc k) x (omega arith) (omega arith)), up_of xs (λ i j d p q. h (suc i) (suc j) d (omega arith) (omega arith)))

  pub sorted-up : (xs : List X) → IsSortedBy lt xs → IsUp xs
  sorted-up xs sorted = up_of xs (sorted_far lt order xs sorted)

  low-more : (x y : X) (ys : List X) → lt y x ≡ false → IsLow y ys → IsLow x ys
  low-more x y [] e low = tt
  low-more x y (z ∷ ys) e low = (order.chain z y x low.0 e, low-more x y ys e low.1)

  -- an element that is kept is in the list
  kept-low : (t : X → Bool) (x y : X) (rest ys : List X) → IsLow y ys → filter t ys ≡ x ∷ rest → lt x y ≡ false
  kept-low t x y rest [] low e = absurd (cc)
  kept-low t x y rest (z ∷ ys) low e = go (t z) (kept-low t x y rest ys low.1) e
    where
      go : (b : Bool) → (filter t ys ≡ x ∷ rest → lt x y ≡ false) → cond b (z ∷ filter t ys) (filter t ys) ≡ x ∷ rest → lt x y ≡ false
      go true later e = let same : z ≡ x = cc in subst (λ (w : X). lt w y ≡ false) same low.0
      go false later e = later e

  not_less : (x : X) → lt x x ≡ false
  not_less x = go (lt x x) refl
    where
      go : (b : Bool) → lt x x ≡ b → lt x x ≡ false
      go true e = order.one_way x x e
      go false e = e

  tied : (x y : X) → lt x y ≡ false → lt y x ≡ false → ties lt x y ≡ true
  tied x y e e' = λ i. not (e i) && not (e' i)

  -- an element with those that tie with it
  with_self : (x : X) (xs : List X) → filter (ties lt x) (x ∷ xs) ≡ x ∷ filter (ties lt x) xs
  with_self x xs = ap (λ b. cond b (x ∷ filter (ties lt x) xs) (filter (ties lt x) xs)) (tied x x (not_less x) (not_less x))

  without_first : (b : Bool) (x : X) (us vs : List X) → cond b (x ∷ us) us ≡ cond b (x ∷ vs) vs → us ≡ vs
  without_first true x us vs e = cc
  without_first false x us vs e = e

  -- a list in order is known by its elements that tie, for each element in their order
  pub one_order : (xs ys : List X) → IsUp xs → IsUp ys → IsStableBy lt xs ys → ys ≡ xs
  one_order [] [] up up' stable = refl
  one_order [] (y ∷ ys) up up' stable = let e : y ∷ filter (ties lt y) ys ≡ [] = sym (with_self y ys) ∙ stable y in absurd (cc)
  one_order (x ∷ xs) [] up up' stable = let e : [] ≡ x ∷ filter (ties lt x) xs = stable x ∙ with_self x xs in absurd (cc)
  one_order (x ∷ xs) (y ∷ ys) up up' stable =
      let low : lt x y ≡ false = kept-low (ties lt x) x y (filter (ties lt x) xs) (y ∷ ys) (not_less y, up'.0) (stable x ∙ with_self x xs) in
      let low' : lt y x ≡ false = kept-low (ties lt y) y x (filter (ties lt y) ys) (x ∷ xs) (not_less x, up.0) (sym (stable y) ∙ with_self y ys) in
      let first : y ∷ filter (ties lt x) ys ≡ x ∷ filter (ties lt x) xs =
      ap (λ b. cond b (y ∷ filter (ties lt x) ys) (filter (ties lt x) ys)) (sym (tied x y low low')) ∙ (stable x ∙ with_self x xs) in
      let same : y ≡ x = cc in
      let rest : ys ≡ xs = one_order xs ys up.1 up'.1 (λ z. without_first (ties lt z x) x (filter (ties lt z) ys) (filter (ties lt z) xs)
      (ap (λ w. filter (ties lt z) (w ∷ ys)) (sym same) ∙ stable z)) in
      λ i. same i ∷ rest i

abbrev pub is_less : Field → Field → Bool
is_less x y = is_lt (slice_cmp nat_cmp x.label y.label)

pub less_order : IsStrictWeakOrder is_less
less_order = ranks_by nat_list_cmp_total (λ (f : Field). f.label)

swapped : (x y : Field) (o : Ordering) → slice_cmp nat_cmp x.label y.label ≡ o → slice_cmp nat_cmp y.label x.label ≡ ordering_reverse o
swapped x y o e = nat_list_cmp_total.antisymm y.label x.label ∙ ap ordering_reverse e

low-placed : (x field : Field) (fields : List Field) → is_less field x ≡ false → IsLow is_less less_order x fields → IsLow is_less less_order x (placed field fields)
unfolding placed
low-placed x field [] e low = (e, tt)
low-placed x field (first ∷ rest) e low = go (slice_cmp nat_cmp field.label first.label) (low-placed x field rest e low.1)
  where
    go : (o : Ordering) → IsLow is_less less_order x (placed field rest) → IsLow is_less less_order x (placed_by o field first rest (placed field rest))
    go Less later = (e, low)
    go Equal later = (e, low)
    go Greater later = (low.0, later)

up-placed : (field : Field) (fields : List Field) → IsUp is_less less_order fields → IsUp is_less less_order (placed field fields)
unfolding placed
up-placed field [] up = (tt, tt)
up-placed field (first ∷ rest) up = go (slice_cmp nat_cmp field.label first.label) refl (up-placed field rest up.1)
  where
    before : is_less first field ≡ false → IsUp is_less less_order (field ∷ first ∷ rest)
    before e = ((e, low-more is_less less_order field first rest e up.0), up)

    go : (o : Ordering) → slice_cmp nat_cmp field.label first.label ≡ o → IsUp is_less less_order (placed field rest) → IsUp is_less less_order (placed_by o field first rest (placed field rest))
    go Less e later = before (ap is_lt (swapped field first Less e))
    go Equal e later = before (ap is_lt (swapped field first Equal e))
    go Greater e later = (low-placed first field rest (ap is_lt e) up.0, later)

past : {A : Type 0} (b c : Bool) (x y : A) (fs : List A) → (b ≡ true → c ≡ true → ⊥) → cond b (x ∷ cond c (y ∷ fs) fs) (cond c (y ∷ fs) fs) ≡ cond c (y ∷ cond b (x ∷ fs) fs) (cond b (x ∷ fs) fs)
past true true x y fs unlike = absurd (unlike refl refl)
past true false x y fs unlike = refl
past false true x y fs unlike = refl
past false false x y fs unlike = refl

neither : (b c : Bool) → not b && not c ≡ true → (b ≡ false) × (c ≡ false)
neither true c e = absurd (cc)
neither false true e = absurd (cc)
neither false false e = (refl, refl)

stable-placed : (x field : Field) (fields : List Field) → filter (ties is_less x) (placed field fields) ≡ filter (ties is_less x) (field ∷ fields)
unfolding placed
stable-placed x field [] = refl
stable-placed x field (first ∷ rest) = go (slice_cmp nat_cmp field.label first.label) refl (stable-placed x field rest)
  where
    t : Field → Bool
    t = ties is_less x

    unlike : slice_cmp nat_cmp field.label first.label ≡ Greater → t first ≡ true → t field ≡ true → ⊥
    unlike e one other =
        let low : is_less first field ≡ false = less_order.chain first x field (neither _ _ one).1 (neither _ _ other).0 in
        let less : is_less first field ≡ true = ap is_lt (swapped field first Greater e) in
        absurd (cc)

    go : (o : Ordering) → slice_cmp nat_cmp field.label first.label ≡ o → filter t (placed field rest) ≡ filter t (field ∷ rest) → filter t (placed_by o field first rest (placed field rest)) ≡ filter t (field ∷ first ∷ rest)
    go Less e later = refl
    go Equal e later = refl
    go Greater e later =
        ap (λ fs. cond (t first) (first ∷ fs) fs) later
        ∙ past (t first) (t field) first field (filter t rest) (unlike e)

in_order-up : (fields : List Field) → IsUp is_less less_order (in_order fields)
unfolding in_order
in_order-up [] = tt
in_order-up (field ∷ fields) = up-placed field (in_order fields) (in_order-up fields)

in_order-stable : (x : Field) (fields : List Field) → filter (ties is_less x) (in_order fields) ≡ filter (ties is_less x) fields
unfolding in_order
in_order-stable x [] = refl
in_order-stable x (field ∷ fields) = stable-placed x field (in_order fields) ∙ ap (λ fs. cond (ties is_less x field) (field ∷ fs) fs) (in_order-stable x fields)

pub sorted-in_order : (fields sorted : List Field) → IsSortedBy is_less sorted → IsStableBy is_less fields sorted → sorted ≡ in_order fields
sorted-in_order fields sorted up stable =
    one_order is_less less_order (in_order fields) sorted (in_order-up fields) (sorted-up is_less less_order sorted up)
    (λ x. stable x ∙ sym (in_order-stable x fields))

-- and so does a sort by a closure that compares labels
pub sort-by-labels : {F : Type 0} {g : Mut F (Bor Field × (Bor Field × Unit {0})) Ordering} {f : F} (fields sorted : List Field)
    → IsSortedByClosure g f sorted → IsStableByClosure g f fields sorted
    → ((a : Bor Field × (Bor Field × Unit {0})) (r : Ordering) (f' : F) → Called g f a r f' → (r ≡ slice_cmp nat_cmp a.0.now.label a.1.0.now.label) × (f' ≡ f))
    → sorted ≡ in_order fields
sort-by-labels {g = g} {f = f} fields sorted up stable h =
    let compares : ComparesAs g is_less f = always_returns_same g (λ a r. is_lt r ≡ is_less a.0.now a.1.0.now) f (λ a r f' k. (ap is_lt (h a r f' k).0, (h a r f' k).1)) in
    sorted-in_order fields sorted (up is_less less_order compares) (stable is_less less_order compares)
