-- Names that are inserted one after another: they are those at their first places, and keep their numbers.
use Rattle.std.proofs.Common.{◌≡◌, ℕ, suc, ◌+◌, Bool, true, false, not, ◌||◌, ◌&&◌, List, [], ◌∷◌, ◌++◌, refl, sym, ap, ◌∙◌, append-nil, arith}
use Rattle.std.specs.Prelude.{cond, bytes_eq, filter}
use Rattle.std.specs.List.{list_any, position_or_len}
use Rattle.std.proofs.lemmas.Cmp.{nat_list_eq_equiv}
use Rattle.std.proofs.lemmas.List.{append_assoc}
use Rattle.mls_typetext.specs.steps.Variables.{with_name}
use Rattle.mls_typetext.specs.Books.{is_in, place_in, first_places}
use Rattle.mls_typetext.proofs.FieldOrder.{bytes_eq-same, bytes_eq-self}

swap : (x y : List ℕ) → bytes_eq x y ≡ bytes_eq y x
swap x y = nat_list_eq_equiv.symm x y

-- names with further names, each inserted once
abbrev pub added : List (List ℕ) → List (List ℕ) → List (List ℕ)
added ns [] = ns
added ns (x ∷ xs) = added (with_name ns x) xs

pub added-append : (ns xs ys : List (List ℕ)) → added ns (xs ++ ys) ≡ added (added ns xs) ys
added-append ns [] ys = refl
added-append ns (x ∷ xs) ys = added-append (with_name ns x) xs ys

-- the second list begins with the first
pub record Begins (ns vars : List (List ℕ)) : Type 0 where
  pub more : List (List ℕ)
  pub is : vars ≡ ns ++ more

pub begins-self : (ns : List (List ℕ)) → Begins ns ns
begins-self ns = record { more = []; is = sym (append-nil ns) }

begins-insert : (x : List ℕ) (ns vars : List (List ℕ)) → Begins (with_name ns x) vars → Begins ns vars
begins-insert x ns vars = go (list_any (bytes_eq x) ns)
  where
    go : (b : Bool) → Begins (cond b ns (ns ++ x ∷ [])) vars → Begins ns vars
    go true it = it
    go false it = record { more = x ∷ it.more; is = it.is ∙ append_assoc ns (x ∷ []) it.more }

pub begins-added : (xs ns vars : List (List ℕ)) → Begins (added ns xs) vars → Begins ns vars
begins-added [] ns vars it = it
begins-added (x ∷ xs) ns vars it = begins-insert x ns vars (begins-added xs (with_name ns x) vars it)

-- the number of a name is its place
any-is_in : (x : List ℕ) (ns : List (List ℕ)) → list_any (bytes_eq x) ns ≡ is_in ns x
any-is_in x [] = refl
any-is_in x (y ∷ ns) = go (bytes_eq x y) (bytes_eq y x) (swap x y) (any-is_in x ns)
  where
    go : (b c : Bool) → b ≡ c → list_any (bytes_eq x) ns ≡ is_in ns x → (b || list_any (bytes_eq x) ns) ≡ cond c true (is_in ns x)
    go true true e later = refl
    go true false e later = absurd (cc)
    go false true e later = absurd (cc)
    go false false e later = later

position-place_in : (x : List ℕ) (ns : List (List ℕ)) → position_or_len (bytes_eq x) ns ≡ place_in ns x
position-place_in x [] = refl
position-place_in x (y ∷ ns) = go (bytes_eq x y) (bytes_eq y x) (swap x y) (position-place_in x ns)
  where
    go : (b c : Bool) → b ≡ c → position_or_len (bytes_eq x) ns ≡ place_in ns x → cond (not b) (1 + position_or_len (bytes_eq x) ns) 0 ≡ cond c 0 (suc (place_in ns x))
    go true true e later = refl
    go true false e later = absurd (cc)
    go false true e later = absurd (cc)
    go false false e later = omega (arith, later)

-- a name keeps its place where names are added behind it
place_in-append : (x : List ℕ) (ns more : List (List ℕ)) → is_in ns x ≡ true → place_in (ns ++ more) x ≡ place_in ns x
place_in-append x [] more e = absurd (cc)
place_in-append x (y ∷ ns) more e =
    elim (bytes_eq y x) as (λ b. cond b true (is_in ns x) ≡ true → cond b 0 (suc (place_in (ns ++ more) x)) ≡ cond b 0 (suc (place_in ns x))) [
      | true ↦ λ e. refl
      | false ↦ λ e. ap suc (place_in-append x ns more e)
    ] e

-- and a new one has the next place
place_in-end : (x : List ℕ) (ns : List (List ℕ)) → place_in (ns ++ x ∷ []) x ≡ place_in ns x
place_in-end x [] = ap (λ b. cond b 0 1) (bytes_eq-self x)
place_in-end x (y ∷ ns) = ap (λ n. cond (bytes_eq y x) 0 (suc n)) (place_in-end x ns)

is_in-end : (x : List ℕ) (ns : List (List ℕ)) → is_in (ns ++ x ∷ []) x ≡ true
is_in-end x [] = ap (λ b. cond b true false) (bytes_eq-self x)
is_in-end x (y ∷ ns) =
    elim (bytes_eq y x) as (λ b. cond b true (is_in (ns ++ x ∷ []) x) ≡ true) [
      | true ↦ refl
      | false ↦ is_in-end x ns
    ]

pub number-is : (x : List ℕ) (ns vars : List (List ℕ)) → Begins (with_name ns x) vars → position_or_len (bytes_eq x) ns ≡ place_in vars x
number-is x ns vars it = position-place_in x ns ∙ go (list_any (bytes_eq x) ns) (any-is_in x ns) it
  where
    go : (b : Bool) → b ≡ is_in ns x → Begins (cond b ns (ns ++ x ∷ [])) vars → place_in ns x ≡ place_in vars x
    go true e it = sym (ap (λ ns. place_in ns x) it.is ∙ place_in-append x ns it.more (sym e))
    go false e it = sym (ap (λ ns. place_in ns x) it.is ∙ (place_in-append x (ns ++ x ∷ []) it.more (is_in-end x ns) ∙ place_in-end x ns))

-- a filter after a filter
fused : (p q r : List ℕ → Bool) → ((y : List ℕ) → r y ≡ (q y && p y)) → (ys : List (List ℕ)) → filter r ys ≡ filter p (filter q ys)
fused p q r is [] = refl
fused p q r is (y ∷ ys) = ap (λ b. cond b (y ∷ filter r ys) (filter r ys)) (is y) ∙ go (q y) (p y) refl (fused p q r is ys)
  where
    go : (b c : Bool) → p y ≡ c → filter r ys ≡ filter p (filter q ys) → cond (b && c) (y ∷ filter r ys) (filter r ys) ≡ filter p (cond b (y ∷ filter q ys) (filter q ys))
    go true true e later = ap (λ zs. y ∷ zs) later ∙ ap (λ b. cond b (y ∷ filter p (filter q ys)) (filter p (filter q ys))) (sym e)
    go true false e later = later ∙ ap (λ b. cond b (y ∷ filter p (filter q ys)) (filter p (filter q ys))) (sym e)
    go false c e later = later

abbrev is_new : List (List ℕ) → List ℕ → Bool
is_new ns y = not (is_in ns y)

abbrev is_other : List ℕ → List ℕ → Bool
is_other x y = not (bytes_eq y x)

new-other : (x : List ℕ) (ns : List (List ℕ)) → is_in ns x ≡ true → (y : List ℕ) → is_new ns y ≡ (is_other x y && is_new ns y)
new-other x ns there y = go (bytes_eq y x) refl
  where
    go : (b : Bool) → bytes_eq y x ≡ b → is_new ns y ≡ (not b && is_new ns y)
    go true e = ap (λ z. not (is_in ns z)) (bytes_eq-same y x e) ∙ ap not there
    go false e = refl

new-end : (x : List ℕ) (ns : List (List ℕ)) (y : List ℕ) → is_new (ns ++ x ∷ []) y ≡ (is_other x y && is_new ns y)
new-end x [] y = go (bytes_eq x y) (bytes_eq y x) (swap x y)
  where
    go : (b c : Bool) → b ≡ c → not (cond b true false) ≡ (not c && true)
    go true true e = refl
    go true false e = absurd (cc)
    go false true e = absurd (cc)
    go false false e = refl
new-end x (z ∷ ns) y = go (bytes_eq z y) (new-end x ns y)
  where
    nothing : (b : Bool) → false ≡ (b && false)
    nothing true = refl
    nothing false = refl

    go : (b : Bool) → is_new (ns ++ x ∷ []) y ≡ (is_other x y && is_new ns y) → not (cond b true (is_in (ns ++ x ∷ []) y)) ≡ (is_other x y && not (cond b true (is_in ns y)))
    go true later = nothing (is_other x y)
    go false later = later

added-new : (xs ns : List (List ℕ)) → added ns xs ≡ ns ++ filter (is_new ns) (first_places xs)
added-new [] ns = sym (append-nil ns)
added-new (x ∷ xs) ns = go (list_any (bytes_eq x) ns) (any-is_in x ns) (added-new xs)
  where
    P : List (List ℕ)
    P = first_places xs

    go : (b : Bool) → b ≡ is_in ns x → ((ns : List (List ℕ)) → added ns xs ≡ ns ++ filter (is_new ns) P)
        → added (cond b ns (ns ++ x ∷ [])) xs ≡ ns ++ cond (not (is_in ns x)) (x ∷ filter (is_new ns) (filter (is_other x) P)) (filter (is_new ns) (filter (is_other x) P))
    go true e later =
        later ns
        ∙ (ap (λ ys. ns ++ ys) (fused (is_new ns) (is_other x) (is_new ns) (new-other x ns (sym e)) P)
        ∙ ap (λ b. ns ++ cond (not b) (x ∷ filter (is_new ns) (filter (is_other x) P)) (filter (is_new ns) (filter (is_other x) P))) e)
    go false e later =
        later (ns ++ x ∷ [])
        ∙ (ap (λ ys. (ns ++ x ∷ []) ++ ys) (fused (is_new ns) (is_other x) (is_new (ns ++ x ∷ [])) (new-end x ns) P)
        ∙ (append_assoc ns (x ∷ []) (filter (is_new ns) (filter (is_other x) P))
        ∙ ap (λ b. ns ++ cond (not b) (x ∷ filter (is_new ns) (filter (is_other x) P)) (filter (is_new ns) (filter (is_other x) P))) e))

all-kept : (xs : List (List ℕ)) → filter (is_new []) xs ≡ xs
all-kept [] = refl
all-kept (x ∷ xs) = ap (λ ys. x ∷ ys) (all-kept xs)

pub added-first_places : (xs : List (List ℕ)) → added [] xs ≡ first_places xs
added-first_places xs = added-new xs [] ∙ all-kept (first_places xs)
