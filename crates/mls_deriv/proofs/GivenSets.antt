-- Sets of numbers beside lists of them.
use Rattle.std.proofs.Common.{◌≡◌, ℕ, zero, suc, ◌<◌, Bool, true, false, List, ◌∷◌, length, get_or, refl, sym, ◌∙◌, subst, arith, cond}
use Rattle.std.specs.Prelude.{IsTrue, Contains, ◌↔◌, Option, Some, None, option_map}
use Rattle.std.specs.BTreeSet.{BTreeSet, contains, Updates}
use Rattle.std.specs.Ordering.{nat_cmp, is_eq, MatchOrdering}
use Rattle.std.specs.declared.cmp.Ordering.{Ordering}
use Rattle.std.specs.declared.cmp.Ordering.TheVariants.{Less, Equal, Greater}
use Rattle.std.proofs.lemmas.Cmp.{ranked}
use Rattle.mls_deriv.specs.inner.GivenLines.{Holds, Puts}

-- numbers are equal where they compare so
equal_at : (x y : ℕ) (o : Ordering) → MatchOrdering o (x < y) (x ≡ y) (y < x) → (is_eq o ≡ true → x ≡ y) × (x ≡ y → is_eq o ≡ true)
equal_at x y Less h = (λ t. absurd (cc), λ same. let low : x < y = h in absurd (omega arith))
equal_at x y Equal h = (λ t. h, λ same. refl)
equal_at x y Greater h = (λ t. absurd (cc), λ same. let low : y < x = h in absurd (omega arith))

-- a list with one number more
contains_first : (x : ℕ) (xs : List ℕ) (y : ℕ) → x ≡ y → Contains (x ∷ xs) y
contains_first x xs y e = (0, omega arith, e)

contains_rest : (x : ℕ) (xs : List ℕ) (y : ℕ) → Contains xs y → Contains (x ∷ xs) y
contains_rest x xs y c = let low : c.0 < length xs = c.1 in (suc c.0, omega arith, c.2)

contains_other : (x : ℕ) (xs : List ℕ) (y k : ℕ) → (x ≡ y → ⊥) → k < suc (length xs) → get_or (x ∷ xs) k y ≡ y → Contains xs y
contains_other x xs y zero ne low e = absurd (ne e)
contains_other x xs y (suc k) ne low e = (k, omega arith, e)

pub holds_more : (xs : List ℕ) (old new : BTreeSet ℕ) (x : ℕ) → Holds xs old → Updates nat_cmp old new x true → Holds (x ∷ xs) new
holds_more xs old new x has updates y =
    let same : contains nat_cmp new y ≡ cond (is_eq (nat_cmp x y)) true (contains nat_cmp old y) = updates.0 y in
    go (is_eq (nat_cmp x y)) refl same
  where
    tells : (is_eq (nat_cmp x y) ≡ true → x ≡ y) × (x ≡ y → is_eq (nat_cmp x y) ≡ true)
    tells = equal_at x y (nat_cmp x y) (ranked x y (nat_cmp x y) refl)

    go : (b : Bool) → is_eq (nat_cmp x y) ≡ b → contains nat_cmp new y ≡ cond b true (contains nat_cmp old y) → IsTrue (contains nat_cmp new y) ↔ Contains (x ∷ xs) y
    go true e same = (λ h. contains_first x xs y (tells.0 e), λ c. same)
    go false e same =
        let ne : x ≡ y → ⊥ = λ w. let yes' : is_eq (nat_cmp x y) ≡ true = tells.1 w in absurd (cc) in
        (λ h. contains_rest x xs y ((has y).0 (sym same ∙ h)), λ c. same ∙ (has y).1 (contains_other x xs y c.0 ne c.1 c.2))

pub puts_more : (o : Option (List ℕ)) (held : Option (BTreeSet ℕ)) (old new : BTreeSet ℕ) (x : ℕ) → Puts o held → held ≡ Some old → Updates nat_cmp old new x true → Puts (option_map (λ xs. x ∷ xs) o) (Some new)
puts_more None held old new x has e updates = let wrong : Puts None (Some old) = subst (Puts None) e has in absurd wrong
puts_more (Some xs) held old new x has e updates = let both : Puts (Some xs) (Some old) = subst (Puts (Some xs)) e has in holds_more xs old new x both updates
