-- A map with one key more.
--     updated_at          the value of a key after it
--     updated_own         that of the key
--     updated_other       that of another key
use Rattle.std.proofs.Common.{◌≡◌, ◌≢◌, ◌⊎◌, inl, inr, ℕ, Bool, true, false, cond, refl, sym, ◌∙◌, subst, Some}
use Rattle.std.specs.BTreeMap.{BTreeMap, Updates, get}
use Rattle.std.specs.Ordering.{nat_cmp, is_eq}
use Rattle.mls_layout.proofs.KeySets.{number_same, number_self}

module _ {A : Type 0} (old new : BTreeMap ℕ A) (k : ℕ) (v : A) (updates : Updates nat_cmp old new k (Some v)) where
  pub updated_at : (q : ℕ) → ((k ≡ q) × (get nat_cmp new q ≡ Some v)) ⊎ ((k ≡ q → ⊥) × (get nat_cmp new q ≡ get nat_cmp old q))
  updated_at q = go (is_eq (nat_cmp k q)) refl
    where
      go : (b : Bool) → is_eq (nat_cmp k q) ≡ b → ((k ≡ q) × (get nat_cmp new q ≡ Some v)) ⊎ ((k ≡ q → ⊥) × (get nat_cmp new q ≡ get nat_cmp old q))
      go true same = inl (number_same k q same, updates.0 q ∙ (λ i. cond (same i) (Some v) (get nat_cmp old q)))
      go false other = inr (
        (λ same. absurd (let wrong : is_eq (nat_cmp k q) ≡ true = subst (λ x. is_eq (nat_cmp k x) ≡ true) same (number_self k) in cc)),
        updates.0 q ∙ (λ i. cond (other i) (Some v) (get nat_cmp old q)),
      )

  pub updated_own : get nat_cmp new k ≡ Some v
  updated_own = let e : is_eq (nat_cmp k k) ≡ true = number_self k in updates.0 k ∙ (λ i. cond (e i) (Some v) (get nat_cmp old k))

  pub updated_other : (q : ℕ) → (q ≢ k) → get nat_cmp new q ≡ get nat_cmp old q
  updated_other q apart = elim (updated_at q) [
    | inl here ↦ absurd (apart (sym here.0))
    | inr other ↦ other.1
  ]
