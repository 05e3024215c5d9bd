-- The highest node of an environment.
--     top_low      it decides whether all nodes are below a number
use Rattle.std.proofs.Common.{◌≡◌, ◌↔◌, ◌⊎◌, inl, inr, ℕ, zero, suc, ◌<◌, ◌≤◌, Bool, true, false, List, [], ◌∷◌, length, refl, sym, ◌∙◌, arith, cond, nat_lt}
use Rattle.std.specs.Prelude.{IsTrue}
use Rattle.std.proofs.lemmas.Bool.{cases_lt}
use Rattle.std.proofs.lemmas.Bool.Decides.{Decides-ltb}
use Rattle.mls_deriv.specs.declared.derivation.BinderNode.{BinderNode}
use Rattle.mls_deriv.specs.inner.Rules.{AreLow}
use Rattle.mls_deriv.specs.inner.Environments.{higher, top_node}

-- the higher of two is one of them, and above both
higher_cases : (m n : ℕ) → ((m < n) × (higher m n ≡ n)) ⊎ ((n ≤ m) × (higher m n ≡ m))
higher_cases m n = go (nat_lt m n) refl
  where
    go : (b : Bool) → nat_lt m n ≡ b → ((m < n) × (cond b n m ≡ n)) ⊎ ((n ≤ m) × (cond b n m ≡ m))
    go true e = inl ((Decides-ltb m n).0 e, refl)
    go false e = inr (
      elim (cases_lt m n) [
        | inl low ↦ absurd (let yes : nat_lt m n ≡ true = (Decides-ltb m n).1 low in let no : true ≡ false = sym yes ∙ e in cc)
        | inr high ↦ high
      ],
      refl,
    )

abbrev Cases : ℕ → ℕ → Type 0
Cases m n = ((m < n) × (higher m n ≡ n)) ⊎ ((n ≤ m) × (higher m n ≡ m))

-- all are below a number exactly if the highest is
below : (env : List BinderNode) (n : ℕ) → 0 < n → (top_node env < n) ↔ AreLow n env
below [] n some = (λ low k d no. absurd (omega arith), λ all. some)
below (e ∷ rest) n some = (to (higher_cases e.node.0 (top_node rest)) (below rest n some), from (higher_cases e.node.0 (top_node rest)) (below rest n some))
  where
    all_of : e.node.0 < n → AreLow n rest → AreLow n (e ∷ rest)
    all_of first later zero d low = first
    all_of first later (suc k) d low = later k d (omega arith)

    to : Cases e.node.0 (top_node rest) → ((top_node rest < n) ↔ AreLow n rest) → higher e.node.0 (top_node rest) < n → AreLow n (e ∷ rest)
    to (inl a) later low =
        let one = a.0 in let same = a.1 in
        let first : e.node.0 < n = omega arith in
        let rest_low : top_node rest < n = omega arith in
        all_of first (later.0 rest_low)
    to (inr a) later low =
        let one = a.0 in let same = a.1 in
        let first : e.node.0 < n = omega arith in
        let rest_low : top_node rest < n = omega arith in
        all_of first (later.0 rest_low)

    from : Cases e.node.0 (top_node rest) → ((top_node rest < n) ↔ AreLow n rest) → AreLow n (e ∷ rest) → higher e.node.0 (top_node rest) < n
    from (inl a) later all =
        let same = a.1 in
        let low : top_node rest < n = later.1 (λ k d low. all (suc k) d (omega arith)) in
        omega arith
    from (inr a) later all =
        let same = a.1 in
        let low : e.node.0 < n = all 0 e (omega arith) in
        omega arith

pub top_low : (env : List BinderNode) (n : ℕ) → 0 < length env → IsTrue (nat_lt (top_node env) n) ↔ AreLow n env
top_low [] n some = absurd (omega arith)
top_low (e ∷ rest) zero some = (
  λ yes. let low : top_node (e ∷ rest) < 0 = (Decides-ltb (top_node (e ∷ rest)) 0).0 yes in absurd (omega arith),
  λ all. let low : e.node.0 < 0 = all 0 e (omega arith) in absurd (omega arith),
)
top_low (e ∷ rest) (suc n) some = (
  λ yes. (below (e ∷ rest) (suc n) (omega arith)).0 ((Decides-ltb (top_node (e ∷ rest)) (suc n)).0 yes),
  λ all. (Decides-ltb (top_node (e ∷ rest)) (suc n)).1 ((below (e ∷ rest) (suc n) (omega arith)).1 all),
)
