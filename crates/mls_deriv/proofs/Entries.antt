-- Lists of binders with their nodes, entry by entry.
use Rattle.std.proofs.Common.{◌≡◌, ℕ, zero, suc, ◌-◌, ◌<◌, ◌≤◌, false, ◌&&◌, List, [], ◌∷◌, length, get_or, drop, sym, ap, ◌∙◌, subst, arith, rules, Decides, IsTrue, nat_eq, ◌↔◌}
use Rattle.std.specs.Prelude.{All}
use Rattle.std.proofs.lemmas.List.{drop_all, length-drop}
use Rattle.std.proofs.lemmas.Bool.Decides.{Decides-eqb}
use Rattle.mls_deriv.specs.declared.derivation.BinderNode.{BinderNode}
use Rattle.mls_deriv.specs.Steps.{IsRising}
use Rattle.mls_deriv.specs.inner.Rules.{without}

-- entries are equal where their numbers are
pub entry_is : (a b : BinderNode) → a.binder ≡ b.binder → a.node.0 ≡ b.node.0 → a ≡ b
entry_is a b e e' = λ i. record { binder = e i; node = record { 0 = e' i } }

pub entry_eq-Decides : (a b : BinderNode) → Decides (nat_eq a.binder b.binder && nat_eq a.node.0 b.node.0) (a ≡ b)
entry_eq-Decides a b = search rules

-- each entry below this number has a lower binder than the next
abbrev pub AreLess : List BinderNode → ℕ → Type 0
AreLess env n = (k : ℕ) (d : BinderNode) → suc k < n → (get_or env k d).binder < (get_or env (suc k) d).binder

pub rising_less : (env : List BinderNode) → IsRising env → AreLess env (length env)
rising_less [] rising k d low = absurd (omega arith)
rising_less (first ∷ rest) rising zero d low = rising.0 0 d (omega arith)
rising_less (first ∷ rest) rising (suc k) d low = rising_less rest rising.1 k d (omega arith)

above_first : (first : BinderNode) (rest : List BinderNode) → AreLess (first ∷ rest) (length (first ∷ rest)) → All (λ later. first.binder < later.binder) rest
above_first first rest less zero d low = less 0 d (omega arith)
above_first first rest less (suc k) d low =
    let one : first.binder < (get_or rest k d).binder = above_first first rest less k d (omega arith) in
    let two : (get_or rest k d).binder < (get_or rest (suc k) d).binder = less (suc k) d (omega arith) in
    omega arith

less_rising : (env : List BinderNode) → AreLess env (length env) → IsRising env
less_rising [] less = tt
less_rising (first ∷ rest) less = (above_first first rest less, less_rising rest (λ k d low. less (suc k) d (omega arith)))

-- where each of more entries than there are is below the next one, all are
pub all_less : (env : List BinderNode) (n : ℕ) → length env ≤ n → AreLess env n → IsRising env
all_less env n le less = less_rising env (λ k d low. less k d (omega arith))

-- an entry that is not below the next one
pub not_rising : (env : List BinderNode) (i : ℕ) (d : BinderNode) → 1 ≤ i → i < length env → (get_or env i d).binder ≤ (get_or env (i - 1) d).binder → IsRising env → IsTrue false
not_rising env zero d some low le rising = absurd (omega arith)
not_rising env (suc i) d some low le rising =
    let same : suc i - 1 ≡ i = omega arith in
    let less : (get_or env i d).binder < (get_or env (suc i) d).binder = rising_less env rising i d low in
    let le' : (get_or env (suc i) d).binder ≤ (get_or env i d).binder = subst (λ k. (get_or env (suc i) d).binder ≤ (get_or env k d).binder) same le in
    absurd (omega arith)

-- at the end of the other list, both are alike where nothing is left
pub without_end : (x : ℕ) (env other : List BinderNode) (at n : ℕ) → at ≤ length env → length other ≤ n
    → (drop at env ≡ without x (drop n other)) ↔ (env ≡ without x other) → IsTrue (nat_eq at (length env)) ↔ (env ≡ without x other)
without_end x env other at n low all alike =
    let none : without x (drop n other) ≡ [] = ap (without x) (drop_all n other all) in
    let tests = Decides-eqb at (length env) in (
      λ h. let same : at ≡ length env = tests.0 h in alike.0 (drop_all at env (omega arith) ∙ sym none),
      λ e.
          let nothing : length (drop at env) ≡ 0 = ap length (alike.1 e ∙ none) in
          let left : length env - at ≡ 0 = sym (length-drop at env) ∙ nothing in
          tests.1 (omega arith),
    )
