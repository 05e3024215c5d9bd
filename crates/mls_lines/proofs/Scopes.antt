-- What is found in the environments of steps.
--     same_key, itself_key        the test of keys
--     looked, got                 the entry of a binder
--     found_in, found_back        in that of a scope, a binder of the scope with its node
--     inner_found, inner_kept, inner_removed      the same with one more binder at another node
--     push_rising                 binders rise where each is above those around it
--     other_rising                and so they do at other nodes
use Rattle.std.proofs.Common.{◌≡◌, ◌⊎◌, inl, inr, ℕ, ◌<◌, Bool, true, false, List, [], ◌∷◌, ◌++◌, map, refl, sym, ap, ◌∙◌, subst, arith, Option, Some, None, cond}
use Rattle.std.specs.Prelude.{All, Contains}
use Rattle.std.specs.FinMap as env
use Rattle.std.specs.FinMap.{same_map, nat_cmp-IsAntisymmetric, get-remove, get-from_entries}
use Rattle.std.specs.Ordering.{nat_cmp, eq_by_cmp, is_eq}
use Rattle.std.specs.declared.cmp.Ordering.TheVariants.{Less, Equal, Greater}
use Rattle.std.specs.declared.cmp.Ordering.{Ordering}
use Rattle.std.proofs.lemmas.Cmp.{nat_cmp_total}
use Rattle.std.proofs.lemmas.List.Elements.{All-head, All-tail, All-cons, All-nil, All-append}
use Rattle.mls_automaton.proofs.Lists.{Contains-here, Contains-later, Contains-cases}
use Rattle.mls_deriv.specs.declared.derivation.BinderNode.{BinderNode}
use Rattle.mls_deriv.specs.Steps.{env_of, IsRising}
use Rattle.mls_layout.specs.Scopes.{entry, entries}

equal_is : (o : Ordering) → is_eq o ≡ true → o ≡ Equal
equal_is Less e = absurd (cc)
equal_is Equal e = refl
equal_is Greater e = absurd (cc)

pub same_key : (x y : ℕ) → eq_by_cmp nat_cmp x y ≡ true → x ≡ y
same_key x y e = nat_cmp-IsAntisymmetric x y (equal_is (nat_cmp x y) e)

pub itself_key : (x : ℕ) → eq_by_cmp nat_cmp x x ≡ true
itself_key x = grind (arith, env.gets)

-- the node of the first entry of a binder
abbrev pub looked : List BinderNode → ℕ → Option ℕ
looked d y = env.find nat_cmp y (map (λ (e : BinderNode). (e.binder, e.node.0)) d)

pub got : (d : List BinderNode) (y : ℕ) → env.get (env_of d) y ≡ looked d y
got d y = get-from_entries nat_cmp_total (map (λ (e : BinderNode). (e.binder, e.node.0)) d) y

module _ (node : ℕ → ℕ) where
  looked_in : (scope : List ℕ) (rest : List BinderNode) (x : ℕ) → Contains scope x → looked (entries node scope ++ rest) x ≡ Some (node x)
  looked_in [] rest x there = let low : there.0 < 0 = there.1 in absurd (omega arith)
  looked_in (s ∷ ss) rest x there = by_test (eq_by_cmp nat_cmp x s) refl (Contains-cases s ss x there) (looked_in ss rest x)
    where
      by_test : (t : Bool) → eq_by_cmp nat_cmp x s ≡ t → (s ≡ x) ⊎ Contains ss x → (Contains ss x → looked (entries node ss ++ rest) x ≡ Some (node x)) → cond t (Some (node s)) (looked (entries node ss ++ rest) x) ≡ Some (node x)
      by_test true e it later = ap (λ z. Some (node z)) (sym (same_key x s e))
      by_test false e (inl same) later = let yes : eq_by_cmp nat_cmp x s ≡ true = ap (eq_by_cmp nat_cmp x) same ∙ itself_key x in absurd (cc)
      by_test false e (inr there) later = later there

  looked_back : (scope : List ℕ) (rest : List BinderNode) (y k : ℕ) → looked (entries node scope ++ rest) y ≡ Some k → (Contains scope y × (k ≡ node y)) ⊎ (looked rest y ≡ Some k)
  looked_back [] rest y k found = inr found
  looked_back (s ∷ ss) rest y k found = by_test (eq_by_cmp nat_cmp y s) refl found (looked_back ss rest y k)
    where
      by_test : (t : Bool) → eq_by_cmp nat_cmp y s ≡ t → cond t (Some (node s)) (looked (entries node ss ++ rest) y) ≡ Some k
          → (looked (entries node ss ++ rest) y ≡ Some k → (Contains ss y × (k ≡ node y)) ⊎ (looked rest y ≡ Some k))
          → (Contains (s ∷ ss) y × (k ≡ node y)) ⊎ (looked rest y ≡ Some k)
      by_test true e found later =
          let same = same_key y s e in
          let is : node s ≡ k = cc in
          inl (subst (Contains (s ∷ ss)) (sym same) (Contains-here s ss), sym is ∙ ap node (sym same))
      by_test false e found later =
          elim (later found) [ inl it ↦ inl (Contains-later s ss y it.0, it.1) | inr it ↦ inr it ]

  -- one more binder, which is in none of these
  looked_past : (scope : List ℕ) (rest : List BinderNode) (x : ℕ) → All (λ y. y < x) scope → looked (entries node scope ++ rest) x ≡ looked rest x
  looked_past [] rest x all = refl
  looked_past (s ∷ ss) rest x all = by_test (eq_by_cmp nat_cmp x s) refl ∙ looked_past ss rest x (All-tail (λ y. y < x) s ss all)
    where
      by_test : (t : Bool) → eq_by_cmp nat_cmp x s ≡ t → cond t (Some (node s)) (looked (entries node ss ++ rest) x) ≡ looked (entries node ss ++ rest) x
      by_test true e = let low : s < x = All-head (λ y. y < x) s ss all in let same : x ≡ s = same_key x s e in absurd (omega (arith, low, same))
      by_test false e = refl

  pushed : (scope : List ℕ) (x : ℕ) → entries node (scope ++ x ∷ []) ≡ entries node scope ++ entry x (node x) ∷ []
  pushed [] x = refl
  pushed (s ∷ ss) x = ap (λ (l : List BinderNode). entry s (node s) ∷ l) (pushed ss x)

  all_pushed : (scope : List ℕ) → entries node scope ++ [] ≡ entries node scope
  all_pushed [] = refl
  all_pushed (s ∷ ss) = ap (λ (l : List BinderNode). entry s (node s) ∷ l) (all_pushed ss)

  pub found_in : (scope : List ℕ) (x : ℕ) → Contains scope x → env.get (env_of (entries node scope)) x ≡ Some (node x)
  found_in scope x there = got (entries node scope) x ∙ (ap (λ (l : List BinderNode). looked l x) (sym (all_pushed scope)) ∙ looked_in scope [] x there)

  pub found_back : (scope : List ℕ) (y k : ℕ) → env.get (env_of (entries node scope)) y ≡ Some k → Contains scope y × (k ≡ node y)
  found_back scope y k found =
      let it : looked (entries node scope ++ []) y ≡ Some k = ap (λ (l : List BinderNode). looked l y) (all_pushed scope) ∙ (sym (got (entries node scope) y) ∙ found) in
      elim (looked_back scope [] y k it) [ inl both ↦ both | inr free ↦ absurd (cc) ]

  -- a scope with one more binder, at another node
  abbrev pub inner : List ℕ → ℕ → ℕ → List BinderNode
  inner scope x i = entries node scope ++ entry x i ∷ []

  one_found : (x i : ℕ) → looked (entry x i ∷ []) x ≡ Some i
  one_found x i = ap (λ t. cond t (Some i) None) (itself_key x)

  pub inner_found : (scope : List ℕ) (x i : ℕ) → All (λ y. y < x) scope → env.get (env_of (inner scope x i)) x ≡ Some i
  inner_found scope x i all = got (inner scope x i) x ∙ (looked_past scope (entry x i ∷ []) x all ∙ one_found x i)

  one_back : (x i y k : ℕ) → looked (entry x i ∷ []) y ≡ Some k → (y ≡ x) × (k ≡ i)
  one_back x i y k found = by_test (eq_by_cmp nat_cmp y x) refl found
    where
      by_test : (t : Bool) → eq_by_cmp nat_cmp y x ≡ t → cond t (Some i) None ≡ Some k → (y ≡ x) × (k ≡ i)
      by_test true e found = let is : i ≡ k = cc in (same_key y x e, sym is)
      by_test false e found = absurd (cc)

  pub inner_back : (scope : List ℕ) (x i y k : ℕ) → env.get (env_of (inner scope x i)) y ≡ Some k → (Contains scope y × (k ≡ node y)) ⊎ ((y ≡ x) × (k ≡ i))
  inner_back scope x i y k found =
      elim (looked_back scope (entry x i ∷ []) y k (sym (got (inner scope x i) y) ∙ found)) [ inl it ↦ inl it | inr later ↦ inr (one_back x i y k later) ]

  -- what the scope with the binder has at its own node, it has here, but for the binder
  pub inner_kept : (scope : List ℕ) (x i y k : ℕ) → env.get (env_of (entries node (scope ++ x ∷ []))) y ≡ Some k → (env.get (env_of (inner scope x i)) y ≡ Some k) ⊎ ((y ≡ x) × (k ≡ node x))
  inner_kept scope x i y k found =
      let it : looked (entries node scope ++ entry x (node x) ∷ []) y ≡ Some k = ap (λ (l : List BinderNode). looked l y) (sym (pushed scope x)) ∙ (sym (got (entries node (scope ++ x ∷ [])) y) ∙ found) in
      elim (looked_back scope (entry x (node x) ∷ []) y k it) [
        | inl both ↦ inl (got (inner scope x i) y ∙ (looked_in scope (entry x i ∷ []) y both.0 ∙ ap Some (sym both.1)))
        | inr later ↦ inr (one_back x (node x) y k later)
      ]

  without_last : (d : List BinderNode) (x i q : ℕ) → eq_by_cmp nat_cmp q x ≡ false → looked (d ++ entry x i ∷ []) q ≡ looked d q
  without_last [] x i q e = ap (λ t. cond t (Some i) None) e
  without_last (first ∷ rest) x i q e = ap (cond (eq_by_cmp nat_cmp q first.binder) (Some first.node.0)) (without_last rest x i q e)

  pub inner_removed : (scope : List ℕ) (x i : ℕ) → All (λ y. y < x) scope → env_of (entries node scope) ≡ env.remove (env_of (inner scope x i)) x
  inner_removed scope x i all = same_map nat_cmp_total nat_cmp-IsAntisymmetric _ _ alike
    where
      by_test : (q : ℕ) (t : Bool) → eq_by_cmp nat_cmp q x ≡ t → looked (entries node scope) q ≡ cond t None (env.get (env_of (inner scope x i)) q)
      by_test q true e =
          ap (looked (entries node scope)) (same_key q x e) ∙ (ap (λ (l : List BinderNode). looked l x) (sym (all_pushed scope)) ∙ looked_past scope [] x all)
      by_test q false e = sym (without_last (entries node scope) x i q e) ∙ sym (got (inner scope x i) q)

      alike : (q : ℕ) → env.get (env_of (entries node scope)) q ≡ env.get (env.remove (env_of (inner scope x i)) x) q
      alike q = got (entries node scope) q ∙ (by_test q (eq_by_cmp nat_cmp q x) refl ∙ sym (get-remove nat_cmp_total (env_of (inner scope x i)) x q))

  below_all : (scope : List ℕ) (x : ℕ) → All (λ y. y < x) scope → All (λ (e : BinderNode). e.binder < x) (entries node scope)
  below_all [] x all = All-nil (λ (e : BinderNode). e.binder < x)
  below_all (s ∷ ss) x all =
      All-cons (λ (e : BinderNode). e.binder < x) (entry s (node s)) (entries node ss) (All-head (λ y. y < x) s ss all) (below_all ss x (All-tail (λ y. y < x) s ss all))

  pub push_rising : (d : List BinderNode) (x i : ℕ) → IsRising d → All (λ (e : BinderNode). e.binder < x) d → IsRising (d ++ entry x i ∷ [])
  push_rising [] x i rising all = (All-nil (λ (later : BinderNode). x < later.binder), tt)
  push_rising (first ∷ rest) x i rising all = (
    All-append (λ (later : BinderNode). first.binder < later.binder) rest (entry x i ∷ []) rising.0
        (All-cons (λ (later : BinderNode). first.binder < later.binder) (entry x i) [] (All-head (λ (e : BinderNode). e.binder < x) first rest all) (All-nil (λ (later : BinderNode). first.binder < later.binder))),
    push_rising rest x i rising.1 (All-tail (λ (e : BinderNode). e.binder < x) first rest all),
  )

  pub inner_rising : (scope : List ℕ) (x i : ℕ) → IsRising (entries node scope) → All (λ y. y < x) scope → IsRising (inner scope x i)
  inner_rising scope x i rising all = push_rising (entries node scope) x i rising (below_all scope x all)

  pub pushed_rising : (scope : List ℕ) (x : ℕ) → IsRising (entries node scope) → All (λ y. y < x) scope → IsRising (entries node (scope ++ x ∷ []))
  pushed_rising scope x rising all = subst IsRising (sym (pushed scope x)) (inner_rising scope x (node x) rising all)

-- the same binders rise at other nodes
module _ (node other : ℕ → ℕ) where
  all_other : (x : ℕ) (scope : List ℕ) → All (λ (later : BinderNode). x < later.binder) (entries node scope) → All (λ (later : BinderNode). x < later.binder) (entries other scope)
  all_other x [] all = All-nil (λ (later : BinderNode). x < later.binder)
  all_other x (s ∷ ss) all =
      All-cons (λ (later : BinderNode). x < later.binder) (entry s (other s)) (entries other ss) (All-head (λ (later : BinderNode). x < later.binder) (entry s (node s)) (entries node ss) all)
      (all_other x ss (All-tail (λ (later : BinderNode). x < later.binder) (entry s (node s)) (entries node ss) all))

  pub other_rising : (scope : List ℕ) → IsRising (entries node scope) → IsRising (entries other scope)
  other_rising [] rising = tt
  other_rising (s ∷ ss) rising = (all_other s ss rising.0, other_rising ss rising.1)
