-- Environments with one binder more, or without it.
--     with_binder, without_binder
use Rattle.std.proofs.Common.{◌≡◌, ◌⊎◌, inl, inr, ℕ, ◌<◌, ◌≤◌, Bool, true, false, List, [], ◌∷◌, ◌++◌, refl, sym, ap, ◌∙◌, arith, Option, Some, None, cond}
use Rattle.std.specs.Prelude.{All, get_or}
use Rattle.std.specs.List.{filter}
use Rattle.std.proofs.Math.Dec.{ltb}
use Rattle.std.specs.Ordering.{nat_cmp, eq_by_cmp}
use Rattle.std.proofs.lemmas.Bool.Decides.{Decides-ltb}
use Rattle.std.proofs.lemmas.List.Elements.{All-cons, All-head, All-tail, All-append, All-filter, filter_passes}
use Rattle.mls_deriv.specs.declared.derivation.BinderNode.{BinderNode}
use Rattle.mls_deriv.specs.Steps.{IsRising}
use Rattle.mls_lines.specs.Conclusions.{IsWith, IsWithout}
use Rattle.mls_layout.specs.Scopes.{entry}
use Rattle.mls_lines.specs.Stepping.{above, below}
use Rattle.mls_lines.proofs.Scopes.{looked, got, same_key, itself_key}

found_first : (d e : List BinderNode) (y n : ℕ) → looked d y ≡ Some n → looked (d ++ e) y ≡ Some n
found_first [] e y n is = absurd (cc)
found_first (first ∷ d) e y n is = go (eq_by_cmp nat_cmp y first.binder) is (found_first d e y n)
  where
    go : (t : Bool) → cond t (Some first.node.0) (looked d y) ≡ Some n → (looked d y ≡ Some n → looked (d ++ e) y ≡ Some n) → cond t (Some first.node.0) (looked (d ++ e) y) ≡ Some n
    go true is later = is
    go false is later = later is

found_second : (d e : List BinderNode) (y : ℕ) → looked d y ≡ None → looked (d ++ e) y ≡ looked e y
found_second [] e y is = refl
found_second (first ∷ d) e y is = go (eq_by_cmp nat_cmp y first.binder) is (found_second d e y)
  where
    go : (t : Bool) → cond t (Some first.node.0) (looked d y) ≡ None → (looked d y ≡ None → looked (d ++ e) y ≡ looked e y) → cond t (Some first.node.0) (looked (d ++ e) y) ≡ looked e y
    go true is later = absurd (cc)
    go false is later = later is

not_equal : (y x : ℕ) → (y ≡ x → ⊥) → eq_by_cmp nat_cmp y x ≡ false
not_equal y x other = go (eq_by_cmp nat_cmp y x) refl
  where
    go : (t : Bool) → eq_by_cmp nat_cmp y x ≡ t → t ≡ false
    go true e = absurd (other (same_key y x e))
    go false e = refl

module _ (p : BinderNode → Bool) (y : ℕ) where
  -- entries of this binder that all are kept, or that all are gone
  kept : (d : List BinderNode) → ((e : BinderNode) → e.binder ≡ y → p e ≡ true) → looked (filter p d) y ≡ looked d y
  kept [] all = refl
  kept (first ∷ d) all = go (eq_by_cmp nat_cmp y first.binder) (p first) refl refl (kept d all)
    where
      go : (t s : Bool) → eq_by_cmp nat_cmp y first.binder ≡ t → p first ≡ s → looked (filter p d) y ≡ looked d y
          → looked (cond s (first ∷ filter p d) (filter p d)) y ≡ cond t (Some first.node.0) (looked d y)
      go true true e f later = ap (λ t. cond t (Some first.node.0) (looked (filter p d) y)) e
      go true false e f later = let yes : p first ≡ true = all first (sym (same_key y first.binder e)) in absurd (cc)
      go false true e f later = ap (λ t. cond t (Some first.node.0) (looked (filter p d) y)) e ∙ later
      go false false e f later = later

  gone : (d : List BinderNode) → ((e : BinderNode) → e.binder ≡ y → p e ≡ false) → looked (filter p d) y ≡ None
  gone [] all = refl
  gone (first ∷ d) all = go (eq_by_cmp nat_cmp y first.binder) (p first) refl refl (gone d all)
    where
      go : (t s : Bool) → eq_by_cmp nat_cmp y first.binder ≡ t → p first ≡ s → looked (filter p d) y ≡ None → looked (cond s (first ∷ filter p d) (filter p d)) y ≡ None
      go t false e f later = later
      go true true e f later = let no : p first ≡ false = all first (sym (same_key y first.binder e)) in absurd (cc)
      go false true e f later = ap (λ t. cond t (Some first.node.0) (looked (filter p d) y)) e ∙ later

less : (y x : ℕ) → y < x → ltb y x ≡ true
less y x h = (Decides-ltb y x).1 h

not_less : (y x : ℕ) → x ≤ y → ltb y x ≡ false
not_less y x h = go (ltb y x) refl
  where
    go : (t : Bool) → ltb y x ≡ t → t ≡ false
    go true e = let low : y < x = (Decides-ltb y x).0 e in absurd (omega (arith, h, low))
    go false e = refl

compared : (y x : ℕ) → (y ≡ x → ⊥) → (y < x) ⊎ (x < y)
compared y x other = go (ltb y x) (ltb x y) refl refl
  where
    go : (s t : Bool) → ltb y x ≡ s → ltb x y ≡ t → (y < x) ⊎ (x < y)
    go true t e f = inl ((Decides-ltb y x).0 e)
    go false true e f = inr ((Decides-ltb x y).0 f)
    go false false e f =
        let not_low : y < x → ⊥ = λ h. let yes : ltb y x ≡ true = less y x h in cc in
        let not_high : x < y → ⊥ = λ h. let yes : ltb x y ≡ true = less x y h in cc in
        absurd (other (omega (arith, not_low, not_high)))

module _ (d : List BinderNode) (x : ℕ) where
  low_kept : (y : ℕ) → y < x → looked (below x d) y ≡ looked d y
  low_kept y h = kept (λ e. ltb e.binder x) y d (λ e same. ap (λ z. ltb z x) same ∙ less y x h)

  low_gone : (y : ℕ) → x ≤ y → looked (below x d) y ≡ None
  low_gone y h = gone (λ e. ltb e.binder x) y d (λ e same. ap (λ z. ltb z x) same ∙ not_less y x h)

  high_kept : (y : ℕ) → x < y → looked (above x d) y ≡ looked d y
  high_kept y h = kept (λ e. ltb x e.binder) y d (λ e same. ap (ltb x) same ∙ less x y h)

  high_gone : (y : ℕ) → y ≤ x → looked (above x d) y ≡ None
  high_gone y h = gone (λ e. ltb x e.binder) y d (λ e same. ap (ltb x) same ∙ not_less x y h)

  -- the lower entries, then others, and then the higher ones
  others_low : (rest : List BinderNode) (y : ℕ) → y < x → looked rest y ≡ None → looked (below x d ++ rest) y ≡ looked d y
  others_low rest y h none = go (looked d y) refl
    where
      go : (o : Option ℕ) → looked d y ≡ o → looked (below x d ++ rest) y ≡ looked d y
      go None e = found_second (below x d) rest y (low_kept y h ∙ e) ∙ (none ∙ sym e)
      go (Some n) e = found_first (below x d) rest y n (low_kept y h ∙ e) ∙ sym e

  others_high : (rest : List BinderNode) (y : ℕ) → x < y → looked rest y ≡ looked (above x d) y → looked (below x d ++ rest) y ≡ looked d y
  others_high rest y h same = found_second (below x d) rest y (low_gone y (omega arith)) ∙ (same ∙ high_kept y h)

  filter_rising : (p : BinderNode → Bool) (e : List BinderNode) → IsRising e → IsRising (filter p e)
  filter_rising p [] rising = tt
  filter_rising p (first ∷ e) rising = go (p first) (filter_rising p e rising.1)
    where
      go : (s : Bool) → IsRising (filter p e) → IsRising (cond s (first ∷ filter p e) (filter p e))
      go true later = (All-filter p (λ (later : BinderNode). first.binder < later.binder) e rising.0, later)
      go false later = later

  rising_joined : (a e : List BinderNode) → IsRising a → IsRising e → All (λ (z : BinderNode). z.binder < x) a → All (λ (z : BinderNode). x ≤ z.binder) e → IsRising (a ++ e)
  rising_joined [] e rising rising' low high = rising'
  rising_joined (first ∷ a) e rising rising' low high = (
    All-append (λ (later : BinderNode). first.binder < later.binder) a e rising.0
        (λ i z inside. let at_first : first.binder < x = All-head (λ (z : BinderNode). z.binder < x) first a low in let at_z : x ≤ (get_or e i z).binder = high i z inside in omega (arith, at_first, at_z)),
    rising_joined a e rising.1 rising' (All-tail (λ (z : BinderNode). z.binder < x) first a low) high,
  )

  all_low : All (λ (z : BinderNode). z.binder < x) (below x d)
  all_low i z inside = (Decides-ltb (get_or (below x d) i z).binder x).0 (filter_passes (λ e. ltb e.binder x) d i z inside)

  all_high : All (λ (z : BinderNode). x < z.binder) (above x d)
  all_high i z inside = (Decides-ltb x (get_or (above x d) i z).binder).0 (filter_passes (λ e. ltb x e.binder) d i z inside)

  all_over : All (λ (z : BinderNode). x ≤ z.binder) (above x d)
  all_over i z inside = let high : x < (get_or (above x d) i z).binder = all_high i z inside in omega (arith, high)

  pub with_binder : (i : ℕ) → IsRising d → IsWith d x i (below x d ++ entry x i ∷ above x d)
  with_binder i rising = record {
    rising =
        rising_joined (below x d) (entry x i ∷ above x d) (filter_rising (λ e. ltb e.binder x) d rising) (all_high, filter_rising (λ e. ltb x e.binder) d rising) all_low
        (All-cons (λ (z : BinderNode). x ≤ z.binder) (entry x i) (above x d) (omega arith) all_over);
    found =
        got (below x d ++ entry x i ∷ above x d) x
        ∙ (found_second (below x d) (entry x i ∷ above x d) x (low_gone x (omega arith)) ∙ ap (λ t. cond t (Some i) (looked (above x d) x)) (itself_key x));
    others =
        λ y other.
        let behind : looked (entry x i ∷ above x d) y ≡ looked (above x d) y = ap (λ t. cond t (Some i) (looked (above x d) y)) (not_equal y x other) in
        got (below x d ++ entry x i ∷ above x d) y
        ∙ (elim (compared y x other) [
          | inl h ↦ others_low (entry x i ∷ above x d) y h (behind ∙ high_gone y (omega (arith, h)))
          | inr h ↦ others_high (entry x i ∷ above x d) y h behind
        ] ∙ sym (got d y));
  }

  pub without_binder : IsRising d → IsWithout d x (below x d ++ above x d)
  without_binder rising = record {
    rising = rising_joined (below x d) (above x d) (filter_rising (λ e. ltb e.binder x) d rising) (filter_rising (λ e. ltb x e.binder) d rising) all_low all_over;
    gone = got (below x d ++ above x d) x ∙ (found_second (below x d) (above x d) x (low_gone x (omega arith)) ∙ high_gone x (omega arith));
    others =
        λ y other.
        got (below x d ++ above x d) y
        ∙ (elim (compared y x other) [
          | inl h ↦ others_low (above x d) y h (high_gone y (omega (arith, h)))
          | inr h ↦ others_high (above x d) y h refl
        ] ∙ sym (got d y));
  }
