-- Names with their numbers: one that has a number, and one that gets the next.
use Rattle.std.proofs.Common.{◌≡◌, ℕ, suc, ◌+◌, Bool, true, false, not, ◌||◌, List, [], ◌∷◌, ◌++◌, refl, sym, ap, ◌∙◌, Some, None, length, arith}
use Rattle.std.specs.Prelude.{Option, cond, option_map, unwrap_or, bytes_eq, Result, Ok, Err, OnOk, is_err}
use Rattle.std.specs.List.{list_any, position_or_len}
use Rattle.std.specs.BTreeMap.{BTreeMap, get, Updates}
use Rattle.std.specs.Ordering.{nat_cmp}
use Rattle.std.specs.Cmp.Lexicographic.{slice_cmp}
use Rattle.std.proofs.lemmas.Cmp.{nat_list_eq_equiv}
use Rattle.std.proofs.lemmas.Map.Text.{is_eq-slice_cmp}
use Rattle.std.proofs.lemmas.Slice.Eq.{bytes_eq-Decides}
use Rattle.mls_typetext.specs.steps.Variables.{with_name, number_in, AreNumbers}

-- what a result that is fine says
pub on_ok : {T E : Type 0} (r : Result T E) (P : Type 0) → is_err r ≡ false → OnOk r P → P
on_ok (Ok x) P e h = h
on_ok (Err x) P e h = absurd (cc)

-- a name that has a number is there, and the number is its place
pub record IsAt (names : List (List ℕ)) (x : List ℕ) (n : ℕ) : Type 0 where
  pub there : list_any (bytes_eq x) names ≡ true
  pub place : n ≡ position_or_len (bytes_eq x) names

pub at : (names : List (List ℕ)) (x : List ℕ) (n : ℕ) → number_in names x ≡ Some n → IsAt names x n
at [] x n e = absurd (cc)
at (y ∷ names) x n e =
    let it = go (bytes_eq x y) (number_in names x) (at names x) e in
    record { there = it.0; place = it.1 }
  where
    go : (b : Bool) (number : Option ℕ) → ((m : ℕ) → number ≡ Some m → IsAt names x m) → cond b (Some 0) (option_map suc number) ≡ Some n
        → ((b || list_any (bytes_eq x) names) ≡ true) × (n ≡ cond (not b) (1 + position_or_len (bytes_eq x) names) 0)
    go true number later e = (refl, sym (ap (λ o. unwrap_or o 0) e))
    go false None later e = absurd (cc)
    go false (Some m) later e =
        let it = later m refl in
        let place : m ≡ position_or_len (bytes_eq x) names = it.place in
        let next : suc m ≡ n = ap (λ o. unwrap_or o 0) e in
        (it.there, omega arith)

-- and one that has none is not
pub record IsAbsent (names : List (List ℕ)) (x : List ℕ) : Type 0 where
  pub absent : list_any (bytes_eq x) names ≡ false
  pub place : position_or_len (bytes_eq x) names ≡ length names

pub none : (names : List (List ℕ)) (x : List ℕ) → number_in names x ≡ None → IsAbsent names x
none [] x e = record { absent = refl; place = refl }
none (y ∷ names) x e =
    let it = go (bytes_eq x y) (number_in names x) (none names x) e in
    record { absent = it.0; place = it.1 }
  where
    go : (b : Bool) (number : Option ℕ) → (number ≡ None → IsAbsent names x) → cond b (Some 0) (option_map suc number) ≡ None
        → ((b || list_any (bytes_eq x) names) ≡ false) × (cond (not b) (1 + position_or_len (bytes_eq x) names) 0 ≡ suc (length names))
    go true number later e = absurd (cc)
    go false (Some m) later e = absurd (cc)
    go false None later e =
        let it = later refl in
        let place : position_or_len (bytes_eq x) names ≡ length names = it.place in
        (it.absent, omega arith)

-- one name more at the end
one-more : (names : List (List ℕ)) (z x : List ℕ) → list_any (bytes_eq z) names ≡ false
    → number_in (names ++ z ∷ []) x ≡ cond (bytes_eq z x) (Some (length names)) (number_in names x)
one-more [] z x e = ap (λ b. cond b (Some 0) None) (nat_list_eq_equiv.symm x z)
one-more (y ∷ names) z x e = rest (bytes_eq z y) refl e (one-more names z x)
  where
    go : (b c : Bool) → (b ≡ true → c ≡ true → false ≡ true)
        → cond b (Some 0) (option_map suc (cond c (Some (length names)) (number_in names x))) ≡ cond c (Some (suc (length names))) (cond b (Some 0) (option_map suc (number_in names x)))
    go true true apart = absurd (cc (apart refl refl))
    go true false apart = refl
    go false true apart = refl
    go false false apart = refl

    rest : (d : Bool) → bytes_eq z y ≡ d → (d || list_any (bytes_eq z) names) ≡ false
        → (list_any (bytes_eq z) names ≡ false → number_in (names ++ z ∷ []) x ≡ cond (bytes_eq z x) (Some (length names)) (number_in names x))
        → number_in (y ∷ names ++ z ∷ []) x ≡ cond (bytes_eq z x) (Some (suc (length names))) (number_in (y ∷ names) x)
    rest true is e later = absurd (cc)
    rest false is e later =
        ap (λ n. cond (bytes_eq x y) (Some 0) (option_map suc n)) (later e)
        ∙ go (bytes_eq x y) (bytes_eq z x) (λ p q.
        let same : z ≡ y = (bytes_eq-Decides z x).0 q ∙ (bytes_eq-Decides x y).0 p in
        sym is ∙ (bytes_eq-Decides z y).1 same)

abbrev Map : Type 0
Map = BTreeMap (List ℕ) ℕ

pub number_added : (names : List (List ℕ)) (old new : Map) (z : List ℕ) → AreNumbers names old → number_in names z ≡ None
    → Updates (slice_cmp nat_cmp) old new z (Some (length names)) → AreNumbers (names ++ z ∷ []) new
number_added names old new z are unknown updates x =
    updates.0 x
    ∙ (ap (λ b. cond b (Some (length names)) (get (slice_cmp nat_cmp) old x)) (is_eq-slice_cmp z x)
    ∙ (ap (cond (bytes_eq z x) (Some (length names))) (are x)
    ∙ sym (one-more names z x (none names z unknown).absent)))

-- so a name that is there adds none, and another is added at the end
pub with_known : (names : List (List ℕ)) (x : List ℕ) (n : ℕ) → number_in names x ≡ Some n → with_name names x ≡ names
with_known names x n e = ap (λ b. cond b names (names ++ x ∷ [])) (at names x n e).there

pub with_unknown : (names : List (List ℕ)) (x : List ℕ) → number_in names x ≡ None → with_name names x ≡ names ++ x ∷ []
with_unknown names x e = ap (λ b. cond b names (names ++ x ∷ [])) (none names x e).absent
