-- Sets of pairs in two places: a list, and an ordered set.
--     others_added     one more pair in the ordered set
--     both_removed     a pair less in both
use Rattle.std.proofs.Common.{◌≡◌, ◌↔◌, ◌⊎◌, inl, inr, ℕ, ◌||◌, ◌&&◌, Bool, true, false, List, [], ◌∷◌, refl, sym, ◌∙◌, subst, cond, not}
use Rattle.std.specs.Prelude.{IsTrue, filter, nat_eq}
use Rattle.std.specs.List.{list_any}
use Rattle.std.specs.BTreeSet.{BTreeSet, contains, Updates}
use Rattle.std.proofs.lemmas.Bool.Decides.{Decides-eqb}
use Rattle.mls_deriv.specs.inner.Tables.{is_pair, is_other, numbers_cmp}
use Rattle.mls_deriv.proofs.Tables.{set_added, set_removed}

abbrev Listed : Type 0
Listed = List (ℕ × ℕ)

-- a list and an ordered set have a pair
abbrev Has : Listed → BTreeSet (ℕ × ℕ) → ℕ → ℕ → Type 0
Has few others k l = IsTrue (list_any (is_pair k l) few || contains numbers_cmp others (k, l))

or_cases : (a b : Bool) → a || b ≡ true → (a ≡ true) ⊎ (b ≡ true)
or_cases true b e = inl refl
or_cases false b e = inr e

or_left : (a b : Bool) → a ≡ true → a || b ≡ true
or_left true b e = refl
or_left false b e = absurd (cc)

or_right : (a b : Bool) → b ≡ true → a || b ≡ true
or_right true b e = refl
or_right false b e = e

pair_same : (i j k l : ℕ) → is_pair k l (i, j) ≡ true → (i ≡ k) × (j ≡ l)
pair_same i j k l e = go (nat_eq i k) (nat_eq j l) refl refl e
  where
    go : (a b : Bool) → nat_eq i k ≡ a → nat_eq j l ≡ b → a && b ≡ true → (i ≡ k) × (j ≡ l)
    go true true ea eb e = ((Decides-eqb i k).0 ea, (Decides-eqb j l).0 eb)
    go true false ea eb e = absurd (cc)
    go false b ea eb e = absurd (cc)

-- one more in the ordered set
pub others_added : (few : Listed) (old new : BTreeSet (ℕ × ℕ)) (i j : ℕ) → Updates numbers_cmp old new (i, j) true → (k l : ℕ)
    → Has few new k l ↔ (Has few old k l ⊎ ((i ≡ k) × (j ≡ l)))
others_added few old new i j updates k l = (λ has. to (or_cases (list_any (is_pair k l) few) (contains numbers_cmp new (k, l)) has), from)
  where
    to_there : IsTrue (contains numbers_cmp old (k, l)) ⊎ ((i ≡ k) × (j ≡ l)) → Has few old k l ⊎ ((i ≡ k) × (j ≡ l))
    to_there (inl there) = inl (or_right (list_any (is_pair k l) few) _ there)
    to_there (inr e) = inr e

    to : (list_any (is_pair k l) few ≡ true) ⊎ (contains numbers_cmp new (k, l) ≡ true) → Has few old k l ⊎ ((i ≡ k) × (j ≡ l))
    to (inl there) = inl (or_left (list_any (is_pair k l) few) _ there)
    to (inr there) = to_there ((set_added i j old new updates k l).0 there)

    back : (list_any (is_pair k l) few ≡ true) ⊎ (contains numbers_cmp old (k, l) ≡ true) → Has few new k l
    back (inl there) = or_left (list_any (is_pair k l) few) _ there
    back (inr there) = or_right (list_any (is_pair k l) few) _ ((set_added i j old new updates k l).1 (inl there))

    from : Has few old k l ⊎ ((i ≡ k) × (j ≡ l)) → Has few new k l
    from (inl has) = back (or_cases (list_any (is_pair k l) few) (contains numbers_cmp old (k, l)) has)
    from (inr e) = or_right (list_any (is_pair k l) few) _ ((set_added i j old new updates k l).1 (inr e))

-- the pairs of a list but one
other_apart : (i j k l : ℕ) → ((i ≡ k) × (j ≡ l) → ⊥) → is_other i j (k, l) ≡ true
other_apart i j k l apart = go (nat_eq k i) (nat_eq l j) refl refl
  where
    go : (a b : Bool) → nat_eq k i ≡ a → nat_eq l j ≡ b → not a || not b ≡ true
    go false b ea eb = refl
    go true false ea eb = refl
    go true true ea eb = absurd (apart (sym ((Decides-eqb k i).0 ea), sym ((Decides-eqb l j).0 eb)))

apart_other : (i j k l : ℕ) → is_other i j (k, l) ≡ true → (i ≡ k) × (j ≡ l) → ⊥
apart_other i j k l other e =
    let first : nat_eq k i ≡ true = (Decides-eqb k i).1 (sym e.0) in
    let second : nat_eq l j ≡ true = (Decides-eqb l j).1 (sym e.1) in
    let no : is_other i j (k, l) ≡ false = λ n. not (first n) || not (second n) in
    absurd (let e : true ≡ false = sym other ∙ no in cc)

-- the pair at a place where a test for it is true
is_at : (k l : ℕ) (p : ℕ × ℕ) → is_pair k l p ≡ true → (p.0 ≡ k) × (p.1 ≡ l)
is_at k l p e = pair_same p.0 p.1 k l e

other_at : (i j k l : ℕ) (p : ℕ × ℕ) → is_pair k l p ≡ true → is_other i j p ≡ true → is_other i j (k, l) ≡ true
other_at i j k l p same other = subst (λ m. is_other i j (k, m) ≡ true) (is_at k l p same).1 (subst (λ m. is_other i j (m, p.1) ≡ true) (is_at k l p same).0 other)

module _ (i j k l : ℕ) where
  abbrev Left : Listed → Type 0
  Left few = (list_any (is_pair k l) few ≡ true) × ((i ≡ k) × (j ≡ l) → ⊥)

  was_there : (few : Listed) → list_any (is_pair k l) (filter (is_other i j) few) ≡ true → Left few
  was_there [] e = absurd (cc)
  was_there (p ∷ few) e = go (is_other i j p) refl e (was_there few)
    where
      later : Left few → Left (p ∷ few)
      later it = (or_right (is_pair k l p) _ it.0, it.1)

      kept : is_other i j p ≡ true → (is_pair k l p ≡ true) ⊎ (list_any (is_pair k l) (filter (is_other i j) few) ≡ true)
          → (list_any (is_pair k l) (filter (is_other i j) few) ≡ true → Left few) → Left (p ∷ few)
      kept other (inl here) rest = (or_left (is_pair k l p) _ here, apart_other i j k l (other_at i j k l p here other))
      kept other (inr there) rest = later (rest there)

      go : (b : Bool) → is_other i j p ≡ b → list_any (is_pair k l) (cond b (p ∷ filter (is_other i j) few) (filter (is_other i j) few)) ≡ true
          → (list_any (is_pair k l) (filter (is_other i j) few) ≡ true → Left few) → Left (p ∷ few)
      go true other e rest = kept other (or_cases (is_pair k l p) (list_any (is_pair k l) (filter (is_other i j) few)) e) rest
      go false other e rest = later (rest e)

  stays : (few : Listed) → list_any (is_pair k l) few ≡ true → ((i ≡ k) × (j ≡ l) → ⊥) → list_any (is_pair k l) (filter (is_other i j) few) ≡ true
  stays [] e apart = absurd (cc)
  stays (p ∷ few) e apart = go (is_other i j p) refl (or_cases (is_pair k l p) (list_any (is_pair k l) few) e) (λ there. stays few there apart)
    where
      go : (b : Bool) → is_other i j p ≡ b → (is_pair k l p ≡ true) ⊎ (list_any (is_pair k l) few ≡ true)
          → (list_any (is_pair k l) few ≡ true → list_any (is_pair k l) (filter (is_other i j) few) ≡ true)
          → list_any (is_pair k l) (cond b (p ∷ filter (is_other i j) few) (filter (is_other i j) few)) ≡ true
      go true other (inl here) rest = or_left (is_pair k l p) _ here
      go true other (inr there) rest = or_right (is_pair k l p) _ (rest there)
      go false other (inr there) rest = rest there
      go false other (inl here) rest =
          let at = is_at k l p here in
          let yes : is_other i j p ≡ true = subst (λ m. is_other i j (m, p.1) ≡ true) (sym at.0) (subst (λ m. is_other i j (k, m) ≡ true) (sym at.1) (other_apart i j k l apart)) in
          absurd (let no : true ≡ false = sym yes ∙ other in cc)

pub both_removed : (few : Listed) (old new : BTreeSet (ℕ × ℕ)) (i j : ℕ) → Updates numbers_cmp old new (i, j) false → (k l : ℕ)
    → Has (filter (is_other i j) few) new k l ↔ (Has few old k l × ((i ≡ k) × (j ≡ l) → ⊥))
both_removed few old new i j updates k l = (
  λ has. to (or_cases (list_any (is_pair k l) (filter (is_other i j) few)) (contains numbers_cmp new (k, l)) has),
  λ it. from (or_cases (list_any (is_pair k l) few) (contains numbers_cmp old (k, l)) it.0) it.1,
)
  where
    to : (list_any (is_pair k l) (filter (is_other i j) few) ≡ true) ⊎ (contains numbers_cmp new (k, l) ≡ true) → Has few old k l × ((i ≡ k) × (j ≡ l) → ⊥)
    to (inl there) = let it = was_there i j k l few there in (or_left (list_any (is_pair k l) few) _ it.0, it.1)
    to (inr there) = let it = (set_removed i j old new updates k l).0 there in (or_right (list_any (is_pair k l) few) _ it.0, it.1)

    from : (list_any (is_pair k l) few ≡ true) ⊎ (contains numbers_cmp old (k, l) ≡ true) → ((i ≡ k) × (j ≡ l) → ⊥) → Has (filter (is_other i j) few) new k l
    from (inl there) apart = or_left (list_any (is_pair k l) (filter (is_other i j) few)) _ (stays i j k l few there apart)
    from (inr there) apart = or_right (list_any (is_pair k l) (filter (is_other i j) few)) _ ((set_removed i j old new updates k l).1 (there, apart))
