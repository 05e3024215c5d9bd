-- Sets of numbers by marks and a list: the empty set, and one more number.
use Rattle.std.proofs.Common.{◌≡◌, ◌⊎◌, inl, inr, ℕ, zero, suc, ◌+◌, ◌↔◌, ◌≢◌, ◌<◌, ◌≤◌, ◌^◌, ◌==◌, ◌||◌, ◌&&◌, Bool, true, false, List, [], ◌∷◌, ◌++◌, refl, sym, ap, ◌∙◌, subst, arith, length, take, get_or, Contains, length-append, append-nil}
use Rattle.std.specs.Prelude.{not, All}
use Rattle.std.specs.List.{IsDistinct}
use Rattle.std.proofs.Math.ListN.{set, replicate}
use Rattle.std.proofs.lemmas.Cmp.{nat_eq_equiv}
use Rattle.std.proofs.lemmas.List.{length-set, length-replicate, length-take-le, get_or-set_other, get_or-set_same, take_more_set}
use Rattle.std.proofs.lemmas.List.Folds.{list_any-append}
use Rattle.std.proofs.lemmas.List.Elements.{Contains-append_cases, Contains-append_right}
use Rattle.mls_book.proofs.Lattice.{or_cases}
use Rattle.mls_automaton.proofs.Lists.{Contains-here, All-contained}
use Rattle.std.proofs.lemmas.Map.Keys.{IsDistinct-push}
use Rattle.std.proofs.lemmas.Map.Steps.{length-le_from_distinct_below}
use Rattle.std.proofs.lemmas.Map.Views.{list_any-from_Contains, Contains-from_any}
use Rattle.std.proofs.lemmas.Bool.{eqb-true, eq-eqb}
use Rattle.mls_solver.specs.steps.Among.{is_among}
use Rattle.mls_solver.specs.steps.Cells.{AreCells}
use Rattle.mls_solver.specs.steps.Numbers.{Numbers, Inserts}

get_or-falses : (n x : ℕ) → get_or (replicate n false) x false ≡ false
get_or-falses zero x = refl
get_or-falses (suc n) zero = refl
get_or-falses (suc n) (suc x) = get_or-falses n x

marked-below : (marks : List Bool) (x : ℕ) → get_or marks x false ≡ true → x < length marks
marked-below [] x e = absurd (cc)
marked-below (mark ∷ marks) zero e = omega arith
marked-below (mark ∷ marks) (suc x) e = let low : x < length marks = marked-below marks x e in omega arith

among-cases : (xs : List ℕ) (x q : ℕ) → is_among (xs ++ x ∷ []) q ≡ true → (is_among xs q ≡ true) ⊎ (q ≡ x)
among-cases xs x q it =
    elim (or_cases (is_among xs q) (is_among (x ∷ []) q) (sym (list_any-append (λ y. q == y) xs (x ∷ [])) ∙ it)) [
      | inl old ↦ inl old
      | inr new ↦ elim (or_cases (q == x) false new) [ inl same ↦ inr (eqb-true q x same) | inr none ↦ absurd (cc) ]
    ]

one_member : (x q : ℕ) → Contains (x ∷ []) q → q ≡ x
one_member x q it = go it.0 it.1 it.2
  where
    go : (k : ℕ) → k < 1 → get_or (x ∷ []) k q ≡ q → q ≡ x
    go zero low e = sym e
    go (suc k) low e = absurd (omega arith)

pub cells-empty : (n : ℕ) (order : List ℕ) → n ≤ 2 ^ 32 → length order ≡ n → AreCells (replicate n false) order 0
unfolding IsDistinct
cells-empty n order small same = record {
  in_range = omega arith;
  same_length = same ∙ sym (length-replicate n false);
  small = rw length-replicate small;
  distinct = tt;
  marked = get_or-falses n;
}

or_true : (b : Bool) → (b || true) ≡ true
or_true true = refl
or_true false = refl

or_false : (b : Bool) → (b || false) ≡ b
or_false true = refl
or_false false = refl

module _ (marks : List Bool) (order : List ℕ) (len : ℕ) (are : AreCells marks order len) (x : ℕ) (low : x < length marks) (new : get_or marks x false ≡ false) where
  below : (q : ℕ) → is_among (take len order ++ x ∷ []) q ≡ true → q < length marks
  below q it =
      elim (among-cases (take len order) x q it) [
        | inl old ↦ marked-below marks q (are.marked q ∙ old)
        | inr same ↦ subst (λ y. y < length marks) (sym same) low
      ]

  grown : IsDistinct (λ x y. x == y) (take len order ++ x ∷ [])
  grown = IsDistinct-push nat_eq_equiv (take len order) x are.distinct (sym (are.marked x) ∙ new)

  -- there is space for one more
  pub cells-room : len < length order
  cells-room =
      let most : length (take len order ++ x ∷ []) ≤ length marks = length-le_from_distinct_below (take len order ++ x ∷ []) (length marks) grown below in
      let front : length (take len order) ≡ len = length-take-le len order are.in_range in
      let more : length (take len order ++ x ∷ []) ≡ length (take len order) + 1 = length-append (take len order) (x ∷ []) in
      let same : length order ≡ length marks = are.same_length in
      omega arith

  pub cells-members : take (len + 1) (set order len x) ≡ take len order ++ x ∷ []
  cells-members = take_more_set order len x cells-room

  still : (q : ℕ) (b : Bool) → (q == x) ≡ b → get_or (set marks x true) q false ≡ is_among (take (len + 1) (set order len x)) q
  still q true e =
      let same : q ≡ x = eqb-true q x e in
      subst (λ y. get_or (set marks x true) y false ≡ true) (sym same) (get_or-set_same marks x true false low)
      ∙ sym (ap (λ xs. is_among xs q) cells-members
      ∙ (list_any-append (λ y. q == y) (take len order) (x ∷ [])
      ∙ ((λ i. is_among (take len order) q || (e i || false)) ∙ or_true (is_among (take len order) q))))
  still q false e =
      let apart : q ≢ x = λ same. let is : (q == x) ≡ true = eq-eqb q x same in absurd (cc) in
      get_or-set_other marks x q true false apart
      ∙ (are.marked q
      ∙ sym (ap (λ xs. is_among xs q) cells-members
      ∙ (list_any-append (λ y. q == y) (take len order) (x ∷ [])
      ∙ ((λ i. is_among (take len order) q || (e i || false)) ∙ or_false (is_among (take len order) q)))))

  pub cells-more : AreCells (set marks x true) (set order len x) (len + 1)
  cells-more = record {
    in_range =
        let same : length (set order len x) ≡ length order = length-set order len x in
        let room : len < length order = cells-room in
        omega arith;
    same_length = length-set order len x ∙ (are.same_length ∙ sym (length-set marks x true));
    small = rw length-set are.small;
    distinct = subst (IsDistinct (λ x y. x == y)) (sym cells-members) grown;
    marked = λ q. still q (q == x) refl;
  }

  pub cells-bound : length (take (len + 1) (set order len x)) ≤ length (set marks x true)
  cells-bound =
      let room : len < length order = cells-room in
      let all : length (set order len x) ≡ length order = length-set order len x in
      let more : length (take (len + 1) (set order len x)) ≡ len + 1 = length-take-le (len + 1) (set order len x) (omega arith) in
      let same : length order ≡ length marks = are.same_length in
      let marked : length (set marks x true) ≡ length marks = length-set marks x true in
      omega arith

-- one more number at the end
pub cells-inserts : (old new : Numbers) (x : ℕ) → new.limit ≡ old.limit → new.members ≡ old.members ++ x ∷ [] → Inserts old new (λ y. y ≡ x)
cells-inserts old new x limit members = record {
  limit = limit;
  behind = (x ∷ [], members);
  sound = λ y it.
      elim (Contains-append_cases old.members (x ∷ []) y (subst (λ xs. Contains xs y) members it)) [
        | inl before ↦ inl before
        | inr last ↦ inr (one_member x y last)
      ];
  complete = λ y same.
      subst (λ xs. Contains xs y) (sym members)
      (Contains-append_right old.members (x ∷ []) y (subst (λ z. Contains (x ∷ []) z) (sym same) (Contains-here x [])));
}

-- a number without a mark
pub cells-unmarked : (b : Bool) (P : Type 0) → ((b ≡ true) ↔ P) → (P → ⊥) → b ≡ false
cells-unmarked true P it absent = absurd (absent (it.0 refl))
cells-unmarked false P it absent = refl

-- a number that is there is not added again
pub cells-stay : (cells : Numbers) (x : ℕ) → Contains cells.members x → Inserts cells cells (λ y. y ≡ x)
cells-stay cells x it = record {
  limit = refl;
  behind = ([], sym (append-nil cells.members));
  sound = λ y there. inl there;
  complete = λ y same. subst (Contains cells.members) (sym same) it;
}

-- a mark tells whether the number is a member
pub cells-marked : (marks : List Bool) (order : List ℕ) (len : ℕ) → AreCells marks order len → (x : ℕ) → (get_or marks x false ≡ true) ↔ Contains (take len order) x
cells-marked marks order len are x = (
  λ e. Contains-from_any (λ y z. eqb-true y z) x (take len order) (sym (are.marked x) ∙ e),
  λ it. are.marked x ∙ list_any-from_Contains nat_eq_equiv x (take len order) it,
)

-- the marks of all members are taken away
pub cells-cleared : (marks new : List Bool) (order : List ℕ) (len : ℕ) → AreCells marks order len → length new ≡ length marks → ((x : ℕ) → get_or new x false ≡ (get_or marks x false && not (is_among (take len order) x))) → AreCells new order 0
unfolding IsDistinct
cells-cleared marks new order len are same unmarked = record {
  in_range = omega arith;
  same_length = are.same_length ∙ sym same;
  small = subst (λ n. n ≤ 2 ^ 32) (sym same) are.small;
  distinct = tt;
  marked = λ x. unmarked x ∙ ((λ i. are.marked x i && not (is_among (take len order) x)) ∙ both (is_among (take len order) x));
}
  where
    both : (b : Bool) → (b && not b) ≡ false
    both true = refl
    both false = refl

-- each member is below the limit
pub cells-below : (marks : List Bool) (order : List ℕ) (len : ℕ) → AreCells marks order len → All (λ x. x < length marks) (take len order)
cells-below marks order len are =
    All-contained (λ x. x < length marks) (take len order)
    (λ x it. marked-below marks x ((cells-marked marks order len are x).1 it))
