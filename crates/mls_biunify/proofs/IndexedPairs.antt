-- Pairs in the order in which they were found, and their index.
use Rattle.std.proofs.Common.{◌≡◌, ◌↔◌, ◌⊎◌, inl, inr, ℕ, ◌+◌, ◌<◌, List, [], ◌∷◌, ◌++◌, set, take, length, get_or, Contains, refl, sym, ◌∙◌, subst, arith}
use Rattle.std.proofs.lemmas.Bool.{cases_eq}
use Rattle.std.proofs.lemmas.List.{get_or-set_same, get_or-set_other, length-set, append-nil}
use Rattle.std.proofs.lemmas.List.Elements.{Contains-append_left, Contains-push, Contains-push_cases}
use Rattle.mls_automaton.proofs.Lists.{Contains-here, Contains-cases}
use Rattle.mls_solver.specs.Rooms.{Room, Holds}
use Rattle.mls_solver.specs.steps.Growth.{BySome, Relates}
use Rattle.mls_solver.proofs.Relating.{taken-cases, Relates-same}
use Rattle.mls_biunify.specs.steps.Relating.{IsIndexOf}
use Rattle.mls_biunify.specs.steps.TwoWay.{TwoWay, HasPair, IsTwoWay, AddsPair, IsCleared}

-- a relation, seen as a room
abbrev pub room_with : List (ℕ × ℕ) → TwoWay → Room
room_with pairs index = record { positives = length index.forward; negatives = length index.forward; rows = []; columns = []; pairs = pairs }

pub index-same : (pairs more : List (ℕ × ℕ)) (old new : TwoWay) → IsIndexOf pairs old → ((i j : ℕ) → HasPair new i j ↔ HasPair old i j) → more ≡ pairs → IsIndexOf more new
index-same pairs more old new is same e p n = (
  λ it. subst (λ (xs : List (ℕ × ℕ)). Contains xs (p, n)) (sym e) ((is p n).0 ((same p n).0 it)),
  λ it. (same p n).1 ((is p n).1 (subst (λ (xs : List (ℕ × ℕ)). Contains xs (p, n)) e it)),
)

module _ (pairs : List (ℕ × ℕ)) (old new : TwoWay) (is : IsIndexOf pairs old) (positive negative : ℕ) (it : AddsPair old new positive negative) (more : List (ℕ × ℕ)) (e : more ≡ pairs ++ (positive, negative) ∷ []) where
  pushed : (p n : ℕ) → Contains more (p, n) → Contains pairs (p, n) ⊎ ((p ≡ positive) × (n ≡ negative))
  pushed p n there =
      elim (Contains-push_cases pairs (positive, negative) (p, n) (subst (λ (xs : List (ℕ × ℕ)). Contains xs (p, n)) e there)) [
        | inl before ↦ inl before
        | inr same ↦ inr (sym (λ i. (same i).0), sym (λ i. (same i).1))
      ]

  stays : (p n : ℕ) → Contains pairs (p, n) → Contains more (p, n)
  stays p n there = subst (λ (xs : List (ℕ × ℕ)). Contains xs (p, n)) (sym e) (Contains-append_left pairs ((positive, negative) ∷ []) (p, n) there)

  last : (p n : ℕ) → (p ≡ positive) × (n ≡ negative) → Contains more (p, n)
  last p n both =
      let same : (positive, negative) ≡ (p, n) = λ i. (sym both.0 i, sym both.1 i) in
      subst (λ (xs : List (ℕ × ℕ)). Contains xs (p, n)) (sym e)
      (subst (λ (x : ℕ × ℕ). Contains (pairs ++ (positive, negative) ∷ []) x) same (Contains-push pairs (positive, negative)))

  pub index-added : IsIndexOf more new
  index-added p n = (
    λ has.
        elim ((it.pairs p n).0 has) [
          | inl before ↦ stays p n ((is p n).0 before)
          | inr here ↦ last p n here
        ],
    λ there.
        (it.pairs p n).1 (elim (pushed p n there) [
          | inl before ↦ inl ((is p n).1 before)
          | inr here ↦ inr here
        ]),
  )

  pub pair-relates : Relates (room_with pairs old) (room_with more new) (λ p n. (p ≡ positive) × (n ≡ negative))
  pair-relates = record {
    positives = it.same_length;
    negatives = it.same_length;
    rows = refl;
    columns = refl;
    behind = ((positive, negative) ∷ [], e);
    sound = pushed;
    complete = last;
  }

pub none-relates : (room : Room) (positive negative : ℕ) → Holds room positive negative → Relates room room (λ p n. (p ≡ positive) × (n ≡ negative))
none-relates room positive negative held = record {
  positives = refl;
  negatives = refl;
  rows = refl;
  columns = refl;
  behind = ([], sym (append-nil room.pairs));
  sound = λ p n it. inl it;
  complete = λ p n both.
      let same : (positive, negative) ≡ (p, n) = λ i. (sym both.0 i, sym both.1 i) in
      subst (λ (x : ℕ × ℕ). Contains room.pairs x) same held;
}

-- a set that is made empty
pub set-cleared : (sets : List (List ℕ)) (s : ℕ) (empty : List ℕ) → s < length sets → ((j : ℕ) → Contains empty j → ⊥) → IsCleared s sets (set sets s empty)
set-cleared sets s empty low none = record {
  same_length = length-set sets s empty;
  empty = λ j it. none j (subst (λ (xs : List ℕ). Contains xs j) (get_or-set_same sets s empty [] low) it);
  others = λ i j other. (
    λ it. subst (λ (xs : List ℕ). Contains xs j) (get_or-set_other sets s i empty [] other) it,
    λ it. subst (λ (xs : List ℕ). Contains xs j) (sym (get_or-set_other sets s i empty [] other)) it,
  );
}

-- the sets of the numbers of the first so many pairs are empty
pub record AreCleared (key : ℕ × ℕ → ℕ) (pairs : List (ℕ × ℕ)) (k : ℕ) (old new : List (List ℕ)) : Type 0 where
  pub same_length : length new ≡ length old
  pub left : (s j : ℕ) → Contains (get_or new s []) j → Contains (get_or old s []) j
  pub clear : (x : ℕ × ℕ) (j : ℕ) → Contains (take k pairs) x → Contains (get_or new (key x) []) j → ⊥

pub cleared-none : (key : ℕ × ℕ → ℕ) (pairs : List (ℕ × ℕ)) (sets : List (List ℕ)) → AreCleared key pairs 0 sets sets
cleared-none key pairs sets = record {
  same_length = refl;
  left = λ s j it. it;
  clear = λ x j none it. let low : none.0 < 0 = none.1 in absurd (omega arith);
}

pub cleared-more : (key : ℕ × ℕ → ℕ) (pairs : List (ℕ × ℕ)) (k : ℕ) (old mid new : List (List ℕ)) → k < length pairs → AreCleared key pairs k old mid → IsCleared (key (get_or pairs k (0, 0))) mid new → AreCleared key pairs (k + 1) old new
cleared-more key pairs k old mid new low so_far it = record {
  same_length = it.same_length ∙ so_far.same_length;
  left = λ s j has. so_far.left s j (back s j has);
  clear = λ x j there has.
      elim (taken-cases pairs k (0, 0) low x there) [
        | inl earlier ↦ so_far.clear x j earlier (back (key x) j has)
        | inr same ↦ it.empty j (subst (λ (y : ℕ × ℕ). Contains (get_or new (key y) []) j) same has)
      ];
}
  where
    back : (s j : ℕ) → Contains (get_or new s []) j → Contains (get_or mid s []) j
    back s j has =
        elim (cases_eq s (key (get_or pairs k (0, 0)))) [
          | inl same ↦ absurd (it.empty j (subst (λ i. Contains (get_or new i []) j) same has))
          | inr other ↦ (it.others s j other).0 has
        ]

pub cleared-all : (key : ℕ × ℕ → ℕ) (pairs : List (ℕ × ℕ)) (k : ℕ) (old new : List (List ℕ)) → take k pairs ≡ pairs → AreCleared key pairs k old new → (x : ℕ × ℕ) (j : ℕ) → Contains pairs x → Contains (get_or new (key x) []) j → ⊥
cleared-all key pairs k old new all it x j there has = it.clear x j (subst (λ (xs : List (ℕ × ℕ)). Contains xs x) (sym all) there) has

-- no pair is left
module _ (t : TwoWay) (is : IsTwoWay t) (pairs : List (ℕ × ℕ)) (all : (n p : ℕ) → HasPair t n p ↔ Contains pairs (n, p)) (forward backward : List (List ℕ)) (first : length forward ≡ length t.forward) (second : length backward ≡ length t.backward) (left : (s j : ℕ) → Contains (get_or forward s []) j → Contains (get_or t.forward s []) j) (back_left : (s j : ℕ) → Contains (get_or backward s []) j → Contains (get_or t.backward s []) j) (clear : (n p j : ℕ) → Contains pairs (n, p) → Contains (get_or forward n []) j → ⊥) (back_clear : (n p j : ℕ) → Contains pairs (n, p) → Contains (get_or backward p []) j → ⊥) where
  pub none_left : (n p : ℕ) → Contains (get_or forward n []) p → ⊥
  none_left n p it = clear n p p ((all n p).0 (left n p it)) it

  none_back : (p n : ℕ) → Contains (get_or backward p []) n → ⊥
  none_back p n it = back_clear n p n ((all n p).0 (is.forth n p (back_left p n it))) it

  pub cleared-is : IsTwoWay (record { forward = forward; backward = backward })
  cleared-is = record {
    same_length = second ∙ (is.same_length ∙ sym first);
    back = λ n p it. absurd (none_left n p it);
    forth = λ n p it. absurd (none_back p n it);
  }

-- pairs that are those of another state
pub row-copied : (old new : Room) (from to : ℕ) (row : List ℕ) → ((n : ℕ) → Contains row n ↔ Holds old from n) → Relates old new (BySome row (λ m p n. (p ≡ to) × (n ≡ m))) → Relates old new (λ p n. (p ≡ to) × Holds old from n)
row-copied old new from to row is it =
    Relates-same old new (BySome row (λ m p n. (p ≡ to) × (n ≡ m))) (λ p n. (p ≡ to) × Holds old from n) it
    (λ p n by. (by.2.0, (is n).0 (subst (λ m. Contains row m) (sym by.2.1) by.1)))
    (λ p n by. (n, (is n).1 by.1, (by.0, refl)))

pub column-copied : (old new : Room) (from to : ℕ) (column : List ℕ) → ((p : ℕ) → Contains column p ↔ Holds old p from) → Relates old new (λ p n. Contains column p × Contains (to ∷ []) n) → Relates old new (λ p n. (n ≡ to) × Holds old p from)
column-copied old new from to column is it =
    Relates-same old new (λ p n. Contains column p × Contains (to ∷ []) n) (λ p n. (n ≡ to) × Holds old p from) it
    (λ p n by. (only n by.1, (is p).0 by.0))
    (λ p n by. ((is p).1 by.1, subst (λ m. Contains (to ∷ []) m) (sym by.0) (Contains-here to [])))
  where
    only : (n : ℕ) → Contains (to ∷ []) n → n ≡ to
    only n it =
        elim (Contains-cases to [] n it) [
          | inl same ↦ sym same
          | inr none ↦ let low : none.0 < 0 = none.1 in absurd (omega arith)
        ]

pub only-one : (to n : ℕ) → Contains (to ∷ []) n → n ≡ to
only-one to n it =
    elim (Contains-cases to [] n it) [
      | inl same ↦ sym same
      | inr none ↦ let low : none.0 < 0 = none.1 in absurd (omega arith)
    ]
