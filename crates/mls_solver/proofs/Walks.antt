-- The pairs of one state, gone through from the latest back to the first while new pairs come behind all.
use Rattle.std.proofs.Common.{◌≡◌, ◌⊎◌, inl, inr, ℕ, ◌+◌, ◌<◌, ◌≤◌, List, ◌++◌, map, sym, ap, ◌∙◌, subst, arith, length, get_or, Contains}
use Rattle.std.proofs.lemmas.Bool.{cases_lt}
use Rattle.std.proofs.lemmas.List.{get_or_append_left, get_or-map, get_or_default, length-map, length-append, map-append, append_assoc}
use Rattle.mls_solver.specs.Rooms.{Room}
use Rattle.mls_solver.specs.steps.Links.{IsLatest, keys_of}
use Rattle.mls_solver.specs.steps.Growth.{Relates}
use Rattle.mls_solver.proofs.Members.{below_or_last}
use Rattle.mls_solver.specs.steps.Numbers.{Numbers, Inserts}
use Rattle.mls_solver.proofs.NumberSteps.{Inserts-none, Inserts-kept, Inserts-then}
use Rattle.mls_solver.proofs.Marking.{Inserts-same}
use Rattle.mls_solver.proofs.Relating.{Relates-none, Relates-same, Relates-then}

-- the pair at a place
abbrev pub at_place : Room → ℕ → ℕ × ℕ
at_place room k = get_or room.pairs k (0, 0)

module _ (key : ℕ × ℕ → ℕ) (New : ℕ × ℕ → ℕ → ℕ → Type 0) where
  -- what the pairs of state s from this place on give
  abbrev pub FromPlace : Room → ℕ → ℕ → ℕ → ℕ → Type 0
  FromPlace old s at p n = (k : ℕ) × (at ≤ k) × (k < length old.pairs) × (key (at_place old k) ≡ s) × New (at_place old k) p n

  -- the pairs from this place on were gone through
  pub record IsWalked (old room : Room) (s at : ℕ) : Type 0 where
    pub relates : Relates old room (FromPlace old s at)
    pub low : at ≤ length old.pairs
    pub here : (k : ℕ) → at ≡ k + 1 → key (at_place old k) ≡ s

  key_at : (room : Room) (k : ℕ) → k < length room.pairs → get_or (keys_of key room) k 0 ≡ key (at_place room k)
  key_at room k low = get_or-map key room.pairs k (0, 0) 0 low

  pub walk-first : (old : Room) (s at : ℕ) → IsLatest (keys_of key old) (length old.pairs) s at → IsWalked old old s at
  walk-first old s at it = record {
    relates = Relates-none old (FromPlace old s at) (λ p n by. absurd (it.none by.0 by.1 by.2 (key_at old by.0 by.2 ∙ by.3)));
    low = it.low;
    here = λ k e. let low : at ≤ length old.pairs = it.low in sym (key_at old k (omega arith)) ∙ it.here k e;
  }

  module _ (old room : Room) (s at k : ℕ) (is : at ≡ k + 1) (walked : IsWalked old room s at) where
    pub place_low : k < length old.pairs
    place_low = let low : at ≤ length old.pairs = walked.low in omega arith

    pub place_there : k < length room.pairs
    place_there =
        let all : length room.pairs ≡ length old.pairs + length walked.relates.behind.0 = ap length walked.relates.behind.1 ∙ length-append old.pairs walked.relates.behind.0 in
        let low : k < length old.pairs = place_low in
        omega arith

    pub place_same : at_place room k ≡ at_place old k
    place_same = ap (λ pairs. get_or pairs k (0, 0)) walked.relates.behind.1 ∙ get_or_append_left old.pairs walked.relates.behind.0 (0, 0) k place_low

    module _ (new : Room) (added : Relates room new (New (at_place old k))) (next : ℕ) (latest : IsLatest (keys_of key new) k (get_or (keys_of key new) k 0) next) where
      more : List (ℕ × ℕ)
      more = walked.relates.behind.0 ++ added.behind.0

      pairs_of : new.pairs ≡ old.pairs ++ more
      unfolding more
      pairs_of = added.behind.1 ∙ ((λ i. walked.relates.behind.1 i ++ added.behind.0) ∙ append_assoc old.pairs walked.relates.behind.0 added.behind.0)

      same_key : (j : ℕ) → j < length old.pairs → get_or (keys_of key new) j 0 ≡ key (at_place old j)
      same_key j low =
          ap (λ pairs. get_or (map key pairs) j 0) pairs_of
          ∙ (ap (λ keys. get_or keys j 0) (map-append key old.pairs more)
          ∙ (get_or_append_left (map key old.pairs) (map key more) 0 j (let all : length (map key old.pairs) ≡ length old.pairs = length-map old.pairs key in omega arith)
          ∙ key_at old j low))

      this_key : get_or (keys_of key new) k 0 ≡ s
      this_key = same_key k place_low ∙ walked.here k is

      pub walk-more : IsWalked old new s next
      walk-more = record {
        relates =
            Relates-then old room new (FromPlace old s at) (New (at_place old k)) (FromPlace old s next) walked.relates added
            (λ p n by. let less : next ≤ k = latest.low in let high : at ≤ by.0 = by.1 in (by.0, omega arith, by.2, by.3, by.4))
            (λ p n by. (k, latest.low, place_low, walked.here k is, by))
            (λ p n by. go p n by (cases_lt by.0 at));
        low = let less : next ≤ k = latest.low in let low : k < length old.pairs = place_low in omega arith;
        here = λ j e.
            let less : next ≤ k = latest.low in
            let low : k < length old.pairs = place_low in
            sym (same_key j (omega arith)) ∙ (latest.here j e ∙ this_key);
      }
        where
          go : (p n : ℕ) (by : FromPlace old s next p n) → (by.0 < at) ⊎ (at ≤ by.0) → FromPlace old s at p n ⊎ New (at_place old k) p n
          go p n by (inr high) = inl (by.0, high, by.2, by.3, by.4)
          go p n by (inl low) =
              elim (below_or_last k by.0 (omega arith)) [
                | inl less ↦ absurd (latest.none by.0 by.1 less (same_key by.0 by.2 ∙ (by.3 ∙ sym this_key)))
                | inr same ↦ inr (subst (λ j. New (at_place old j) p n) same by.4)
              ]

  -- at the first place
  pub walk-all : (old room : Room) (s : ℕ) (Wanted : ℕ → ℕ → Type 0) → IsWalked old room s 0
      → ((x : ℕ × ℕ) → Contains old.pairs x → key x ≡ s → (p n : ℕ) → New x p n → Wanted p n)
      → ((p n : ℕ) → Wanted p n → (x : ℕ × ℕ) × Contains old.pairs x × (key x ≡ s) × New x p n)
      → Relates old room Wanted
  walk-all old room s Wanted walked to from =
      Relates-same old room (FromPlace old s 0) Wanted walked.relates
      (λ p n by. to (at_place old by.0) (by.0, by.2, get_or_default old.pairs by.0 (at_place old by.0) (0, 0) by.2) by.3 p n by.4)
      (λ p n it.
      let found = from p n it in
      let k : ℕ = found.1.0 in
      let low : k < length old.pairs = found.1.1 in
      let is : at_place old k ≡ found.0 = get_or_default old.pairs k (0, 0) found.0 low ∙ found.1.2 in
      (k, omega arith, low, ap key is ∙ found.2, subst (λ x. New x p n) (sym is) found.3))

-- Where both keys tell the same states, the latest places are the same.
pub latest-same : (xs ys : List ℕ) (n r s at : ℕ) → IsLatest xs n r at → ((k : ℕ) → k < n → get_or xs k 0 ≡ r → get_or ys k 0 ≡ s) → ((k : ℕ) → k < n → get_or ys k 0 ≡ s → get_or xs k 0 ≡ r) → IsLatest ys n s at
latest-same xs ys n r s at it to from = record {
  low = it.low;
  here = λ k e. let low : at ≤ n = it.low in to k (omega arith) (it.here k e);
  none = λ j least low e. it.none j least low (from j low e);
}

-- the pairs of one state, gone through to mark what they give
module _ (key : ℕ × ℕ → ℕ) (New : ℕ × ℕ → ℕ) (room : Room) (s : ℕ) where
  abbrev pub GivesFrom : ℕ → ℕ → Type 0
  GivesFrom at y = (k : ℕ) × (at ≤ k) × (k < length room.pairs) × (key (at_place room k) ≡ s) × (y ≡ New (at_place room k))

  pub record IsMarkWalk (old marks : Numbers) (at : ℕ) : Type 0 where
    pub inserts : Inserts old marks (GivesFrom at)
    pub low : at ≤ length room.pairs
    pub here : (k : ℕ) → at ≡ k + 1 → key (at_place room k) ≡ s

  key_of : (k : ℕ) → k < length room.pairs → get_or (keys_of key room) k 0 ≡ key (at_place room k)
  key_of k low = get_or-map key room.pairs k (0, 0) 0 low

  pub marks-first : (old : Numbers) (at : ℕ) → IsLatest (keys_of key room) (length room.pairs) s at → IsMarkWalk old old at
  marks-first old at it = record {
    inserts = Inserts-none old (GivesFrom at) (λ y by. absurd (it.none by.0 by.1 by.2 (key_of by.0 by.2 ∙ by.3)));
    low = it.low;
    here = λ k e. let low : at ≤ length room.pairs = it.low in sym (key_of k (omega arith)) ∙ it.here k e;
  }

  module _ (old mid : Numbers) (at k : ℕ) (is : at ≡ k + 1) (walked : IsMarkWalk old mid at) where
    pub mark_low : k < length room.pairs
    mark_low = let low : at ≤ length room.pairs = walked.low in omega arith

    pub marks-more : (new : Numbers) → Inserts mid new (λ y. y ≡ New (at_place room k)) → (next : ℕ) → IsLatest (keys_of key room) k (get_or (keys_of key room) k 0) next → IsMarkWalk old new next
    marks-more new added next latest = record {
      inserts =
          Inserts-then old mid new (GivesFrom at) (λ y. y ≡ New (at_place room k)) (GivesFrom next) walked.inserts added
          (λ y by. let less : next ≤ k = latest.low in let high : at ≤ by.0 = by.1 in (by.0, omega arith, by.2, by.3, by.4))
          (λ y e. inr (k, latest.low, mark_low, walked.here k is, e))
          (λ y by. go y by (cases_lt by.0 at));
      low = let less : next ≤ k = latest.low in let low : k < length room.pairs = mark_low in omega arith;
      here = λ j e.
          let less : next ≤ k = latest.low in
          let low : k < length room.pairs = mark_low in
          sym (key_of j (omega arith)) ∙ (latest.here j e ∙ this_key);
    }
      where
        this_key : get_or (keys_of key room) k 0 ≡ s
        this_key = key_of k mark_low ∙ walked.here k is

        go : (y : ℕ) (by : GivesFrom next y) → (by.0 < at) ⊎ (at ≤ by.0) → Contains new.members y
        go y by (inr high) = Inserts-kept mid new (λ y. y ≡ New (at_place room k)) added y (walked.inserts.complete y (by.0, high, by.2, by.3, by.4))
        go y by (inl low) =
            elim (below_or_last k by.0 (omega arith)) [
              | inl less ↦ absurd (latest.none by.0 by.1 less (key_of by.0 by.2 ∙ (by.3 ∙ sym this_key)))
              | inr same ↦ added.complete y (by.4 ∙ ap (λ j. New (at_place room j)) same)
            ]

  pub marks-all : (old new : Numbers) (Wanted : ℕ → Type 0) → IsMarkWalk old new 0
      → ((x : ℕ × ℕ) → Contains room.pairs x → key x ≡ s → Wanted (New x))
      → ((y : ℕ) → Wanted y → (x : ℕ × ℕ) × Contains room.pairs x × (key x ≡ s) × (y ≡ New x))
      → Inserts old new Wanted
  marks-all old new Wanted walked to from =
      Inserts-same old new (GivesFrom 0) Wanted walked.inserts
      (λ y by. subst Wanted (sym by.4) (to (at_place room by.0) (by.0, by.2, get_or_default room.pairs by.0 (at_place room by.0) (0, 0) by.2) by.3))
      (λ y it.
      let found = from y it in
      let k : ℕ = found.1.0 in
      let low : k < length room.pairs = found.1.1 in
      let is : at_place room k ≡ found.0 = get_or_default room.pairs k (0, 0) found.0 low ∙ found.1.2 in
      (k, omega arith, low, ap key is ∙ found.2, found.3 ∙ ap New (sym is)))
