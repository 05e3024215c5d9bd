-- What a search finds, one pair after another.
--     column_to, column_before, to_edges      pairs along the edges to a state
--     row_to, from_edges                      pairs along the edges from a state
--     chained-by, chained-related             chains of direct pairs
--     direct_states, found_states             the states of its pairs
--     searched-none, searched-direct, searched-found, searched-all, searched-same      the search
use Rattle.std.proofs.Common.{◌≡◌, ◌⊎◌, inl, inr, ℕ, ◌+◌, ◌<◌, ◌≤◌, List, [], Contains, length, take, drop, get_or, refl, sym, ap, ◌∙◌, subst, arith, length-append}
use Rattle.std.proofs.lemmas.List.{get_or_default, take-append-drop, take-append-le}
use Rattle.std.proofs.lemmas.List.Elements.{Contains-append_left}
use Rattle.std.specs.Prelude.{◌↔◌}
use Rattle.mls_automaton.specs.declared.automaton.Polarity.TheVariants.{Positive, Negative}
use Rattle.mls_automaton.specs.Automata.{Automaton, HasFlow, IsPartner, IsState, head_at}
use Rattle.mls_automaton.specs.Models.{IsClosed}
use Rattle.mls_solver.specs.Relations.{IsRelated, goal, domain, codomain, field, along}
use Rattle.mls_solver.specs.Rooms.{Room, Holds, HoldsJust, HoldsStates}
use Rattle.mls_solver.specs.steps.Growth.{BySome, Relates}
use Rattle.mls_solver.specs.steps.Consequences.{ByHeads}
use Rattle.mls_solver.specs.steps.Chains.{ByDirect, ByEdgeFrom, ByEdgeTo, HasTaken, IsChained, IsSearched, onward, single}
use Rattle.mls_solver.proofs.Following.{related_states}
use Rattle.mls_solver.proofs.Members.{partner_of_negative, partner_of_positive}
use Rattle.mls_solver.proofs.Relating.{Relates-kept, Relates-same, taken-cases, take-all}
use Rattle.mls_solver.proofs.Taking.{by_heads-related, codomain-by_heads, domain-by_heads, field-by_heads, related-through}

-- the pairs of one column
pub column_to : (old new : Room) (from to : ℕ) (numbers copy items : List ℕ) → ((p : ℕ) → Contains numbers p ↔ Holds old p from) → copy ≡ numbers → items ≡ copy
    → Relates old new (BySome items (λ k p n. (p ≡ k) × (n ≡ to))) → Relates old new (λ p n. (n ≡ to) × Holds old p from)
column_to old new from to numbers copy items are same same' it =
    Relates-same old new (BySome items (λ k p n. (p ≡ k) × (n ≡ to))) (λ p n. (n ≡ to) × Holds old p from) it
    (λ p n by. (by.2.1, (are p).0 (subst (λ (xs : List ℕ). Contains xs p) (same' ∙ same) (subst (λ k. Contains items k) (sym by.2.0) by.1))))
    (λ p n by. (p, subst (λ (xs : List ℕ). Contains xs p) (sym (same' ∙ same)) ((are p).1 by.1), (refl, by.0)))

-- it is that of the room before its last pairs were found, where these are related to the same state
pub column_before : (old mid new : Room) (from to : ℕ) (xs : List ℕ) → Relates old mid (BySome xs (λ k p n. (n ≡ to) × Holds old p k)) → Relates mid new (λ p n. (n ≡ to) × Holds mid p from) → Relates mid new (λ p n. (n ≡ to) × Holds old p from)
column_before old mid new from to xs so_far it = record {
  positives = it.positives;
  negatives = it.negatives;
  rows = it.rows;
  columns = it.columns;
  behind = it.behind;
  sound = λ p n held. elim (it.sound p n held) [
    | inl before ↦ inl before
    | inr here ↦ elim (so_far.sound p from here.1) [
      | inl earlier ↦ inr (here.0, earlier)
      | inr by ↦ inl (subst (Holds mid p) (by.2.0 ∙ sym here.0) here.1)
    ]
  ];
  complete = λ p n by. it.complete p n (by.0, Relates-kept old mid (BySome xs (λ k p n. (n ≡ to) × Holds old p k)) so_far p from by.1);
}

-- the pairs of one row of another room
pub row_to : (old new other : Room) (from to : ℕ) (numbers : List ℕ) → ((n : ℕ) → Contains numbers n ↔ Holds other from n) → Relates old new (BySome numbers (λ m p n. (p ≡ to) × (n ≡ m))) → Relates old new (λ p n. (p ≡ to) × Holds other from n)
row_to old new other from to numbers are it =
    Relates-same old new (BySome numbers (λ m p n. (p ≡ to) × (n ≡ m))) (λ p n. (p ≡ to) × Holds other from n) it
    (λ p n by. (by.2.0, subst (Holds other from) (sym by.2.1) ((are by.0).0 by.1)))
    (λ p n by. (n, (are n).1 by.1, (by.0, refl)))

-- the other ends of the edges of a state
module _ (a : Automaton) (closed : IsClosed a) (R : ℕ → ℕ → Type 0) (old new : Room) (p n : ℕ) (items partners : List ℕ) (same : items ≡ partners) where
  pub to_edges : IsState a Positive p → ((j : ℕ) → Contains partners j ↔ IsPartner a p j) → Relates old new (BySome items (λ k q m. (m ≡ n) × R q k)) → Relates old new (ByEdgeTo a R p n)
  to_edges state are it =
      Relates-same old new (BySome items (λ k q m. (m ≡ n) × R q k)) (ByEdgeTo a R p n) it
      (λ q m by. (by.2.0, (by.0, partner_of_positive a closed p by.0 state.polarity ((are by.0).0 (subst (λ (xs : List ℕ). Contains xs by.0) same by.1)), by.2.1)))
      (λ q m by. (by.1.0, subst (λ (xs : List ℕ). Contains xs by.1.0) (sym same) ((are by.1.0).1 (inr by.1.1)), (by.0, by.1.2)))

  pub from_edges : IsState a Negative n → ((j : ℕ) → Contains partners j ↔ IsPartner a n j) → Relates old new (BySome items (λ k q m. (q ≡ p) × R k m)) → Relates old new (ByEdgeFrom a R p n)
  from_edges state are it =
      Relates-same old new (BySome items (λ k q m. (q ≡ p) × R k m)) (ByEdgeFrom a R p n) it
      (λ q m by. (by.2.0, (by.0, partner_of_negative a closed n by.0 state.polarity ((are by.0).0 (subst (λ (xs : List ℕ). Contains xs by.0) same by.1)), by.2.1)))
      (λ q m by. (by.1.0, subst (λ (xs : List ℕ). Contains xs by.1.0) (sym same) ((are by.1.0).1 (inl by.1.1)), (by.0, by.1.2)))

-- the numbers of related pairs are those of states
pub states_low : (a : Automaton) (room : Room) → HoldsStates a room → (p n : ℕ) → Holds room p n → (p < length a.states) × (n < length a.states)
states_low a room states p n held = let it = states p n held in (it.0.in_range, it.1.in_range)

-- where nothing was held, just the goals are held, and then just what is related by them
module _ (old mid : Room) (IsNew : ℕ → ℕ → Type 0) (empty : old.pairs ≡ []) (it : Relates old mid IsNew) where
  pub goals_alone : (p n : ℕ) → Holds mid p n → IsNew p n
  goals_alone p n held =
      elim (it.sound p n held) [
        | inl before ↦
            let P : List (ℕ × ℕ) → Type 0 = λ (pairs : List (ℕ × ℕ)). Contains pairs (p, n) in
            let none : P [] = subst P empty before in
            let low : none.0 < 0 = none.1 in
            absurd (omega arith)
        | inr here ↦ here
      ]

pub from_goals : (a : Automaton) (old mid new : Room) (IsNew : ℕ → ℕ → Type 0) → old.pairs ≡ [] → Relates old mid IsNew → HoldsJust new (IsRelated a (Holds mid)) → HoldsJust new (IsRelated a IsNew)
from_goals a old mid new IsNew empty it just p n = (
  λ held. related-through a (Holds mid) IsNew (λ q m there. goal (goals_alone old mid IsNew empty it q m there)) p n ((just p n).0 held),
  λ related. (just p n).1 (related-through a IsNew (Holds mid) (λ q m is. goal (it.complete q m is)) p n related),
)

pub held_at : (room : Room) (i p n : ℕ) → i < length room.pairs → (p, n) ≡ get_or room.pairs i (0, 0) → Holds room p n
held_at room i p n low is = (i, low, get_or_default room.pairs i (p, n) (0, 0) low ∙ sym is)

-- pairs that were taken
longer : (old new : Room) (IsNew : ℕ → ℕ → Type 0) → Relates old new IsNew → length old.pairs ≤ length new.pairs
longer old new IsNew it =
    let more : length new.pairs ≡ length old.pairs + length it.behind.0 = ap length it.behind.1 ∙ length-append old.pairs it.behind.0 in
    omega arith

taken_before : (old new : Room) (IsNew : ℕ → ℕ → Type 0) → Relates old new IsNew → (count : ℕ) → count ≤ length old.pairs → (p n : ℕ) → HasTaken new count p n → HasTaken old count p n
taken_before old new IsNew it count low p n there =
    subst (λ (pairs : List (ℕ × ℕ)). Contains pairs (p, n)) (ap (take count) it.behind.1 ∙ take-append-le count old.pairs it.behind.0 low) there

taken_more : (room : Room) (count p n : ℕ) → count < length room.pairs → (p, n) ≡ get_or room.pairs count (0, 0) → (q m : ℕ) → HasTaken room (count + 1) q m → HasTaken room count q m ⊎ ((q ≡ p) × (m ≡ n))
taken_more room count p n low is q m there =
    elim (taken-cases room.pairs count (0, 0) low (q, m) there) [
      | inl before ↦ inl before
      | inr last ↦
          let same : (q, m) ≡ (p, n) = last ∙ sym is in
          inr (ap (λ (x : ℕ × ℕ). x.0) same, ap (λ (x : ℕ × ℕ). x.1) same)
    ]

taken_held : (room : Room) (count p n : ℕ) → HasTaken room count p n → Holds room p n
taken_held room count p n there =
    subst (λ (pairs : List (ℕ × ℕ)). Contains pairs (p, n)) (take-append-drop count room.pairs)
    (Contains-append_left (take count room.pairs) (drop count room.pairs) (p, n) there)

held_taken : (room : Room) (count : ℕ) → length room.pairs ≤ count → (p n : ℕ) → Holds room p n → HasTaken room count p n
held_taken room count all p n held = subst (λ (pairs : List (ℕ × ℕ)). Contains pairs (p, n)) (sym (take-all room.pairs count all)) held

nothing : (x : ℕ × ℕ) → Contains [] x → ⊥
nothing x it = let low : it.0 < 0 = it.1 in absurd (omega arith)

module _ (a : Automaton) where
  -- chains of direct pairs
  chained-by : (First Second : ℕ → ℕ → Type 0) → ((p n : ℕ) → First p n → Second p n) → (p n : ℕ) → IsChained a First p n → IsChained a Second p n
  chained-by First Second by p n (single is) = single (by p n is)
  chained-by First Second by p m (onward {n = n} {q = q} it edge is) = onward (chained-by First Second by p n it) edge (by q m is)

  chained-related : (IsDirect IsGoal : ℕ → ℕ → Type 0) → ((p n : ℕ) → IsDirect p n → IsRelated a IsGoal p n) → (p n : ℕ) → IsChained a IsDirect p n → IsRelated a IsGoal p n
  chained-related IsDirect IsGoal by p n (single is) = by p n is
  chained-related IsDirect IsGoal by p m (onward {n = n} {q = q} it edge is) = along (chained-related IsDirect IsGoal by p n it) edge (by q m is)

  -- before the first pair
  pub searched-none : (found old : Room) → found.pairs ≡ [] → IsSearched a (Holds old) 0 0 found old
  searched-none found old empty = record {
    low = omega arith;
    direct_low = omega arith;
    goals = λ p n it. it;
    related = λ p n it. goal it;
    chained = λ p n it. absurd (nothing (p, n) (subst (λ (pairs : List (ℕ × ℕ)). Contains pairs (p, n)) empty it));
    heads = λ p n q m it by. absurd (nothing (p, n) it);
    direct_found = λ p n it. absurd (nothing (p, n) it);
    both_found = λ p n q m it edge later. absurd (nothing (p, n) it);
  }

  module _ (IsGoal : ℕ → ℕ → Type 0) (next next_direct : ℕ) (found direct : Room) (so_far : IsSearched a IsGoal next next_direct found direct) where
    found-related : (p n : ℕ) → Holds found p n → IsRelated a IsGoal p n
    found-related p n held = chained-related (Holds direct) IsGoal so_far.related p n (so_far.chained p n held)

    -- direct and found pairs are of states
    module _ (closed : IsClosed a) (between : (p n : ℕ) → IsGoal p n → IsState a Positive p × IsState a Negative n) (p n : ℕ) where
      pub direct_states : next_direct < length direct.pairs → (p, n) ≡ get_or direct.pairs next_direct (0, 0) → IsState a Positive p × IsState a Negative n
      direct_states less is = related_states a IsGoal closed between p n (so_far.related p n (held_at direct next_direct p n less is))

      pub found_states : next < length found.pairs → (p, n) ≡ get_or found.pairs next (0, 0) → IsState a Positive p × IsState a Negative n
      found_states less is = related_states a IsGoal closed between p n (found-related p n (held_at found next p n less is))

    -- one more direct pair is taken
    module _ (p n : ℕ) (new : Room) (less : next_direct < length direct.pairs) (is : (p, n) ≡ get_or direct.pairs next_direct (0, 0)) (it : Relates found new (ByDirect a (Holds found) p n)) where
      chained_to : (q m : ℕ) → Holds found q m ⊎ ByDirect a (Holds found) p n q m → IsChained a (Holds direct) q m
      chained_to q m (inl before) = so_far.chained q m before
      chained_to q m (inr (inl by)) = subst (IsChained a (Holds direct) q) (sym by.0) (onward (so_far.chained q by.1.0 by.1.2) by.1.1 (held_at direct next_direct p n less is))
      chained_to q m (inr (inr same)) = single (subst (λ i. Holds direct i m) (sym same.0) (subst (Holds direct p) (sym same.1) (held_at direct next_direct p n less is)))

      found_at : (q m : ℕ) → HasTaken direct next_direct q m ⊎ ((q ≡ p) × (m ≡ n)) → Holds new q m
      found_at q m (inl before) = Relates-kept found new (ByDirect a (Holds found) p n) it q m (so_far.direct_found q m before)
      found_at q m (inr same) = it.complete q m (inr same)

      onward_at : (q m r s : ℕ) → HasTaken found next q m → HasFlow a m r → HasTaken direct next_direct r s ⊎ ((r ≡ p) × (s ≡ n)) → Holds new q s
      onward_at q m r s taken edge (inl before) = Relates-kept found new (ByDirect a (Holds found) p n) it q s (so_far.both_found q m r s taken edge before)
      onward_at q m r s taken edge (inr same) = it.complete q s (inl (same.1, (m, subst (HasFlow a m) same.0 edge, taken_held found next q m taken)))

      earlier : (q m : ℕ) → HasTaken new next q m → HasTaken found next q m
      earlier = taken_before found new (ByDirect a (Holds found) p n) it next so_far.low

      pub searched-direct : IsSearched a IsGoal next (next_direct + 1) new direct
      searched-direct = record {
        low =
            let more : length found.pairs ≤ length new.pairs = longer found new (ByDirect a (Holds found) p n) it in
            let before : next ≤ length found.pairs = so_far.low in
            omega arith;
        direct_low = omega arith;
        goals = so_far.goals;
        related = so_far.related;
        chained = λ q m held. chained_to q m (it.sound q m held);
        heads = λ q m r s taken by. so_far.heads q m r s (earlier q m taken) by;
        direct_found = λ q m taken. found_at q m (taken_more direct next_direct p n less is q m taken);
        both_found = λ q m r s taken edge later. onward_at q m r s (earlier q m taken) edge (taken_more direct next_direct p n less is r s later);
      }

    -- one more found pair is taken
    module _ (closed : IsClosed a) (p n : ℕ) (new later : Room) (less : next < length found.pairs) (is : (p, n) ≡ get_or found.pairs next (0, 0)) (by_heads : Relates direct later (ByHeads (head_at a p) (head_at a n))) (it : Relates found new (ByEdgeFrom a (Holds later) p n)) where
      kept : (q m : ℕ) → Holds direct q m → Holds later q m
      kept = Relates-kept direct later (ByHeads (head_at a p) (head_at a n)) by_heads

      held : Holds found p n
      held = held_at found next p n less is

      related_to : (q m : ℕ) → Holds direct q m ⊎ ByHeads (head_at a p) (head_at a n) q m → IsRelated a IsGoal q m
      related_to q m (inl before) = so_far.related q m before
      related_to q m (inr by) = by_heads-related a IsGoal closed p n (found-related p n held) q m by

      chained_on : (q m : ℕ) → Holds found q m ⊎ ByEdgeFrom a (Holds later) p n q m → IsChained a (Holds later) q m
      chained_on q m (inl before) = chained-by (Holds direct) (Holds later) kept q m (so_far.chained q m before)
      chained_on q m (inr by) = subst (λ i. IsChained a (Holds later) i m) (sym by.0) (onward (chained-by (Holds direct) (Holds later) kept p n (so_far.chained p n held)) by.1.1 by.1.2)

      heads_at : (q m r s : ℕ) → HasTaken found next q m ⊎ ((q ≡ p) × (m ≡ n)) → ByHeads (head_at a q) (head_at a m) r s → Holds later r s
      heads_at q m r s (inl before) by = kept r s (so_far.heads q m r s before by)
      heads_at q m r s (inr same) by =
          let P : ℕ → ℕ → Type 0 = λ i j. ByHeads (head_at a i) (head_at a j) r s in
          by_heads.complete r s (subst (λ i. P i n) same.0 (subst (P q) same.1 by))

      both_at : (q m r s : ℕ) → HasTaken found next q m ⊎ ((q ≡ p) × (m ≡ n)) → HasFlow a m r → HasTaken direct next_direct r s → Holds new q s
      both_at q m r s (inl before) edge there = Relates-kept found new (ByEdgeFrom a (Holds later) p n) it q s (so_far.both_found q m r s before edge there)
      both_at q m r s (inr same) edge there = it.complete q s (same.0, (r, subst (λ i. HasFlow a i r) same.1 edge, kept r s (taken_held direct next_direct r s there)))

      now_taken : (q m : ℕ) → HasTaken new (next + 1) q m → HasTaken found next q m ⊎ ((q ≡ p) × (m ≡ n))
      now_taken q m taken = taken_more found next p n less is q m (taken_before found new (ByEdgeFrom a (Holds later) p n) it (next + 1) (omega arith) q m taken)

      direct_taken : (q m : ℕ) → HasTaken later next_direct q m → HasTaken direct next_direct q m
      direct_taken = taken_before direct later (ByHeads (head_at a p) (head_at a n)) by_heads next_direct so_far.direct_low

      pub searched-found : IsSearched a IsGoal (next + 1) next_direct new later
      searched-found = record {
        low = let more : length found.pairs ≤ length new.pairs = longer found new (ByEdgeFrom a (Holds later) p n) it in omega arith;
        direct_low =
            let more : length direct.pairs ≤ length later.pairs = longer direct later (ByHeads (head_at a p) (head_at a n)) by_heads in
            let before : next_direct ≤ length direct.pairs = so_far.direct_low in
            omega arith;
        goals = λ q m is. kept q m (so_far.goals q m is);
        related = λ q m there. related_to q m (by_heads.sound q m there);
        chained = λ q m there. chained_on q m (it.sound q m there);
        heads = λ q m r s taken by. heads_at q m r s (now_taken q m taken) by;
        direct_found = λ q m taken. Relates-kept found new (ByEdgeFrom a (Holds later) p n) it q m (so_far.direct_found q m (direct_taken q m taken));
        both_found = λ q m r s taken edge there. both_at q m r s (now_taken q m taken) edge (direct_taken r s there);
      }

    -- the same in other words
    pub searched-same : (j k : ℕ) (r t : Room) → j ≡ next → k ≡ next_direct → r ≡ found → t ≡ direct → IsSearched a IsGoal j k r t
    searched-same j k r t is_j is_k is_r is_t =
        subst (λ i. IsSearched a IsGoal i k r t) (sym is_j) (subst (λ i. IsSearched a IsGoal next i r t) (sym is_k)
        (subst (λ (room : Room). IsSearched a IsGoal next next_direct room t) (sym is_r) (subst (λ (room : Room). IsSearched a IsGoal next next_direct found room) (sym is_t) so_far)))

    -- at the end all that is related is found
    module _ (all : length found.pairs ≤ next) (all_direct : length direct.pairs ≤ next_direct) where
      found_direct : (p n : ℕ) → Holds direct p n → Holds found p n
      found_direct p n there = so_far.direct_found p n (held_taken direct next_direct all_direct p n there)

      found_both : (p n q m : ℕ) → Holds found p n → HasFlow a n q → Holds direct q m → Holds found p m
      found_both p n q m there edge later = so_far.both_found p n q m (held_taken found next all p n there) edge (held_taken direct next_direct all_direct q m later)

      found_chained : (p n q m : ℕ) → Holds found p n → HasFlow a n q → IsChained a (Holds direct) q m → Holds found p m
      found_chained p n q m there edge (single later) = found_both p n q m there edge later
      found_chained p n q m there edge (onward {n = k} {q = r} it edge' later) = found_both p k r m (found_chained p n q k there edge it) edge' later

      by_heads_found : (p n q m : ℕ) → Holds found p n → ByHeads (head_at a p) (head_at a n) q m → Holds found q m
      by_heads_found p n q m there by = found_direct q m (so_far.heads p n q m (held_taken found next all p n there) by)

      related_found : (p n : ℕ) → IsRelated a IsGoal p n → Holds found p n
      related_found p n (goal is) = found_direct p n (so_far.goals p n is)
      related_found q m (domain {p = p} {n = n} it left right) = by_heads_found p n q m (related_found p n it) (domain-by_heads a p n q m left right)
      related_found q m (codomain {p = p} {n = n} it left right) = by_heads_found p n q m (related_found p n it) (codomain-by_heads a p n q m left right)
      related_found q m (field {p = p} {n = n} label it left right) = by_heads_found p n q m (related_found p n it) (field-by_heads a label p n q m left right)
      related_found p m (along {n = n} {q = q} it edge later) = found_chained p n q m (related_found p n it) edge (so_far.chained q m (related_found q m later))

      pub searched-all : HoldsJust found (IsRelated a IsGoal)
      searched-all p n = (found-related p n, related_found p n)
