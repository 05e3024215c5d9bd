-- The clash that is found is the first of all pairs.
use Rattle.std.proofs.Common.{◌≡◌, ◌⊎◌, inl, inr, ℕ, ◌+◌, ◌<◌, ◌≤◌, ◌==◌, Bool, true, false, [], ◌∷◌, refl, sym, ◌∙◌, subst, arith, length, Some, None}
use Rattle.std.specs.Prelude.{◌↔◌, IsTrue, Option, MatchOption, OnOk, IfErr, Result, Ok, Err}
use Rattle.std.specs.Ordering.{nat_cmp, is_le}
use Rattle.std.specs.Cmp.Lexicographic.{slice_cmp}
use Rattle.std.proofs.lemmas.Bool.{eqb-true, eqb-false}
use Rattle.std.proofs.lemmas.List.{get_or_default}
use Rattle.mls_automaton.specs.Automata.{Automaton, head_at}
use Rattle.mls_solver.specs.declared.goal.Clash.{Clash}
use Rattle.mls_solver.specs.declared.goal.ClashKind.{ClashKind}
use Rattle.mls_solver.specs.Clashes.{Clashes, HasNoClash, IsClashOf, IsFirstClash, IsFirstKind, IsAtMost, clash_key, key_cmp, kind_key}
use Rattle.mls_solver.specs.Rooms.{Room, Holds}
use Rattle.mls_solver.specs.steps.FirstClashes.{IsFirstOf, IsEarlier, IsPairAt, IsPairBelow}
use Rattle.mls_solver.proofs.KeyOrder.{at_most-pair, IsAtMost-trans, IsAtMost-flip}

pub earlier_right : (a : Automaton) (first other : Option Clash) (left right : Clash) → first ≡ Some left → other ≡ Some right → is_le (key_cmp (clash_key a left) (clash_key a right)) ≡ false → IsEarlier a first other (Some right)
earlier_right a first other left right e e' later =
    subst (λ o. IsEarlier a o other (Some right)) (sym e)
    (subst (λ o. IsEarlier a (Some left) o (Some right)) (sym e')
    (inr (refl, IsAtMost-flip a left right later)))

-- the pair at a place is held
pub pair_held : (room : Room) (i p n : ℕ) → i < length room.pairs → IsPairAt room i p n → Holds room p n
pair_held room i p n low at = (i, low, get_or_default room.pairs i (p, n) (0, 0) low ∙ at)

abbrev pub clash_with : ℕ → ℕ → ClashKind → Clash
clash_with p n kind = record { positive = record { 0 = p }; negative = record { 0 = n }; kind = kind }

-- the first kind of one pair
module _ (a : Automaton) (room : Room) (i p n : ℕ) (at : IsPairAt room i p n) where
  same_pair : (q m : ℕ) → IsPairAt room i q m → (q ≡ p) × (m ≡ n)
  same_pair q m other = (λ j. ((sym other ∙ at) j).0, λ j. ((sym other ∙ at) j).1)

  pub pair_none : IsFirstKind (head_at a p) (head_at a n) None → HasNoClash a (IsPairAt room i)
  pair_none free q m other kind clash =
      let same = same_pair q m other in
      free kind (subst (λ s. Clashes (head_at a s) (head_at a n) kind) same.0 (subst (λ s. Clashes (head_at a q) (head_at a s) kind) same.1 clash))

  pub pair_first : (kind : ClashKind) → IsFirstKind (head_at a p) (head_at a n) (Some kind) → IsFirstClash a (IsPairAt room i) (clash_with p n kind)
  pair_first kind it = record { clash = (at, it.0); first = least }
    where
      least : (d : Clash) → IsClashOf a (IsPairAt room i) d → IsAtMost a (clash_with p n kind) d
      least d clash =
          let same = same_pair d.positive.0 d.negative.0 clash.0 in
          let here : Clashes (head_at a p) (head_at a n) d.kind =
          subst (λ s. Clashes (head_at a s) (head_at a n) d.kind) same.0 (subst (λ s. Clashes (head_at a d.positive.0) (head_at a s) d.kind) same.1 clash.1) in
          let kinds : IsTrue (is_le (slice_cmp nat_cmp (kind_key (head_at a n) kind) (kind_key (head_at a n) d.kind))) = it.1 d.kind here in
          subst (λ s. IsTrue (is_le (key_cmp (clash_key a (clash_with p n kind)) (kind_key (head_at a s) d.kind ∷ (d.positive.0 ∷ s ∷ []) ∷ [])))) (sym same.1)
          (subst (λ s. IsTrue (is_le (key_cmp (clash_key a (clash_with p n kind)) (kind_key (head_at a n) d.kind ∷ (s ∷ n ∷ []) ∷ [])))) (sym same.0)
          (at_most-pair (kind_key (head_at a n) kind) (kind_key (head_at a n) d.kind) (p ∷ n ∷ []) kinds))

-- one more pair
module _ (a : Automaton) (room : Room) (i : ℕ) where
  last_or : (k : ℕ) (b : Bool) → (k == i) ≡ b → k < i + 1 → (k < i) ⊎ (k ≡ i)
  last_or k true e less = inr (eqb-true k i e)
  last_or k false e less = let apart : k ≡ i → ⊥ = eqb-false k i e in inl (omega arith)

  below_or_at : (p n : ℕ) → IsPairBelow room (i + 1) p n → IsPairBelow room i p n ⊎ IsPairAt room i p n
  below_or_at p n it =
      elim (last_or it.0 (it.0 == i) refl it.1) [
        | inl less ↦ inl (it.0, less, it.2)
        | inr same ↦ inr (subst (λ k. IsPairAt room k p n) same it.2)
      ]

  from_below : (p n : ℕ) → IsPairBelow room i p n → IsPairBelow room (i + 1) p n
  from_below p n it = let less : it.0 < i = it.1 in (it.0, omega arith, it.2)

  from_at : (p n : ℕ) → IsPairAt room i p n → IsPairBelow room (i + 1) p n
  from_at p n it = (i, omega arith, it)

  none_more : HasNoClash a (IsPairBelow room i) → HasNoClash a (IsPairAt room i) → HasNoClash a (IsPairBelow room (i + 1))
  none_more one two p n it kind clash =
      elim (below_or_at p n it) [
        | inl before ↦ one p n before kind clash
        | inr here ↦ two p n here kind clash
      ]

  left_more : (c : Clash) → IsFirstClash a (IsPairBelow room i) c → ((d : Clash) → IsClashOf a (IsPairAt room i) d → IsAtMost a c d) → IsFirstClash a (IsPairBelow room (i + 1)) c
  left_more c it others = record {
    clash = (from_below c.positive.0 c.negative.0 it.clash.0, it.clash.1);
    first = λ d clash.
        elim (below_or_at d.positive.0 d.negative.0 clash.0) [
          | inl before ↦ it.first d (before, clash.1)
          | inr here ↦ others d (here, clash.1)
        ];
  }

  right_more : (c : Clash) → IsFirstClash a (IsPairAt room i) c → ((d : Clash) → IsClashOf a (IsPairBelow room i) d → IsAtMost a c d) → IsFirstClash a (IsPairBelow room (i + 1)) c
  right_more c it others = record {
    clash = (from_at c.positive.0 c.negative.0 it.clash.0, it.clash.1);
    first = λ d clash.
        elim (below_or_at d.positive.0 d.negative.0 clash.0) [
          | inl before ↦ others d (before, clash.1)
          | inr here ↦ it.first d (here, clash.1)
        ];
  }

  pub first_more : (first other earlier : Option Clash) → IsFirstOf a (IsPairBelow room i) first → IsFirstOf a (IsPairAt room i) other → IsEarlier a first other earlier → IsFirstOf a (IsPairBelow room (i + 1)) earlier
  first_more None None earlier one two is = subst (IsFirstOf a (IsPairBelow room (i + 1))) (sym is) (none_more one two)
  first_more None (Some d) earlier one two is =
      subst (IsFirstOf a (IsPairBelow room (i + 1))) (sym is)
      (right_more d two (λ e clash. absurd (one e.positive.0 e.negative.0 clash.0 e.kind clash.1)))
  first_more (Some c) None earlier one two is =
      subst (IsFirstOf a (IsPairBelow room (i + 1))) (sym is)
      (left_more c one (λ e clash. absurd (two e.positive.0 e.negative.0 clash.0 e.kind clash.1)))
  first_more (Some c) (Some d) earlier one two (inl it) =
      subst (IsFirstOf a (IsPairBelow room (i + 1))) (sym it.0)
      (left_more c one (λ e clash. IsAtMost-trans a c d e it.1 (two.first e clash)))
  first_more (Some c) (Some d) earlier one two (inr it) =
      subst (IsFirstOf a (IsPairBelow room (i + 1))) (sym it.0)
      (right_more d two (λ e clash. IsAtMost-trans a d c e it.1 (one.first e clash)))

-- before the first pair
pub first_none : (a : Automaton) (room : Room) → IsFirstOf a (IsPairBelow room 0) None
first_none a room p n it kind clash = let low : it.0 < 0 = it.1 in absurd (omega arith)

-- the states of a clash that was found are there
pub first_in_range : (a : Automaton) (room : Room) (i : ℕ) → i ≤ length room.pairs → ((p n : ℕ) → Holds room p n → (p < length a.states) × (n < length a.states)) → (first : Option Clash) → IsFirstOf a (IsPairBelow room i) first → MatchOption first (Unit {0}) (λ c. c.negative.0 < length a.states)
first_in_range a room i all states None it = tt
first_in_range a room i all states (Some c) it =
    let below : IsPairBelow room i c.positive.0 c.negative.0 = it.clash.0 in
    let less : below.0 < i = below.1 in
    (states c.positive.0 c.negative.0 (pair_held room below.0 c.positive.0 c.negative.0 (omega arith) below.2)).1

pub at_in_range : (a : Automaton) (room : Room) (i : ℕ) → i < length room.pairs → ((p n : ℕ) → Holds room p n → (p < length a.states) × (n < length a.states)) → (first : Option Clash) → IsFirstOf a (IsPairAt room i) first → MatchOption first (Unit {0}) (λ c. c.negative.0 < length a.states)
at_in_range a room i low states None it = tt
at_in_range a room i low states (Some c) it = (states c.positive.0 c.negative.0 (pair_held room i c.positive.0 c.negative.0 low it.clash.0)).1

-- at the end
module _ (a : Automaton) (room : Room) (i : ℕ) (all : length room.pairs ≤ i) (few : i ≤ length room.pairs) where
  to_below : (p n : ℕ) → Holds room p n → IsPairBelow room i p n
  to_below p n it =
      let low : it.0 < length room.pairs = it.1 in
      (it.0, omega arith, get_or_default room.pairs it.0 (0, 0) (p, n) it.1 ∙ it.2)

  to_held : (p n : ℕ) → IsPairBelow room i p n → Holds room p n
  to_held p n it = let less : it.0 < i = it.1 in pair_held room it.0 p n (omega arith) it.2

  pub none_at_all : IsFirstOf a (IsPairBelow room i) None → HasNoClash a (Holds room)
  none_at_all free p n it kind clash = free p n (to_below p n it) kind clash

  pub first_at_all : (c : Clash) → IsFirstClash a (IsPairBelow room i) c → IsFirstClash a (Holds room) c
  first_at_all c it = record {
    clash = (to_held c.positive.0 c.negative.0 it.clash.0, it.clash.1);
    first = λ d clash. it.first d (to_below d.positive.0 d.negative.0 clash.0, clash.1);
  }

-- a relation that holds for the same pairs has the same clashes
module _ (a : Automaton) (First Second : ℕ → ℕ → Type 0) (same : (p n : ℕ) → First p n ↔ Second p n) where
  pub HasNoClash-same : HasNoClash a First → HasNoClash a Second
  HasNoClash-same free p n it kind clash = free p n ((same p n).1 it) kind clash

  pub IsFirstClash-same : (c : Clash) → IsFirstClash a First c → IsFirstClash a Second c
  IsFirstClash-same c it = record {
    clash = ((same c.positive.0 c.negative.0).0 it.clash.0, it.clash.1);
    first = λ d clash. it.first d ((same d.positive.0 d.negative.0).1 clash.0, clash.1);
  }

  pub answer-ok : (r : Result (Unit {0}) Clash) → OnOk r (HasNoClash a First) → OnOk r (HasNoClash a Second)
  answer-ok (Ok x) it = HasNoClash-same it
  answer-ok (Err c) it = tt

  pub answer-clash : (r : Result (Unit {0}) Clash) → IfErr r (IsFirstClash a First) → IfErr r (IsFirstClash a Second)
  answer-clash (Ok x) it = tt
  answer-clash (Err c) it = IsFirstClash-same c it
