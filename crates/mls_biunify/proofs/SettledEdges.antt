-- The edges that settle a table.
use Rattle.std.proofs.Common.{◌≡◌, ◌↔◌, ◌⊎◌, inl, inr, ℕ, ◌<◌, ◌∙◌, true, false, List, [], get_or, Contains, refl, sym, ap, subst, arith}
use Rattle.std.specs.Cmp.{IsEquivalence}
use Rattle.std.specs.List.{dedup}
use Rattle.std.specs.List.Sorted.{IsPermutation}
use Rattle.std.specs.Prelude.{nat_eq, ◌&&◌, Bool}
use Rattle.std.proofs.lemmas.Cmp.{nat_eq_equiv}
use Rattle.std.proofs.lemmas.List.Kept.{Contains-dedup, Contains-from_dedup}
use Rattle.std.proofs.lemmas.List.Sorted.{Contains-permutation, IsPermutation-sym}
use Rattle.std.proofs.lemmas.Map.Views.{exact_unsigned_eq}
use Rattle.mls_automaton.specs.Automata.{Automaton, HasFlow}
use Rattle.mls_solver.specs.Rooms.{Room, Holds}
use Rattle.mls_biunify.specs.steps.Settlement.{AreNewEdges, GetsEdges, GivenBy}
use Rattle.mls_biunify.specs.steps.Tables.{HoldsThere, IsNumbered, Numbered}
use Rattle.mls_biunify.proofs.Collected.{Collected, same_given}

-- an edge from a state to one to which another has an edge
abbrev pub IsEdgePast : Automaton → ℕ → ℕ → ℕ × ℕ → Type 0
IsEdgePast a n m x = (x.0 ≡ n) × HasFlow a m x.1

pub past-given : (a : Automaton) (n m : ℕ) (old new : List (ℕ × ℕ)) (after slice : List ℕ) → slice ≡ after → ((q : ℕ) → Contains after q ↔ HasFlow a m q) → ((x : ℕ × ℕ) → Contains new x ↔ (Contains old x ⊎ GivenBy slice (λ q (y : ℕ × ℕ). y ≡ (n, q)) x)) → (x : ℕ × ℕ) → Contains new x ↔ (Contains old x ⊎ IsEdgePast a n m x)
past-given a n m old new after slice same is_after it =
    same_given (Contains new) (Contains old) (GivenBy slice (λ q (y : ℕ × ℕ). y ≡ (n, q))) (IsEdgePast a n m) it
    (λ x. (
      λ given. (
        ap (λ (y : ℕ × ℕ). y.0) given.2,
        subst (HasFlow a m) (sym (ap (λ (y : ℕ × ℕ). y.1) given.2)) ((is_after given.0).0 (subst (λ (xs : List ℕ). Contains xs given.0) same given.1)),
      ),
      λ past. (x.1, subst (λ (xs : List ℕ). Contains xs x.1) (sym same) ((is_after x.1).1 past.1), λ i. (past.0 i, x.1)),
    ))

-- the states that have an edge to the positive state of a pair, each with its negative state
pub ends-given : (a : Automaton) (p m : ℕ) (pair : ℕ × ℕ) → (p, m) ≡ pair → (old new : List (ℕ × ℕ)) (before slice : List ℕ) → slice ≡ before → ((n : ℕ) → Contains before n ↔ HasFlow a n p) → ((x : ℕ × ℕ) → Contains new x ↔ (Contains old x ⊎ GivenBy slice (λ n (y : ℕ × ℕ). y ≡ (n, m)) x)) → (x : ℕ × ℕ) → Contains new x ↔ (Contains old x ⊎ GetsEdges a pair x)
ends-given a p m pair is old new before slice same from it =
    same_given (Contains new) (Contains old) (GivenBy slice (λ n (y : ℕ × ℕ). y ≡ (n, m))) (GetsEdges a pair) it
    (λ x. (
      λ given. (
        subst (λ k. HasFlow a x.0 k) (ap (λ (y : ℕ × ℕ). y.0) is)
            (subst (λ k. HasFlow a k p) (sym (ap (λ (y : ℕ × ℕ). y.0) given.2)) ((from given.0).0 (subst (λ (xs : List ℕ). Contains xs given.0) same given.1))),
        ap (λ (y : ℕ × ℕ). y.1) given.2 ∙ ap (λ (y : ℕ × ℕ). y.1) is,
      ),
      λ gets.
          let end : x.1 ≡ m = gets.1 ∙ sym (ap (λ (y : ℕ × ℕ). y.1) is) in (
            x.0,
            subst (λ (xs : List ℕ). Contains xs x.0) (sym same) ((from x.0).1 (subst (λ k. HasFlow a x.0 k) (sym (ap (λ (y : ℕ × ℕ). y.0) is)) gets.0)),
            λ i. (x.0, end i),
          ),
    ))

-- the same pairs, in whatever order and as often as may be
pub ends-distinct : (P : ℕ × ℕ → Type 0) (ends others : List (ℕ × ℕ)) → ((x : ℕ × ℕ) → Contains others x ↔ Contains ends x) → ((x : ℕ × ℕ) → Contains ends x ↔ P x) → (x : ℕ × ℕ) → Contains others x ↔ P x
ends-distinct P ends others same is x = (λ it. (is x).0 ((same x).0 it), λ it. (same x).1 ((is x).1 it))

-- the edges that the first state of a pair gets past the second
abbrev pub Gives : Automaton → ℕ × ℕ → ℕ × ℕ → Type 0
Gives a end x = IsEdgePast a end.0 end.1 x

pub end-there : (t : Numbered) → IsNumbered t → (room : Room) → HoldsThere t room → (ends : List (ℕ × ℕ)) → ((x : ℕ × ℕ) → Contains ends x ↔ GivenBy room.pairs (GetsEdges t.automaton) x) → (x : ℕ × ℕ) → Contains ends x → get_or t.there x.1 false ≡ true
end-there t is room holds ends are x it =
    let by = (are x).0 it in
    subst (λ k. get_or t.there k false ≡ true) (sym by.2.1) (holds by.0.0 by.0.1 by.1).1.there

pub edges-are : (a : Automaton) (room : Room) (ends : List (ℕ × ℕ)) → ((x : ℕ × ℕ) → Contains ends x ↔ GivenBy room.pairs (GetsEdges a) x) → (none edges : List (ℕ × ℕ)) → none ≡ [] → Collected (Gives a) (Contains none) (Contains edges) ends → AreNewEdges a (Holds room) edges
edges-are a room ends are none edges empty it = record {
  sound = λ n q there.
      elim ((it (n, q)).0 there) [
        | inl old ↦
            let nothing : Contains [] (n, q) = subst (λ (xs : List (ℕ × ℕ)). Contains xs (n, q)) empty old in
            let low : nothing.0 < 0 = nothing.1 in
            absurd (omega arith)
        | inr given ↦
            let by = (are given.0).0 given.1 in
            let first : HasFlow a n by.0.0 = subst (λ k. HasFlow a k by.0.0) (sym given.2.0) by.2.0 in
            let second : HasFlow a by.0.1 q = subst (λ k. HasFlow a k q) by.2.1 given.2.1 in
            inr (by.0.0, by.0.1, first, by.1, second)
      ];
  complete = λ n q new.
      (it (n, q)).1 (inr (
        (n, new.1),
        (are (n, new.1)).1 ((new.0, new.1), new.3, (new.2, refl)),
        (refl, new.4),
      ));
}

-- Pairs are compared by both of their numbers.
abbrev pub pair_eq : ℕ × ℕ → ℕ × ℕ → Bool
pair_eq x y = nat_eq x.0 y.0 && nat_eq x.1 y.1

pair_eq-both : (x y : ℕ × ℕ) → pair_eq x y ≡ true → (nat_eq x.0 y.0 ≡ true) × (nat_eq x.1 y.1 ≡ true)
pair_eq-both x y e = parts (nat_eq x.0 y.0) (nat_eq x.1 y.1) e
  where
    parts : (p q : Bool) → (p && q) ≡ true → (p ≡ true) × (q ≡ true)
    parts true q it = (refl, it)
    parts false q it = let wrong : false ≡ true = it in absurd (cc)

pair_eq-equivalence : IsEquivalence pair_eq
pair_eq-equivalence = record {
  refl = λ x i. nat_eq_equiv.refl x.0 i && nat_eq_equiv.refl x.1 i;
  symm = λ x y i. nat_eq_equiv.symm x.0 y.0 i && nat_eq_equiv.symm x.1 y.1 i;
  congr = λ x y z e.
      let both = pair_eq-both x y e in
      λ i. nat_eq_equiv.congr x.0 y.0 z.0 both.0 i && nat_eq_equiv.congr x.1 y.1 z.1 both.1 i;
}

-- a list that is sorted and has each pair once has the same pairs
pub distinct-same : (ends sorted others : List (ℕ × ℕ)) → IsPermutation ends sorted → others ≡ dedup pair_eq sorted → (x : ℕ × ℕ) → Contains others x ↔ Contains ends x
distinct-same ends sorted others permuted e x = (
  λ it.
      Contains-permutation sorted ends x (IsPermutation-sym ends sorted permuted)
      (Contains-from_dedup pair_eq sorted x (subst (λ (xs : List (ℕ × ℕ)). Contains xs x) e it)),
  λ it.
      subst (λ (xs : List (ℕ × ℕ)). Contains xs x) (sym e)
      (Contains-dedup pair_eq-equivalence (λ y z same. let both = pair_eq-both y z same in λ i. (exact_unsigned_eq y.0 z.0 both.0 i, exact_unsigned_eq y.1 z.1 both.1 i))
      sorted x (Contains-permutation ends sorted x permuted it)),
)
