-- The first states of an automaton: the way back of one who has added states and edges behind them.
use Rattle.std.proofs.Common.{◌≡◌, ◌⊎◌, inl, inr, ℕ, ◌<◌, ◌≤◌, ◌+◌, Bool, true, false, List, [], ◌∷◌, ◌++◌, map, take, refl, ap, ◌∙◌, arith, length, Contains}
use Rattle.std.specs.Prelude.{filter, nat_lt, ◌&&◌}
use Rattle.std.proofs.lemmas.Bool.{lt-ltb, le-ltb}
use Rattle.std.proofs.lemmas.List.{take-append-le}
use Rattle.std.proofs.lemmas.List.Elements.{filter-append}
use Rattle.mls_book.proofs.Lattice.{and_both}
use Rattle.mls_automaton.specs.declared.automaton.State.{State}
use Rattle.mls_automaton.specs.declared.automaton.Flow.{Flow}
use Rattle.mls_automaton.specs.Automata.{Automaton, HasTrueFlows, with_flow, with_state}
use Rattle.mls_automaton.specs.Embeddings.{appended, front, renamed_flow, renamed_state}
use Rattle.mls_automaton.proofs.Lists.{Contains-here, Contains-later}
use Rattle.mls_automaton.proofs.Searches.{take-all}

module _ {X : Type 0} (p : X → Bool) where
  filter-every : (xs : List X) → ((x : X) → Contains xs x → p x ≡ true) → filter p xs ≡ xs
  filter-every [] all = refl
  filter-every (x ∷ rest) all =
      let passes : p x ≡ true = all x (Contains-here x rest) in
      rw passes (ap (λ ys. x ∷ ys) (filter-every rest (λ y it. all y (Contains-later x rest y it))))

  filter-none : (xs : List X) → ((x : X) → p x ≡ false) → filter p xs ≡ []
  filter-none [] none = refl
  filter-none (x ∷ rest) none =
      let fails : p x ≡ false = none x in
      rw fails (filter-none rest none)

  filter-mapped : {Y : Type 0} (f : Y → X) (ys : List Y) → ((y : Y) → p (f y) ≡ false) → filter p (map f ys) ≡ []
  filter-mapped f [] none = refl
  filter-mapped f (y ∷ rest) none =
      let fails : p (f y) ≡ false = none y in
      rw fails (filter-mapped f rest none)

  -- what does not pass may as well not be there
  filter-more : (xs ys : List X) → filter p ys ≡ [] → filter p (xs ++ ys) ≡ filter p xs
  filter-more xs ys none = filter-append p xs ys ∙ (ap (λ zs. filter p xs ++ zs) none ∙ end (filter p xs))
    where
      end : (zs : List X) → zs ++ [] ≡ zs
      end [] = refl
      end (z ∷ rest) = ap (λ ws. z ∷ ws) (end rest)

module _ (n : ℕ) where
  abbrev is_low : Flow → Bool
  is_low f = nat_lt f.negative.0 n && nat_lt f.positive.0 n

  -- an edge with an end from n on
  high-flow : (f : Flow) → (n ≤ f.negative.0) ⊎ (n ≤ f.positive.0) → is_low f ≡ false
  high-flow f (inl high) = ap (λ b. b && nat_lt f.positive.0 n) (le-ltb f.negative.0 n high)
  high-flow f (inr high) = ap (λ b. nat_lt f.negative.0 n && b) (le-ltb f.positive.0 n high) ∙ and-none (nat_lt f.negative.0 n)
    where
      and-none : (b : Bool) → (b && false) ≡ false
      and-none true = refl
      and-none false = refl

  -- all states
  pub front-all : (a : Automaton) → HasTrueFlows a → length a.states ≤ n → front n a ≡ a
  front-all a flows all = λ i. record {
    states = take-all a.states n all i;
    flows = filter-every is_low a.flows low i;
  }
    where
      low : (f : Flow) → Contains a.flows f → is_low f ≡ true
      low f it =
          let negative : f.negative.0 < length a.states = (flows.negative f it).in_range in
          let positive : f.positive.0 < length a.states = (flows.positive f it).in_range in
          and_both (nat_lt f.negative.0 n) (nat_lt f.positive.0 n) (lt-ltb f.negative.0 n (omega arith)) (lt-ltb f.positive.0 n (omega arith))

  -- a state that was added behind them
  pub front-with_state : (a : Automaton) (s : State) → n ≤ length a.states → front n (with_state a s) ≡ front n a
  front-with_state a s le = λ i. record { states = take-append-le n a.states (s ∷ []) le i; flows = filter is_low a.flows }

  -- an edge at such a state
  pub front-with_flow : (a : Automaton) (f : Flow) → (n ≤ f.negative.0) ⊎ (n ≤ f.positive.0) → front n (with_flow a f) ≡ front n a
  front-with_flow a f high = λ i. record { states = take n a.states; flows = filter-more is_low a.flows (f ∷ []) none i }
    where
      none : filter is_low (f ∷ []) ≡ []
      none = let fails : is_low f ≡ false = high-flow f high in rw fails refl

  -- an automaton that was appended
  pub front-appended : (a b : Automaton) → n ≤ length a.states → front n (appended a b) ≡ front n a
  front-appended a b le = λ i. record {
    states = take-append-le n a.states (map (renamed_state (λ s. length a.states + s)) b.states) le i;
    flows = filter-more is_low a.flows (map (renamed_flow (λ s. length a.states + s)) b.flows) none i;
  }
    where
      none : filter is_low (map (renamed_flow (λ s. length a.states + s)) b.flows) ≡ []
      none = filter-mapped is_low (renamed_flow (λ s. length a.states + s)) b.flows (λ f. high-flow (renamed_flow (λ s. length a.states + s) f) (inl (omega arith)))

-- all states of an automaton
pub front-self : (a : Automaton) → HasTrueFlows a → front (length a.states) a ≡ a
front-self a flows = front-all (length a.states) a flows (omega arith)
