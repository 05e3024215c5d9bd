-- Edges that are added one after another.
use Rattle.std.proofs.Common.{◌≡◌, ◌⊎◌, inl, inr, ℕ, ◌<◌, ◌+◌, refl, sym, ◌∙◌, subst, arith, ◌≤◌, take, get_or, length, Contains}
use Rattle.std.specs.Prelude.{◌↔◌, List}
use Rattle.mls_automaton.specs.declared.automaton.Polarity.{Polarity}
use Rattle.mls_automaton.specs.declared.automaton.State.{State}
use Rattle.mls_automaton.specs.Automata.{Automaton, HasFlow, IsState}
use Rattle.mls_solver.specs.steps.Solving.{AddsFlows}
use Rattle.mls_solver.proofs.Members.{below_or_last}
use Rattle.mls_solver.proofs.Relating.{taken-before, taken-last, taken-cases, take-all}

-- no edge
pub flows-none : (a : Automaton) (IsNew : ℕ → ℕ → Type 0) → ((n q : ℕ) → IsNew n q → ⊥) → AddsFlows a a IsNew
flows-none a IsNew none = record {
  states = refl;
  kept = λ n q it. it;
  sound = λ n q it. inl it;
  complete = λ n q it. absurd (none n q it);
}

-- the same edges in other words
pub flows-same : (old new : Automaton) (First Second : ℕ → ℕ → Type 0) → AddsFlows old new First → ((n q : ℕ) → First n q → Second n q) → ((n q : ℕ) → Second n q → First n q) → AddsFlows old new Second
flows-same old new First Second it to from = record {
  states = it.states;
  kept = it.kept;
  sound = λ n q there. elim (it.sound n q there) [ inl before ↦ inl before | inr more ↦ inr (to n q more) ];
  complete = λ n q more. it.complete n q (from n q more);
}

-- first the ones, then the others
pub flows-then : (old mid new : Automaton) (First Second All : ℕ → ℕ → Type 0) → AddsFlows old mid First → AddsFlows mid new Second → ((n q : ℕ) → First n q → All n q) → ((n q : ℕ) → Second n q → All n q) → ((n q : ℕ) → All n q → First n q ⊎ Second n q) → AddsFlows old new All
flows-then old mid new First Second All one two first second all = record {
  states = two.states ∙ one.states;
  kept = λ n q it. two.kept n q (one.kept n q it);
  sound = λ n q it.
      elim (two.sound n q it) [
        | inl before ↦ elim (one.sound n q before) [ inl there ↦ inl there | inr more ↦ inr (first n q more) ]
        | inr more ↦ inr (second n q more)
      ];
  complete = λ n q it.
      elim (all n q it) [
        | inl more ↦ two.kept n q (one.complete n q more)
        | inr more ↦ two.complete n q more
      ];
}

-- states stay states
pub states-stay : (old new : Automaton) → new.states ≡ old.states → (p : Polarity) (s : ℕ) → IsState old p s → IsState new p s
states-stay old new same p s it = subst (λ (states : List State). IsState (record { states = states; flows = new.flows }) p s) (sym same) (record { in_range = it.in_range; polarity = it.polarity })

-- the edges from the states below one
abbrev pub FromBelow : ℕ → (ℕ → ℕ → Type 0) → ℕ → ℕ → Type 0
FromBelow k IsFlow n q = (n < k) × IsFlow n q

module _ (old mid : Automaton) (IsFlow : ℕ → ℕ → Type 0) (k : ℕ) (so_far : AddsFlows old mid (FromBelow k IsFlow)) where
  more : (n q : ℕ) → FromBelow k IsFlow n q → FromBelow (k + 1) IsFlow n q
  more n q it = let low : n < k = it.0 in (omega arith, it.1)

  pub flows-more : (new : Automaton) → AddsFlows mid new (λ m q. (m ≡ k) × IsFlow k q) → AddsFlows old new (FromBelow (k + 1) IsFlow)
  flows-more new it =
      flows-then old mid new (FromBelow k IsFlow) (λ m q. (m ≡ k) × IsFlow k q) (FromBelow (k + 1) IsFlow) so_far it more
      (λ n q new. let same : n ≡ k = new.0 in (omega arith, subst (λ m. IsFlow m q) (sym same) new.1))
      (λ n q all.
      elim (below_or_last k n all.0) [
        | inl less ↦ inl (less, all.1)
        | inr same ↦ inr (same, subst (λ m. IsFlow m q) same all.1)
      ])

  pub flows-skip : ((q : ℕ) → IsFlow k q → ⊥) → AddsFlows old mid (FromBelow (k + 1) IsFlow)
  flows-skip none =
      flows-same old mid (FromBelow k IsFlow) (FromBelow (k + 1) IsFlow) so_far more
      (λ n q all.
      elim (below_or_last k n all.0) [
        | inl less ↦ (less, all.1)
        | inr same ↦ absurd (none q (subst (λ m. IsFlow m q) same all.1))
      ])

pub flows-all : (old new : Automaton) (IsFlow : ℕ → ℕ → Type 0) (k : ℕ) → ((n q : ℕ) → IsFlow n q → n < k) → AddsFlows old new (FromBelow k IsFlow) → AddsFlows old new IsFlow
flows-all old new IsFlow k low it = flows-same old new (FromBelow k IsFlow) IsFlow it (λ n q more. more.1) (λ n q more. (low n q more, more))

-- the edges from one state to those of a list, one after another
abbrev pub ToSome : ℕ → List ℕ → ℕ → ℕ → Type 0
ToSome n targets m q = (m ≡ n) × Contains targets q

module _ (old mid new : Automaton) (n : ℕ) (targets : List ℕ) (i : ℕ) (low : i < length targets) (so_far : AddsFlows old mid (ToSome n (take i targets))) where
  pub targets-more : new.states ≡ mid.states → ((m q : ℕ) → HasFlow new m q ↔ HasFlow mid m q ⊎ ((m ≡ n) × (q ≡ get_or targets i 0))) → AddsFlows old new (ToSome n (take (i + 1) targets))
  targets-more same flows =
      flows-then old mid new (ToSome n (take i targets)) (λ m q. (m ≡ n) × (q ≡ get_or targets i 0)) (ToSome n (take (i + 1) targets)) so_far
      (record {
        states = same;
        kept = λ m q it. (flows m q).1 (inl it);
        sound = λ m q it. (flows m q).0 it;
        complete = λ m q it. (flows m q).1 (inr it);
      })
      (λ m q it. (it.0, taken-before targets i 0 low q it.1))
      (λ m q it. (it.0, subst (Contains (take (i + 1) targets)) (sym it.1) (taken-last targets i 0 low)))
      (λ m q it.
      elim (taken-cases targets i 0 low q it.1) [
        | inl before ↦ inl (it.0, before)
        | inr last ↦ inr (it.0, last)
      ])

pub targets-none : (a : Automaton) (n : ℕ) (targets : List ℕ) → AddsFlows a a (ToSome n (take 0 targets))
targets-none a n targets = flows-none a (ToSome n (take 0 targets)) (λ m q it. let low : it.1.0 < 0 = it.1.1 in absurd (omega arith))

pub targets-all : (old new : Automaton) (n : ℕ) (targets : List ℕ) (i : ℕ) → length targets ≤ i → AddsFlows old new (ToSome n (take i targets)) → AddsFlows old new (ToSome n targets)
targets-all old new n targets i all it = subst (λ xs. AddsFlows old new (ToSome n xs)) (take-all targets i all) it
