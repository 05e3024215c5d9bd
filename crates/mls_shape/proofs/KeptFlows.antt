-- The scheme over the same states with the edges that are kept.
--     added-next, added-all     edges that are added one after another
--     states-next               one more state
--     drops                     with the irredundant ones alone it is without its redundant edges
use Rattle.std.proofs.Common.{◌≡◌, ◌⊎◌, inl, inr, ◌↔◌, ℕ, ◌+◌, ◌<◌, ◌≤◌, List, [], ◌∷◌, ◌++◌, sym, ap, ◌∙◌, subst, arith, length, take, get_or, All, Contains}
use Rattle.std.proofs.lemmas.List.{take_all, take_more}
use Rattle.mls_automaton.specs.declared.automaton.Flow.{Flow}
use Rattle.mls_automaton.specs.declared.scheme.Scheme.{Scheme}
use Rattle.mls_automaton.specs.Automata.{Automaton, flow, HasFlow}
use Rattle.mls_flow.specs.Admissible.{IsRedundant}
use Rattle.mls_shape.specs.Dropped.{DropsRedundant}
use Rattle.mls_flow.specs.Needs.{IsPair}
use Rattle.mls_automaton.specs.declared.automaton.Polarity.TheVariants.{Positive, Negative}
use Rattle.mls_automaton.proofs.Lists.{All-contained}
use Rattle.mls_shape.proofs.AddedFlows.{states-stay}
use Rattle.mls_shape.proofs.Holders.{taken-before, taken-last, taken-cases}

-- the edges of the second are those of the first and these
abbrev pub AddsThese : Automaton → List Flow → Automaton → Type 0
AddsThese old edges new = (n p : ℕ) → HasFlow new n p ↔ HasFlow old n p ⊎ Contains edges (flow n p)

module _ (old mid new : Automaton) (edges : List Flow) (i : ℕ) (d : Flow) (low : i < length edges) where
  abbrev edge : Flow
  edge = get_or edges i d

  pub added-next : AddsThese old (take i edges) mid
      → ((n p : ℕ) → HasFlow new n p ↔ HasFlow mid n p ⊎ ((n ≡ edge.negative.0) × (p ≡ edge.positive.0)))
      → AddsThese old (take (i + 1) edges) new
  added-next so_far added n p = (to, from)
    where
      to : HasFlow new n p → HasFlow old n p ⊎ Contains (take (i + 1) edges) (flow n p)
      to it =
          elim ((added n p).0 it) [
            | inl before ↦
                elim ((so_far n p).0 before) [
                  | inl first ↦ inl first
                  | inr taken ↦ inr (taken-before edges i d low (flow n p) taken)
                ]
            | inr (e, e') ↦
                inr (subst (λ p. Contains (take (i + 1) edges) (flow n p)) (sym e')
                (subst (λ n. Contains (take (i + 1) edges) (flow n edge.positive.0)) (sym e) (taken-last edges i d low)))
          ]

      from : HasFlow old n p ⊎ Contains (take (i + 1) edges) (flow n p) → HasFlow new n p
      from (inl first) = (added n p).1 (inl ((so_far n p).1 (inl first)))
      from (inr taken) =
          elim (taken-cases edges i d low (flow n p) taken) [
            | inl before ↦ (added n p).1 (inl ((so_far n p).1 (inr before)))
            | inr same ↦
                (added n p).1 (inr (ap (λ (f : Flow). f.negative.0) same, ap (λ (f : Flow). f.positive.0) same))
          ]

pub added-all : (old new : Automaton) (edges : List Flow) (i : ℕ) → length edges ≤ i → AddsThese old (take i edges) new → AddsThese old edges new
added-all old new edges i high it = subst (λ es. AddsThese old es new) (take_all i edges high) it

module _ (s d : Scheme) (none : Automaton) (kept edges : List Flow) (same : edges ≡ kept)
    (states_are : d.automaton.states ≡ s.automaton.states) (env_is : d.env ≡ s.env) (root_is : d.root.0 ≡ s.root.0)
    (empty : none.flows ≡ []) (added : AddsThese none edges d.automaton)
    (irredundant : (n p : ℕ) → Contains kept (flow n p) → HasFlow s.automaton n p × (IsRedundant s.automaton n p → ⊥))
    (redundant : (n p : ℕ) → HasFlow s.automaton n p → Contains kept (flow n p) ⊎ IsRedundant s.automaton n p) where
  no-flow : (n p : ℕ) → HasFlow none n p → ⊥
  no-flow n p there =
      let it : Contains [] (flow n p) = subst (λ fs. Contains fs (flow n p)) empty there in
      let low : it.0 < 0 = it.1 in
      absurd (omega arith)

  pub drops : DropsRedundant s d
  drops = record {
    states = states_are;
    env = env_is;
    root = root_is;
    kept = λ n p it.
        elim ((added n p).0 it) [
          | inl there ↦ absurd (no-flow n p there)
          | inr there ↦ irredundant n p (subst (λ fs. Contains fs (flow n p)) same there)
        ];
    dropped = λ n p it.
        elim (redundant n p it) [
          | inl there ↦ inl ((added n p).1 (inr (subst (λ fs. Contains fs (flow n p)) (sym same) there)))
          | inr said ↦ inr said
        ];
  }

-- one more state
pub states-next : {X : Type 0} (done all next : List X) (i : ℕ) (x : X) → i < length all → done ≡ take i all → next ≡ done ++ x ∷ [] → x ≡ get_or all i x → next ≡ take (i + 1) all
states-next done all next i x low so_far added is =
    added ∙ ap (λ xs. xs ++ x ∷ []) so_far ∙ ap (λ y. take i all ++ y ∷ []) is ∙ sym (take_more all i x low)

-- the ends of edges are states of every automaton with these states
pub pairs-there : (a b : Automaton) → b.states ≡ a.states → (edges : List Flow) → ((f : Flow) → Contains edges f → IsPair a f) → All (IsPair b) edges
pairs-there a b same edges each =
    All-contained (IsPair b) edges (λ f there.
    let it = each f there in
    (states-stay a b same Negative f.negative.0 it.0, states-stay a b same Positive f.positive.0 it.1))
