-- A model of a closed automaton goes on to one with further states and edges.
--     model_added
use Rattle.std.proofs.Common.{◌≡◌, ◌⊎◌, inl, inr, ℕ, ◌+◌, ◌<◌, List, ◌++◌, length, get_or, sym, ◌∙◌, subst, arith, length-append}
use Rattle.std.proofs.lemmas.List.{get_or_append_left, get_or-append-add}
use Rattle.mls_book.specs.Predicates.{Predicate, Implies}
use Rattle.mls_book.proofs.Depths.{Implies-trans, Implies-same, Implies-same_back}
use Rattle.mls_book.proofs.LongerBooks.{below_or_more}
use Rattle.mls_automaton.specs.declared.automaton.Flow.{Flow}
use Rattle.mls_automaton.specs.declared.automaton.Polarity.{Polarity}
use Rattle.mls_automaton.specs.declared.automaton.Polarity.TheVariants.{Positive}
use Rattle.mls_automaton.specs.declared.automaton.State.{State}
use Rattle.mls_automaton.specs.Automata.{Automaton, empty_head, state_at, polarity_at, head_at, HasFlow, IsState}
use Rattle.mls_automaton.specs.Heads.{head_value}
use Rattle.mls_automaton.specs.Models.{IsClosed, IsInside, IsModel}
use Rattle.mls_automaton.proofs.Bounds.{model_in_range}
use Rattle.mls_automaton.proofs.Passing.{head-inside, states_more}
use Rattle.mls_automaton.proofs.Signs.{inside-same, inside-trans}

-- a state is inside by these values
abbrev pub IsInsideAt : (ℕ → Predicate) → ℕ → State → Type 0
IsInsideAt value s x = IsInside x.polarity (head_value x.polarity value x.head) (value s)

module _ (a b : Automaton) (new : List State) (old value : ℕ → Predicate) (closed : IsClosed a) (model : IsModel a old)
    (kept : (s : ℕ) → s < length a.states → value s ≡ old s) (states : b.states ≡ a.states ++ new) where
  -- the state of a number past the end
  abbrev pub past : State
  past = record { polarity = Positive; head = empty_head }

  -- the old states are as they were
  old_state : (s : ℕ) → s < length a.states → state_at b s ≡ state_at a s
  old_state s low = (λ k. get_or (states k) s past) ∙ get_or_append_left a.states new past s low

  pub old_inside : (s : ℕ) → s < length a.states → IsInsideAt value s (state_at b s)
  old_inside s low =
      let p : Polarity = polarity_at a s in
      subst (IsInsideAt value s) (sym (old_state s low))
      (inside-trans p (head_value p value (head_at a s)) (head_value p old (head_at a s)) (value s)
      (head-inside value old p (head_at a s)
      (states_more (IsState a) (λ q n. IsInside q (value n) (old n)) (λ q n is. inside-same q (value n) (old n) (kept n is.in_range)) p (head_at a s) (closed.heads s)))
      (inside-trans p (head_value p old (head_at a s)) (old s) (value s) (model.heads s) (inside-same p (old s) (value s) (sym (kept s low)))))

  -- and so are the new ones, where their heads are inside and the new edges go up
  pub model_added : ((n s : ℕ) → HasFlow b n s → HasFlow a n s ⊎ Implies (value n) (value s))
      → ((i : ℕ) → i < length new → IsInsideAt value (length a.states + i) (get_or new i past))
      → IsModel b value
  model_added edges heads = model_in_range b value (λ f there. flows f (edges f.negative.0 f.positive.0 there)) (λ s low. inside s low (below_or_more s (length a.states)))
    where
      flows : (f : Flow) → HasFlow a f.negative.0 f.positive.0 ⊎ Implies (value f.negative.0) (value f.positive.0) → Implies (value f.negative.0) (value f.positive.0)
      flows f (inr up) = up
      flows f (inl there) =
          Implies-trans (value f.negative.0) (old f.negative.0) (value f.positive.0)
          (Implies-same (value f.negative.0) (old f.negative.0) (kept f.negative.0 (closed.negative f there).in_range))
          (Implies-trans (old f.negative.0) (old f.positive.0) (value f.positive.0) (model.flows f there)
          (Implies-same_back (value f.positive.0) (old f.positive.0) (kept f.positive.0 (closed.positive f there).in_range)))

      inside : (s : ℕ) → s < length b.states → (s < length a.states) ⊎ ((j : ℕ) × (s ≡ length a.states + j)) → IsInsideAt value s (state_at b s)
      inside s low (inl before) = old_inside s before
      inside s low (inr (j, at)) =
          let all : length b.states ≡ length a.states + length new = (λ k. length (states k)) ∙ length-append a.states new in
          let here : s ≡ length a.states + j = at in
          let P : ℕ → Type 0 = λ s. IsInsideAt value s (state_at b s) in
          subst P (sym at)
          (subst (IsInsideAt value (length a.states + j)) (sym ((λ k. get_or (states k) (length a.states + j) past) ∙ get_or-append-add a.states new j past))
          (heads j (omega arith)))
