-- Models of two automata side by side.
--     united-model     two models give one
--     first-model, second-model     and one gives two
use Rattle.std.proofs.Common.{◌≡◌, ◌⊎◌, inl, inr, ℕ, ◌+◌, ◌<◌, refl, sym, ap, subst, arith, length}
use Rattle.mls_book.specs.Predicates.{Predicate, Implies}
use Rattle.mls_book.proofs.Depths.{Implies-trans, Implies-same, Implies-same_back}
use Rattle.mls_book.proofs.LongerBooks.{below_or_more}
use Rattle.mls_automaton.specs.declared.automaton.Polarity.{Polarity}
use Rattle.mls_automaton.specs.declared.automaton.State.{State}
use Rattle.mls_automaton.specs.Automata.{Automaton, flow, head_at, polarity_at, HasFlow, IsState}
use Rattle.mls_automaton.specs.Embeddings.{appended, renamed_head}
use Rattle.mls_automaton.specs.Heads.{head_value}
use Rattle.mls_automaton.specs.Models.{IsClosed, IsInside, IsModel}
use Rattle.mls_automaton.proofs.Appends.{first-embedded, first-state, flows-appended, second-embedded, second-state}
use Rattle.mls_automaton.proofs.Bounds.{model_in_range}
use Rattle.mls_automaton.proofs.Embeddings.{renamed_head-value}
use Rattle.mls_automaton.proofs.Passing.{head-inside, states_more}
use Rattle.mls_automaton.proofs.Signs.{inside-same, inside-trans}

module _ (a b : Automaton) (closed : IsClosed a) (closed' : IsClosed b) where
  abbrev n : ℕ
  n = length a.states

  abbrev up : ℕ → ℕ
  up s = n + s

  abbrev c : Automaton
  c = appended a b

  -- heads whose states pass the same pass the same
  head-as : (d : Automaton) (f g : ℕ → Predicate) → IsClosed d → ((s : ℕ) → s < length d.states → f s ≡ g s) → (s : ℕ) → IsInside (polarity_at d s) (head_value (polarity_at d s) f (head_at d s)) (head_value (polarity_at d s) g (head_at d s))
  head-as d f g is same s =
      head-inside f g (polarity_at d s) (head_at d s)
      (states_more (IsState d) (λ q j. IsInside q (f j) (g j)) (λ q j state. inside-same q (f j) (g j) (same j state.in_range)) (polarity_at d s) (head_at d s) (is.heads s))

  module _ (f g : ℕ → Predicate) where
    abbrev united_by : (s : ℕ) → (s < n) ⊎ ((j : ℕ) × (s ≡ n + j)) → Predicate
    united_by s (inl low) = f s
    united_by s (inr it) = g it.0

    pub united : ℕ → Predicate
    united s = united_by s (below_or_more s n)

    pub united-first : (s : ℕ) → s < n → united s ≡ f s
    unfolding united
    united-first s low = go (below_or_more s n)
      where
        go : (d : (s < n) ⊎ ((j : ℕ) × (s ≡ n + j))) → united_by s d ≡ f s
        go (inl h) = refl
        go (inr h) = let at : s ≡ n + h.0 = h.1 in absurd (omega arith)

    pub united-second : (j : ℕ) → united (n + j) ≡ g j
    unfolding united
    united-second j = go (below_or_more (n + j) n)
      where
        go : (d : (n + j < n) ⊎ ((i : ℕ) × (n + j ≡ n + i))) → united_by (n + j) d ≡ g j
        go (inl h) = absurd (omega arith)
        go (inr h) = let at : n + j ≡ n + h.0 = h.1 in let same : h.0 ≡ j = omega arith in ap g same

    module _ (model : IsModel a f) (model' : IsModel b g) where
      united-flows : (m p : ℕ) → HasFlow c m p → Implies (united m) (united p)
      united-flows m p it = go (flows-appended a b m p it)
        where
          go : HasFlow a m p ⊎ ((i j : ℕ) × HasFlow b i j × (m ≡ up i) × (p ≡ up j)) → Implies (united m) (united p)
          go (inl edge) =
              Implies-trans (united m) (f m) (united p) (Implies-same (united m) (f m) (united-first m (closed.negative (flow m p) edge).in_range))
              (Implies-trans (f m) (f p) (united p) (model.flows (flow m p) edge) (Implies-same_back (united p) (f p) (united-first p (closed.positive (flow m p) edge).in_range)))
          go (inr (i, j, edge, at, at')) =
              subst (λ m. Implies (united m) (united p)) (sym at) (subst (λ p. Implies (united (up i)) (united p)) (sym at')
              (Implies-trans (united (up i)) (g i) (united (up j)) (Implies-same (united (up i)) (g i) (united-second i))
              (Implies-trans (g i) (g j) (united (up j)) (model'.flows (flow i j) edge) (Implies-same_back (united (up j)) (g j) (united-second j)))))

      united-heads : (s : ℕ) → (s < n) ⊎ ((j : ℕ) × (s ≡ n + j)) → IsInside (polarity_at c s) (head_value (polarity_at c s) united (head_at c s)) (united s)
      united-heads s (inl low) =
          let p : Polarity = polarity_at a s in
          subst (λ (x : State). IsInside x.polarity (head_value x.polarity united x.head) (united s)) (sym (first-state a b s low))
          (inside-trans p (head_value p united (head_at a s)) (head_value p f (head_at a s)) (united s)
          (head-as a united f closed united-first s)
          (inside-trans p (head_value p f (head_at a s)) (f s) (united s) (model.heads s) (inside-same p (f s) (united s) (sym (united-first s low)))))
      united-heads s (inr (j, at)) =
          let p : Polarity = polarity_at b j in
          subst (λ s. IsInside (polarity_at c s) (head_value (polarity_at c s) united (head_at c s)) (united s)) (sym at)
          (subst (λ (x : State). IsInside x.polarity (head_value x.polarity united x.head) (united (up j))) (sym (second-state a b j))
          (inside-trans p (head_value p united (renamed_head up (head_at b j))) (head_value p (λ i. united (up i)) (head_at b j)) (united (up j))
          (inside-same p (head_value p united (renamed_head up (head_at b j))) (head_value p (λ i. united (up i)) (head_at b j)) (renamed_head-value up united p (head_at b j)))
          (inside-trans p (head_value p (λ i. united (up i)) (head_at b j)) (head_value p g (head_at b j)) (united (up j))
          (head-as b (λ i. united (up i)) g closed' (λ i low. united-second i) j)
          (inside-trans p (head_value p g (head_at b j)) (g j) (united (up j)) (model'.heads j) (inside-same p (g j) (united (up j)) (sym (united-second j)))))))

      pub united-model : IsModel c united
      united-model = record {
        flows = λ f it. united-flows f.negative.0 f.positive.0 it;
        heads = λ s. united-heads s (below_or_more s n);
      }

  module _ (value : ℕ → Predicate) (model : IsModel c value) where
    pub first-model : IsModel a value
    first-model =
        model_in_range a value
        (λ f it. model.flows f ((first-embedded a b closed closed').flows f it))
        (λ s low. subst (λ (x : State). IsInside x.polarity (head_value x.polarity value x.head) (value s)) (first-state a b s low) (model.heads s))

    pub second-model : IsModel b (λ j. value (up j))
    second-model = record {
      flows = λ f it. model.flows (flow (up f.negative.0) (up f.positive.0)) ((second-embedded a b closed closed').flows f it);
      heads = λ j.
          let p : Polarity = polarity_at b j in
          inside-trans p (head_value p (λ i. value (up i)) (head_at b j)) (head_value p value (renamed_head up (head_at b j))) (value (up j))
          (inside-same p (head_value p (λ i. value (up i)) (head_at b j)) (head_value p value (renamed_head up (head_at b j))) (sym (renamed_head-value up value p (head_at b j))))
          (subst (λ (x : State). IsInside x.polarity (head_value x.polarity value x.head) (value (up j))) (second-state a b j) (model.heads (up j)));
    }
