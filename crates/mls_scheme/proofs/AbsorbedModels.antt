-- Models of the whole from models of two schemes, and the other way, where the first took the second into it.
use Rattle.std.proofs.Common.{◌≡◌, ◌⊎◌, inl, inr, ℕ, ◌+◌, ◌<◌, List, refl, sym, ap, ◌∙◌, subst, arith, length, Some, None}
use Rattle.std.specs.Prelude.{Option, option_map}
use Rattle.mls_book.specs.declared.book.Node.{Node}
use Rattle.mls_book.specs.Predicates.{Predicate, Implies, meet}
use Rattle.mls_book.specs.Schemes.{binder_passes}
use Rattle.mls_book.proofs.Lattice.{meet_top}
use Rattle.mls_book.proofs.LongerBooks.{below_or_more, united as united_books, Extends, Holds}
use Rattle.mls_book.proofs.Representation.{IsIn, IsIn-held, IsIn-longer}
use Rattle.mls_automaton.specs.declared.automaton.Polarity.{Polarity}
use Rattle.mls_automaton.specs.declared.automaton.Polarity.TheVariants.{Positive, Negative}
use Rattle.mls_automaton.specs.declared.automaton.State.{State}
use Rattle.mls_automaton.specs.declared.scheme.Scheme.{Scheme}
use Rattle.mls_automaton.specs.Automata.{Automaton, polarity_at, IsState}
use Rattle.mls_automaton.specs.Embeddings.{appended}
use Rattle.mls_automaton.specs.Models.{IsClosed, IsModel}
use Rattle.mls_automaton.specs.Schemes.{state_of, IsScheme}
use Rattle.mls_automaton.proofs.Appends.{closed-appended, first-embedded, first-state, length-appended, second-embedded, second-state}
use Rattle.mls_automaton.proofs.Signs.{same-inside}
use Rattle.mls_scheme.specs.Merged.{HasModelsOfBoth, HeldModel, IsAbsorbed, IsAssembled, IsMergedBinder, IsNew, IsParted}
use Rattle.mls_scheme.proofs.Absorbed.{joined, joined-held, joined-model, joined-positive, met, met-held, met-model, met-new, met-old, over-below, self-below}
use Rattle.mls_scheme.proofs.SideBySide.{first-model, second-model, united, united-first, united-model, united-second}

module _ (new into from : Scheme) (place : ℕ) (is_into : IsScheme into) (is_from : IsScheme from) (is_new : IsScheme new) (is : IsAbsorbed new into from place) where
  abbrev n : ℕ
  n = length into.automaton.states

  abbrev up : ℕ → ℕ
  up s = n + s

  abbrev a : Automaton
  a = appended into.automaton from.automaton

  closed_a : IsClosed a
  closed_a = closed-appended into.automaton from.automaton is_into.automaton is_from.automaton

  size : length a.states ≡ n + length from.automaton.states
  size = length-appended into.automaton from.automaton

  is_first : (p : Polarity) (s : ℕ) → IsState into.automaton p s → IsState a p s
  is_first p s state =
      let it = first-embedded into.automaton from.automaton is_into.automaton is_from.automaton in
      record { in_range = it.in_range s state.in_range; polarity = it.polarity s state.in_range ∙ state.polarity }

  is_second : (p : Polarity) (s : ℕ) → IsState from.automaton p s → IsState a p (up s)
  is_second p s state =
      let it = second-embedded into.automaton from.automaton is_into.automaton is_from.automaton in
      record { in_range = it.in_range s state.in_range; polarity = it.polarity s state.in_range ∙ state.polarity }

  -- a model of the whole from two
  module _ (one : HeldModel into.automaton) (other : HeldModel from.automaton) where
    below : ℕ → Predicate
    below = united into.automaton from.automaton is_into.automaton is_from.automaton one.value other.value

    below-first : (s : ℕ) → s < n → below s ≡ one.value s
    unfolding below
    below-first = united-first into.automaton from.automaton is_into.automaton is_from.automaton one.value other.value

    below-second : (s : ℕ) → below (up s) ≡ other.value s
    unfolding below
    below-second = united-second into.automaton from.automaton is_into.automaton is_from.automaton one.value other.value

    below-model : IsModel a below
    unfolding below
    below-model = united-model into.automaton from.automaton is_into.automaton is_from.automaton one.value other.value one.model other.model

    module _ (nodes : List Node) (more : Extends one.nodes nodes) (at : ℕ → ℕ) (holds : Holds other.nodes nodes at) where
      below-held : (s : ℕ) → IsState a Negative s → IsIn nodes (below s)
      below-held s state = go (below_or_more s n)
        where
          go : (s < n) ⊎ ((j : ℕ) × (s ≡ n + j)) → IsIn nodes (below s)
          go (inl low) =
              subst (IsIn nodes) (sym (below-first s low))
              (IsIn-longer one.nodes nodes (one.value s) one.closed more
              (one.held s (record { in_range = low; polarity = sym (ap (λ (x : State). x.polarity) (first-state into.automaton from.automaton s low)) ∙ state.polarity })))
          go (inr (j, e)) =
              let low : s < length a.states = state.in_range in
              let all : length a.states ≡ n + length from.automaton.states = size in
              let lower : j < length from.automaton.states = omega arith in
              subst (IsIn nodes) (sym (ap below e ∙ below-second j))
              (IsIn-held other.nodes nodes at (other.value j) holds
              (other.held j (record { in_range = lower; polarity = sym (ap (λ (x : State). x.polarity) (second-state into.automaton from.automaton j)) ∙ (ap (polarity_at a) (sym e) ∙ state.polarity) })))

      value : ℕ → Predicate
      value = met is.first is.second a new.automaton closed_a is_new.automaton is.automaton below below-model

      value-old : (s : ℕ) → s < length a.states → value s ≡ below s
      unfolding value
      value-old = met-old is.first is.second a new.automaton closed_a is_new.automaton is.automaton below below-model

      value-new : (k : ℕ) → IsNew a new.automaton k → value k ≡ meet (below (is.first k)) (below (is.second k))
      unfolding value
      value-new = met-new is.first is.second a new.automaton closed_a is_new.automaton is.automaton below below-model

      first-value : (s : ℕ) → s < n → value s ≡ one.value s
      first-value s low = let all : length a.states ≡ n + length from.automaton.states = size in value-old s (omega arith) ∙ below-first s low

      second-value : (s : ℕ) → s < length from.automaton.states → value (up s) ≡ other.value s
      second-value s low = let all : length a.states ≡ n + length from.automaton.states = size in value-old (up s) (omega arith) ∙ below-second s

      env-value : (l r o : Option ℕ) → ((m : ℕ) → l ≡ Some m → IsState into.automaton Negative m) → ((m : ℕ) → r ≡ Some m → IsState from.automaton Negative m) → IsMergedBinder is.first is.second a new.automaton l (option_map up r) o → binder_passes value o ≡ meet (binder_passes one.value l) (binder_passes other.value r)
      env-value None None o is_l is_r same = ap (binder_passes value) same
      env-value None (Some j) o is_l is_r same = ap (binder_passes value) same ∙ second-value j (is_r j refl).in_range
      env-value (Some m) None o is_l is_r same = ap (binder_passes value) same ∙ (first-value m (is_l m refl).in_range ∙ sym (meet_top (one.value m)))
      env-value (Some m) (Some j) o is_l is_r it =
          ap (binder_passes value) it.1
          ∙ (value-new it.0 it.2
          ∙ (λ i. meet ((ap below it.3 ∙ below-first m (is_l m refl).in_range) i) ((ap below it.4 ∙ below-second j) i)))

      whole : HeldModel new.automaton
      unfolding value
      whole =
          let kept = met-held is.first is.second a new.automaton closed_a is_new.automaton is.automaton below below-model nodes more.closed below-held in
          record {
            nodes = kept.0;
            closed = kept.1.closed;
            value = value;
            model = met-model is.first is.second a new.automaton closed_a is_new.automaton is.automaton below below-model;
            held = kept.2;
          }

      is_whole : IsAssembled new into from whole one other
      unfolding whole
      is_whole = record {
        first = first-value;
        second = second-value;
        env = λ x. env-value (state_of into.env x) (state_of from.env x) (state_of new.env x) (is_into.env x) (is_from.env x) (is.env x);
      }

    pub assembled_model : (whole : HeldModel new.automaton) × IsAssembled new into from whole one other
    assembled_model =
        let books = united_books one.nodes other.nodes one.closed other.closed in
        (whole books.0 books.1 books.2.0 books.2.1, is_whole books.0 books.1 books.2.0 books.2.1)

  -- two from a model of the whole
  module _ (whole : HeldModel new.automaton) where
    value-in : ℕ → Predicate
    value-in = joined is.first is.second a new.automaton closed_a is_new.automaton is.automaton whole.value whole.model

    model-in : IsModel a value-in
    unfolding value-in
    model-in = joined-model is.first is.second a new.automaton closed_a is_new.automaton is.automaton whole.value whole.model

    self-in : (s : ℕ) → Implies (whole.value s) (value-in s)
    unfolding value-in
    self-in = self-below is.first is.second a new.automaton closed_a is_new.automaton is.automaton whole.value whole.model

    over-in : (s k : ℕ) → IsNew a new.automaton k → (is.first k ≡ s) ⊎ (is.second k ≡ s) → Implies (whole.value k) (value-in s)
    unfolding value-in
    over-in = over-below is.first is.second a new.automaton closed_a is_new.automaton is.automaton whole.value whole.model

    positive-in : (p : ℕ) → IsState a Positive p → value-in p ≡ whole.value p
    unfolding value-in
    positive-in p state =
        same-inside Positive (value-in p) (whole.value p)
        (joined-positive is.first is.second a new.automaton closed_a is_new.automaton is.automaton whole.value whole.model p state.polarity)
        (self-in p)

    env-first : (l r o : Option ℕ) → IsMergedBinder is.first is.second a new.automaton l (option_map up r) o → Implies (binder_passes whole.value o) (binder_passes value-in l)
    env-first None r o it = λ t e. refl
    env-first (Some m) None o same = subst (λ o. Implies (binder_passes whole.value o) (value-in m)) (sym same) (self-in m)
    env-first (Some m) (Some j) o it = subst (λ o. Implies (binder_passes whole.value o) (value-in m)) (sym it.1) (over-in m it.0 it.2 (inl it.3))

    env-second : (l r o : Option ℕ) → IsMergedBinder is.first is.second a new.automaton l (option_map up r) o → Implies (binder_passes whole.value o) (binder_passes (λ s. value-in (up s)) r)
    env-second l None o it = λ t e. refl
    env-second None (Some j) o same = subst (λ o. Implies (binder_passes whole.value o) (value-in (up j))) (sym same) (self-in (up j))
    env-second (Some m) (Some j) o it = subst (λ o. Implies (binder_passes whole.value o) (value-in (up j))) (sym it.1) (over-in (up j) it.0 it.2 (inr it.4))

    kept-in : (c : List Node) × Extends whole.nodes c × ((s : ℕ) → IsState a Negative s → IsIn c (value-in s))
    unfolding value-in
    kept-in = joined-held is.first is.second a new.automaton closed_a is_new.automaton is.automaton whole.value whole.model whole.nodes whole.closed whole.held

    pub parted_models : (one : HeldModel into.automaton) × (other : HeldModel from.automaton) × IsParted new into from whole one other
    parted_models = (
      record {
        nodes = kept-in.0;
        closed = kept-in.1.closed;
        value = value-in;
        model = first-model into.automaton from.automaton is_into.automaton is_from.automaton value-in model-in;
        held = λ s state. kept-in.2 s (is_first Negative s state);
      },
      record {
        nodes = kept-in.0;
        closed = kept-in.1.closed;
        value = λ s. value-in (up s);
        model = second-model into.automaton from.automaton is_into.automaton is_from.automaton value-in model-in;
        held = λ s state. kept-in.2 (up s) (is_second Negative s state);
      },
      record {
        first = λ p state. positive-in p (is_first Positive p state);
        second = λ p state. positive-in (up p) (is_second Positive p state);
        first_env = λ x. env-first (state_of into.env x) (state_of from.env x) (state_of new.env x) (is.env x);
        second_env = λ x. env-second (state_of into.env x) (state_of from.env x) (state_of new.env x) (is.env x);
      },
    )

  pub models_of_both : HasModelsOfBoth new into from
  models_of_both = record { assembled = assembled_model; parted = parted_models }
