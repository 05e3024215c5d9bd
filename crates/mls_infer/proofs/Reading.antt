-- A scheme over a book of its automaton allows just the types that models of the automaton give.
--     read_as
use Rattle.std.proofs.Common.{◌≡◌, ℕ, ◌<◌, length, refl, sym, ◌∙◌, subst, Some}
use Rattle.std.specs.Prelude.{Option, None, option_map}
use Rattle.mls_book.specs.Predicates.{Predicate, Implies}
use Rattle.mls_book.specs.Passes.{passes_by}
use Rattle.mls_book.specs.Schemes as book
use Rattle.mls_book.specs.Schemes.{binder_passes}
use Rattle.mls_book.proofs.Depths.{Implies-refl, Implies-trans}
use Rattle.mls_automaton.specs.declared.automaton.Flow.{Flow}
use Rattle.mls_automaton.specs.declared.scheme.Scheme.{Scheme}
use Rattle.mls_automaton.specs.Automata.{Automaton}
use Rattle.mls_automaton.specs.Schemes.{IsScheme, IsSchemeOf, state_of}
use Rattle.mls_automaton.specs.States.{state_passes}
use Rattle.mls_automaton.proofs.BookValues.{root-value, binder-value}
use Rattle.mls_automaton.proofs.Bounds.{IsBetween, positive-below, negative-above, passes-model}
use Rattle.mls_automaton.proofs.Instances.{flow_of, read-variables}
use Rattle.mls_automaton.proofs.StatesHeld.{states_held}
use Rattle.mls_typing.specs.Typed.{Allows}
use Rattle.mls_infer.specs.Constraints.{HasTypes, no_goals}
use Rattle.mls_infer.specs.Steps.{IsReadAs}
use Rattle.mls_infer.proofs.ConstraintRows.{nothing_in}
use Rattle.mls_infer.proofs.Models.{EachFound, found_entry, model_types}

module _ (s : Scheme) (is : IsScheme s) (each : EachFound s.env) (t : book.Scheme) (is_book : IsSchemeOf s t) where
  abbrev a : Automaton
  a = s.automaton

  in_range : (o : Option ℕ) → ((n : ℕ) → o ≡ Some n → n < length a.states) → (i : ℕ) → option_map is_book.place o ≡ Some i → i < length t.book
  in_range None low i e = absurd (cc)
  in_range (Some n) low i e = let there : is_book.place n < length t.book = is_book.book.in_range n (low n refl) in let same : is_book.place n ≡ i = cc in subst (λ i. i < length t.book) same there

  scheme_is : book.IsScheme t
  scheme_is = record {
    book = is_book.book.closed;
    root = subst (λ r. r < length t.book) (sym is_book.root) (is_book.book.in_range s.root.0 is.root.in_range);
    env = λ x i e. in_range (state_of s.env x) (λ n found. (is.env x n found).in_range) i (sym (is_book.env x) ∙ e);
  }

  module _ (types : ℕ → Predicate) (f : Predicate) where
    -- a model reads each variable as the negative state of its edge
    allowed : HasTypes (no_goals s) types f → Allows t types f
    allowed h =
        let reading : Flow → Predicate = λ e. h.value e.negative.0 in
        let between : IsBetween a h.value reading = λ e there. (Implies-refl (h.value e.negative.0), h.model.flows e there) in
        let flow_at : ℕ → Flow = flow_of a is_book.variable is_book.book.distinct in
        let v : ℕ → Predicate = λ x. reading (flow_at x) in
        let same : state_passes (λ e. v (is_book.variable e)) a ≡ state_passes reading a = λ k j. read-variables a is_book.variable is_book.book.distinct reading j k in
        record {
          book = h.nodes;
          closed = h.closed;
          reading = v;
          held = λ x. h.held (flow_at x).negative.0;
          root =
              Implies-trans (passes_by v t.book t.root) (h.value s.root.0) f
              (subst (λ g. Implies g (h.value s.root.0)) (sym (root-value s is t is_book v ∙ (λ k. same k s.root.0)))
              (positive-below a is.automaton h.value h.model reading between s.root.0 is.root.polarity))
              h.root;
          env = λ x.
              subst (Implies (types x)) (sym (binder-value s is t is_book v x ∙ (λ k. binder_passes (same k) (state_of s.env x))))
              (at h reading between x (state_of s.env x) refl);
        }
      where
        at : (h : HasTypes (no_goals s) types f) (reading : Flow → Predicate) → IsBetween a h.value reading → (x : ℕ) (o : Option ℕ) → state_of s.env x ≡ o → Implies (types x) (binder_passes (state_passes reading a) o)
        at h reading between x None e = λ t k. refl
        at h reading between x (Some n) e =
            let it = found_entry s.env x n e in
            let P : ℕ → Type 0 = λ x. Implies (types x) (h.value n) in
            let Q : ℕ → Type 0 = λ n. Implies (types it.0.binder) (h.value n) in
            Implies-trans (types x) (h.value n) (state_passes reading a n)
            (subst P it.2 (subst Q it.3 (h.env it.0 it.1)))
            (negative-above a is.automaton h.value h.model reading between n (is.env x n e).polarity)

    -- and each reading of the variables gives a model
    given_types : Allows t types f → HasTypes (no_goals s) types f
    given_types it =
        let reading : Flow → Predicate = λ e. it.reading (is_book.variable e) in
        let more = states_held a is.automaton it.book it.closed reading (λ e. it.held (is_book.variable e)) in
        model_types (no_goals s) types f is each (λ p n inside. absurd (nothing_in (p, n) inside))
        (record {
          nodes = more.0;
          closed = more.1.closed;
          value = state_passes reading a;
          model = passes-model a is.automaton reading;
          held = λ n state. more.2 n state.in_range;
          goals = λ p n inside. absurd (nothing_in (p, n) inside);
          root = subst (λ g. Implies g f) (root-value s is t is_book it.reading) it.root;
          env = λ x. subst (Implies (types x)) (binder-value s is t is_book it.reading x) (it.env x);
        })

  pub read_as : IsReadAs s t
  read_as = record { is = scheme_is; just = λ types f. (allowed types f, given_types types f) }
