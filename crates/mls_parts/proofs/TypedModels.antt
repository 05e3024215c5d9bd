-- Models of automata whose states are types.
--     has_model          a family of types is a model over one book
--     copied_model       where a scheme allows a type, the automaton of its book has a model that gives it
--     model_allows       and back: what models give, the scheme allows
use Rattle.std.specs.Prelude.{Option, None}
use Rattle.std.proofs.Common.{◌≡◌, ◌⊎◌, inl, inr, ℕ, ◌<◌, length, refl, sym, ◌∙◌, subst, Some}
use Rattle.mls_book.specs.Predicates.{Predicate, Implies, top}
use Rattle.mls_book.specs.Passes.{passes_by}
use Rattle.mls_book.specs.Schemes as book
use Rattle.mls_book.specs.Schemes.{binder_passes}
use Rattle.mls_book.proofs.Depths.{Implies-trans, Implies-same, Implies-same_back}
use Rattle.mls_automaton.specs.declared.automaton.Flow.{Flow}
use Rattle.mls_automaton.specs.declared.automaton.Polarity.TheVariants.{Negative}
use Rattle.mls_automaton.specs.declared.scheme.Scheme.{Scheme}
use Rattle.mls_automaton.specs.Automata.{Automaton, IsState}
use Rattle.mls_automaton.specs.Models.{IsModel}
use Rattle.mls_automaton.specs.Schemes.{state_of, IsScheme, IsSchemeOf, NoGoal}
use Rattle.mls_automaton.specs.States.{state_passes}
use Rattle.mls_automaton.proofs.BookValues.{root-value, binder-value}
use Rattle.mls_automaton.proofs.Bounds.{IsBetween, positive-below, negative-above, passes-model}
use Rattle.mls_automaton.proofs.HeldEverywhere.{IsHeldEverywhere, held_everywhere, decide_state}
use Rattle.mls_automaton.proofs.Instances.{HasModel, flow_of, read-variables}
use Rattle.mls_automaton.proofs.StatesHeld.{states_held}
use Rattle.mls_typing.specs.Typed.{Types, IsType, IsTypeOf, Allows}
use Rattle.mls_parts.proofs.HeldTypes.{top_type, in_one_book}

-- the negative states of a model need a type each, as there are finitely many of them
pub has_model : (s : Scheme) (IsGoal : ℕ → ℕ → Type 0) (target : Predicate) (binder value : ℕ → Predicate)
    → ((n : ℕ) → IsState s.automaton Negative n → IsType (value n)) → IsModel s.automaton value
    → ((p n : ℕ) → IsGoal p n → Implies (value p) (value n)) → Implies (value s.root.0) target
    → ((x : ℕ) → Implies (binder x) (binder_passes value (state_of s.env x)))
    → HasModel s IsGoal target binder
has_model s IsGoal target binder value are model goals root env =
    let all = in_one_book (length s.automaton.states) (λ n. (chosen n (decide_state s.automaton Negative n)).0) (λ n low. (chosen n (decide_state s.automaton Negative n)).1) in
    record {
      nodes = all.0;
      closed = all.1;
      value = value;
      model = model;
      held = λ n state. subst (IsTypeOf all.0) ((chosen n (decide_state s.automaton Negative n)).2 state) (all.2 n state.in_range);
      goals = goals;
      root = root;
      env = env;
    }
  where
    chosen : (n : ℕ) → IsState s.automaton Negative n ⊎ (IsState s.automaton Negative n → ⊥) → (f : Predicate) × IsType f × (IsState s.automaton Negative n → f ≡ value n)
    chosen n (inl state) = (value n, are n state, λ it. refl)
    chosen n (inr none) = (top, top_type, λ it. absurd (none it))

-- a model of a scheme's automaton by types, which gives the root just this type where the binders have these
pub record IsCopiedModel (s : Scheme) (types : Types) (f : Predicate) (value : ℕ → Predicate) : Type 0 where
  pub model : IsModel s.automaton value
  pub types_are : (n : ℕ) → n < length s.automaton.states → IsType (value n)
  pub root : value s.root.0 ≡ f
  pub env : (x : ℕ) → Implies (types x) (binder_passes value (state_of s.env x))

-- where a scheme allows a type, the automaton of its book has such a model
pub copied_model : (s : Scheme) (b : book.Scheme) → IsScheme s → IsSchemeOf s b → (types : Types) (f : Predicate) (a : Allows b types f)
    → (value : ℕ → Predicate) × IsCopiedModel s types (passes_by a.reading b.book b.root) value
copied_model s b is is_book types f a =
    let reading : Flow → Predicate = λ e. a.reading (is_book.variable e) in
    let held = states_held s.automaton is.automaton a.book a.closed reading (λ e. a.held (is_book.variable e)) in (
      state_passes reading s.automaton,
      record {
        model = passes-model s.automaton is.automaton reading;
        types_are = λ n low. (held.0, held.1.closed, held.2 n low);
        root = sym (root-value s is b is_book a.reading);
        env = λ x. subst (Implies (types x)) (binder-value s is b is_book a.reading x) (a.env x);
      },
    )

-- what a model gives, the scheme allows
module _ (s : Scheme) (b : book.Scheme) (is : IsScheme s) (is_book : IsSchemeOf s b) (types : Types) (f : Predicate) (it : HasModel s NoGoal f types) where
  abbrev a : Automaton
  a = s.automaton

  -- each variable is read as the negative state of its edge
  module _ (every : IsHeldEverywhere a Negative it.nodes it.value) where
    abbrev reading : Flow → Predicate
    reading e = every.total e.negative.0

    between : IsBetween a it.value reading
    between e there =
        let same : every.total e.negative.0 ≡ it.value e.negative.0 = every.same e.negative.0 (is.automaton.negative e there) in (
          Implies-same_back (every.total e.negative.0) (it.value e.negative.0) same,
          Implies-trans (every.total e.negative.0) (it.value e.negative.0) (it.value e.positive.0) (Implies-same (every.total e.negative.0) (it.value e.negative.0) same) (it.model.flows e there),
        )

    abbrev flow_at : ℕ → Flow
    flow_at = flow_of a is_book.variable is_book.book.distinct

    abbrev v : ℕ → Predicate
    v x = reading (flow_at x)

    same_reading : state_passes (λ e. v (is_book.variable e)) a ≡ state_passes reading a
    same_reading = λ k j. read-variables a is_book.variable is_book.book.distinct reading j k

    above : (g : Predicate) (o : Option ℕ) → ((n : ℕ) → o ≡ Some n → IsState a Negative n) → Implies g (binder_passes it.value o) → Implies g (binder_passes (state_passes reading a) o)
    above g None state h = λ t e. refl
    above g (Some n) state h = Implies-trans g (it.value n) (state_passes reading a n) h (negative-above a is.automaton it.value it.model reading between n (state n refl).polarity)

    allowed : Allows b types f
    allowed = record {
      book = every.book;
      closed = every.extends.closed;
      reading = v;
      held = λ x. every.held (flow_at x).negative.0;
      root =
          Implies-trans (passes_by v b.book b.root) (it.value s.root.0) f
          (subst (λ g. Implies g (it.value s.root.0)) (sym (root-value s is b is_book v ∙ (λ k. same_reading k s.root.0)))
          (positive-below a is.automaton it.value it.model reading between s.root.0 is.root.polarity))
          it.root;
      env = λ x.
          subst (Implies (types x)) (sym (binder-value s is b is_book v x ∙ (λ k. binder_passes (same_reading k) (state_of s.env x))))
          (above (types x) (state_of s.env x) (is.env x) (it.env x));
    }

  pub model_allows : Allows b types f
  model_allows = allowed (held_everywhere a Negative it.nodes it.closed it.value it.held)
