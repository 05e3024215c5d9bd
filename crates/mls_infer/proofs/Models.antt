-- The types that models with nodes for every state give are those that models with nodes for negative states give.
--     EachFound          each binder has one entry
--     types_model, model_types
use Rattle.std.proofs.Common.{◌≡◌, ℕ, ◌<◌, ◌==◌, Bool, true, false, cond, List, [], ◌∷◌, refl, sym, subst, Contains, Some}
use Rattle.std.specs.Prelude.{Option, None, option_map, find}
use Rattle.std.proofs.lemmas.Bool.{eqb-true}
use Rattle.mls_book.specs.declared.book.Node.TheVariants as node
use Rattle.mls_book.specs.Predicates.{Predicate, Implies, bot, var}
use Rattle.mls_book.specs.Schemes.{binder_passes}
use Rattle.mls_book.proofs.Depths.{Implies-trans, Implies-same, Implies-same_back}
use Rattle.mls_book.proofs.LongerBooks.{extended_with}
use Rattle.mls_book.proofs.Representation.{IsIn-longer}
use Rattle.mls_book.proofs.Table.{value-bot}
use Rattle.mls_automaton.specs.declared.automaton.Polarity.TheVariants.{Positive, Negative}
use Rattle.mls_automaton.specs.declared.automaton.Flow.{Flow}
use Rattle.mls_automaton.specs.declared.scheme.EnvEntry.{EnvEntry}
use Rattle.mls_automaton.specs.declared.scheme.Scheme.{Scheme}
use Rattle.mls_automaton.specs.Automata.{Automaton, IsState}
use Rattle.mls_automaton.specs.Schemes.{IsScheme, state_of}
use Rattle.mls_automaton.specs.States.{state_passes}
use Rattle.mls_automaton.proofs.Bounds.{IsBetween, positive-below, negative-above, passes-model}
use Rattle.mls_automaton.proofs.HeldEverywhere.{IsHeldEverywhere, held_everywhere}
use Rattle.mls_automaton.proofs.Instances.{HasModel, AreGoals}
use Rattle.mls_automaton.proofs.Lists.{Contains-here, Contains-later}
use Rattle.mls_automaton.proofs.StatesHeld.{states_held}
use Rattle.mls_infer.specs.Constraints.{Constraint, HasTypes, size}
use Rattle.mls_infer.specs.Solved.{GoalsOf}
use Rattle.mls_infer.proofs.Grown.{model_agree}
use Rattle.mls_typing.proofs.Readings.{two_readings, read_below, readings_held}

-- each binder has one entry: the one that is found
abbrev pub EachFound : List EnvEntry → Type 0
EachFound env = (entry : EnvEntry) → Contains env entry → state_of env entry.binder ≡ Some entry.state.0

-- what is found is an entry
pub found_entry : (env : List EnvEntry) (x n : ℕ) → state_of env x ≡ Some n → (entry : EnvEntry) × Contains env entry × (entry.binder ≡ x) × (entry.state.0 ≡ n)
found_entry [] x n e = absurd (cc)
found_entry (entry ∷ rest) x n e = at (entry.binder == x) refl e (found_entry rest x n)
  where
    at : (b : Bool) → (entry.binder == x) ≡ b → option_map (λ (entry : EnvEntry). entry.state.0) (cond b (Some entry) (find (λ entry. entry.binder == x) rest)) ≡ Some n
        → (state_of rest x ≡ Some n → (found : EnvEntry) × Contains rest found × (found.binder ≡ x) × (found.state.0 ≡ n)) → (found : EnvEntry) × Contains (entry ∷ rest) found × (found.binder ≡ x) × (found.state.0 ≡ n)
    at true same e later = (entry, Contains-here entry rest, eqb-true entry.binder x same, cc)
    at false other e later = let it = later e in (it.0, Contains-later entry rest it.0 it.1, it.2, it.3)

module _ (c : Constraint) (types : ℕ → Predicate) (f : Predicate) where
  abbrev s : Scheme
  s = c.scheme

  abbrev a : Automaton
  a = s.automaton

  -- a model with nodes for every state is one with nodes for the negative states
  pub types_model : HasTypes c types f → HasModel s (GoalsOf c) f types
  types_model h = record {
    nodes = h.nodes;
    closed = h.closed;
    value = h.value;
    model = h.model;
    held = λ n state. h.held n;
    goals = h.goals;
    root = h.root;
    env = λ x. at x (state_of s.env x) refl;
  }
    where
      at : (x : ℕ) (o : Option ℕ) → state_of s.env x ≡ o → Implies (types x) (binder_passes h.value o)
      at x None e = λ t k. refl
      at x (Some n) e =
          let it = found_entry s.env x n e in
          let P : ℕ → Type 0 = λ x. Implies (types x) (h.value n) in
          let Q : ℕ → Type 0 = λ n. Implies (types it.0.binder) (h.value n) in
          subst P it.2 (subst Q it.3 (h.env it.0 it.1))

  module _ (is : IsScheme s) (each : EachFound s.env) (are : AreGoals a (GoalsOf c)) (it : HasModel s (GoalsOf c) f types) (every : IsHeldEverywhere a Negative it.nodes it.value) where
    -- each edge stands for its negative state
    reading : Flow → Predicate
    reading e = every.total e.negative.0

    between : IsBetween a it.value reading
    unfolding reading
    between e there =
        let same : every.total e.negative.0 ≡ it.value e.negative.0 = every.same e.negative.0 (is.automaton.negative e there) in (
          Implies-same_back (every.total e.negative.0) (it.value e.negative.0) same,
          Implies-trans (every.total e.negative.0) (it.value e.negative.0) (it.value e.positive.0) (Implies-same (every.total e.negative.0) (it.value e.negative.0) same) (it.model.flows e there),
        )

    pub model_types_in : HasTypes c types f
    unfolding reading
    model_types_in =
        let T : ℕ → Predicate = state_passes reading a in
        let one = states_held a is.automaton every.book every.extends.closed reading (λ e. every.held e.negative.0) in
        let two = extended_with one.0 node.Bot one.1.closed tt tt in
        let V : ℕ → Predicate = two_readings (size a) T (λ i. bot) in
        let old : (m : ℕ) → m < size a → V m ≡ T m = λ m low. read_below (size a) T (λ i. bot) m low in
        let below : (p : ℕ) → IsState a Positive p → Implies (V p) (it.value p) = λ p state.
        subst (λ g. Implies g (it.value p)) (sym (old p state.in_range)) (positive-below a is.automaton it.value it.model reading between p state.polarity) in
        let above : (n : ℕ) → IsState a Negative n → Implies (it.value n) (V n) = λ n state.
        subst (Implies (it.value n)) (sym (old n state.in_range)) (negative-above a is.automaton it.value it.model reading between n state.polarity) in
        record {
          nodes = two.0;
          closed = two.1.closed;
          value = V;
          held =
              readings_held (size a) two.0 T (λ i. bot) (λ m low. IsIn-longer one.0 two.0 (T m) one.1.closed two.1 (one.2 m low))
              (λ i. (two.2.0, two.2.1, value-bot var two.0 two.1.closed.book two.2.0 two.2.2));
          model = model_agree a is.automaton T V (λ m low. sym (old m low)) (passes-model a is.automaton reading);
          goals = λ p n inside.
              let states = are p n inside in
              Implies-trans (V p) (it.value p) (V n) (below p states.0) (Implies-trans (it.value p) (it.value n) (V n) (it.goals p n inside) (above n states.1));
          root = Implies-trans (V s.root.0) (it.value s.root.0) f (below s.root.0 is.root) it.root;
          env = λ entry inside.
              let found : state_of s.env entry.binder ≡ Some entry.state.0 = each entry inside in
              Implies-trans (types entry.binder) (it.value entry.state.0) (V entry.state.0)
              (subst (λ o. Implies (types entry.binder) (binder_passes it.value o)) found (it.env entry.binder))
              (above entry.state.0 (is.env entry.binder entry.state.0 found));
        }

  -- and the other way round
  pub model_types : IsScheme s → EachFound s.env → AreGoals a (GoalsOf c) → HasModel s (GoalsOf c) f types → HasTypes c types f
  model_types is each are it = model_types_in is each are it (held_everywhere a Negative it.nodes it.closed it.value it.held)
