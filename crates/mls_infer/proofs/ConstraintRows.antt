-- The constraints of each form give what the rule of the form makes of its parts.
--     bound_row, number_row, truth_row, fun_row, fix_row, project_row
use Rattle.std.proofs.Common.{◌≡◌, ◌⊎◌, ◌↔◌, inl, inr, ℕ, zero, suc, ◌+◌, ◌<◌, ◌≤◌, Bool, true, false, not, cond, List, [], ◌∷◌, map, length, refl, sym, ap, ◌∙◌, subst, arith, Some, Contains, bytes_eq}
use Rattle.std.specs.Prelude.{None, option_map, filter}
use Rattle.std.specs.Ordering.{nat_cmp, eq_by_cmp}
use Rattle.std.specs.declared.cmp.Ordering.TheVariants.{Less}
use Rattle.std.specs.Cmp.Lexicographic.{slice_cmp}
use Rattle.std.proofs.lemmas.List.Elements.{All-nil, All-cons}
use Rattle.mls_book.specs.declared.book.Field.{Field}
use Rattle.mls_book.specs.declared.book.Node.{Node}
use Rattle.mls_book.specs.declared.book.Node.TheVariants as node
use Rattle.mls_book.specs.Books.{IsClosedBook}
use Rattle.mls_book.specs.Predicates.{Predicate, Implies, bool, int, arrow, rcd, meet, meets, var}
use Rattle.mls_book.specs.Passes.{passes}
use Rattle.mls_book.proofs.Constructors.{arrow-implies}
use Rattle.mls_book.proofs.Depths.{Implies-refl, Implies-trans, Implies-same}
use Rattle.mls_book.proofs.Lattice.{meets_greatest, meets_lower}
use Rattle.mls_book.proofs.LongerBooks.{closed_from, Extends, Extends-value, Extends-trans, extended_with}
use Rattle.mls_book.proofs.Representation.{IsIn-longer}
use Rattle.mls_book.proofs.Table.{value-top, value-bool, value-int, value-arrow, value-rcd, value-meet}
use Rattle.mls_automaton.specs.declared.automaton.Polarity.{Polarity}
use Rattle.mls_automaton.specs.declared.automaton.Polarity.TheVariants.{Positive, Negative}
use Rattle.mls_automaton.specs.declared.automaton.FieldSet.{FieldSet}
use Rattle.mls_automaton.specs.declared.automaton.Head.{Head}
use Rattle.mls_automaton.specs.declared.automaton.State.{State}
use Rattle.mls_automaton.specs.declared.automaton.Flow.{Flow}
use Rattle.mls_automaton.specs.declared.scheme.EnvEntry.{EnvEntry}
use Rattle.mls_automaton.specs.declared.scheme.Scheme.{Scheme}
use Rattle.mls_automaton.specs.Automata.{Automaton, empty_head, flow}
use Rattle.mls_automaton.specs.Heads.{set_value, set_at, record_value, head_value}
use Rattle.mls_automaton.specs.Models.{IsClosed, IsModel, IsInside}
use Rattle.mls_automaton.proofs.Lists.{Contains-cases, Contains-here, Contains-filter, Contains-filtered, passes-filtered, Contains-map, All-contained}
use Rattle.mls_typing.specs.Typed.{IsTypeOf, IsType, with_binder, OfBound, OfFun, one_field, OfProject, OfFix}
use Rattle.mls_infer.specs.Constraints.{HasTypes, HasStates, no_goals, size, negative, positive, function_head, record_head, bool_head, int_head, AreStatesOf, states_of, without, bound_constraint, literal_constraint, fun_constraint, fix_constraint, project_constraint}
use Rattle.mls_infer.proofs.Grown.{Contains-mapped, AreUpward, grown-model, model-grown, model_agree}
use Rattle.mls_infer.proofs.HeadValues.{set_one, empty_value, bool_value, int_value, function_head-value, record_head-value}
use Rattle.mls_typing.proofs.Readings.{two_readings, read_below, read_at, readings_held}
use Rattle.mls_typing.proofs.TypedForms.{with_type}
use Rattle.mls_typing.proofs.TypedUses.{one_field-value}

pub nothing_in : {X : Type 0} (x : X) → Contains [] x → ⊥
nothing_in x it = let low : it.0 < 0 = it.1 in absurd (omega arith)

-- the meet of types of a book is one of a longer book
pub meets_held : (b : List Node) → IsClosedBook b → (f : ℕ → Predicate) → ((s : ℕ) → IsTypeOf b (f s)) → (set : List ℕ) → (c : List Node) × Extends b c × IsTypeOf c (meets (map f set))
meets_held b closed f held [] =
    let it = extended_with b node.Top closed tt tt in
    (it.0, it.1, (it.2.0, it.2.1, value-top var it.0 it.1.closed.book it.2.0 it.2.2))
meets_held b closed f held (s ∷ rest) =
    let one = meets_held b closed f held rest in
    let c : List Node = one.0 in
    let here : IsTypeOf c (f s) = IsIn-longer b c (f s) closed one.1 (held s) in
    let n : ℕ = here.0 in
    let m : ℕ = one.2.0 in
    let n_low : n < length c = here.1 in
    let m_low : m < length c = one.2.1 in
    let it = extended_with c (node.Meet (record { 0 = n }) (record { 0 = m })) one.1.closed (n_low, m_low) (omega arith, omega arith) in
    let n_value : passes it.0 n ≡ f s = Extends-value c it.0 one.1.closed it.1 var n n_low ∙ here.2 in
    let m_value : passes it.0 m ≡ meets (map f rest) = Extends-value c it.0 one.1.closed it.1 var m m_low ∙ one.2.2 in (
      it.0,
      Extends-trans b c it.0 one.1 it.1,
      (it.2.0, it.2.1, value-meet var it.0 it.1.closed.book it.2.0 (record { 0 = n }) (record { 0 = m }) it.2.2 ∙ (λ k. meet (n_value k) (m_value k))),
    )

-- numbers and truth values
module _ (h : Head) (g : Predicate) (is : IsType g) (value_is : (v : ℕ → Predicate) → head_value Positive v h ≡ g) (types : ℕ → Predicate) (f : Predicate) where
  pub literal_row : HasTypes (literal_constraint h) types f ↔ Implies g f
  literal_row = (
    λ t. Implies-trans g (t.value 0) f (subst (λ k. Implies k (t.value 0)) (value_is t.value) (t.model.heads 0)) t.root,
    λ below. record {
      nodes = is.0;
      closed = is.1;
      value = λ s. g;
      held = λ s. is.2;
      model =
          model-grown (record { states = []; flows = [] }) (positive h ∷ []) [] (λ s. g)
          (record { flows = λ e inside. absurd (nothing_in e inside); heads = λ s t e. absurd (cc) })
          (Implies-same (head_value Positive (λ s. g) h) g (value_is (λ s. g)), tt)
          (λ e inside. absurd (nothing_in e inside));
      goals = λ p n inside. absurd (nothing_in (p, n) inside);
      root = below;
      env = λ entry inside. absurd (nothing_in entry inside);
    },
  )

pub number_row : (types : ℕ → Predicate) (f : Predicate) → HasTypes (literal_constraint int_head) types f ↔ Implies int f
number_row types f =
    let it = extended_with [] node.Int (closed_from [] (λ i low. absurd (omega arith))) tt tt in
    literal_row int_head int (it.0, it.1.closed, (it.2.0, it.2.1, value-int var it.0 it.1.closed.book it.2.0 it.2.2)) (int_value Positive) types f

pub truth_row : (types : ℕ → Predicate) (f : Predicate) → HasTypes (literal_constraint bool_head) types f ↔ Implies bool f
truth_row types f =
    let it = extended_with [] node.Bool (closed_from [] (λ i low. absurd (omega arith))) tt tt in
    literal_row bool_head bool (it.0, it.1.closed, (it.2.0, it.2.1, value-bool var it.0 it.1.closed.book it.2.0 it.2.2)) (bool_value Positive) types f

-- a new edge and a new goal
pub one_flow : (value : ℕ → Predicate) (n p : ℕ) → Implies (value n) (value p) → AreUpward value (flow n p ∷ [])
one_flow value n p below e inside = by_case (Contains-cases (flow n p) [] e inside)
  where
    by_case : (flow n p ≡ e) ⊎ Contains [] e → Implies (value e.negative.0) (value e.positive.0)
    by_case (inl same) = subst (λ (e : Flow). Implies (value e.negative.0) (value e.positive.0)) same below
    by_case (inr none) = absurd (nothing_in e none)

abbrev pub pair : ℕ → ℕ → ℕ × ℕ
pair p n = (p, n)

abbrev pub no_pairs : List (ℕ × ℕ)
no_pairs = []

pub one_goal : (value : ℕ → Predicate) (p n : ℕ) (rest : List (ℕ × ℕ)) → Implies (value p) (value n) → ((q m : ℕ) → Contains rest (q, m) → Implies (value q) (value m)) → (q m : ℕ) → Contains ((p, n) ∷ rest) (q, m) → Implies (value q) (value m)
one_goal value p n rest below others q m inside = by_case (Contains-cases (p, n) rest (q, m) inside)
  where
    by_case : (pair p n ≡ pair q m) ⊎ Contains rest (q, m) → Implies (value q) (value m)
    by_case (inl same) = subst (λ (g : ℕ × ℕ). Implies (value g.0) (value g.1)) same below
    by_case (inr later) = others q m later

pub no_goal : (value : ℕ → Predicate) (q m : ℕ) → Contains no_pairs (q, m) → Implies (value q) (value m)
no_goal value q m inside = absurd (nothing_in (q, m) inside)

-- states without a head ask nothing
pub empty_negative : (value : ℕ → Predicate) (n : ℕ) → IsInside Negative (head_value Negative value empty_head) (value n)
empty_negative value n = subst (Implies (value n)) (sym (empty_value Negative value)) (λ t e. refl)

pub empty_positive : (value : ℕ → Predicate) (n : ℕ) → IsInside Positive (head_value Positive value empty_head) (value n)
empty_positive value n = subst (λ g. Implies g (value n)) (sym (empty_value Positive value)) (λ t e. absurd (cc))

-- a binder
pub bound_row : (x : ℕ) (types : ℕ → Predicate) (f : Predicate) → HasTypes (bound_constraint x) types f ↔ OfBound x types f
bound_row x types f = (
  λ h. record {
    between = h.value 0;
    is = (h.nodes, h.closed, h.held 0);
    above = h.env (record { binder = x; state = record { 0 = 0 } }) (Contains-here (record { binder = x; state = record { 0 = 0 } }) []);
    below = Implies-trans (h.value 0) (h.value 1) f (h.model.flows (flow 0 1) (Contains-here (flow 0 1) [])) h.root;
  },
  λ it. let V : ℕ → Predicate = λ s. it.between in
      record {
        nodes = it.is.0;
        closed = it.is.1;
        value = V;
        held = λ s. it.is.2;
        model =
            model-grown (record { states = []; flows = [] }) (negative empty_head ∷ positive empty_head ∷ []) (flow 0 1 ∷ []) V
            (record { flows = λ e inside. absurd (nothing_in e inside); heads = λ s t e. absurd (cc) })
            (empty_negative V 0, (empty_positive V 1, tt))
            (one_flow V 0 1 (Implies-refl it.between));
        goals = no_goal V;
        root = it.below;
        env = λ entry inside. only_entry (Contains-cases (record { binder = x; state = record { 0 = 0 } }) [] entry inside) it.above;
      },
)
  where
    only_entry : {entry : EnvEntry} {g : Predicate} → (record { binder = x; state = record { 0 = 0 } } ≡ entry) ⊎ Contains [] entry → Implies (types x) g → Implies (types entry.binder) g
    only_entry {entry = entry} {g = g} (inl same) above = subst (λ (e : EnvEntry). Implies (types e.binder) g) same above
    only_entry {entry = entry} (inr none) above = absurd (nothing_in entry none)

-- the one field of a record head
pub one_set : (p : Polarity) (value : ℕ → Predicate) (label : List ℕ) (n : ℕ) → record_value p value (set_at (record { label = label; set = n ∷ [] } ∷ [])) ≡ rcd (one_field label (value n))
one_set p value label n = λ k. rcd (λ other. at (bytes_eq label other) k)
  where
    at : (b : Bool) → option_map (set_value p value) (option_map (λ (f : FieldSet). f.set) (cond b (Some (record { label = label; set = n ∷ [] })) None)) ≡ cond b (Some (value n)) None
    at true = ap Some (set_one p value n)
    at false = refl

-- a family of values of a closed automaton, and values of new states behind it
module _ (a : Automaton) (closed : IsClosed a) (T : ℕ → Predicate) (model : IsModel a T) (w : ℕ → Predicate) where
  abbrev pub with_new : ℕ → Predicate
  with_new = two_readings (size a) T w

  pub with_new-old : (m : ℕ) → m < size a → with_new m ≡ T m
  with_new-old m low = read_below (size a) T w m low

  pub with_new-model : IsModel a with_new
  with_new-model = model_agree a closed T with_new (λ m low. sym (with_new-old m low)) model

module _ (x : ℕ) (env : List EnvEntry) (types : ℕ → Predicate) where
  -- entries of a binder, and of the others
  pub entry_above : (value : ℕ → Predicate) (g : Predicate) → ((m : ℕ) → Contains (states_of x env) m → Implies g (value m))
      → ((entry : EnvEntry) → Contains (without x env) entry → Implies (types entry.binder) (value entry.state.0))
      → (entry : EnvEntry) → Contains env entry → Implies (with_binder types x g entry.binder) (value entry.state.0)
  entry_above value g above others entry inside = at (eq_by_cmp nat_cmp entry.binder x) refl
    where
      at : (b : Bool) → eq_by_cmp nat_cmp entry.binder x ≡ b → Implies (cond b g (types entry.binder)) (value entry.state.0)
      at true e = above entry.state.0 (Contains-map (λ (entry : EnvEntry). entry.state.0) (filter (λ (entry : EnvEntry). eq_by_cmp nat_cmp entry.binder x) env) entry (Contains-filter (λ (entry : EnvEntry). eq_by_cmp nat_cmp entry.binder x) env entry inside e))
      at false e = others entry (Contains-filter (λ (entry : EnvEntry). not (eq_by_cmp nat_cmp entry.binder x)) env entry inside (ap not e))

  pub above_states : (value : ℕ → Predicate) (g : Predicate) → ((entry : EnvEntry) → Contains env entry → Implies (with_binder types x g entry.binder) (value entry.state.0)) → (m : ℕ) → Contains (states_of x env) m → Implies g (value m)
  above_states value g above m inside =
      let it = Contains-mapped (λ (entry : EnvEntry). entry.state.0) (filter (λ (entry : EnvEntry). eq_by_cmp nat_cmp entry.binder x) env) m inside in
      let here : Contains env it.0 = Contains-filtered (λ (entry : EnvEntry). eq_by_cmp nat_cmp entry.binder x) env it.0 it.1 in
      let own : eq_by_cmp nat_cmp it.0.binder x ≡ true = passes-filtered (λ (entry : EnvEntry). eq_by_cmp nat_cmp entry.binder x) env it.0 it.1 in
      subst (λ m. Implies g (value m)) it.2 (subst (λ b. Implies (cond b g (types it.0.binder)) (value it.0.state.0)) own (above it.0 here))

  pub above_others : (value : ℕ → Predicate) (g : Predicate) → ((entry : EnvEntry) → Contains env entry → Implies (with_binder types x g entry.binder) (value entry.state.0)) → (entry : EnvEntry) → Contains (without x env) entry → Implies (types entry.binder) (value entry.state.0)
  above_others value g above entry inside =
      let here : Contains env entry = Contains-filtered (λ (entry : EnvEntry). not (eq_by_cmp nat_cmp entry.binder x)) env entry inside in
      let other : eq_by_cmp nat_cmp entry.binder x ≡ false = not_true (eq_by_cmp nat_cmp entry.binder x) (passes-filtered (λ (entry : EnvEntry). not (eq_by_cmp nat_cmp entry.binder x)) env entry inside) in
      subst (λ b. Implies (cond b g (types entry.binder)) (value entry.state.0)) other (above entry here)
    where
      not_true : (b : Bool) → not b ≡ true → b ≡ false
      not_true true e = absurd (cc)
      not_true false e = refl

module _ (x : ℕ) (s : Scheme) (is : HasStates s) (types : ℕ → Predicate) (f : Predicate) where
  abbrev a : Automaton
  a = s.automaton

  abbrev n : ℕ
  n = size a

  -- states of binders are states of the automaton
  low_states : (m : ℕ) → Contains (states_of x s.env) m → m < n
  low_states m inside =
      let it = Contains-mapped (λ (entry : EnvEntry). entry.state.0) (filter (λ (entry : EnvEntry). eq_by_cmp nat_cmp entry.binder x) s.env) m inside in
      let here : Contains s.env it.0 = Contains-filtered (λ (entry : EnvEntry). eq_by_cmp nat_cmp entry.binder x) s.env it.0 it.1 in
      subst (λ m. m < n) it.2 (is.env it.0 here).in_range

  pub fix_row : HasTypes (fix_constraint x s) types f ↔ OfFix x (HasTypes (no_goals s)) types f
  fix_row = (forth, back)
    where
      forth : HasTypes (fix_constraint x s) types f → OfFix x (HasTypes (no_goals s)) types f
      forth h = record {
        body_type = h.value s.root.0;
        is = (h.nodes, h.closed, h.held s.root.0);
        body = record {
          nodes = h.nodes;
          closed = h.closed;
          value = h.value;
          held = h.held;
          model = h.model;
          goals = λ p n inside. absurd (nothing_in (p, n) inside);
          root = Implies-refl (h.value s.root.0);
          env = entry_above x s.env types h.value (h.value s.root.0) (λ m inside. h.goals s.root.0 m (Contains-map (λ n. (s.root.0, n)) (states_of x s.env) m inside)) h.env;
        };
        below = h.root;
      }

      back : OfFix x (HasTypes (no_goals s)) types f → HasTypes (fix_constraint x s) types f
      back it =
          let h = it.body in
          record {
            nodes = h.nodes;
            closed = h.closed;
            value = h.value;
            held = h.held;
            model = h.model;
            goals = λ p n inside.
                let goal = Contains-mapped (λ n. (s.root.0, n)) (states_of x s.env) (p, n) inside in
                let below : Implies (h.value s.root.0) (h.value goal.0) = Implies-trans (h.value s.root.0) it.body_type (h.value goal.0) h.root (above_states x s.env types h.value it.body_type h.env goal.0 goal.1) in
                subst (λ (g : ℕ × ℕ). Implies (h.value g.0) (h.value g.1)) goal.2 below;
            root = Implies-trans (h.value s.root.0) it.body_type f h.root it.below;
            env = above_others x s.env types h.value it.body_type h.env;
          }

  abbrev head : List ℕ → Head
  head set = function_head set (s.root.0 ∷ [])

  pub fun_row : (set : List ℕ) → AreStatesOf x s set → HasTypes (fun_constraint set x s) types f ↔ OfFun x (HasTypes (no_goals s)) types f
  fun_row set of_binder = (forth, back)
    where
      forth : HasTypes (fun_constraint set x s) types f → OfFun x (HasTypes (no_goals s)) types f
      forth h =
          let T : ℕ → Predicate = h.value in
          let it = grown-model a (positive (head set) ∷ []) [] T h.model in
          let domain : Predicate = meets (map T (set)) in
          let one = meets_held h.nodes h.closed T h.held (set) in
          let value : head_value Positive T (head set) ≡ arrow domain (T s.root.0) = function_head-value Positive T (set) (s.root.0 ∷ []) ∙ ap (arrow domain) (set_one Positive T s.root.0) in
          record {
            domain = domain;
            codomain = T s.root.0;
            domain_is = (one.0, one.1.closed, one.2);
            codomain_is = (h.nodes, h.closed, h.held s.root.0);
            body = record {
              nodes = h.nodes;
              closed = h.closed;
              value = T;
              held = h.held;
              model = it.0;
              goals = λ p n inside. absurd (nothing_in (p, n) inside);
              root = Implies-refl (T s.root.0);
              env = entry_above x s.env types T domain (λ m inside. meets_lower T set m ((of_binder m).1 inside)) h.env;
            };
            below = Implies-trans (arrow domain (T s.root.0)) (T n) f (subst (λ g. Implies g (T n)) value it.1.0) h.root;
          }

      back : OfFun x (HasTypes (no_goals s)) types f → HasTypes (fun_constraint set x s) types f
      back it =
          let h = it.body in
          let T : ℕ → Predicate = h.value in
          let one = with_type h.nodes h.closed it.domain it.domain_is in
          let i : ℕ = one.2.0 in
          let i_low : i < length one.0 = one.2.1 in
          let r : IsTypeOf one.0 (T s.root.0) = IsIn-longer h.nodes one.0 (T s.root.0) h.closed one.1 (h.held s.root.0) in
          let j : ℕ = r.0 in
          let j_low : j < length one.0 = r.1 in
          let two = extended_with one.0 (node.Arrow (record { 0 = i }) (record { 0 = j })) one.1.closed tt (omega arith, omega arith) in
          let b : List Node = two.0 in
          let i_value : passes b i ≡ it.domain = Extends-value one.0 b one.1.closed two.1 var i i_low ∙ one.2.2 in
          let j_value : passes b j ≡ T s.root.0 = Extends-value one.0 b one.1.closed two.1 var j j_low ∙ r.2 in
          let result : Predicate = arrow it.domain (T s.root.0) in
          let result_held : IsTypeOf b result = (two.2.0, two.2.1, value-arrow var b two.1.closed.book two.2.0 (record { 0 = i }) (record { 0 = j }) two.2.2 ∙ (λ k. arrow (i_value k) (j_value k))) in
          let V : ℕ → Predicate = two_readings n T (λ i. result) in
          let old : (m : ℕ) → m < n → V m ≡ T m = λ m low. read_below n T (λ i. result) m low in
          let at_n : n ≡ n + 0 = omega arith in
          let new : V n ≡ result = read_at n T (λ i. result) n 0 at_n in
          let old_held : (m : ℕ) → IsTypeOf b (T m) = λ m. IsIn-longer h.nodes b (T m) h.closed (Extends-trans h.nodes one.0 b one.1 two.1) (h.held m) in
          let domain_below : Implies it.domain (meets (map V (set))) =
          meets_greatest V (set) it.domain
          (All-contained (λ m. Implies it.domain (V m)) (set)
          (λ m inside. subst (Implies it.domain) (sym (old m (low_states m ((of_binder m).0 inside)))) (above_states x s.env types T it.domain h.env m ((of_binder m).0 inside)))) in
          let value : head_value Positive V (head set) ≡ arrow (meets (map V (set))) (T s.root.0) =
          function_head-value Positive V (set) (s.root.0 ∷ []) ∙ ap (arrow (meets (map V (set)))) (set_one Positive V s.root.0 ∙ old s.root.0 is.root.in_range) in
          let inside : Implies (head_value Positive V (head set)) (V n) =
          subst (λ g. Implies g (V n)) (sym value) (subst (Implies (arrow (meets (map V (set))) (T s.root.0))) (sym new)
          (arrow-implies (meets (map V (set))) (T s.root.0) it.domain (T s.root.0) domain_below (Implies-refl (T s.root.0)))) in
          record {
            nodes = b;
            closed = two.1.closed;
            value = V;
            held = readings_held n b T (λ i. result) (λ m low. old_held m) (λ i. result_held);
            model = model-grown a (positive (head set) ∷ []) [] V (model_agree a is.automaton T V (λ m low. sym (old m low)) h.model) (inside, tt) (λ e there. absurd (nothing_in e there));
            goals = λ p m there. absurd (nothing_in (p, m) there);
            root =
                Implies-trans (V n) (arrow it.domain it.codomain) f
                (subst (λ g. Implies g (arrow it.domain it.codomain)) (sym new) (arrow-implies it.domain (T s.root.0) it.domain it.codomain (Implies-refl it.domain) h.root))
                it.below;
            env = λ entry there.
                subst (Implies (types entry.binder)) (sym (old entry.state.0 (is.env entry (Contains-filtered (λ (entry : EnvEntry). not (eq_by_cmp nat_cmp entry.binder x)) s.env entry there)).in_range))
                (above_others x s.env types T it.domain h.env entry there);
          }

-- a projection
module _ (label : List ℕ) (s : Scheme) (is : HasStates s) (types : ℕ → Predicate) (f : Predicate) where
  abbrev part : Automaton
  part = s.automaton

  abbrev first_new : ℕ
  first_new = size part

  abbrev new_fields : List FieldSet
  new_fields = record { label = label; set = first_new ∷ [] } ∷ []

  abbrev new_states : List State
  new_states = negative empty_head ∷ positive empty_head ∷ negative (record_head new_fields) ∷ []

  -- what the new states pass
  abbrev new_values : Predicate → ℕ → Predicate
  new_values g zero = g
  new_values g (suc zero) = g
  new_values g (suc (suc i)) = rcd (one_field label g)

  new_held : (b : List Node) (g : Predicate) → IsTypeOf b g → IsTypeOf b (rcd (one_field label g)) → (i : ℕ) → IsTypeOf b (new_values g i)
  new_held b g h r zero = h
  new_held b g h r (suc zero) = h
  new_held b g h r (suc (suc i)) = r

  pub project_row : HasTypes (project_constraint label s) types f ↔ OfProject label (HasTypes (no_goals s)) types f
  project_row = (forth, back)
    where
      forth : HasTypes (project_constraint label s) types f → OfProject label (HasTypes (no_goals s)) types f
      forth h =
          let T : ℕ → Predicate = h.value in
          let it = grown-model part new_states (flow first_new (suc first_new) ∷ []) T h.model in
          let value : head_value Negative T (record_head new_fields) ≡ rcd (one_field label (T first_new)) = record_head-value Negative T new_fields ∙ one_set Negative T label first_new in
          record {
            field = T first_new;
            field_is = (h.nodes, h.closed, h.held first_new);
            body = record {
              nodes = h.nodes;
              closed = h.closed;
              value = T;
              held = h.held;
              model = it.0;
              goals = no_goal T;
              root =
                  Implies-trans (T s.root.0) (T (suc (suc first_new))) (rcd (one_field label (T first_new)))
                  (h.goals s.root.0 (suc (suc first_new)) (Contains-here (s.root.0, suc (suc first_new)) []))
                  (subst (Implies (T (suc (suc first_new)))) value it.1.1.1.0);
              env = h.env;
            };
            below = Implies-trans (T first_new) (T (suc first_new)) f (it.2 (flow first_new (suc first_new)) (Contains-here (flow first_new (suc first_new)) [])) h.root;
          }

      back : OfProject label (HasTypes (no_goals s)) types f → HasTypes (project_constraint label s) types f
      back it =
          let h = it.body in
          let T : ℕ → Predicate = h.value in
          let one = with_type h.nodes h.closed it.field it.field_is in
          let i : ℕ = one.2.0 in
          let i_low : i < length one.0 = one.2.1 in
          let field : Field = record { label = label; node = record { 0 = i } } in
          let two = extended_with one.0 (node.Rcd (field ∷ [])) one.1.closed (All-nil (λ later. slice_cmp nat_cmp field.label later.label ≡ Less), tt) (All-cons (λ (field : Field). field.node.0 < suc (length one.0)) field [] (omega arith) (All-nil (λ (field : Field). field.node.0 < suc (length one.0)))) in
          let b : List Node = two.0 in
          let le : length one.0 ≤ length b = two.1.longer in
          let i_there : i < length b = omega arith in
          let i_value : passes b i ≡ it.field = Extends-value one.0 b one.1.closed two.1 var i i_low ∙ one.2.2 in
          let r_value : passes b two.2.0 ≡ rcd (one_field label it.field) = value-rcd var b two.1.closed.book two.2.0 (field ∷ []) two.2.2 ∙ ap rcd (one_field-value (passes b) label (record { 0 = i }) it.field i_value) in
          let w : ℕ → Predicate = new_values it.field in
          let V : ℕ → Predicate = with_new part is.automaton T h.model w in
          let old : (m : ℕ) → m < first_new → V m ≡ T m = with_new-old part is.automaton T h.model w in
          let at_n : first_new ≡ first_new + 0 = omega arith in
          let at_suc : suc first_new ≡ first_new + 1 = omega arith in
          let at_two : suc (suc first_new) ≡ first_new + 2 = omega arith in
          let V_n : V first_new ≡ it.field = read_at first_new T w first_new 0 at_n in
          let V_suc : V (suc first_new) ≡ it.field = read_at first_new T w (suc first_new) 1 at_suc in
          let V_two : V (suc (suc first_new)) ≡ rcd (one_field label it.field) = read_at first_new T w (suc (suc first_new)) 2 at_two in
          let value : head_value Negative V (record_head new_fields) ≡ rcd (one_field label it.field) = record_head-value Negative V new_fields ∙ (one_set Negative V label first_new ∙ ap (λ g. rcd (one_field label g)) V_n) in
          record {
            nodes = b;
            closed = two.1.closed;
            value = V;
            held = readings_held first_new b T w (λ m low. IsIn-longer h.nodes b (T m) h.closed (Extends-trans h.nodes one.0 b one.1 two.1) (h.held m)) (new_held b it.field (i, i_there, i_value) (two.2.0, two.2.1, r_value));
            model =
                model-grown part new_states (flow first_new (suc first_new) ∷ []) V (with_new-model part is.automaton T h.model w)
                (empty_negative V first_new, (empty_positive V (suc first_new), (Implies-same (V (suc (suc first_new))) (head_value Negative V (record_head new_fields)) (V_two ∙ sym value), tt)))
                (one_flow V first_new (suc first_new) (Implies-same (V first_new) (V (suc first_new)) (V_n ∙ sym V_suc)));
            goals =
                one_goal V s.root.0 (suc (suc first_new)) []
                (subst (λ g. Implies g (V (suc (suc first_new)))) (sym (old s.root.0 is.root.in_range)) (subst (Implies (T s.root.0)) (sym V_two) h.root))
                (no_goal V);
            root = Implies-trans (V (suc first_new)) it.field f (Implies-same (V (suc first_new)) it.field V_suc) it.below;
            env = λ entry there. subst (Implies (types entry.binder)) (sym (old entry.state.0 (is.env entry there).in_range)) (h.env entry there);
          }
