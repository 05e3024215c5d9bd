-- Where two states of a binder are merged, a scheme has the same types as before.
--     raise_model      negative values may be raised
--     merged_types     where there are goals from positive to negative states
--     merged_row       where there are none
use Rattle.std.proofs.Common.{◌≡◌, ◌⊎◌, ◌↔◌, inl, inr, ℕ, suc, ◌+◌, ◌<◌, Bool, true, false, ◌==◌, cond, List, [], ◌∷◌, ◌++◌, length, get_or, refl, sym, ap, ◌∙◌, subst, arith, Contains}
use Rattle.std.proofs.lemmas.Bool.{eqb-true, eq-eqb}
use Rattle.std.proofs.lemmas.List.Elements.{Contains-append_cases, Contains-append_right}
use Rattle.mls_book.specs.declared.book.Node.{Node}
use Rattle.mls_book.specs.declared.book.Node.TheVariants as node
use Rattle.mls_book.specs.Books.{IsClosedBook}
use Rattle.mls_book.specs.Predicates.{Predicate, Implies, join, meet, var}
use Rattle.mls_book.specs.Passes.{passes}
use Rattle.mls_book.proofs.Depths.{Implies-refl, Implies-trans, Implies-to}
use Rattle.mls_book.proofs.Lattice.{join_left, join_right, join_least, meet_left, meet_right, meet_greatest}
use Rattle.mls_book.proofs.LongerBooks.{Extends, Extends-value, extended_with}
use Rattle.mls_book.proofs.Representation.{IsIn-longer}
use Rattle.mls_book.proofs.Table.{value-join, value-meet}
use Rattle.mls_automaton.specs.declared.automaton.Polarity.{Polarity}
use Rattle.mls_automaton.specs.declared.automaton.Polarity.TheVariants.{Positive, Negative}
use Rattle.mls_automaton.specs.declared.automaton.Head.{Head}
use Rattle.mls_automaton.specs.declared.automaton.State.{State}
use Rattle.mls_automaton.specs.declared.state_set.StateId.{StateId}
use Rattle.mls_automaton.specs.declared.automaton.Flow.{Flow}
use Rattle.mls_automaton.specs.declared.scheme.EnvEntry.{EnvEntry}
use Rattle.mls_automaton.specs.declared.scheme.Scheme.{Scheme}
use Rattle.mls_automaton.specs.Automata.{Automaton, empty_head, flow, HasFlow, polarity_at, head_at, IsState}
use Rattle.mls_automaton.specs.Heads.{head_value}
use Rattle.mls_automaton.specs.Models.{HasStatesIn, IsClosed, IsInside, IsModel}
use Rattle.mls_automaton.proofs.HeadOrder.{GrowsTo, head-inside_to}
use Rattle.mls_automaton.proofs.Signs.{inside-all, inside_to-less}
use Rattle.mls_typing.specs.Typed.{IsTypeOf}
use Rattle.mls_infer.specs.Constraints.{Constraint, id, HasTypes, HasStates, no_goals, size, negative, grown, IsMerged}
use Rattle.mls_infer.specs.Merges.{AreBetween}
use Rattle.mls_infer.proofs.Grown.{AreUpward, grown-model, model-grown, states_more}
use Rattle.mls_typing.proofs.Readings.{read_at, readings_held}
use Rattle.mls_infer.proofs.ConstraintRows.{no_pairs, nothing_in, with_new, with_new-old, with_new-model}

-- two types of a book have a join and a meet in a longer one
join_held : (b : List Node) → IsClosedBook b → (f g : Predicate) → IsTypeOf b f → IsTypeOf b g → (c : List Node) × Extends b c × IsTypeOf c (join f g)
join_held b closed f g h k =
    let i : ℕ = h.0 in
    let j : ℕ = k.0 in
    let i_low : i < length b = h.1 in
    let j_low : j < length b = k.1 in
    let it = extended_with b (node.Join (record { 0 = i }) (record { 0 = j })) closed (i_low, j_low) (omega arith, omega arith) in
    let i_value : passes it.0 i ≡ f = Extends-value b it.0 closed it.1 var i i_low ∙ h.2 in
    let j_value : passes it.0 j ≡ g = Extends-value b it.0 closed it.1 var j j_low ∙ k.2 in
    (it.0, it.1, (it.2.0, it.2.1, value-join var it.0 it.1.closed.book it.2.0 (record { 0 = i }) (record { 0 = j }) it.2.2 ∙ (λ q. join (i_value q) (j_value q))))

meet_held : (b : List Node) → IsClosedBook b → (f g : Predicate) → IsTypeOf b f → IsTypeOf b g → (c : List Node) × Extends b c × IsTypeOf c (meet f g)
meet_held b closed f g h k =
    let i : ℕ = h.0 in
    let j : ℕ = k.0 in
    let i_low : i < length b = h.1 in
    let j_low : j < length b = k.1 in
    let it = extended_with b (node.Meet (record { 0 = i }) (record { 0 = j })) closed (i_low, j_low) (omega arith, omega arith) in
    let i_value : passes it.0 i ≡ f = Extends-value b it.0 closed it.1 var i i_low ∙ h.2 in
    let j_value : passes it.0 j ≡ g = Extends-value b it.0 closed it.1 var j j_low ∙ k.2 in
    (it.0, it.1, (it.2.0, it.2.1, value-meet var it.0 it.1.closed.book it.2.0 (record { 0 = i }) (record { 0 = j }) it.2.2 ∙ (λ q. meet (i_value q) (j_value q))))

-- the value of one state raised
abbrev pub raised : (ℕ → Predicate) → ℕ → Predicate → ℕ → Predicate
raised value n g s = cond (s == n) (join (value s) g) (value s)

raised_above : (value : ℕ → Predicate) (n : ℕ) (g : Predicate) (s : ℕ) → Implies (value s) (raised value n g s)
raised_above value n g s = at (s == n)
  where
    at : (b : Bool) → Implies (value s) (cond b (join (value s) g) (value s))
    at true = join_left (value s) g
    at false = Implies-refl (value s)

raised_self : (value : ℕ → Predicate) (n : ℕ) (g : Predicate) → raised value n g n ≡ join (value n) g
raised_self value n g = ap (λ b. cond b (join (value n) g) (value n)) (eq-eqb n n refl)

-- a state of the other polarity stays
module _ (a : Automaton) (closed : IsClosed a) (value : ℕ → Predicate) (n : ℕ) (g : Predicate) (n_negative : polarity_at a n ≡ Negative) where
  raised_positive : (s : ℕ) → polarity_at a s ≡ Positive → raised value n g s ≡ value s
  raised_positive s positive = at (s == n) refl
    where
      at : (b : Bool) → (s == n) ≡ b → cond b (join (value s) g) (value s) ≡ value s
      at true e = let same : s ≡ n = eqb-true s n e in let clash : Positive ≡ Negative = sym positive ∙ (ap (polarity_at a) same ∙ n_negative) in absurd (cc)
      at false e = refl

  grows : (d : ℕ) (p : Polarity) (s : ℕ) → IsState a p s → GrowsTo d (raised value n g) value p s
  grows d Positive s is = λ t low e. (λ k. sym (raised_positive s is.polarity) k t) ∙ e
  grows d Negative s is = Implies-to d (value s) (raised value n g s) (raised_above value n g s)

  pub raised_head : (p : Polarity) (h : Head) → HasStatesIn (IsState a) p h → IsInside p (head_value p (raised value n g) h) (head_value p value h)
  raised_head p h within =
      inside-all p (head_value p (raised value n g) h) (head_value p value h)
      (λ d. inside_to-less d (suc d) p (head_value p (raised value n g) h) (head_value p value h) (omega arith)
      (head-inside_to d (raised value n g) value p h (states_more (IsState a) (GrowsTo d (raised value n g) value) (grows d) p h within)))

  -- a negative value may be raised by what is below its head and its edges
  pub raise_model : IsModel a value → Implies g (head_value Negative value (head_at a n)) → ((q : ℕ) → HasFlow a n q → Implies g (value q)) → IsModel a (raised value n g)
  raise_model m below_head below_flows = record {
    flows = λ e inside.
        subst (Implies (raised value n g e.negative.0)) (sym (raised_positive e.positive.0 (closed.positive e inside).polarity))
        (lower e inside (e.negative.0 == n) refl);
    heads = λ s. by_polarity s (polarity_at a s) refl;
  }
    where
      lower : (e : Flow) → Contains a.flows e → (b : Bool) → (e.negative.0 == n) ≡ b → Implies (cond b (join (value e.negative.0) g) (value e.negative.0)) (value e.positive.0)
      lower e inside true same =
          let at : e.negative.0 ≡ n = eqb-true e.negative.0 n same in
          join_least (value e.negative.0) g (value e.positive.0) (m.flows e inside)
          (below_flows e.positive.0 (let P : ℕ → Type 0 = λ k. Contains a.flows (flow k e.positive.0) in subst P at inside))
      lower e inside false other = m.flows e inside

      heads_of : (s : ℕ) (p : Polarity) → polarity_at a s ≡ p → HasStatesIn (IsState a) p (head_at a s)
      heads_of s p is = let P : Polarity → Type 0 = λ p. HasStatesIn (IsState a) p (head_at a s) in subst P is (closed.heads s)

      old : (s : ℕ) (p : Polarity) → polarity_at a s ≡ p → IsInside p (head_value p value (head_at a s)) (value s)
      old s p is = let P : Polarity → Type 0 = λ p. IsInside p (head_value p value (head_at a s)) (value s) in subst P is (m.heads s)

      new : (s : ℕ) (p : Polarity) → polarity_at a s ≡ p → IsInside p (head_value p (raised value n g) (head_at a s)) (raised value n g s)
      new s Positive is =
          subst (Implies (head_value Positive (raised value n g) (head_at a s))) (sym (raised_positive s is))
          (Implies-trans (head_value Positive (raised value n g) (head_at a s)) (head_value Positive value (head_at a s)) (value s) (raised_head Positive (head_at a s) (heads_of s Positive is)) (old s Positive is))
      new s Negative is =
          Implies-trans (raised value n g s) (head_value Negative value (head_at a s)) (head_value Negative (raised value n g) (head_at a s))
          (at (s == n) refl)
          (raised_head Negative (head_at a s) (heads_of s Negative is))
        where
          at : (b : Bool) → (s == n) ≡ b → Implies (cond b (join (value s) g) (value s)) (head_value Negative value (head_at a s))
          at true same =
              join_least (value s) g (head_value Negative value (head_at a s)) (old s Negative is)
              (let P : ℕ → Type 0 = λ k. Implies g (head_value Negative value (head_at a k)) in subst P (sym (eqb-true s n same)) below_head)
          at false other = old s Negative is

      by_polarity : (s : ℕ) (p : Polarity) → polarity_at a s ≡ p → IsInside (polarity_at a s) (head_value (polarity_at a s) (raised value n g) (head_at a s)) (raised value n g s)
      by_polarity s p is = let P : Polarity → Type 0 = λ p. IsInside p (head_value p (raised value n g) (head_at a s)) (raised value n g s) in subst P (sym is) (new s p is)

-- a model goes by the states and by which edges there are
module _ (a b : Automaton) (states : b.states ≡ a.states) (edges : (n p : ℕ) → HasFlow b n p → HasFlow a n p) (value : ℕ → Predicate) where
  pub model_alike : IsModel a value → IsModel b value
  model_alike m = record {
    flows = λ e inside. m.flows e (edges e.negative.0 e.positive.0 inside);
    heads =
        let P : List State → Type 0 = λ xs. (s : ℕ) → let x = get_or xs s (record { polarity = Positive; head = empty_head }) in IsInside x.polarity (head_value x.polarity value x.head) (value s) in
        subst P (sym states) m.heads;
  }

-- an automaton with one more state, and further edges
module _ (a b : Automaton) (head : Head) (states : b.states ≡ a.states ++ negative head ∷ []) (old : (n p : ℕ) → HasFlow a n p → HasFlow b n p) (value : ℕ → Predicate) where
  whole_edges : (n p : ℕ) → HasFlow (grown a (negative head ∷ []) b.flows) n p → HasFlow b n p
  whole_edges n p inside = elim (Contains-append_cases a.flows b.flows (flow n p) inside) [ inl h ↦ old n p h | inr h ↦ h ]

  pub model_more : IsModel a value → Implies (value (size a)) (head_value Negative value head) → AreUpward value b.flows → IsModel b value
  model_more m below upward =
      model_alike (grown a (negative head ∷ []) b.flows) b states
      (λ n p inside. Contains-append_right a.flows b.flows (flow n p) inside) value
      (model-grown a (negative head ∷ []) b.flows value m (below, tt) upward)

  pub more_model : IsModel b value → IsModel a value × Implies (value (size a)) (head_value Negative value head)
  more_model m =
      let it = grown-model a (negative head ∷ []) b.flows value (model_alike b (grown a (negative head ∷ []) b.flows) (sym states) whole_edges value m) in
      (it.0, it.1.0)

module _ (s t : Scheme) (is : HasStates s) (m : IsMerged s t) (goals : List (ℕ × ℕ)) (are : AreBetween s.automaton goals) (types : ℕ → Predicate) (f : Predicate) where
  abbrev before : Constraint
  before = record { scheme = s; goals = goals }

  abbrev after : Constraint
  after = record { scheme = t; goals = goals }

  old_edge : (k p : ℕ) → HasFlow s.automaton k p → HasFlow t.automaton k p
  old_edge k p h = (m.flows_are k p).1 (inl h)

  abbrev a : Automaton
  a = s.automaton

  abbrev n : ℕ
  n = size s.automaton

  abbrev entry_at : ℕ → EnvEntry
  entry_at k = record { binder = m.binder; state = id k }

  first_is : IsState a Negative m.first
  first_is = is.env (entry_at m.first) m.first_there

  second_is : IsState a Negative m.second
  second_is = is.env (entry_at m.second) m.second_there

  -- what is asked of a negative state of a model
  negative_head : (value : ℕ → Predicate) → IsModel a value → (k : ℕ) → IsState a Negative k → Implies (value k) (head_value Negative value (head_at a k))
  negative_head value model k is_k = let P : Polarity → Type 0 = λ p. IsInside p (head_value p value (head_at a k)) (value k) in subst P is_k.polarity (model.heads k)

  states_within : (k : ℕ) → IsState a Negative k → HasStatesIn (IsState a) Negative (head_at a k)
  states_within k is_k = let P : Polarity → Type 0 = λ p. HasStatesIn (IsState a) p (head_at a k) in subst P is_k.polarity (is.automaton.heads k)

  entry_below : (value : ℕ → Predicate) (e e' : EnvEntry) → e ≡ e' → Implies (types e'.binder) (value e'.state.0) → Implies (types e.binder) (value e.state.0)
  entry_below value e e' same h = subst (λ (e : EnvEntry). Implies (types e.binder) (value e.state.0)) (sym same) h

  forth : HasTypes before types f → HasTypes after types f
  forth h =
      let T : ℕ → Predicate = h.value in
      let both : Predicate = meet (T m.first) (T m.second) in
      let one = meet_held h.nodes h.closed (T m.first) (T m.second) (h.held m.first) (h.held m.second) in
      let V : ℕ → Predicate = with_new a is.automaton T h.model (λ i. both) in
      let old : (k : ℕ) → k < n → V k ≡ T k = with_new-old a is.automaton T h.model (λ i. both) in
      let model : IsModel a V = with_new-model a is.automaton T h.model (λ i. both) in
      let at_n : n ≡ n + 0 = omega arith in
      let V_n : V n ≡ both = read_at n T (λ i. both) n 0 at_n in
      let left : Implies (V n) (V m.first) = subst (λ g. Implies g (V m.first)) (sym V_n) (subst (Implies both) (sym (old m.first first_is.in_range)) (meet_left (T m.first) (T m.second))) in
      let right : Implies (V n) (V m.second) = subst (λ g. Implies g (V m.second)) (sym V_n) (subst (Implies both) (sym (old m.second second_is.in_range)) (meet_right (T m.first) (T m.second))) in
      let below_head : Implies (V n) (head_value Negative V m.head) =
      subst (Implies (V n)) (sym (m.head_is V))
      (meet_greatest (head_value Negative V (head_at a m.first)) (head_value Negative V (head_at a m.second)) (V n)
      (Implies-trans (V n) (V m.first) (head_value Negative V (head_at a m.first)) left (negative_head V model m.first first_is))
      (Implies-trans (V n) (V m.second) (head_value Negative V (head_at a m.second)) right (negative_head V model m.second second_is))) in
      let whole : IsModel t.automaton V =
      model_more a t.automaton m.head m.states_are old_edge V model below_head
      (λ e inside. upward V model left right e ((m.flows_are e.negative.0 e.positive.0).0 inside)) in
      record {
        nodes = one.0;
        closed = one.1.closed;
        value = V;
        held = readings_held n one.0 T (λ i. both) (λ k low. IsIn-longer h.nodes one.0 (T k) h.closed one.1 (h.held k)) (λ i. one.2);
        model = whole;
        goals = λ p k inside.
            let states = are p k inside in
            subst (Implies (V p)) (sym (old k states.1.in_range)) (subst (λ g. Implies g (T k)) (sym (old p states.0.in_range)) (h.goals p k inside));
        root = subst (λ (r : StateId). Implies (V r.0) f) (sym m.root_is) (subst (λ g. Implies g f) (sym (old s.root.0 is.root.in_range)) h.root);
        env = λ e inside. new_entry V old h.env both V_n (meet_greatest (T m.first) (T m.second) (types m.binder) (h.env (entry_at m.first) m.first_there) (h.env (entry_at m.second) m.second_there)) T e (m.old e inside);
      }
    where
      upward : (V : ℕ → Predicate) → IsModel a V → Implies (V n) (V m.first) → Implies (V n) (V m.second) → (e : Flow)
          → HasFlow a e.negative.0 e.positive.0 ⊎ ((e.negative.0 ≡ n) × (HasFlow a m.first e.positive.0 ⊎ HasFlow a m.second e.positive.0)) → Implies (V e.negative.0) (V e.positive.0)
      upward V model left right e (inl h) = model.flows e h
      upward V model left right e (inr (is_new, inl h)) =
          subst (λ k. Implies (V k) (V e.positive.0)) (sym is_new)
          (Implies-trans (V n) (V m.first) (V e.positive.0) left (model.flows (flow m.first e.positive.0) h))
      upward V model left right e (inr (is_new, inr h)) =
          subst (λ k. Implies (V k) (V e.positive.0)) (sym is_new)
          (Implies-trans (V n) (V m.second) (V e.positive.0) right (model.flows (flow m.second e.positive.0) h))

      new_entry : (V : ℕ → Predicate) → ((k : ℕ) → k < n → V k ≡ h.value k) → ((e : EnvEntry) → Contains s.env e → Implies (types e.binder) (h.value e.state.0)) → (both : Predicate) → V n ≡ both → Implies (types m.binder) both
          → (T : ℕ → Predicate) → (e : EnvEntry) → (e ≡ entry_at n) ⊎ Contains s.env e → Implies (types e.binder) (V e.state.0)
      new_entry V old env both V_n above T e (inl same) = entry_below V e (entry_at n) same (subst (Implies (types m.binder)) (sym V_n) above)
      new_entry V old env both V_n above T e (inr inside) = subst (Implies (types e.binder)) (sym (old e.state.0 (is.env e inside).in_range)) (env e inside)

  back : HasTypes after types f → HasTypes before types f
  back h =
      let T : ℕ → Predicate = h.value in
      let g : Predicate = T n in
      let it = more_model a t.automaton m.head m.states_are old_edge T h.model in
      let edge : (q : ℕ) → HasFlow a m.first q ⊎ HasFlow a m.second q → Implies g (T q) = λ q edge. h.model.flows (flow n q) ((m.flows_are n q).1 (inr (refl, edge))) in
      let heads : Implies g (meet (head_value Negative T (head_at a m.first)) (head_value Negative T (head_at a m.second))) = subst (Implies g) (m.head_is T) it.1 in
      let first_head : Implies g (head_value Negative T (head_at a m.first)) =
      Implies-trans g (meet (head_value Negative T (head_at a m.first)) (head_value Negative T (head_at a m.second))) (head_value Negative T (head_at a m.first)) heads (meet_left (head_value Negative T (head_at a m.first)) (head_value Negative T (head_at a m.second))) in
      let second_head : Implies g (head_value Negative T (head_at a m.second)) =
      Implies-trans g (meet (head_value Negative T (head_at a m.first)) (head_value Negative T (head_at a m.second))) (head_value Negative T (head_at a m.second)) heads (meet_right (head_value Negative T (head_at a m.first)) (head_value Negative T (head_at a m.second))) in
      let U : ℕ → Predicate = raised T m.first g in
      let U_model : IsModel a U = raise_model a is.automaton T m.first g first_is.polarity it.0 first_head (λ q h. edge q (inl h)) in
      let V : ℕ → Predicate = raised U m.second g in
      let second_head' : Implies g (head_value Negative U (head_at a m.second)) =
      Implies-trans g (head_value Negative T (head_at a m.second)) (head_value Negative U (head_at a m.second)) second_head
      (raised_head a is.automaton T m.first g first_is.polarity Negative (head_at a m.second) (states_within m.second second_is)) in
      let V_model : IsModel a V =
      raise_model a is.automaton U m.second g second_is.polarity U_model second_head'
      (λ q h. Implies-trans g (T q) (U q) (edge q (inr h)) (raised_above T m.first g q)) in
      let one = join_held h.nodes h.closed (T m.first) g (h.held m.first) (h.held n) in
      let T_held : (k : ℕ) → IsTypeOf one.0 (T k) = λ k. IsIn-longer h.nodes one.0 (T k) h.closed one.1 (h.held k) in
      let U_held : (k : ℕ) → IsTypeOf one.0 (U k) = raised_held one.0 T m.first g T_held one.2 in
      let two = join_held one.0 one.1.closed (U m.second) g (U_held m.second) (T_held n) in
      let V_held : (k : ℕ) → IsTypeOf two.0 (V k) = raised_held two.0 U m.second g (λ k. IsIn-longer one.0 two.0 (U k) one.1.closed two.1 (U_held k)) two.2 in
      let above : (k : ℕ) → Implies (T k) (V k) = λ k. Implies-trans (T k) (U k) (V k) (raised_above T m.first g k) (raised_above U m.second g k) in
      let first_above : Implies g (V m.first) =
      Implies-trans g (U m.first) (V m.first) (subst (Implies g) (sym (raised_self T m.first g)) (join_right (T m.first) g)) (raised_above U m.second g m.first) in
      let second_above : Implies g (V m.second) = subst (Implies g) (sym (raised_self U m.second g)) (join_right (U m.second) g) in
      let root_same : V s.root.0 ≡ T s.root.0 =
      raised_positive a is.automaton U m.second g second_is.polarity s.root.0 is.root.polarity ∙ raised_positive a is.automaton T m.first g first_is.polarity s.root.0 is.root.polarity in
      let binder_above : Implies (types m.binder) g = h.env (entry_at n) m.entry in
      record {
        nodes = two.0;
        closed = two.1.closed;
        value = V;
        held = V_held;
        model = V_model;
        goals = λ p k inside.
            let states = are p k inside in
            let same : V p ≡ T p = raised_positive a is.automaton U m.second g second_is.polarity p states.0.polarity ∙ raised_positive a is.automaton T m.first g first_is.polarity p states.0.polarity in
            subst (λ g. Implies g (V k)) (sym same) (Implies-trans (T p) (T k) (V k) (h.goals p k inside) (above k));
        root = subst (λ k. Implies k f) (sym root_same) (subst (λ (r : StateId). Implies (T r.0) f) m.root_is h.root);
        env = λ e inside. old_entry V T above g first_above second_above binder_above h.env e (m.kept e inside);
      }
    where
      raised_held : (b : List Node) (value : ℕ → Predicate) (k : ℕ) (g : Predicate) → ((j : ℕ) → IsTypeOf b (value j)) → IsTypeOf b (join (value k) g) → (j : ℕ) → IsTypeOf b (raised value k g j)
      raised_held b value k g held joined j = at (j == k) refl
        where
          at : (c : Bool) → (j == k) ≡ c → IsTypeOf b (cond c (join (value j) g) (value j))
          at true e = let P : ℕ → Type 0 = λ i. IsTypeOf b (join (value i) g) in subst P (sym (eqb-true j k e)) joined
          at false e = held j

      old_entry : (V T : ℕ → Predicate) → ((k : ℕ) → Implies (T k) (V k)) → (g : Predicate) → Implies g (V m.first) → Implies g (V m.second) → Implies (types m.binder) g
          → ((e : EnvEntry) → Contains t.env e → Implies (types e.binder) (T e.state.0))
          → (e : EnvEntry) → (e ≡ entry_at m.first) ⊎ ((e ≡ entry_at m.second) ⊎ Contains t.env e) → Implies (types e.binder) (V e.state.0)
      old_entry V T above g first_above second_above binder_above env e (inl same) = entry_below V e (entry_at m.first) same (Implies-trans (types m.binder) g (V m.first) binder_above first_above)
      old_entry V T above g first_above second_above binder_above env e (inr (inl same)) = entry_below V e (entry_at m.second) same (Implies-trans (types m.binder) g (V m.second) binder_above second_above)
      old_entry V T above g first_above second_above binder_above env e (inr (inr inside)) = Implies-trans (types e.binder) (T e.state.0) (V e.state.0) (env e inside) (above e.state.0)

  pub merged_types : HasTypes before types f ↔ HasTypes after types f
  merged_types = (forth, back)

pub merged_row : (s t : Scheme) → HasStates s → IsMerged s t → (types : ℕ → Predicate) (f : Predicate) → HasTypes (no_goals s) types f ↔ HasTypes (no_goals t) types f
merged_row s t is m = merged_types s t is m no_pairs (λ p n inside. absurd (nothing_in (p, n) inside))
