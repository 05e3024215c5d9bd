-- The constraints of forms with several parts give what the rule of the form makes of them.
--     apply_row, turned_row, choice_row, let_row
use Rattle.std.proofs.Common.{◌≡◌, ◌↔◌, ℕ, zero, suc, ◌+◌, ◌<◌, List, [], ◌∷◌, length, refl, sym, ap, ◌∙◌, subst, arith}
use Rattle.mls_book.specs.declared.book.Node.{Node}
use Rattle.mls_book.specs.declared.book.Node.TheVariants as node
use Rattle.mls_book.specs.Predicates.{Predicate, Implies, top, bool, arrow, var}
use Rattle.mls_book.specs.Passes.{passes}
use Rattle.mls_book.proofs.Constructors.{arrow-implies}
use Rattle.mls_book.proofs.Depths.{Implies-refl, Implies-trans, Implies-same, Implies-same_back}
use Rattle.mls_book.proofs.LongerBooks.{closed_from, Extends-value, extended_with}
use Rattle.mls_book.proofs.Representation.{IsIn-longer}
use Rattle.mls_book.proofs.Table.{value-top, value-bool, value-arrow}
use Rattle.mls_automaton.specs.declared.automaton.Polarity.TheVariants.{Positive, Negative}
use Rattle.mls_automaton.specs.declared.automaton.State.{State}
use Rattle.mls_automaton.specs.declared.scheme.Scheme.{Scheme}
use Rattle.mls_automaton.specs.Automata.{empty_head, flow}
use Rattle.mls_automaton.specs.Heads.{head_value}
use Rattle.mls_automaton.proofs.Lists.{Contains-here, Contains-later}
use Rattle.mls_typing.specs.Typed.{IsType, IsTypeOf, OfApply, OfChoice, OfLet}
use Rattle.mls_infer.specs.Constraints.{HasTypes, HasStates, no_goals, size, Joined, joined, negative, positive, function_head, bool_head, AllHaveTypes, application_over, apply_constraint, turned_constraint, choice_constraint, let_constraint}
use Rattle.mls_infer.proofs.Grown.{grown-model, model-grown}
use Rattle.mls_infer.proofs.HeadValues.{set_one, bool_value, function_head-value}
use Rattle.mls_typing.proofs.TypedForms.{with_type}
use Rattle.mls_infer.proofs.ConstraintRows.{one_flow, one_goal, no_goal, empty_negative, empty_positive}
use Rattle.mls_infer.proofs.SideBySide.{AllHaveStates, AreRootsBelow, joined_each, JoinedBefore, joined_all}

-- An application over schemes side by side, two of whose roots are those of the function and of the argument: it has the
-- types for which all schemes have theirs.
module _ (ss : List Scheme) (are : AllHaveStates ss) (q r : ℕ) (parts : Predicate → Predicate → List Predicate)
    (roots : (V : ℕ → Predicate) (g h : Predicate) → Implies (V q) g → Implies (V r) h → AreRootsBelow V (joined ss).roots (parts g h))
    (back_to : (V : ℕ → Predicate) (g h : Predicate) → AreRootsBelow V (joined ss).roots (parts g h) → Implies (V q) g × Implies (V r) h)
    (types : ℕ → Predicate) (f : Predicate) where
  abbrev j : Joined
  j = joined ss

  abbrev n : ℕ
  n = size j.automaton

  abbrev states : List State
  states = negative empty_head ∷ positive empty_head ∷ negative (function_head (r ∷ []) (n ∷ [])) ∷ []

  head_is : (V : ℕ → Predicate) → head_value Negative V (function_head (r ∷ []) (n ∷ [])) ≡ arrow (V r) (V n)
  head_is V = function_head-value Negative V (r ∷ []) (n ∷ []) ∙ (λ k. arrow (set_one Positive V r k) (set_one Negative V n k))

  abbrev new_values : (domain codomain : Predicate) → ℕ → Predicate
  new_values domain codomain zero = codomain
  new_values domain codomain (suc zero) = codomain
  new_values domain codomain (suc (suc i)) = arrow domain codomain

  new_held : (b : List Node) (domain codomain : Predicate) → IsTypeOf b codomain → IsTypeOf b (arrow domain codomain) → (i : ℕ) → IsTypeOf b (new_values domain codomain i)
  new_held b domain codomain h k zero = h
  new_held b domain codomain h k (suc zero) = h
  new_held b domain codomain h k (suc (suc i)) = k

  record AppliedTypes : Type 0 where
    pub domain : Predicate
    pub codomain : Predicate
    pub domain_is : IsType domain
    pub codomain_is : IsType codomain
    pub each : AllHaveTypes types ss (parts (arrow domain codomain) domain)
    pub below : Implies codomain f

  applied_types : HasTypes (application_over q r j) types f → AppliedTypes
  applied_types h =
      let T : ℕ → Predicate = h.value in
      let it = grown-model j.automaton states (flow n (suc n) ∷ []) T h.model in
      let function_below : Implies (T q) (arrow (T r) (T n)) =
      Implies-trans (T q) (T (suc (suc n))) (arrow (T r) (T n))
      (h.goals q (suc (suc n)) (Contains-here (q, suc (suc n)) []))
      (subst (Implies (T (suc (suc n)))) (head_is T) it.1.1.1.0) in
      record {
        domain = T r;
        codomain = T n;
        domain_is = (h.nodes, h.closed, h.held r);
        codomain_is = (h.nodes, h.closed, h.held n);
        each =
            joined_each ss types (parts (arrow (T r) (T n)) (T r))
            (record {
              nodes = h.nodes;
              closed = h.closed;
              value = T;
              held = h.held;
              model = it.0;
              env = h.env;
              roots = roots T (arrow (T r) (T n)) (T r) function_below (Implies-refl (T r));
            });
        below = Implies-trans (T n) (T (suc n)) f (it.2 (flow n (suc n)) (Contains-here (flow n (suc n)) [])) h.root;
      }

  types_applied : AppliedTypes → HasTypes (application_over q r j) types f
  types_applied it =
      let one = with_type it.codomain_is.0 it.codomain_is.1 it.domain it.domain_is in
      let i : ℕ = one.2.0 in
      let i_low : i < length one.0 = one.2.1 in
      let c : IsTypeOf one.0 it.codomain = IsIn-longer it.codomain_is.0 one.0 it.codomain it.codomain_is.1 one.1 it.codomain_is.2 in
      let k : ℕ = c.0 in
      let k_low : k < length one.0 = c.1 in
      let two = extended_with one.0 (node.Arrow (record { 0 = i }) (record { 0 = k })) one.1.closed tt (omega arith, omega arith) in
      let b : List Node = two.0 in
      let i_value : passes b i ≡ it.domain = Extends-value one.0 b one.1.closed two.1 var i i_low ∙ one.2.2 in
      let k_value : passes b k ≡ it.codomain = Extends-value one.0 b one.1.closed two.1 var k k_low ∙ c.2 in
      let arrow_held : IsTypeOf b (arrow it.domain it.codomain) = (two.2.0, two.2.1, value-arrow var b two.1.closed.book two.2.0 (record { 0 = i }) (record { 0 = k }) two.2.2 ∙ (λ q. arrow (i_value q) (k_value q))) in
      let codomain_held : IsTypeOf b it.codomain = IsIn-longer one.0 b it.codomain one.1.closed two.1 c in
      let w : ℕ → Predicate = new_values it.domain it.codomain in
      let all : JoinedBefore ss types (parts (arrow it.domain it.codomain) it.domain) w =
      joined_all ss are types (parts (arrow it.domain it.codomain) it.domain) it.each b two.1.closed w (new_held b it.domain it.codomain codomain_held arrow_held) in
      let V : ℕ → Predicate = all.values.value in
      let below_both = back_to V (arrow it.domain it.codomain) it.domain all.values.roots in
      let at_n : n ≡ n + 0 = omega arith in
      let at_suc : suc n ≡ n + 1 = omega arith in
      let at_two : suc (suc n) ≡ n + 2 = omega arith in
      let V_n : V n ≡ it.codomain = ap V at_n ∙ all.behind 0 in
      let V_suc : V (suc n) ≡ it.codomain = ap V at_suc ∙ all.behind 1 in
      let V_two : V (suc (suc n)) ≡ arrow it.domain it.codomain = ap V at_two ∙ all.behind 2 in
      let last : Implies (V (suc (suc n))) (head_value Negative V (function_head (r ∷ []) (n ∷ []))) =
      subst (λ g. Implies g (head_value Negative V (function_head (r ∷ []) (n ∷ [])))) (sym V_two)
      (subst (Implies (arrow it.domain it.codomain)) (sym (head_is V))
      (arrow-implies it.domain it.codomain (V r) (V n) below_both.1 (Implies-same_back (V n) it.codomain V_n))) in
      record {
        nodes = all.values.nodes;
        closed = all.values.closed;
        value = V;
        held = all.values.held;
        model =
            model-grown j.automaton states (flow n (suc n) ∷ []) V all.values.model
            (empty_negative V n, (empty_positive V (suc n), (last, tt)))
            (one_flow V n (suc n) (Implies-same (V n) (V (suc n)) (V_n ∙ sym V_suc)));
        goals = one_goal V q (suc (suc n)) [] (subst (Implies (V q)) (sym V_two) below_both.0) (no_goal V);
        root = Implies-trans (V (suc n)) it.codomain f (Implies-same (V (suc n)) it.codomain V_suc) it.below;
        env = all.values.env;
      }

module _ (s t : Scheme) (is_s : HasStates s) (is_t : HasStates t) (types : ℕ → Predicate) (f : Predicate) where
  abbrev Both : Type 0
  Both = OfApply (HasTypes (no_goals s)) (HasTypes (no_goals t)) types f

  -- an application, with the function in front
  pub apply_row : HasTypes (apply_constraint s t) types f ↔ Both
  apply_row = (
    λ h.
        let it = applied_types ss are q r parts roots back_to types f h in
        record { domain = it.domain; codomain = it.codomain; domain_is = it.domain_is; codomain_is = it.codomain_is; function = it.each.0; argument = it.each.1.0; below = it.below },
    λ it.
        types_applied ss are q r parts roots back_to types f
        (record { domain = it.domain; codomain = it.codomain; domain_is = it.domain_is; codomain_is = it.codomain_is; each = (it.function, (it.argument, tt)); below = it.below }),
  )
    where
      ss : List Scheme
      ss = s ∷ t ∷ []

      are : AllHaveStates ss
      are = (is_s, (is_t, tt))

      q : ℕ
      q = s.root.0

      r : ℕ
      r = size s.automaton + t.root.0

      parts : Predicate → Predicate → List Predicate
      parts g h = g ∷ h ∷ []

      roots : (V : ℕ → Predicate) (g h : Predicate) → Implies (V q) g → Implies (V r) h → AreRootsBelow V (joined ss).roots (parts g h)
      roots V g h first second = (first, (second, tt))

      back_to : (V : ℕ → Predicate) (g h : Predicate) → AreRootsBelow V (joined ss).roots (parts g h) → Implies (V q) g × Implies (V r) h
      back_to V g h both = (both.0, both.1.0)

  -- and with the argument in front
  pub turned_row : HasTypes (turned_constraint s t) types f ↔ Both
  turned_row = (
    λ h.
        let it = applied_types ss are q r parts roots back_to types f h in
        record { domain = it.domain; codomain = it.codomain; domain_is = it.domain_is; codomain_is = it.codomain_is; function = it.each.1.0; argument = it.each.0; below = it.below },
    λ it.
        types_applied ss are q r parts roots back_to types f
        (record { domain = it.domain; codomain = it.codomain; domain_is = it.domain_is; codomain_is = it.codomain_is; each = (it.argument, (it.function, tt)); below = it.below }),
  )
    where
      ss : List Scheme
      ss = t ∷ s ∷ []

      are : AllHaveStates ss
      are = (is_t, (is_s, tt))

      q : ℕ
      q = size t.automaton + s.root.0

      r : ℕ
      r = t.root.0

      parts : Predicate → Predicate → List Predicate
      parts g h = h ∷ g ∷ []

      roots : (V : ℕ → Predicate) (g h : Predicate) → Implies (V q) g → Implies (V r) h → AreRootsBelow V (joined ss).roots (parts g h)
      roots V g h first second = (second, (first, tt))

      back_to : (V : ℕ → Predicate) (g h : Predicate) → AreRootsBelow V (joined ss).roots (parts g h) → Implies (V q) g × Implies (V r) h
      back_to V g h both = (both.1.0, both.0)

  -- a let
  pub let_row : HasTypes (let_constraint s t) types f ↔ OfLet (HasTypes (no_goals s)) (HasTypes (no_goals t)) types f
  let_row = (forth, back)
    where
      forth : HasTypes (let_constraint s t) types f → OfLet (HasTypes (no_goals s)) (HasTypes (no_goals t)) types f
      forth h =
          let each : AllHaveTypes types (s ∷ t ∷ []) (top ∷ f ∷ []) =
          joined_each (s ∷ t ∷ []) types (top ∷ f ∷ [])
          (record { nodes = h.nodes; closed = h.closed; value = h.value; held = h.held; model = h.model; env = h.env; roots = ((λ x e. refl), (h.root, tt)) }) in
          record { first = each.0; second = each.1.0 }

      back : OfLet (HasTypes (no_goals s)) (HasTypes (no_goals t)) types f → HasTypes (let_constraint s t) types f
      back it =
          let one = extended_with [] node.Top (closed_from [] (λ i low. absurd (omega arith))) tt tt in
          let all : JoinedBefore (s ∷ t ∷ []) types (top ∷ f ∷ []) (λ i. top) =
          joined_all (s ∷ t ∷ []) (is_s, (is_t, tt)) types (top ∷ f ∷ []) (it.first, (it.second, tt)) one.0 one.1.closed (λ i. top)
          (λ i. (one.2.0, one.2.1, value-top var one.0 one.1.closed.book one.2.0 one.2.2)) in
          record {
            nodes = all.values.nodes;
            closed = all.values.closed;
            value = all.values.value;
            held = all.values.held;
            model = all.values.model;
            goals = no_goal all.values.value;
            root = all.values.roots.1.0;
            env = all.values.env;
          }

-- a conditional
module _ (r s t : Scheme) (is_r : HasStates r) (is_s : HasStates s) (is_t : HasStates t) (types : ℕ → Predicate) (f : Predicate) where
  abbrev three : Joined
  three = joined (r ∷ s ∷ t ∷ [])

  abbrev first_new : ℕ
  first_new = size three.automaton

  abbrev second_root : ℕ
  second_root = size r.automaton + s.root.0

  abbrev third_root : ℕ
  third_root = size r.automaton + (size s.automaton + t.root.0)

  abbrev choice_states : List State
  choice_states = negative bool_head ∷ negative empty_head ∷ positive empty_head ∷ []

  abbrev choice_values : Predicate → ℕ → Predicate
  choice_values g zero = bool
  choice_values g (suc i) = g

  choice_held : (b : List Node) (g : Predicate) → IsTypeOf b bool → IsTypeOf b g → (i : ℕ) → IsTypeOf b (choice_values g i)
  choice_held b g h k zero = h
  choice_held b g h k (suc i) = k

  pub choice_row : HasTypes (choice_constraint r s t) types f ↔ OfChoice (HasTypes (no_goals r)) (HasTypes (no_goals s)) (HasTypes (no_goals t)) types f
  choice_row = (forth, back)
    where
      forth : HasTypes (choice_constraint r s t) types f → OfChoice (HasTypes (no_goals r)) (HasTypes (no_goals s)) (HasTypes (no_goals t)) types f
      forth h =
          let T : ℕ → Predicate = h.value in
          let it = grown-model three.automaton choice_states (flow (suc first_new) (suc (suc first_new)) ∷ []) T h.model in
          let last_goals = (second_root, suc first_new) ∷ (third_root, suc first_new) ∷ [] in
          let condition_below : Implies (T r.root.0) bool =
          Implies-trans (T r.root.0) (T first_new) bool (h.goals r.root.0 first_new (Contains-here (r.root.0, first_new) last_goals)) (subst (Implies (T first_new)) (bool_value Negative T) it.1.0) in
          let first_below : Implies (T second_root) (T (suc first_new)) = h.goals second_root (suc first_new) (Contains-later (r.root.0, first_new) last_goals (second_root, suc first_new) (Contains-here (second_root, suc first_new) ((third_root, suc first_new) ∷ []))) in
          let second_below : Implies (T third_root) (T (suc first_new)) =
          h.goals third_root (suc first_new) (Contains-later (r.root.0, first_new) last_goals (third_root, suc first_new) (Contains-later (second_root, suc first_new) ((third_root, suc first_new) ∷ []) (third_root, suc first_new) (Contains-here (third_root, suc first_new) []))) in
          let each : AllHaveTypes types (r ∷ s ∷ t ∷ []) (bool ∷ T (suc first_new) ∷ T (suc first_new) ∷ []) =
          joined_each (r ∷ s ∷ t ∷ []) types (bool ∷ T (suc first_new) ∷ T (suc first_new) ∷ [])
          (record { nodes = h.nodes; closed = h.closed; value = T; held = h.held; model = it.0; env = h.env; roots = (condition_below, (first_below, (second_below, tt))) }) in
          record {
            branch = T (suc first_new);
            branch_is = (h.nodes, h.closed, h.held (suc first_new));
            condition = each.0;
            first = each.1.0;
            second = each.1.1.0;
            below = Implies-trans (T (suc first_new)) (T (suc (suc first_new))) f (it.2 (flow (suc first_new) (suc (suc first_new))) (Contains-here (flow (suc first_new) (suc (suc first_new))) [])) h.root;
          }

      back : OfChoice (HasTypes (no_goals r)) (HasTypes (no_goals s)) (HasTypes (no_goals t)) types f → HasTypes (choice_constraint r s t) types f
      back it =
          let one = extended_with it.branch_is.0 node.Bool it.branch_is.1 tt tt in
          let b : List Node = one.0 in
          let bool_held : IsTypeOf b bool = (one.2.0, one.2.1, value-bool var b one.1.closed.book one.2.0 one.2.2) in
          let branch_held : IsTypeOf b it.branch = IsIn-longer it.branch_is.0 b it.branch it.branch_is.1 one.1 it.branch_is.2 in
          let w : ℕ → Predicate = choice_values it.branch in
          let all : JoinedBefore (r ∷ s ∷ t ∷ []) types (bool ∷ it.branch ∷ it.branch ∷ []) w =
          joined_all (r ∷ s ∷ t ∷ []) (is_r, (is_s, (is_t, tt))) types (bool ∷ it.branch ∷ it.branch ∷ []) (it.condition, (it.first, (it.second, tt))) b one.1.closed w (choice_held b it.branch bool_held branch_held) in
          let V : ℕ → Predicate = all.values.value in
          let at_n : first_new ≡ first_new + 0 = omega arith in
          let at_suc : suc first_new ≡ first_new + 1 = omega arith in
          let at_two : suc (suc first_new) ≡ first_new + 2 = omega arith in
          let V_n : V first_new ≡ bool = ap V at_n ∙ all.behind 0 in
          let V_suc : V (suc first_new) ≡ it.branch = ap V at_suc ∙ all.behind 1 in
          let V_two : V (suc (suc first_new)) ≡ it.branch = ap V at_two ∙ all.behind 2 in
          record {
            nodes = all.values.nodes;
            closed = all.values.closed;
            value = V;
            held = all.values.held;
            model =
                model-grown three.automaton choice_states (flow (suc first_new) (suc (suc first_new)) ∷ []) V all.values.model
                (Implies-same (V first_new) (head_value Negative V bool_head) (V_n ∙ sym (bool_value Negative V)), (empty_negative V (suc first_new), (empty_positive V (suc (suc first_new)), tt)))
                (one_flow V (suc first_new) (suc (suc first_new)) (Implies-same (V (suc first_new)) (V (suc (suc first_new))) (V_suc ∙ sym V_two)));
            goals =
                one_goal V r.root.0 first_new ((second_root, suc first_new) ∷ (third_root, suc first_new) ∷ []) (subst (Implies (V r.root.0)) (sym V_n) all.values.roots.0)
                (one_goal V second_root (suc first_new) ((third_root, suc first_new) ∷ []) (subst (Implies (V second_root)) (sym V_suc) all.values.roots.1.0)
                (one_goal V third_root (suc first_new) [] (subst (Implies (V third_root)) (sym V_suc) all.values.roots.1.1.0) (no_goal V)));
            root = Implies-trans (V (suc (suc first_new))) it.branch f (Implies-same (V (suc (suc first_new))) it.branch V_two) it.below;
            env = all.values.env;
          }
