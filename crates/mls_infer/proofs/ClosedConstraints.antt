-- Constraints over closed schemes are closed, and their goals go from positive to negative states.
--     constraint_closed
use Rattle.std.proofs.Common.{◌≡◌, ◌⊎◌, inl, inr, ℕ, zero, suc, ◌+◌, ◌<◌, ◌≤◌, List, [], ◌∷◌, map, length, get_or, refl, sym, ap, ◌∙◌, subst, arith, All, Contains, length-append}
use Rattle.std.specs.Prelude.{filter, not}
use Rattle.std.specs.Ordering.{nat_cmp, eq_by_cmp}
use Rattle.std.specs.declared.cmp.Ordering.TheVariants.{Less}
use Rattle.std.specs.Cmp.Lexicographic.{slice_cmp}
use Rattle.std.proofs.Math.ListN.{get_or-append}
use Rattle.std.proofs.lemmas.List.{get_or-append-add}
use Rattle.std.proofs.lemmas.List.Elements.{All-nil, All-cons, All-contains, Contains-append_cases}
use Rattle.mls_book.proofs.LongerBooks.{below_or_more}
use Rattle.mls_automaton.specs.declared.automaton.Polarity.{Polarity}
use Rattle.mls_automaton.specs.declared.automaton.Polarity.TheVariants.{Positive, Negative}
use Rattle.mls_automaton.specs.declared.automaton.FieldSet.{FieldSet}
use Rattle.mls_automaton.specs.declared.automaton.Head.{Head}
use Rattle.mls_automaton.specs.declared.automaton.State.{State}
use Rattle.mls_automaton.specs.declared.automaton.Flow.{Flow}
use Rattle.mls_automaton.specs.declared.scheme.EnvEntry.{EnvEntry}
use Rattle.mls_automaton.specs.declared.scheme.Scheme.{Scheme}
use Rattle.mls_automaton.specs.Automata.{Automaton, empty_head, state_at, polarity_at, head_at, flow, opposite, IsState}
use Rattle.mls_automaton.specs.Embeddings.{appended, renamed_state, renamed_flow}
use Rattle.mls_automaton.specs.Models.{HasStatesIn, HasRisingLabels, IsClosed}
use Rattle.mls_automaton.proofs.Appends.{closed-appended, second-embedded}
use Rattle.mls_automaton.proofs.Lists.{Contains-cases, Contains-here, Contains-later, Contains-filtered, All-one, All-contained}
use Rattle.mls_infer.specs.Constraints.{Constraint, HasStates, no_goals, up, grown, size, joined, negative, positive, function_head, record_head, bool_head, int_head, AreStatesOf, states_of, renamed_entry, fun_constraint, fix_constraint, project_constraint, application_over, apply_constraint, turned_constraint, choice_constraint, let_constraint, make_constraint, bound_constraint, literal_constraint}
use Rattle.mls_automaton.specs.Heads.{AreRising}
use Rattle.mls_term.specs.Terms.{TermTree, TermFields, bound, inner, global, number, truth, fun, apply, make, project, choice, local, fix}
use Rattle.mls_term.specs.Derivations.{Known}
use Rattle.mls_infer.specs.Constraints.{AreFieldsOf}
use Rattle.mls_infer.specs.Steps.{IsConstraintOf}
use Rattle.mls_infer.proofs.Grown.{Contains-mapped, states_more}
use Rattle.mls_infer.proofs.ConstraintRows.{nothing_in, pair, no_pairs}
use Rattle.mls_infer.proofs.SideBySide.{AllHaveStates}

-- a state of an automaton is one of a grown one
module _ (a : Automaton) (states : List State) (flows : List Flow) where
  abbrev g : Automaton
  g = grown a states flows

  abbrev d : State
  d = record { polarity = Positive; head = empty_head }

  length_grown : length g.states ≡ size a + length states
  length_grown = length-append a.states states

  pub old_state : (p : Polarity) (s : ℕ) → IsState a p s → IsState g p s
  old_state p s state =
      let low : s < size a = state.in_range in
      let all : length g.states ≡ size a + length states = length_grown in
      record { in_range = omega arith; polarity = ap (λ (x : State). x.polarity) (get_or-append a.states states d s low) ∙ state.polarity }

  pub new_state : (i : ℕ) → i < length states → (p : Polarity) → (get_or states i d).polarity ≡ p → IsState g p (size a + i)
  new_state i low p is =
      let all : length g.states ≡ size a + length states = length_grown in
      record { in_range = omega arith; polarity = ap (λ (x : State). x.polarity) (get_or-append-add a.states states i d) ∙ is }

  -- what is asked of a new state
  abbrev pub IsGoodState : State → Type 0
  IsGoodState x = HasStatesIn (IsState g) x.polarity x.head × HasRisingLabels x.head.fields

  pub grown_closed : IsClosed a → All IsGoodState states → ((f : Flow) → Contains flows f → IsState g Negative f.negative.0 × IsState g Positive f.positive.0) → IsClosed g
  grown_closed closed good upward = record {
    heads = λ s. (at s (below_or_more s (size a))).0;
    labels = λ s. (at s (below_or_more s (size a))).1;
    negative = λ f inside. (flow_at f (Contains-append_cases a.flows flows f inside)).0;
    positive = λ f inside. (flow_at f (Contains-append_cases a.flows flows f inside)).1;
  }
    where
      flow_at : (f : Flow) → Contains a.flows f ⊎ Contains flows f → IsState g Negative f.negative.0 × IsState g Positive f.positive.0
      flow_at f (inl inside) = (old_state Negative f.negative.0 (closed.negative f inside), old_state Positive f.positive.0 (closed.positive f inside))
      flow_at f (inr inside) = upward f inside

      new : (j : ℕ) → (j < length states) ⊎ ((i : ℕ) × (j ≡ length states + i)) → IsGoodState (get_or states j d)
      new j (inl low) = good j d low
      new j (inr (i, is)) = subst IsGoodState (sym (past states j (let at : j ≡ length states + i = is in omega arith))) (record { function = tt; fields = tt }, tt)
        where
          past : (xs : List State) (j : ℕ) → length xs ≤ j → get_or xs j d ≡ d
          past [] j le = refl
          past (x ∷ rest) zero le = absurd (omega arith)
          past (x ∷ rest) (suc j) le = past rest j (omega arith)

      at : (s : ℕ) → (s < size a) ⊎ ((j : ℕ) × (s ≡ size a + j)) → IsGoodState (state_at g s)
      at s (inl low) =
          subst IsGoodState (sym (get_or-append a.states states d s low))
          (states_more (IsState a) (IsState g) old_state (polarity_at a s) (head_at a s) (closed.heads s), closed.labels s)
      at s (inr (j, is)) =
          let P : ℕ → Type 0 = λ s. IsGoodState (state_at g s) in
          subst P (sym is) (subst IsGoodState (sym (get_or-append-add a.states states j d)) (new j (below_or_more j (length states))))

-- schemes side by side
pub joined_closed : (ss : List Scheme) → AllHaveStates ss → IsClosed (joined ss).automaton
joined_closed [] are = record {
  heads = λ s. record { function = tt; fields = tt };
  labels = λ s. tt;
  negative = λ f inside. absurd (nothing_in f inside);
  positive = λ f inside. absurd (nothing_in f inside);
}
joined_closed (s ∷ ss) are = closed-appended s.automaton (joined ss).automaton are.0.automaton (joined_closed ss are.1)

second_state : (a b : Automaton) → IsClosed a → IsClosed b → (p : Polarity) (s : ℕ) → IsState b p s → IsState (appended a b) p (up (size a) s)
second_state a b closed closed' p s state =
    let it = second-embedded a b closed closed' in
    record { in_range = it.in_range s state.in_range; polarity = it.polarity s state.in_range ∙ state.polarity }

first_state : (a b : Automaton) (p : Polarity) (s : ℕ) → IsState a p s → IsState (appended a b) p s
first_state a b = old_state a (map (renamed_state (up (size a))) b.states) (map (renamed_flow (up (size a))) b.flows)

pub joined_negative : (ss : List Scheme) → AllHaveStates ss → (entry : EnvEntry) → Contains (joined ss).env entry → IsState (joined ss).automaton Negative entry.state.0
joined_negative [] are entry inside = absurd (nothing_in entry inside)
joined_negative (s ∷ ss) are entry inside = by_case (Contains-append_cases s.env (map (renamed_entry (up (size s.automaton))) (joined ss).env) entry inside) (joined_negative ss are.1)
  where
    by_case : Contains s.env entry ⊎ Contains (map (renamed_entry (up (size s.automaton))) (joined ss).env) entry → ((entry : EnvEntry) → Contains (joined ss).env entry → IsState (joined ss).automaton Negative entry.state.0) → IsState (joined (s ∷ ss)).automaton Negative entry.state.0
    by_case (inl first) later = first_state s.automaton (joined ss).automaton Negative entry.state.0 (are.0.env entry first)
    by_case (inr second) later =
        let it = Contains-mapped (renamed_entry (up (size s.automaton))) (joined ss).env entry second in
        subst (λ (e : EnvEntry). IsState (joined (s ∷ ss)).automaton Negative e.state.0) it.2
        (second_state s.automaton (joined ss).automaton are.0.automaton (joined_closed ss are.1) Negative it.0.state.0 (later it.0 it.1))

pub joined_positive : (ss : List Scheme) → AllHaveStates ss → (root : ℕ) → Contains (joined ss).roots root → IsState (joined ss).automaton Positive root
joined_positive [] are root inside = absurd (nothing_in root inside)
joined_positive (s ∷ ss) are root inside = by_case (Contains-cases s.root.0 (map (up (size s.automaton)) (joined ss).roots) root inside) (joined_positive ss are.1)
  where
    by_case : (s.root.0 ≡ root) ⊎ Contains (map (up (size s.automaton)) (joined ss).roots) root → ((root : ℕ) → Contains (joined ss).roots root → IsState (joined ss).automaton Positive root) → IsState (joined (s ∷ ss)).automaton Positive root
    by_case (inl same) later = subst (IsState (joined (s ∷ ss)).automaton Positive) same (first_state s.automaton (joined ss).automaton Positive s.root.0 are.0.root)
    by_case (inr second) later =
        let it = Contains-mapped (up (size s.automaton)) (joined ss).roots root second in
        subst (IsState (joined (s ∷ ss)).automaton Positive) it.2
        (second_state s.automaton (joined ss).automaton are.0.automaton (joined_closed ss are.1) Positive it.0 (later it.0 it.1))

-- a constraint whose automaton is closed, and whose goals are pairs of a positive and a negative state
pub record IsWellFormed (c : Constraint) : Type 0 where
  pub states : HasStates c.scheme
  pub goals : (p n : ℕ) → Contains c.goals (p, n) → IsState c.scheme.automaton Positive p × IsState c.scheme.automaton Negative n

no_goals_left : (a : Automaton) (p n : ℕ) → Contains no_pairs (p, n) → IsState a Positive p × IsState a Negative n
no_goals_left a p n inside = absurd (nothing_in (p, n) inside)

one_goal_more : (a : Automaton) (p n : ℕ) (rest : List (ℕ × ℕ)) → IsState a Positive p → IsState a Negative n → ((q m : ℕ) → Contains rest (q, m) → IsState a Positive q × IsState a Negative m) → (q m : ℕ) → Contains (pair p n ∷ rest) (q, m) → IsState a Positive q × IsState a Negative m
one_goal_more a p n rest positive_is negative_is others q m inside = by_case (Contains-cases (pair p n) rest (q, m) inside)
  where
    by_case : (pair p n ≡ pair q m) ⊎ Contains rest (q, m) → IsState a Positive q × IsState a Negative m
    by_case (inl same) = subst (λ (g : ℕ × ℕ). IsState a Positive g.0 × IsState a Negative g.1) same (positive_is, negative_is)
    by_case (inr later) = others q m later

one_flow_only : (a : Automaton) (n p : ℕ) → IsState a Negative n → IsState a Positive p → (f : Flow) → Contains (flow n p ∷ []) f → IsState a Negative f.negative.0 × IsState a Positive f.positive.0
one_flow_only a n p negative_is positive_is f inside = by_case (Contains-cases (flow n p) [] f inside)
  where
    by_case : (flow n p ≡ f) ⊎ Contains [] f → IsState a Negative f.negative.0 × IsState a Positive f.positive.0
    by_case (inl same) = subst (λ (f : Flow). IsState a Negative f.negative.0 × IsState a Positive f.positive.0) same (negative_is, positive_is)
    by_case (inr none) = absurd (nothing_in f none)

no_flow : (a : Automaton) (f : Flow) → Contains [] f → IsState a Negative f.negative.0 × IsState a Positive f.positive.0
no_flow a f inside = absurd (nothing_in f inside)

at_new : (a : Automaton) (p : Polarity) (n i m : ℕ) → IsState a p (n + i) → n + i ≡ m → IsState a p m
at_new a p n i m state is = subst (IsState a p) is state

All-three : {X : Type 0} (P : X → Type 0) (x y z : X) → P x → P y → P z → All P (x ∷ y ∷ z ∷ [])
All-three P x y z first second third = All-cons P x (y ∷ z ∷ []) first (All-cons P y (z ∷ []) second (All-one P z third))

-- a head with a function, or with fields
function_good : (a : Automaton) (p : Polarity) (domain codomain : List ℕ) → All (IsState a (opposite p)) domain → All (IsState a p) codomain → HasStatesIn (IsState a) p (function_head domain codomain)
function_good a p domain codomain first second = record { function = (first, second); fields = tt }

record_good : (a : Automaton) (p : Polarity) (fields : List FieldSet) → All (λ field. All (IsState a p) field.set) fields → HasStatesIn (IsState a) p (record_head fields)
record_good a p fields each = record { function = tt; fields = each }

no_head_good : (a : Automaton) (p : Polarity) → HasStatesIn (IsState a) p empty_head
no_head_good a p = record { function = tt; fields = tt }

-- the states of a binder are those of entries
module _ (x : ℕ) (s : Scheme) (is : HasStates s) where
  states_negative : All (IsState s.automaton Negative) (states_of x s.env)
  states_negative =
      All-contained (IsState s.automaton Negative) (states_of x s.env)
      (λ m inside.
      let it = Contains-mapped (λ (entry : EnvEntry). entry.state.0) (filter (λ (entry : EnvEntry). eq_by_cmp nat_cmp entry.binder x) s.env) m inside in
      subst (IsState s.automaton Negative) it.2 (is.env it.0 (Contains-filtered (λ (entry : EnvEntry). eq_by_cmp nat_cmp entry.binder x) s.env it.0 it.1)))

  pub fix_closed : IsWellFormed (fix_constraint x s)
  fix_closed = record {
    states = record {
      automaton = is.automaton;
      root = is.root;
      env = λ entry inside. is.env entry (Contains-filtered (λ (entry : EnvEntry). not (eq_by_cmp nat_cmp entry.binder x)) s.env entry inside);
    };
    goals = λ p n inside.
        let it = Contains-mapped (pair s.root.0) (states_of x s.env) (p, n) inside in
        subst (λ (g : ℕ × ℕ). IsState s.automaton Positive g.0 × IsState s.automaton Negative g.1) it.2
        (is.root, All-contains (IsState s.automaton Negative) (states_of x s.env) it.0 states_negative it.1);
  }

  pub fun_closed : (set : List ℕ) → AreStatesOf x s set → IsWellFormed (fun_constraint set x s)
  fun_closed set of_binder =
      let a : Automaton = s.automaton in
      let states : List State = positive (function_head set (s.root.0 ∷ [])) ∷ [] in
      let b : Automaton = grown a states [] in
      let n_is : size a + 0 ≡ size a = omega arith in
      record {
        states = record {
          automaton =
              grown_closed a states [] is.automaton
              (All-one (IsGoodState a states []) (positive (function_head set (s.root.0 ∷ []))) (
                function_good b Positive set (s.root.0 ∷ [])
                    (All-contained (IsState b Negative) set (λ m inside. old_state a states [] Negative m (All-contains (IsState a Negative) (states_of x s.env) m states_negative ((of_binder m).0 inside))))
                    (All-one (IsState b Positive) s.root.0 (old_state a states [] Positive s.root.0 is.root)),
                tt,
              ))
              (no_flow b);
          root = at_new b Positive (size a) 0 (size a) (new_state a states [] 0 (omega arith) Positive refl) n_is;
          env = λ entry inside. old_state a states [] Negative entry.state.0 (is.env entry (Contains-filtered (λ (entry : EnvEntry). not (eq_by_cmp nat_cmp entry.binder x)) s.env entry inside));
        };
        goals = no_goals_left b;
      }

pub project_closed : (label : List ℕ) (s : Scheme) → HasStates s → IsWellFormed (project_constraint label s)
project_closed label s is =
    let a : Automaton = s.automaton in
    let n : ℕ = size a in
    let fields : List FieldSet = record { label = label; set = n ∷ [] } ∷ [] in
    let states : List State = negative empty_head ∷ positive empty_head ∷ negative (record_head fields) ∷ [] in
    let flows : List Flow = flow n (suc n) ∷ [] in
    let b : Automaton = grown a states flows in
    let n_is : IsState b Negative n = at_new b Negative n 0 n (new_state a states flows 0 (omega arith) Negative refl) (omega arith) in
    let suc_is : IsState b Positive (suc n) = at_new b Positive n 1 (suc n) (new_state a states flows 1 (omega arith) Positive refl) (omega arith) in
    let two_is : IsState b Negative (suc (suc n)) = at_new b Negative n 2 (suc (suc n)) (new_state a states flows 2 (omega arith) Negative refl) (omega arith) in
    record {
      states = record {
        automaton =
            grown_closed a states flows is.automaton
            (All-three (IsGoodState a states flows) (negative empty_head) (positive empty_head) (negative (record_head fields))
            (no_head_good b Negative, tt) (no_head_good b Positive, tt)
            (record_good b Negative fields (All-one (λ (field : FieldSet). All (IsState b Negative) field.set) (record { label = label; set = n ∷ [] }) (All-one (IsState b Negative) n n_is)), (All-nil (λ (later : FieldSet). slice_cmp nat_cmp label later.label ≡ Less), tt)))
            (one_flow_only b n (suc n) n_is suc_is);
        root = suc_is;
        env = λ entry inside. old_state a states flows Negative entry.state.0 (is.env entry inside);
      };
      goals = one_goal_more b s.root.0 (suc (suc n)) [] (old_state a states flows Positive s.root.0 is.root) two_is (no_goals_left b);
    }

application_closed : (ss : List Scheme) → AllHaveStates ss → (q r : ℕ) → Contains (joined ss).roots q → Contains (joined ss).roots r → IsWellFormed (application_over q r (joined ss))
application_closed ss are q r q_there r_there =
    let a : Automaton = (joined ss).automaton in
    let n : ℕ = size a in
    let states : List State = negative empty_head ∷ positive empty_head ∷ negative (function_head (r ∷ []) (n ∷ [])) ∷ [] in
    let flows : List Flow = flow n (suc n) ∷ [] in
    let b : Automaton = grown a states flows in
    let n_is : IsState b Negative n = at_new b Negative n 0 n (new_state a states flows 0 (omega arith) Negative refl) (omega arith) in
    let suc_is : IsState b Positive (suc n) = at_new b Positive n 1 (suc n) (new_state a states flows 1 (omega arith) Positive refl) (omega arith) in
    let two_is : IsState b Negative (suc (suc n)) = at_new b Negative n 2 (suc (suc n)) (new_state a states flows 2 (omega arith) Negative refl) (omega arith) in
    let q_root : IsState b Positive q = old_state a states flows Positive q (joined_positive ss are q q_there) in
    let r_root : IsState b Positive r = old_state a states flows Positive r (joined_positive ss are r r_there) in
    record {
      states = record {
        automaton =
            grown_closed a states flows (joined_closed ss are)
            (All-three (IsGoodState a states flows) (negative empty_head) (positive empty_head) (negative (function_head (r ∷ []) (n ∷ [])))
            (no_head_good b Negative, tt) (no_head_good b Positive, tt)
            (function_good b Negative (r ∷ []) (n ∷ []) (All-one (IsState b Positive) r r_root) (All-one (IsState b Negative) n n_is), tt))
            (one_flow_only b n (suc n) n_is suc_is);
        root = suc_is;
        env = λ entry inside. old_state a states flows Negative entry.state.0 (joined_negative ss are entry inside);
      };
      goals = one_goal_more b q (suc (suc n)) [] q_root two_is (no_goals_left b);
    }

pub apply_closed : (s t : Scheme) → HasStates s → HasStates t → IsWellFormed (apply_constraint s t)
apply_closed s t is_s is_t =
    let r : ℕ = size s.automaton + t.root.0 in
    application_closed (s ∷ t ∷ []) (is_s, (is_t, tt)) s.root.0 r (Contains-here s.root.0 (r ∷ [])) (Contains-later s.root.0 (r ∷ []) r (Contains-here r []))

pub turned_closed : (s t : Scheme) → HasStates s → HasStates t → IsWellFormed (turned_constraint s t)
turned_closed s t is_s is_t =
    let q : ℕ = size t.automaton + s.root.0 in
    application_closed (t ∷ s ∷ []) (is_t, (is_s, tt)) q t.root.0 (Contains-later t.root.0 (q ∷ []) q (Contains-here q [])) (Contains-here t.root.0 (q ∷ []))

pub let_closed : (s t : Scheme) → HasStates s → HasStates t → IsWellFormed (let_constraint s t)
let_closed s t is_s is_t =
    let ss : List Scheme = s ∷ t ∷ [] in
    let are : AllHaveStates ss = (is_s, (is_t, tt)) in
    let r : ℕ = size s.automaton + t.root.0 in
    record {
      states = record {
        automaton = joined_closed ss are;
        root = joined_positive ss are r (Contains-later s.root.0 (r ∷ []) r (Contains-here r []));
        env = joined_negative ss are;
      };
      goals = no_goals_left (joined ss).automaton;
    }

pub choice_closed : (r s t : Scheme) → HasStates r → HasStates s → HasStates t → IsWellFormed (choice_constraint r s t)
choice_closed r s t is_r is_s is_t =
    let ss : List Scheme = r ∷ s ∷ t ∷ [] in
    let are : AllHaveStates ss = (is_r, (is_s, (is_t, tt))) in
    let a : Automaton = (joined ss).automaton in
    let n : ℕ = size a in
    let second : ℕ = size r.automaton + s.root.0 in
    let third : ℕ = size r.automaton + (size s.automaton + t.root.0) in
    let states : List State = negative bool_head ∷ negative empty_head ∷ positive empty_head ∷ [] in
    let flows : List Flow = flow (suc n) (suc (suc n)) ∷ [] in
    let b : Automaton = grown a states flows in
    let n_is : IsState b Negative n = at_new b Negative n 0 n (new_state a states flows 0 (omega arith) Negative refl) (omega arith) in
    let suc_is : IsState b Negative (suc n) = at_new b Negative n 1 (suc n) (new_state a states flows 1 (omega arith) Negative refl) (omega arith) in
    let two_is : IsState b Positive (suc (suc n)) = at_new b Positive n 2 (suc (suc n)) (new_state a states flows 2 (omega arith) Positive refl) (omega arith) in
    let r_root : IsState b Positive r.root.0 = old_state a states flows Positive r.root.0 (joined_positive ss are r.root.0 (Contains-here r.root.0 (second ∷ third ∷ []))) in
    let s_root : IsState b Positive second = old_state a states flows Positive second (joined_positive ss are second (Contains-later r.root.0 (second ∷ third ∷ []) second (Contains-here second (third ∷ [])))) in
    let t_root : IsState b Positive third = old_state a states flows Positive third (joined_positive ss are third (Contains-later r.root.0 (second ∷ third ∷ []) third (Contains-later second (third ∷ []) third (Contains-here third [])))) in
    record {
      states = record {
        automaton =
            grown_closed a states flows (joined_closed ss are)
            (All-three (IsGoodState a states flows) (negative bool_head) (negative empty_head) (positive empty_head)
            (record { function = tt; fields = tt }, tt) (no_head_good b Negative, tt) (no_head_good b Positive, tt))
            (one_flow_only b (suc n) (suc (suc n)) suc_is two_is);
        root = two_is;
        env = λ entry inside. old_state a states flows Negative entry.state.0 (joined_negative ss are entry inside);
      };
      goals =
          one_goal_more b r.root.0 n (pair second (suc n) ∷ pair third (suc n) ∷ []) r_root n_is
          (one_goal_more b second (suc n) (pair third (suc n) ∷ []) s_root suc_is
          (one_goal_more b third (suc n) [] t_root suc_is (no_goals_left b)));
    }

-- a record's head as fields of an automaton: the same labels, in the same order
rising_labels : (fields : List FieldSet) → AreRising fields → HasRisingLabels (record_head fields).fields
rising_labels fields rising = rising

pub make_closed : (parts : TermFields) (fields : List FieldSet) (ss : List Scheme) → AllHaveStates ss → AreFieldsOf parts (joined ss).roots fields → IsWellFormed (make_constraint fields ss)
make_closed parts fields ss are is =
    let a : Automaton = (joined ss).automaton in
    let states : List State = positive (record_head fields) ∷ [] in
    let b : Automaton = grown a states [] in
    let n_is : size a + 0 ≡ size a = omega arith in
    record {
      states = record {
        automaton =
            grown_closed a states [] (joined_closed ss are)
            (All-one (IsGoodState a states []) (positive (record_head fields)) (
              record_good b Positive fields
                  (λ i d low.
                  let it = is.single i d low in
                  subst (λ set. All (IsState b Positive) set) (sym it.2) (All-one (IsState b Positive) it.0 (old_state a states [] Positive it.0 (joined_positive ss are it.0 it.1)))),
              rising_labels fields is.rising,
            ))
            (no_flow b);
        root = at_new b Positive (size a) 0 (size a) (new_state a states [] 0 (omega arith) Positive refl) n_is;
        env = λ entry inside. old_state a states [] Negative entry.state.0 (joined_negative ss are entry inside);
      };
      goals = no_goals_left b;
    }

pub bound_closed : (x : ℕ) → IsWellFormed (bound_constraint x)
bound_closed x =
    let nothing : Automaton = record { states = []; flows = [] } in
    let states : List State = negative empty_head ∷ positive empty_head ∷ [] in
    let flows : List Flow = flow 0 1 ∷ [] in
    let b : Automaton = grown nothing states flows in
    let zero_is : IsState b Negative 0 = record { in_range = omega arith; polarity = refl } in
    let one_is : IsState b Positive 1 = record { in_range = omega arith; polarity = refl } in
    record {
      states = record {
        automaton =
            grown_closed nothing states flows (joined_closed [] tt)
            (All-cons (IsGoodState nothing states flows) (negative empty_head) (positive empty_head ∷ []) (no_head_good b Negative, tt) (All-one (IsGoodState nothing states flows) (positive empty_head) (no_head_good b Positive, tt)))
            (one_flow_only b 0 1 zero_is one_is);
        root = one_is;
        env = λ entry inside. only_entry x entry (Contains-cases (record { binder = x; state = record { 0 = 0 } }) [] entry inside);
      };
      goals = no_goals_left b;
    }
  where
    only_entry : (x : ℕ) (entry : EnvEntry) → (record { binder = x; state = record { 0 = 0 } } ≡ entry) ⊎ Contains [] entry → IsState (bound_constraint x).scheme.automaton Negative entry.state.0
    only_entry x entry (inl same) = subst (λ (e : EnvEntry). IsState (bound_constraint x).scheme.automaton Negative e.state.0) same (record { in_range = omega arith; polarity = refl })
    only_entry x entry (inr none) = absurd (nothing_in entry none)

pub literal_closed : (h : Head) → ((a : Automaton) → HasStatesIn (IsState a) Positive h) → HasRisingLabels h.fields → IsWellFormed (literal_constraint h)
literal_closed h good rising =
    let nothing : Automaton = record { states = []; flows = [] } in
    let states : List State = positive h ∷ [] in
    let b : Automaton = grown nothing states [] in
    record {
      states = record {
        automaton = grown_closed nothing states [] (joined_closed [] tt) (All-one (IsGoodState nothing states []) (positive h) (good b, rising)) (no_flow b);
        root = record { in_range = omega arith; polarity = refl };
        env = λ entry inside. absurd (nothing_in entry inside);
      };
      goals = no_goals_left b;
    }

same_form : (c d : Constraint) → c ≡ d → IsWellFormed d → IsWellFormed c
same_form c d is h = let P : Constraint → Type 0 = λ c. IsWellFormed c in subst P (sym is) h

-- the constraint of each form, over closed schemes
pub constraint_closed : (known : Known) (t : TermTree) (ss : List Scheme) (c : Constraint) → AllHaveStates ss → IsConstraintOf known t ss c → IsWellFormed c
constraint_closed known (inner at k) [] c are is = same_form c (no_goals is.0) is.5 (record { states = is.3; goals = no_goals_left is.0.automaton })
constraint_closed known (global at g) [] c are is = same_form c (no_goals is.0) is.5 (record { states = is.3; goals = no_goals_left is.0.automaton })
constraint_closed known (bound at x) [] c are is = same_form c (bound_constraint x) is (bound_closed x)
constraint_closed known (number at value) [] c are is = same_form c (literal_constraint int_head) is (literal_closed int_head (λ a. record { function = tt; fields = tt }) tt)
constraint_closed known (truth at value) [] c are is = same_form c (literal_constraint bool_head) is (literal_closed bool_head (λ a. record { function = tt; fields = tt }) tt)
constraint_closed known (fun at x e) (s ∷ []) c are is = same_form c (fun_constraint is.0 x s) is.2 (fun_closed x s are.0 is.0 is.1)
constraint_closed known (apply at e e') (s ∷ t ∷ []) c are (inl applied) = same_form c (apply_constraint s t) applied (apply_closed s t are.0 are.1.0)
constraint_closed known (apply at e e') (s ∷ t ∷ []) c are (inr turned) = same_form c (turned_constraint s t) turned (turned_closed s t are.0 are.1.0)
constraint_closed known (make at parts) ss c are is = same_form c (make_constraint is.0 ss) is.2 (make_closed parts is.0 ss are is.1)
constraint_closed known (project at e label) (s ∷ []) c are is = same_form c (project_constraint label s) is (project_closed label s are.0)
constraint_closed known (choice at e e1 e2) (r ∷ s ∷ t ∷ []) c are is = same_form c (choice_constraint r s t) is (choice_closed r s t are.0 are.1.0 are.1.1.0)
constraint_closed known (fix at x e) (s ∷ []) c are is = same_form c (fix_constraint x s) is (fix_closed x s are.0)
-- a list of another length is none of its parts
constraint_closed known (inner at k) (s ∷ ss) c are is = absurd is
constraint_closed known (global at g) (s ∷ ss) c are is = absurd is
constraint_closed known (bound at x) (s ∷ ss) c are is = absurd is
constraint_closed known (number at value) (s ∷ ss) c are is = absurd is
constraint_closed known (truth at value) (s ∷ ss) c are is = absurd is
constraint_closed known (fun at x e) [] c are is = absurd is
constraint_closed known (fun at x e) (s ∷ s' ∷ ss) c are is = absurd is
constraint_closed known (project at e label) [] c are is = absurd is
constraint_closed known (project at e label) (s ∷ s' ∷ ss) c are is = absurd is
constraint_closed known (fix at x e) [] c are is = absurd is
constraint_closed known (fix at x e) (s ∷ s' ∷ ss) c are is = absurd is
constraint_closed known (apply at e e') [] c are is = absurd is
constraint_closed known (apply at e e') (s ∷ []) c are is = absurd is
constraint_closed known (apply at e e') (s ∷ s' ∷ s'' ∷ ss) c are is = absurd is
constraint_closed known (choice at e e1 e2) [] c are is = absurd is
constraint_closed known (choice at e e1 e2) (s ∷ []) c are is = absurd is
constraint_closed known (choice at e e1 e2) (s ∷ s' ∷ []) c are is = absurd is
constraint_closed known (choice at e e1 e2) (s ∷ s' ∷ s'' ∷ u ∷ ss) c are is = absurd is
constraint_closed known (local at k e e') ss c are is = absurd is
