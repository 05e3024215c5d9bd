-- Posing a node adds states, edges and goals.
--     result_made         a positive state, and a negative one that flows into it
--     result_added        a form that has such states
--     bound_added         a use of a binder
--     three_goals         the goals of a conditional
--     joined_choice       a conditional that shares the states of another one
use Rattle.std.proofs.Common.{◌≡◌, ◌⊎◌, ◌↔◌, inl, inr, ℕ, suc, ◌+◌, List, [], ◌∷◌, ◌++◌, length, refl, sym, ap, ◌∙◌, subst, arith, Option, Some, None, length-append, Contains, get_or, ◌<◌}
use Rattle.std.specs.BTreeMap.{Updates}
use Rattle.std.specs.Ordering.{nat_cmp}
use Rattle.std.proofs.Math.ListN.{get_or-append}
use Rattle.std.proofs.lemmas.List.{append_assoc}
use Rattle.std.proofs.lemmas.List.Elements.{Contains-append_left, Contains-push, Contains-push_cases}
use Rattle.mls_automaton.specs.declared.automaton.Flow.{Flow}
use Rattle.mls_automaton.specs.declared.automaton.Polarity.{Polarity}
use Rattle.mls_automaton.specs.declared.automaton.Polarity.TheVariants.{Positive}
use Rattle.mls_automaton.specs.declared.automaton.Head.{Head}
use Rattle.mls_automaton.specs.declared.automaton.State.{State}
use Rattle.mls_automaton.specs.Automata.{Automaton, empty_head, flow, with_state, HasFlow, IsState}
use Rattle.mls_solver.specs.declared.goal.Goal.{Goal}
use Rattle.mls_parts.specs.declared.pose.Need.{Need}
use Rattle.mls_parts.specs.declared.pose.Posing.{Posing}
use Rattle.mls_parts.specs.Posings.{Adds, IsNoted, NoEdge, OneEdge, bool_head, choice_goals, goal, joined_choice_added, literal_added, negative, number_at, positive, root_in, size}
use Rattle.mls_parts.specs.steps.Results.{AddsEdges, HasResult}

abbrev pub no_needs : List Need
no_needs = []

pub nil_behind : {X : Type 0} (xs : List X) → xs ++ [] ≡ xs
nil_behind [] = refl
nil_behind (x ∷ xs) = ap (λ ys. x ∷ ys) (nil_behind xs)

pub result_made : (p : Posing) (b d e : Automaton) (h k : Head) (root into : ℕ) → h ≡ empty_head → k ≡ empty_head
    → b ≡ with_state p.automaton (positive h) → d ≡ with_state b (negative k) → root ≡ length p.automaton.states → into ≡ length b.states
    → e.states ≡ d.states → ((n s : ℕ) → HasFlow e n s ↔ (HasFlow d n s ⊎ ((n ≡ into) × (s ≡ root))))
    → HasResult p (record p { automaton = e })
result_made p b d e h k root into is_h is_k is_b is_d is_root is_into same flows =
    let states_b : b.states ≡ p.automaton.states ++ positive empty_head ∷ [] = ap (λ (a : Automaton). a.states) is_b ∙ ap (λ (x : Head). p.automaton.states ++ positive x ∷ []) is_h in
    let states_d : d.states ≡ b.states ++ negative empty_head ∷ [] = ap (λ (a : Automaton). a.states) is_d ∙ ap (λ (x : Head). b.states ++ negative x ∷ []) is_k in
    let flows_d : d.flows ≡ p.automaton.flows = ap (λ (a : Automaton). a.flows) is_d ∙ ap (λ (a : Automaton). a.flows) is_b in
    let many : length b.states ≡ length p.automaton.states + 1 = ap length states_b ∙ length-append p.automaton.states (positive empty_head ∷ []) in
    let into_is : into ≡ suc (size p) = let at : into ≡ length b.states = is_into in omega (arith, at, many) in
    record {
      states =
          same
          ∙ (states_d
          ∙ (ap (λ (xs : List State). xs ++ negative empty_head ∷ []) states_b
          ∙ append_assoc p.automaton.states (positive empty_head ∷ []) (negative empty_head ∷ [])));
      flows = λ n s.
          let first = subst (λ w. (HasFlow e n s ↔ (HasFlow d n s ⊎ ((n ≡ w) × (s ≡ root))))) into_is (flows n s) in
          let it = subst (λ w. (HasFlow e n s ↔ (HasFlow d n s ⊎ ((n ≡ suc (size p)) × (s ≡ w))))) is_root first in
          let P : List Flow → Type 0 = λ (fs : List Flow). (HasFlow e n s ↔ (HasFlow (record { states = d.states; flows = fs }) n s ⊎ OneEdge (suc (size p)) (size p) n s)) in
          subst P flows_d it;
      goals = refl;
      needs = refl;
      roots = refl;
      binders = refl;
      copies = refl;
      results = refl;
    }

pub result_added : (p m q : Posing) (i root : ℕ) (b : Automaton) (h k : Head) (goals : List Goal) (result : Option ℕ) → HasResult p m → root ≡ size p
    → b ≡ with_state m.automaton (negative h) → h ≡ k → q.automaton ≡ b → q.goals ≡ m.goals ++ goals → q.needs ≡ m.needs
    → Updates nat_cmp m.roots q.roots i (Some root) → q.binders ≡ m.binders → q.copies ≡ m.copies → IsNoted m.results q.results i result
    → Adds p q i (record { states = positive empty_head ∷ negative empty_head ∷ negative k ∷ []; goals = goals; needs = no_needs; root = size p; copy = None; result = result }) (OneEdge (suc (size p)) (size p))
result_added p m q i root b h k goals result it is_root is_b is_h is_q goals_are needs_are updates binders_are copies_are noted =
    let q_is : q.automaton ≡ with_state m.automaton (negative k) = is_q ∙ (is_b ∙ ap (λ (x : Head). with_state m.automaton (negative x)) is_h) in
    record {
      states =
          ap (λ (a : Automaton). a.states) q_is
          ∙ (ap (λ (xs : List State). xs ++ negative k ∷ []) it.states
          ∙ append_assoc p.automaton.states (positive empty_head ∷ negative empty_head ∷ []) (negative k ∷ []));
      flows = λ n s.
          subst (λ (a : Automaton). (HasFlow a n s ↔ (HasFlow p.automaton n s ⊎ OneEdge (suc (size p)) (size p) n s))) (sym q_is) (it.flows n s);
      goals = goals_are ∙ ap (λ (gs : List Goal). gs ++ goals) it.goals;
      needs = needs_are ∙ (it.needs ∙ sym (nil_behind p.needs));
      roots = subst (λ rs. Updates nat_cmp rs q.roots i (Some (size p))) it.roots (subst (λ r. Updates nat_cmp m.roots q.roots i (Some r)) is_root updates);
      binders = binders_are ∙ it.binders;
      copies = copies_are ∙ it.copies;
      results = subst (λ rs. IsNoted rs q.results i result) it.results noted;
    }

pub bound_added : (p q : Posing) (i state root : ℕ) (b : Automaton) (h : Head) → b ≡ with_state p.automaton (positive h) → h ≡ empty_head → root ≡ size p
    → q.automaton.states ≡ b.states → ((n s : ℕ) → HasFlow q.automaton n s ↔ (HasFlow b n s ⊎ ((n ≡ state) × (s ≡ root))))
    → q.goals ≡ p.goals → q.needs ≡ p.needs → Updates nat_cmp p.roots q.roots i (Some root) → q.binders ≡ p.binders → q.copies ≡ p.copies → q.results ≡ p.results
    → Adds p q i (literal_added (size p) empty_head) (OneEdge state (size p))
bound_added p q i state root b h is_b is_h is_root same flows goals_are needs_are updates binders_are copies_are results_are =
    let states_b : b.states ≡ p.automaton.states ++ positive empty_head ∷ [] = ap (λ (a : Automaton). a.states) is_b ∙ ap (λ (x : Head). p.automaton.states ++ positive x ∷ []) is_h in
    let flows_b : b.flows ≡ p.automaton.flows = ap (λ (a : Automaton). a.flows) is_b in
    record {
      states = same ∙ states_b;
      flows = λ n s.
          let P : List Flow → Type 0 = λ fs. (HasFlow q.automaton n s ↔ (HasFlow (record { states = b.states; flows = fs }) n s ⊎ OneEdge state (size p) n s)) in
          subst P flows_b (subst (λ w. (HasFlow q.automaton n s ↔ (HasFlow b n s ⊎ ((n ≡ state) × (s ≡ w))))) is_root (flows n s));
      goals = goals_are ∙ sym (nil_behind p.goals);
      needs = needs_are ∙ sym (nil_behind p.needs);
      roots = subst (λ r. Updates nat_cmp p.roots q.roots i (Some r)) is_root updates;
      binders = binders_are;
      copies = copies_are;
      results = results_are;
    }

-- behind such states stand as many as before, and two
pub result_size : (p m : Posing) → HasResult p m → size m ≡ suc (suc (size p))
result_size p m it =
    let many : length m.automaton.states ≡ length p.automaton.states + 2 = ap length it.states ∙ length-append p.automaton.states (positive empty_head ∷ negative empty_head ∷ []) in
    omega (arith, many)

-- the roots of nodes are those before
pub result_root : (p m : Posing) (i : ℕ) → HasResult p m → root_in m i ≡ root_in p i
result_root p m i it = ap (λ rs. number_at rs i) it.roots

-- the goals of a conditional, one after another
pub three_goals : (p m n q : Posing) (condition first second bit into c f s : ℕ)
    → c ≡ root_in p condition → m ≡ record p { goals = p.goals ++ goal c bit ∷ [] }
    → f ≡ root_in m first → n ≡ record m { goals = m.goals ++ goal f into ∷ [] }
    → s ≡ root_in n second → q ≡ record n { goals = n.goals ++ goal s into ∷ [] }
    → q ≡ record p { goals = p.goals ++ choice_goals (root_in p condition) (root_in p first) (root_in p second) bit into }
three_goals p m n q condition first second bit into c f s is_c is_m is_f is_n is_s is_q =
    let roots_m = ap (λ (x : Posing). x.roots) is_m in
    let roots_n = ap (λ (x : Posing). x.roots) is_n ∙ roots_m in
    let at_f : f ≡ root_in p first = is_f ∙ ap (λ rs. number_at rs first) roots_m in
    let at_s : s ≡ root_in p second = is_s ∙ ap (λ rs. number_at rs second) roots_n in
    let goals_m : m.goals ≡ p.goals ++ goal (root_in p condition) bit ∷ [] = ap (λ (x : Posing). x.goals) is_m ∙ ap (λ r. p.goals ++ goal r bit ∷ []) is_c in
    let goals_n : n.goals ≡ m.goals ++ goal (root_in p first) into ∷ [] = ap (λ (x : Posing). x.goals) is_n ∙ ap (λ r. m.goals ++ goal r into ∷ []) at_f in
    let goals_q : n.goals ++ goal s into ∷ [] ≡ n.goals ++ goal (root_in p second) into ∷ [] = ap (λ r. n.goals ++ goal r into ∷ []) at_s in
    let one : List Goal = goal (root_in p condition) bit ∷ [] in
    let two : List Goal = goal (root_in p first) into ∷ [] in
    let three : List Goal = goal (root_in p second) into ∷ [] in
    let all : n.goals ++ goal s into ∷ [] ≡ p.goals ++ choice_goals (root_in p condition) (root_in p first) (root_in p second) bit into =
    goals_q ∙ (ap (λ (gs : List Goal). gs ++ three) (goals_n ∙ ap (λ (gs : List Goal). gs ++ two) goals_m)
    ∙ (ap (λ (gs : List Goal). gs ++ three) (append_assoc p.goals one two) ∙ append_assoc p.goals (one ++ two) three)) in
    let same : record n { goals = n.goals ++ goal s into ∷ [] } ≡ record p { goals = n.goals ++ goal s into ∷ [] } =
    ap (λ (x : Posing). record x { goals = n.goals ++ goal s into ∷ [] }) is_n ∙ ap (λ (x : Posing). record x { goals = n.goals ++ goal s into ∷ [] }) is_m in
    is_q ∙ (same ∙ ap (λ (gs : List Goal). record p { goals = gs }) all)

-- a conditional that shares the states of another one
pub joined_choice : (p m q : Posing) (i condition first second bit root into : ℕ) (a : Automaton) (h : Head)
    → a ≡ with_state p.automaton (negative h) → h ≡ bool_head → bit ≡ size p
    → m ≡ record p { automaton = a; goals = p.goals ++ choice_goals (root_in p condition) (root_in p first) (root_in p second) bit into }
    → q.automaton ≡ m.automaton → q.goals ≡ m.goals → q.needs ≡ m.needs → Updates nat_cmp m.roots q.roots i (Some root) → q.binders ≡ m.binders → q.copies ≡ m.copies → Updates nat_cmp m.results q.results i (Some into)
    → Adds p q i (joined_choice_added (size p) (root_in p condition) (root_in p first) (root_in p second) root into) NoEdge
joined_choice p m q i condition first second bit root into a h is_a is_h is_bit is_m automaton goals needs roots binders copies results =
    let a_is : q.automaton ≡ with_state p.automaton (negative bool_head) =
    automaton ∙ (ap (λ (x : Posing). x.automaton) is_m ∙ (is_a ∙ ap (λ (x : Head). with_state p.automaton (negative x)) is_h)) in
    record {
      states = ap (λ (a : Automaton). a.states) a_is;
      flows = λ n s. (
        λ edge. inl (subst (λ (fs : List Flow). Contains fs (flow n s)) (ap (λ (a : Automaton). a.flows) a_is) edge),
        λ edge. elim edge [
          | inl old ↦ subst (λ (fs : List Flow). Contains fs (flow n s)) (sym (ap (λ (a : Automaton). a.flows) a_is)) old
          | inr none ↦ absurd none
        ],
      );
      goals =
          goals ∙ (ap (λ (x : Posing). x.goals) is_m
          ∙ ap (λ b. p.goals ++ choice_goals (root_in p condition) (root_in p first) (root_in p second) b into) is_bit);
      needs = needs ∙ (ap (λ (x : Posing). x.needs) is_m ∙ sym (nil_behind p.needs));
      roots = subst (λ rs. Updates nat_cmp rs q.roots i (Some root)) (ap (λ (x : Posing). x.roots) is_m) roots;
      binders = binders ∙ ap (λ (x : Posing). x.binders) is_m;
      copies = copies ∙ ap (λ (x : Posing). x.copies) is_m;
      results = subst (λ rs. Updates nat_cmp rs q.results i (Some into)) (ap (λ (x : Posing). x.results) is_m) results;
    }

-- edges that are added one after another
pub no_edges : (p : Posing) (IsEdge : ℕ → ℕ → Type 0) → ((n s : ℕ) → IsEdge n s → ⊥) → AddsEdges p p IsEdge
no_edges p IsEdge none = record {
  states = refl;
  flows = λ n s. (λ it. inl it, λ it. elim it [ inl old ↦ old | inr new ↦ absurd (none n s new) ]);
  goals = refl;
  needs = refl;
  roots = refl;
  binders = refl;
  copies = refl;
  results = refl;
}

pub edge_more : (p m : Posing) (a : Automaton) (from to : ℕ) (IsEdge IsLater : ℕ → ℕ → Type 0) → AddsEdges p m IsEdge → a.states ≡ m.automaton.states
    → ((n s : ℕ) → HasFlow a n s ↔ (HasFlow m.automaton n s ⊎ ((n ≡ from) × (s ≡ to))))
    → ((n s : ℕ) → IsLater n s ↔ (IsEdge n s ⊎ ((n ≡ from) × (s ≡ to))))
    → AddsEdges p (record m { automaton = a }) IsLater
edge_more p m a from to IsEdge IsLater it same flows later = record {
  states = same ∙ it.states;
  flows = λ n s. (
    λ edge. elim ((flows n s).0 edge) [
      | inl old ↦ elim ((it.flows n s).0 old) [
        | inl first ↦ inl first
        | inr some ↦ inr ((later n s).1 (inl some))
      ]
      | inr new ↦ inr ((later n s).1 (inr new))
    ],
    λ edge. elim edge [
      | inl old ↦ (flows n s).1 (inl ((it.flows n s).1 (inl old)))
      | inr some ↦ elim ((later n s).0 some) [
        | inl earlier ↦ (flows n s).1 (inl ((it.flows n s).1 (inr earlier)))
        | inr new ↦ (flows n s).1 (inr new)
      ]
    ],
  );
  goals = it.goals;
  needs = it.needs;
  roots = it.roots;
  binders = it.binders;
  copies = it.copies;
  results = it.results;
}

-- edges from one state to states of which there is one more
pub one_end_more : (from first to : ℕ) (ends : List ℕ) (end : ℕ) → to ≡ first + end → (n s : ℕ)
    → ((n ≡ from) × (k : ℕ) × Contains (ends ++ end ∷ []) k × (s ≡ first + k)) ↔ (((n ≡ from) × (k : ℕ) × Contains ends k × (s ≡ first + k)) ⊎ ((n ≡ from) × (s ≡ to)))
one_end_more from first to ends end is n s = (
  λ it. elim (Contains-push_cases ends end it.1 it.2) [
    | inl old ↦ inl (it.0, it.1, old, it.3)
    | inr new ↦ inr (it.0, it.3 ∙ (ap (λ k. first + k) (sym new) ∙ sym is))
  ],
  λ it. elim it [
    | inl old ↦ (old.0, old.1, Contains-append_left ends (end ∷ []) old.1 old.2, old.3)
    | inr new ↦ (new.0, end, Contains-push ends end, new.1 ∙ is)
  ],
)

-- a state is there where the states are the same
pub state_there : (a b : Automaton) (p : Polarity) (s : ℕ) → b.states ≡ a.states → IsState a p s → IsState b p s
state_there a b p s same it = record {
  in_range = subst (λ (xs : List State). s < length xs) (sym same) it.in_range;
  polarity = subst (λ (xs : List State). (get_or xs s (record { polarity = Positive; head = empty_head })).polarity ≡ p) (sym same) it.polarity;
}

-- and where there are more of them behind
pub longer : (a b : Automaton) (more : List State) (p : Polarity) (s : ℕ) → b.states ≡ a.states ++ more → IsState a p s → IsState b p s
longer a b more p s same it = record {
  in_range =
      let many : length b.states ≡ length a.states + length more = ap length same ∙ length-append a.states more in
      let low : s < length a.states = it.in_range in
      omega arith;
  polarity =
      subst (λ (xs : List State). (get_or xs s (record { polarity = Positive; head = empty_head })).polarity ≡ p) (sym same)
      (ap (λ (x : State). x.polarity) (get_or-append a.states more (record { polarity = Positive; head = empty_head }) s it.in_range) ∙ it.polarity);
}
