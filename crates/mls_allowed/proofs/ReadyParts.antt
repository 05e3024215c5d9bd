-- A part of a term is ready for its lines: its nodes are posed over the binders around it that it names, its constraint
-- is solved, and the pairs of states that are met are a walk to each type that the solved constraint subsumes and that
-- has a state for each of these binders.
--     tree_at_numbers         a numbered tree stands at its root
--     state_there, state_back the states of the binders around a part
--     last_node               the root of a part is the last of its nodes
--     written_node            a node of a part is one of the expression at its root
--     part_tree               the tree of a part is posed
--     part_ready
use Rattle.std.proofs.Common.{◌≡◌, ◌≢◌, ◌⊎◌, inl, inr, ℕ, suc, ◌+◌, ◌<◌, ◌≤◌, ◌==◌, true, false, arith, List, [], ◌∷◌, ◌++◌, refl, sym, ap, ◌∙◌, subst, Contains, Option, Some, None}
use Rattle.std.specs.Prelude.{IsSome, cond, find, option_map}
use Rattle.std.specs.BTreeMap.{BTreeMap}
use Rattle.std.proofs.lemmas.Bool.Decides.{eqb_tells}
use Rattle.mls_automaton.specs.declared.automaton.Polarity.{Polarity}
use Rattle.mls_automaton.specs.declared.automaton.Polarity.TheVariants.{Negative, Positive}
use Rattle.mls_automaton.specs.declared.scheme.EnvEntry.{EnvEntry}
use Rattle.mls_automaton.specs.declared.scheme.Scheme.{Scheme}
use Rattle.mls_automaton.specs.Automata.{Automaton, polarity_at, IsState}
use Rattle.mls_automaton.specs.Models.{IsClosed, IsDeterministic}
use Rattle.mls_automaton.specs.Schemes.{state_of, IsScheme}
use Rattle.mls_automaton.specs.Sets.{Rises}
use Rattle.mls_solver.specs.Clashes.{HasNoClash}
use Rattle.mls_solver.specs.Relations.{IsGoal, IsRelated, goal}
use Rattle.mls_solver.specs.Solved.{IsNewFlow, IsSolved, ReachesBy}
use Rattle.mls_solver.proofs.Taking.{related-through}
use Rattle.mls_infer.proofs.Solvable.{goal_in as goal_from, pair_in}
use Rattle.mls_subsume.specs.declared.verdict.StatePair.{StatePair}
use Rattle.mls_subsume.specs.Verdicts.{DoesSubsume}
use Rattle.mls_subsume.specs.Walks.{IsIn}
use Rattle.mls_term.specs.declared.term.TermForm.{TermForm}
use Rattle.mls_term.specs.declared.term.TermForm.TheVariants as form
use Rattle.mls_term.specs.declared.term.TermNode.{TermNode}
use Rattle.mls_term.specs.Terms.{TermTree, TermFields, bound, inner, global, number, truth, fun, apply, make, project, choice, local, fix, no_field, a_field, before, field_roots}
use Rattle.mls_typing.proofs.Lists.{Contains-here, Contains-later, Contains-cases, nothing_in}
use Rattle.mls_deriv.specs.Steps.{form_at}
use Rattle.mls_deriv.proofs.TermNodes.{IsTreeAt, AreTreesAt}
use Rattle.mls_layout.specs.Parts.{Constraint, IsGoalOf, IsRelatedIn, IsSolvedTo}
use Rattle.mls_layout.specs.Posed.{IsPosed}
use Rattle.mls_layout.specs.PosedNodes.{IsNodePosed}
use Rattle.mls_layout.specs.Walks.{AreAlike, AreMet, end}
use Rattle.mls_parts.specs.declared.binders.PartBinders.{PartBinders}
use Rattle.mls_parts.specs.declared.pose.Posing.{Posing}
use Rattle.mls_parts.specs.declared.split.TermPart.{TermPart}
use Rattle.mls_parts.specs.MetCopies.{IsUseMet}
use Rattle.mls_parts.specs.NodeTypes.{IsNodeOf, IsOwnPart, at_top, in_part}
use Rattle.mls_parts.specs.NumberedNodes.{behind, IsNumbered, AreNumbered}
use Rattle.mls_parts.specs.PartBinders.{ArePartBinders, NeedsBinder}
use Rattle.mls_parts.specs.PosedGoals.{constraint_of}
use Rattle.mls_parts.specs.PosedParts.{IsPartPosed}
use Rattle.mls_parts.specs.Posings.{binder_in, known_in, or_zero, root_in}
use Rattle.mls_parts.specs.SolvedTypes.{entries_of, solved_scheme}
use Rattle.mls_parts.specs.TermParts.{IsTermPart}
use Rattle.mls_parts.specs.TreeNodes.{AreTreeNodes}
use Rattle.mls_parts.proofs.Owners.{node_low}
use Rattle.mls_parts.proofs.SplitParts.{own_parts_in}
use Rattle.mls_allowed.specs.MadeFirsts.{around_states}
use Rattle.mls_allowed.specs.ReadyParts.{needed_by, IsPartReady, IsUseAround}
use Rattle.mls_lines.specs.Writings as writings
use Rattle.mls_allowed.proofs.AroundParts.{closed_part, rises_around}
use Rattle.mls_allowed.proofs.FirstScopes.{IsAround}
use Rattle.mls_allowed.proofs.PosedTrees.{posed_tree}
use Rattle.mls_allowed.proofs.SubsumedWalks.{subsumed_walk}

-- a numbered tree stands at its root
module _ (nodes : List TermNode) where
  mutual
    unfolding field_roots

    pub tree_at_numbers : (t : TermTree) (n : ℕ) → IsNumbered nodes n t → IsTreeAt nodes (n + before t) t
    tree_at_numbers (bound at x) n it = it
    tree_at_numbers (inner at k) n it = it
    tree_at_numbers (global at g) n it = it
    tree_at_numbers (number at value) n it = it
    tree_at_numbers (truth at value) n it = it
    tree_at_numbers (fun at x e) n it = (n + before e, it.0, tree_at_numbers e n it.1)
    tree_at_numbers (fix at x e) n it = (n + before e, it.0, tree_at_numbers e n it.1)
    tree_at_numbers (project at e label) n it = (n + before e, it.0, tree_at_numbers e n it.1)
    tree_at_numbers (apply at e f) n it = (n + before e, behind n e + before f, it.0, tree_at_numbers e n it.1, tree_at_numbers f (behind n e) it.2)
    tree_at_numbers (local at k e f) n it = (n + before e, behind n e + before f, it.0, tree_at_numbers e n it.1, tree_at_numbers f (behind n e) it.2)
    tree_at_numbers (choice at c e f) n it =
        (n + before c, behind n c + before e, behind (behind n c) e + before f, it.0, tree_at_numbers c n it.1, tree_at_numbers e (behind n c) it.2, tree_at_numbers f (behind (behind n c) e) it.3)
    tree_at_numbers (make at fields) n it = (field_roots n fields, it.0, trees_at_numbers fields n it.1)

    trees_at_numbers : (fields : TermFields) (n : ℕ) → AreNumbered nodes n fields → AreTreesAt nodes (field_roots n fields) fields
    trees_at_numbers no_field n it = refl
    trees_at_numbers (a_field label e rest) n it = (n + before e, field_roots (behind n e) rest, refl, tree_at_numbers e n it.0, trees_at_numbers rest (behind n e) it.1)

-- what a node asks of goals, it asks of more goals
node_goals : (a : Automaton) (First Second : ℕ → ℕ → Type 0) (root binder : ℕ → ℕ) (IsUse : ℕ → TermForm → Type 0) → ((p n : ℕ) → First p n → Second p n) → (i : ℕ) (f : TermForm) → IsNodePosed a First root binder IsUse i f → IsNodePosed a Second root binder IsUse i f
node_goals a First Second root binder IsUse more i (form.Bound x) it = it
node_goals a First Second root binder IsUse more i (form.Inner k) it = it
node_goals a First Second root binder IsUse more i (form.Global g) it = it
node_goals a First Second root binder IsUse more i (form.Number value) it = it
node_goals a First Second root binder IsUse more i (form.Truth value) it = it
node_goals a First Second root binder IsUse more i (form.Fun x j) it = it
node_goals a First Second root binder IsUse more i (form.Apply j k) it = (it.0, it.1, it.2, more (root j) it.0 it.3, it.4)
node_goals a First Second root binder IsUse more i (form.Make parts) it = it
node_goals a First Second root binder IsUse more i (form.Project j label) it = (it.0, it.1, it.2, more (root j) it.0 it.3, it.4)
node_goals a First Second root binder IsUse more i (form.If j k l) it = (it.0, it.1, it.2, more (root j) it.0 it.3, more (root k) it.1 it.4, more (root l) it.1 it.5, it.6)
node_goals a First Second root binder IsUse more i (form.Let k j l) it = it
node_goals a First Second root binder IsUse more i (form.Rec x j) it = (it.0, more (root j) (binder x) it.1)

-- an automaton that is solved by a relation is solved by each one with the same pairs
module _ (a : Automaton) (First Second : ℕ → ℕ → Type 0) (to : (p n : ℕ) → First p n → Second p n) (from : (p n : ℕ) → Second p n → First p n) (solved : Automaton) (it : IsSolved a First solved) where
  reaches_by : (P Q : ℕ → ℕ → Type 0) → ((p n : ℕ) → P p n → Q p n) → (q : Polarity) (s j : ℕ) → ReachesBy a P q s j → ReachesBy a Q q s j
  reaches_by P Q more Positive s j (n, related, edge) = (n, more j n related, edge)
  reaches_by P Q more Negative s j (p, edge, related) = (p, edge, more p j related)

  new_flow : (P Q : ℕ → ℕ → Type 0) → ((p n : ℕ) → P p n → Q p n) → (n q : ℕ) → IsNewFlow a P n q → IsNewFlow a Q n q
  new_flow P Q more n q (p, m, first, related, second) = (p, m, first, more p m related, second)

  solved_by : IsSolved a Second solved
  solved_by = record {
    same_length = it.same_length;
    polarity = it.polarity;
    flows = λ n q edge. elim (it.flows n q edge) [ inl old ↦ inl old | inr new ↦ inr (new_flow First Second to n q new) ];
    old_flows = it.old_flows;
    new_flows = λ n q new. it.new_flows n q (new_flow Second First from n q new);
    members = it.members;
    self = it.self;
    reached = λ s j there. elim (it.reached s j there) [ inl same ↦ inl same | inr reaches ↦ inr (reaches_by First Second to (polarity_at a s) s j reaches) ];
    reaching = λ s j reaches. it.reaching s j (reaches_by Second First from (polarity_at a s) s j reaches);
    heads = it.heads;
  }

-- the closed relation of the goals is that of the goals as pairs
module _ (p : Posing) where
  pub to_related : (q m : ℕ) → IsRelated p.automaton (IsGoal p.goals) q m → IsRelatedIn (constraint_of p) q m
  to_related q m is = related-through p.automaton (IsGoal p.goals) (IsGoalOf (constraint_of p)) (λ q' m' g. goal (pair_in p.goals q' m' g)) q m is

  pub from_related : (q m : ℕ) → IsRelatedIn (constraint_of p) q m → IsRelated p.automaton (IsGoal p.goals) q m
  from_related q m is = related-through p.automaton (IsGoalOf (constraint_of p)) (IsGoal p.goals) (λ q' m' g. goal (goal_from p.goals q' m' g)) q m is

-- binders with their states
module _ (p : Posing) where
  abbrev env_at : List ℕ → List EnvEntry
  env_at xs = entries_of (around_states p xs)

  pub state_there : (xs : List ℕ) (x : ℕ) → Contains xs x → state_of (env_at xs) x ≡ Some (binder_in p x)
  state_there [] x there = absurd (nothing_in x there)
  state_there (y ∷ rest) x there = go (eqb_tells y x) (Contains-cases y rest x there) (state_there rest x)
    where
      go : (((y == x) ≡ true) × (y ≡ x)) ⊎ (((y == x) ≡ false) × (y ≢ x)) → (y ≡ x) ⊎ Contains rest x → (Contains rest x → state_of (env_at rest) x ≡ Some (binder_in p x)) → state_of (env_at (y ∷ rest)) x ≡ Some (binder_in p x)
      go (inl same) cases next =
          ap (λ b. option_map (λ (e : EnvEntry). e.state.0) (cond b (Some (record { binder = y; state = record { 0 = binder_in p y } })) (find (λ (e : EnvEntry). e.binder == x) (env_at rest)))) same.0
          ∙ ap (λ z. Some (binder_in p z)) same.1
      go (inr unlike) (inl same) next = absurd (unlike.1 same)
      go (inr unlike) (inr later) next =
          ap (λ b. option_map (λ (e : EnvEntry). e.state.0) (cond b (Some (record { binder = y; state = record { 0 = binder_in p y } })) (find (λ (e : EnvEntry). e.binder == x) (env_at rest)))) unlike.0
          ∙ next later

  pub state_back : (xs : List ℕ) (x s : ℕ) → state_of (env_at xs) x ≡ Some s → Contains xs x × (s ≡ binder_in p x)
  state_back [] x s e = absurd (cc)
  state_back (y ∷ rest) x s e = go (eqb_tells y x) e (state_back rest x s)
    where
      entry : EnvEntry
      entry = record { binder = y; state = record { 0 = binder_in p y } }

      go : (((y == x) ≡ true) × (y ≡ x)) ⊎ (((y == x) ≡ false) × (y ≢ x)) → option_map (λ (e : EnvEntry). e.state.0) (cond (y == x) (Some (record { binder = y; state = record { 0 = binder_in p y } })) (find (λ (e : EnvEntry). e.binder == x) (env_at rest))) ≡ Some s
          → (state_of (env_at rest) x ≡ Some s → Contains rest x × (s ≡ binder_in p x)) → Contains (y ∷ rest) x × (s ≡ binder_in p x)
      go (inl same) e next =
          let is : (y == x) ≡ true = same.0 in
          let state : binder_in p y ≡ s = cc in
          (subst (Contains (y ∷ rest)) same.1 (Contains-here y rest), sym state ∙ ap (binder_in p) same.1)
      go (inr unlike) e next =
          let other : (y == x) ≡ false = unlike.0 in
          let later : state_of (env_at rest) x ≡ Some s = ap (λ b. option_map (λ (e : EnvEntry). e.state.0) (cond b (Some (record { binder = y; state = record { 0 = binder_in p y } })) (find (λ (e : EnvEntry). e.binder == x) (env_at rest)))) (sym other) ∙ e in
          let it = next later in
          (Contains-later y rest x it.0, it.1)

-- the highest number of a list that rises is its last
pub last_of : (xs : List ℕ) (r : ℕ) → Rises xs → Contains xs r → ((j : ℕ) → Contains xs j → j ≤ r) → (earlier : List ℕ) × (xs ≡ earlier ++ r ∷ [])
last_of [] r rises there low = absurd (nothing_in r there)
last_of (x ∷ []) r rises there low = elim (Contains-cases x [] r there) [ inl same ↦ ([], ap (λ y. y ∷ []) same) | inr later ↦ absurd (nothing_in r later) ]
last_of (x ∷ y ∷ rest) r rises there low =
    let less : x < y = rises 0 1 (omega arith) (omega arith) in
    let high : y ≤ r = low y (Contains-later x (y ∷ rest) y (Contains-here y rest)) in
    let inside : Contains (y ∷ rest) r = elim (Contains-cases x (y ∷ rest) r there) [ inl same ↦ absurd (omega (arith, same, less, high)) | inr later ↦ later ] in
    let it = last_of (y ∷ rest) r (λ i j before inside. rises (suc i) (suc j) (omega (arith, before)) (omega (arith, inside))) inside (λ j at. low j (Contains-later x (y ∷ rest) j at)) in
    (x ∷ it.0, ap (λ zs. x ∷ zs) it.1)

-- a node of a part is in the expression at its root
module _ (nodes : List TermNode) where
  own_part : (f : TermForm) (m : ℕ) → IsOwnPart f m → writings.IsPartOf f m
  own_part (form.Bound x) m own = absurd own
  own_part (form.Inner k) m own = absurd own
  own_part (form.Global g) m own = absurd own
  own_part (form.Number value) m own = absurd own
  own_part (form.Truth value) m own = absurd own
  own_part (form.Fun x j) m own = sym own
  own_part (form.Apply j k) m own = elim own [ inl same ↦ inl (sym same) | inr same ↦ inr (sym same) ]
  own_part (form.Make parts) m own = (own.0, own.1, sym own.2)
  own_part (form.Project j label) m own = sym own
  own_part (form.If j k l) m own = elim own [ inl same ↦ inl (sym same) | inr rest ↦ elim rest [ inl same ↦ inr (inl (sym same)) | inr same ↦ inr (inr (sym same)) ] ]
  own_part (form.Let k j l) m own = sym own
  own_part (form.Rec x j) m own = sym own

  further : (i j m : ℕ) (f : TermForm) → writings.IsNodeOf nodes i j → form_at nodes j ≡ Some f → IsOwnPart f m → writings.IsNodeOf nodes i m
  further i j m f writings.itself e own = writings.within m f e (own_part f m own) writings.itself
  further i j m f (writings.within k g e' part inside) e own = writings.within k g e' part (further k j m f inside e own)

  pub written_node : (r m : ℕ) → IsNodeOf nodes r m → writings.IsNodeOf nodes r m
  written_node r m (at_top same) = let W : ℕ → Type 0 = λ k. writings.IsNodeOf nodes r k in subst W (sym same) writings.itself
  written_node r m (in_part i f outer e own) = further r i m f (written_node r i outer) e own

-- The part of a term with a constraint that is posed.
module _ (nodes : List TermNode) (globals lets : BTreeMap ℕ Scheme) (let_scope : ℕ → List ℕ) (count : ℕ) (needs : (k x : ℕ) → NeedsBinder (known_in lets k) x → Contains (let_scope k) x) (part : TermPart) (binders : PartBinders) (are : ArePartBinders nodes lets part.nodes binders)
    (n : ℕ) (t : TermTree) (numbers : IsNumbered nodes n t) (is_part : IsTermPart nodes (n + before t) part) (around : IsAround nodes let_scope count n t) (p : Posing) (posed : IsPartPosed nodes globals lets binders.all part.nodes p) where
  abbrev c : Constraint
  c = constraint_of p

  abbrev Posed : ℕ → ℕ → Type 0
  Posed = IsRelated p.automaton (IsGoal p.goals)

  goal_of : (q m : ℕ) → IsGoal p.goals q m → IsGoalOf c q m
  goal_of q m is = pair_in p.goals q m is

  goal_in : (q m : ℕ) → IsGoalOf c q m → IsGoal p.goals q m
  goal_in q m is = goal_from p.goals q m is

  top_in : Contains part.nodes (n + before t)
  top_in = is_part.all (n + before t) (at_top refl)

  -- the tree of the part is posed
  pub part_tree : IsPosed nodes p.automaton (IsGoalOf c) (root_in p) (binder_in p) (IsUseAround nodes globals lets p part.nodes) binders.around (n + before t) t
  part_tree =
      posed_tree nodes p.automaton (IsGoalOf c) (root_in p) (binder_in p) (IsUseMet (known_in globals) (known_in lets) p.automaton (root_in p) (binder_in p) p.copies) (Contains part.nodes) (needed_by lets)
      (IsUseAround nodes globals lets p part.nodes) (λ scope i f there e usable it. (there, f, e, usable, it))
      (λ i f there e. own_parts_in (Contains part.nodes) f (λ j own. closed_part nodes lets let_scope count needs part binders are n t numbers is_part around i j f there e own))
      (λ i f there e. node_goals p.automaton (IsGoal p.goals) (IsGoalOf c) (root_in p) (binder_in p) (IsUseMet (known_in globals) (known_in lets) p.automaton (root_in p) (binder_in p) p.copies) goal_of i f (posed.posed i f there e))
      binders.around t (n + before t) (tree_at_numbers nodes t n numbers) top_in
      (rises_around nodes lets let_scope count needs part binders are n t numbers is_part around)

  -- a binder around the part has a state of the constraint
  binder_state : (x : ℕ) → Contains binders.around x → IsState p.automaton Negative (binder_in p x)
  binder_state x there = posed.around x ((are.all x).1 (inl ((are.around x).0 there).0))

  module _ (solved : Automaton) (is_solved : IsSolved p.automaton (IsRelated p.automaton (IsGoal p.goals)) solved) (closed : IsClosed solved) where
    abbrev pub general : Scheme
    general = solved_scheme solved (root_in p (n + before t)) (around_states p binders.around)

    kept_state : (q : Polarity) (s : ℕ) → IsState p.automaton q s → IsState solved q s
    kept_state q s is = record { in_range = subst (λ k. s < k) (sym is_solved.same_length) is.in_range; polarity = is_solved.polarity s ∙ is.polarity }

    pub general_scheme : IsScheme general
    general_scheme = record {
      automaton = closed;
      root = kept_state Positive (root_in p (n + before t)) (posed.roots (n + before t) top_in);
      env = λ x s e. let it = state_back p binders.around x s e in subst (IsState solved Negative) (sym it.1) (kept_state Negative (binder_in p x) (binder_state x it.0));
    }

    module _ (free : HasNoClash p.automaton (IsRelated p.automaton (IsGoal p.goals))) (special : Scheme) (is : IsScheme special) (single : IsDeterministic special.automaton) (own : (x : ℕ) → Contains binders.around x → IsSome (state_of special.env x))
        (does : DoesSubsume (solved_scheme solved (root_in p (n + before t)) (around_states p binders.around)) special) (pairs : List StatePair) (met : AreMet (solved_scheme solved (root_in p (n + before t)) (around_states p binders.around)) special pairs) (tree : AreTreeNodes nodes) where
      solved_to : IsSolvedTo c general special pairs
      solved_to = record {
        closed = posed.closed;
        goals = λ q m is. posed.goals (record { positive = record { 0 = q }; negative = record { 0 = m } }) (goal_in q m is);
        free = λ q m related clash clashes. free q m (from_related p q m related) clash clashes;
        solved = solved_by p.automaton Posed (IsRelatedIn c) (to_related p) (from_related p) solved is_solved;
        closed_type = is.automaton;
        walk = subsumed_walk general special general_scheme is single does pairs met;
        is_positive = (posed.roots (n + before t) top_in).polarity;
      }

      abbrev partner : ℕ → ℕ
      partner x = or_zero (state_of special.env x)

      paired : (x : ℕ) → Contains binders.around x → (o : Option ℕ) → state_of special.env x ≡ o → IsSome o → IsIn pairs (binder_in p x) (or_zero o)
      paired x there None e some = absurd (cc)
      paired x there (Some s) e some =
          let state : IsState p.automaton Negative (binder_in p x) = binder_state x there in
          let other : IsState special.automaton Negative s = is.env x s e in
          let alike : AreAlike solved special.automaton (binder_in p x) s = record {
            general = (kept_state Negative (binder_in p x) state).in_range;
            special = other.in_range;
            polarity = (kept_state Negative (binder_in p x) state).polarity ∙ sym other.polarity;
          } in
          (met (binder_in p x) s).1 (end (inr (x, state_there p binders.around x there, e)) alike)

      partner_at : (x : ℕ) (o : Option ℕ) → state_of special.env x ≡ o → IsSome o → state_of special.env x ≡ Some (or_zero (state_of special.env x))
      partner_at x None e some = absurd (cc)
      partner_at x (Some s) e some = e ∙ ap Some (sym (ap or_zero e))

      last : (earlier : List ℕ) × (part.nodes ≡ earlier ++ (n + before t) ∷ [])
      last = last_of part.nodes (n + before t) is_part.rises top_in (λ j there. node_low nodes tree (n + before t) j is_part.root (is_part.only j there).1)

      pub part_ready : IsPartReady nodes globals lets (n + before t) part.nodes binders p special pairs
      part_ready = record {
        are_binders = are;
        posed = posed;
        general = general;
        solved = solved_to;
        is_root = refl;
        tree = t;
        tree_posed = part_tree;
        partner = partner;
        paired = λ x there. ((binder_state x there).polarity, paired x there (state_of special.env x) refl (own x there));
        partner_is = λ x there. partner_at x (state_of special.env x) refl (own x there);
        earlier = last.0;
        last = last.1;
        nodes_are = λ m there. written_node nodes (n + before t) m (is_part.only m there).1;
      }
