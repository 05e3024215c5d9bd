-- What a node adds is what its form asks for.
--     adds_extends        what was there stays
--     node_posed          and the node is posed
--     node_posed_at       with the states of its goals where its form says
--     node_extends, node_root
--     used_again          a use whose root and copy are those of another use of its name
--     name_posed_at
--     noted_cases         what is noted of nodes
--     noted_again         of one node is noted what is noted of another one
--     node_noted          what is noted of conditionals
use Rattle.std.proofs.Common.{◌≡◌, ◌⊎◌, inl, inr, ℕ, suc, ◌+◌, Bool, true, false, List, [], ◌∷◌, map, length, get_or, Contains, refl, sym, ap, ◌∙◌, subst, arith, Option, Some, None, length-append, IsSome}
use Rattle.std.specs.Prelude.{cond}
use Rattle.std.specs.BTreeMap.{BTreeMap, get, Updates}
use Rattle.std.specs.Ordering.{nat_cmp, is_eq}
use Rattle.std.proofs.Math.ListN.{get_or-append, get_or-map}
use Rattle.std.proofs.lemmas.List.{get_or-append-add, length-map}
use Rattle.std.proofs.lemmas.List.Elements.{Contains-append_left, Contains-append_right}
use Rattle.mls_automaton.specs.declared.automaton.Polarity.TheVariants.{Positive}
use Rattle.mls_automaton.specs.declared.automaton.State.{State}
use Rattle.mls_automaton.specs.declared.scheme.Scheme.{Scheme}
use Rattle.mls_automaton.specs.Automata.{empty_head, state_at, HasFlow}
use Rattle.mls_automaton.specs.Embeddings.{renamed_state}
use Rattle.mls_automaton.specs.Heads.{set_at}
use Rattle.mls_automaton.proofs.Lists.{Contains-here, Contains-map, Contains-map_back}
use Rattle.mls_solver.specs.declared.goal.Goal.{Goal}
use Rattle.mls_solver.specs.Relations.{IsGoal}
use Rattle.mls_term.specs.declared.term.Part.{Part}
use Rattle.mls_term.specs.declared.term.TermForm.{TermForm}
use Rattle.mls_term.specs.declared.term.TermForm.TheVariants as form
use Rattle.mls_infer.proofs.Solvable.{pair_in}
use Rattle.mls_typing.proofs.Contexts.{same_key}
use Rattle.mls_parts.specs.declared.pose.Need.{Need}
use Rattle.mls_parts.specs.declared.pose.Posing.{Posing}
use Rattle.mls_parts.specs.PosedCopies.{Extends, IsCopyAt, IsGood, IsNew, IsUsePosed}
use Rattle.mls_layout.specs.Parts.{IsGoalOf}
use Rattle.mls_layout.specs.PosedNodes.{HasPartsIn, IsNodePosed}
use Rattle.mls_parts.specs.PosedGoals.{constraint_of, IsAppliedAt, IsPosedAt, IsProjectedAt}
use Rattle.mls_parts.specs.steps.Sharing.{HasNoEdges}
use Rattle.mls_parts.specs.Posings.{Added, Adds, AddsNode, IsCopiedEdge, IsNoted, OneEdge, binder_in, copied_need, copy_added, goal, number_at, or_zero, root_in, size}

-- the state past the first ones
abbrev past : State
past = record { polarity = Positive; head = empty_head }

-- what is noted was noted before, or it is noted of this node
pub noted_cases : (before after : BTreeMap ℕ ℕ) (i : ℕ) (result : Option ℕ) → IsNoted before after i result → (k n : ℕ) → get nat_cmp after k ≡ Some n → (get nat_cmp before k ≡ Some n) ⊎ ((k ≡ i) × (result ≡ Some n))
noted_cases before after i None same k n e = inl (ap (λ rs. get nat_cmp rs k) (sym same) ∙ e)
noted_cases before after i (Some m) it k n e = go (is_eq (nat_cmp i k)) refl (it.0 k)
  where
    go : (b : Bool) → is_eq (nat_cmp i k) ≡ b → get nat_cmp after k ≡ cond b (Some m) (get nat_cmp before k) → (get nat_cmp before k ≡ Some n) ⊎ ((k ≡ i) × (Some m ≡ Some n))
    go true same is = inr (sym (same_key i k same), sym is ∙ e)
    go false other is = inl (sym is ∙ e)

-- what was noted of other nodes stays noted
noted_kept : (before after : BTreeMap ℕ ℕ) (i : ℕ) (result : Option ℕ) → IsNoted before after i result → (k n : ℕ) → (i ≡ k → ⊥) → get nat_cmp before k ≡ Some n → get nat_cmp after k ≡ Some n
noted_kept before after i None same k n other e = ap (λ rs. get nat_cmp rs k) same ∙ e
noted_kept before after i (Some m) it k n other e = go (is_eq (nat_cmp i k)) refl (it.0 k)
  where
    go : (b : Bool) → is_eq (nat_cmp i k) ≡ b → get nat_cmp after k ≡ cond b (Some m) (get nat_cmp before k) → get nat_cmp after k ≡ Some n
    go true same is = absurd (other (same_key i k same))
    go false apart is = is ∙ e

-- of one node is noted what is noted of another one
pub noted_again : (before after : BTreeMap ℕ ℕ) (i j : ℕ) → Updates nat_cmp before after i (Some (number_at before j)) → (n : ℕ) → get nat_cmp after j ≡ Some n → get nat_cmp after i ≡ Some n
noted_again before after i j it n e = go (is_eq (nat_cmp i j)) refl (it.0 j)
  where
    go : (b : Bool) → is_eq (nat_cmp i j) ≡ b → get nat_cmp after j ≡ cond b (Some (number_at before j)) (get nat_cmp before j) → get nat_cmp after i ≡ Some n
    go true same is = subst (λ k. get nat_cmp after k ≡ Some n) (sym (same_key i j same)) e
    go false apart is = it.1 ∙ ap (λ o. Some (or_zero o)) (sym is ∙ e)

-- nothing is noted of a node of another form
pub none_noted : (n : ℕ) → None ≡ Some n → ⊥
none_noted n e = cc

module _ (p q : Posing) (i : ℕ) (new : Added) (IsEdge : ℕ → ℕ → Type 0) (it : Adds p q i new IsEdge) where
  -- the state of number k among the new ones
  pub new_state : (k : ℕ) → state_at q.automaton (size p + k) ≡ get_or new.states k past
  new_state k = ap (λ (xs : List State). get_or xs (size p + k) past) it.states ∙ get_or-append-add p.automaton.states new.states k past

  pub root_is : root_in q i ≡ new.root
  root_is = ap or_zero it.roots.1

  -- nodes that had a root keep it
  pub root_kept : IsNew p i → (k s : ℕ) → get nat_cmp p.roots k ≡ Some s → get nat_cmp q.roots k ≡ Some s
  root_kept is_new k s e = go (is_eq (nat_cmp i k)) refl (it.roots.0 k)
    where
      go : (b : Bool) → is_eq (nat_cmp i k) ≡ b → get nat_cmp q.roots k ≡ cond b (Some new.root) (get nat_cmp p.roots k) → get nat_cmp q.roots k ≡ Some s
      go true same is =
          let at : get nat_cmp p.roots i ≡ Some s = subst (λ j. get nat_cmp p.roots j ≡ Some s) (sym (same_key i k same)) e in
          absurd (is_new (subst IsSome (sym at) refl))
      go false other is = is ∙ e

  -- a node that had a root is another one
  other_node : IsNew p i → (k : ℕ) → IsSome (get nat_cmp p.roots k) → i ≡ k → ⊥
  other_node is_new k rooted same = is_new (subst (λ j. IsSome (get nat_cmp p.roots j)) (sym same) rooted)

  pub adds_extends : IsGood p → IsNew p i → Extends p q
  adds_extends good is_new = record {
    more =
        let all : length q.automaton.states ≡ length p.automaton.states + length new.states = ap length it.states ∙ length-append p.automaton.states new.states in
        omega arith;
    states = λ s low. ap (λ (xs : List State). get_or xs s past) it.states ∙ get_or-append p.automaton.states new.states past s low;
    flows = λ n s edge. (it.flows n s).1 (inl edge);
    goals = λ g there. subst (λ (gs : List Goal). Contains gs g) (sym it.goals) (Contains-append_left p.goals new.goals g there);
    roots = root_kept is_new;
    binders = it.binders;
    needs = λ need there. subst (λ (ns : List Need). Contains ns need) (sym it.needs) (Contains-append_left p.needs new.needs need there);
    copies = λ k n e. noted_kept p.copies q.copies i new.copy it.copies k n (other_node is_new k (good.copies k n e)) e;
    results = λ k n e. noted_kept p.results q.results i new.result it.results k n (other_node is_new k (good.results k n e).rooted) e;
  }

  -- the root of a node that had one
  pub same_root : IsNew p i → (k : ℕ) → IsSome (get nat_cmp p.roots k) → root_in q k ≡ root_in p k
  same_root is_new k some = go (get nat_cmp p.roots k) refl some
    where
      go : (o : Option ℕ) → get nat_cmp p.roots k ≡ o → IsSome o → root_in q k ≡ root_in p k
      go None e wrong = absurd (cc)
      go (Some s) e some = ap or_zero (root_kept is_new k s e) ∙ sym (ap or_zero e)

  pub same_binder : (x : ℕ) → binder_in q x ≡ binder_in p x
  same_binder x = ap (λ bs. number_at bs x) it.binders

  pub has_goal : (g : Goal) → Contains new.goals g → Contains q.goals g
  has_goal g there = subst (λ (gs : List Goal). Contains gs g) (sym it.goals) (Contains-append_right p.goals new.goals g there)

-- the copy that a name or a let adds
copy_there : (p q : Posing) (i : ℕ) (s : Scheme) (root : ℕ) → IsGood p → Adds p q i (copy_added (size p) s root) (IsCopiedEdge (size p) (binder_in p) s s.env) → IsCopyAt q s (size p)
copy_there p q i s root good it = record {
  inside =
      let all : length q.automaton.states ≡ length p.automaton.states + length (map (renamed_state (λ j. size p + j)) s.automaton.states) = ap length it.states ∙ length-append p.automaton.states (map (renamed_state (λ j. size p + j)) s.automaton.states) in
      let same : length (map (renamed_state (λ j. size p + j)) s.automaton.states) ≡ length s.automaton.states = length-map s.automaton.states (renamed_state (λ j. size p + j)) in
      omega arith;
  behind = λ x m e. (good.binders x m (ap (λ bs. get nat_cmp bs x) (sym it.binders) ∙ e)).in_range;
  states = λ k low.
      new_state p q i (copy_added (size p) s root) (IsCopiedEdge (size p) (binder_in p) s s.env) it k
      ∙ get_or-map (renamed_state (λ j. size p + j)) s.automaton.states k past;
  flows = λ k l edge. (it.flows (size p + k) (size p + l)).1 (inr (inl (k, l, edge, refl, refl)));
  bound = λ entry l there edge.
      subst (λ n. HasFlow q.automaton n (size p + l)) (sym (ap (λ bs. number_at bs entry.binder) it.binders))
      ((it.flows (binder_in p entry.binder) (size p + l)).1 (inr (inr (entry, there, (refl, l, edge, refl)))));
  needs = λ entry there.
      subst (λ (ns : List Need). Contains ns (copied_need (size p) s entry)) (sym it.needs)
      (Contains-append_right p.needs (map (copied_need (size p) s) s.env) (copied_need (size p) s entry) (Contains-map (copied_need (size p) s) s.env entry there));
}

module _ (known_global known_let : ℕ → Option Scheme) (p q : Posing) (i : ℕ) (good : IsGood p) (is_new : IsNew p i) where
  abbrev HasRoot : ℕ → Type 0
  HasRoot k = IsSome (get nat_cmp p.roots k)

  abbrev Posed : TermForm → Type 0
  Posed f = IsNodePosed q.automaton (IsGoal q.goals) (root_in q) (binder_in q) (IsUsePosed known_global known_let q) i f

  -- the state at the root, where it is the first new one
  root_state : (new : Added) (E : ℕ → ℕ → Type 0) → Adds p q i new E → new.root ≡ size p → state_at q.automaton (root_in q i) ≡ get_or new.states 0 past
  root_state new E it first =
      let at : root_in q i ≡ size p + 0 = let both : root_in q i ≡ size p = root_is p q i new E it ∙ first in omega arith in
      ap (state_at q.automaton) at ∙ new_state p q i new E it 0

  -- the first new state, and the second and the third one
  first_state : (new : Added) (E : ℕ → ℕ → Type 0) → Adds p q i new E → state_at q.automaton (size p) ≡ get_or new.states 0 past
  first_state new E it = let at : size p ≡ size p + 0 = omega arith in ap (state_at q.automaton) at ∙ new_state p q i new E it 0

  second_state : (new : Added) (E : ℕ → ℕ → Type 0) → Adds p q i new E → state_at q.automaton (suc (size p)) ≡ get_or new.states 1 past
  second_state new E it = let at : suc (size p) ≡ size p + 1 = omega arith in ap (state_at q.automaton) at ∙ new_state p q i new E it 1

  third_state : (new : Added) (E : ℕ → ℕ → Type 0) → Adds p q i new E → state_at q.automaton (suc (suc (size p))) ≡ get_or new.states 2 past
  third_state new E it = let at : suc (suc (size p)) ≡ size p + 2 = omega arith in ap (state_at q.automaton) at ∙ new_state p q i new E it 2

  -- the edge into the root
  into_root : (new : Added) (n : ℕ) (it : Adds p q i new (OneEdge n (size p))) → new.root ≡ size p → HasFlow q.automaton n (root_in q i)
  into_root new n it first =
      subst (HasFlow q.automaton n) (sym (root_is p q i new (OneEdge n (size p)) it ∙ first)) ((it.flows n (size p)).1 (inr (refl, refl)))

  -- a goal between what was there and what is new
  goal_there : (new : Added) (E : ℕ → ℕ → Type 0) (it : Adds p q i new E) (j n : ℕ) → HasRoot j → Contains new.goals (goal (root_in p j) n) → IsGoal q.goals (root_in q j) n
  goal_there new E it j n has there =
      subst (λ r. Contains q.goals (goal r n)) (sym (same_root p q i new E it is_new j has)) (has_goal p q i new E it (goal (root_in p j) n) there)

  pub node_posed : (f : TermForm) → AddsNode known_global known_let p q i f → HasPartsIn HasRoot f → Posed f
  node_posed (form.Bound x) it parts =
      subst (λ n. HasFlow q.automaton n (root_in q i)) (sym (same_binder p q i _ _ it x)) (into_root _ (binder_in p x) it refl)
  node_posed (form.Inner k) it parts =
      (it.0, it.1, record { first = size p; noted = it.2.copies.1; stands = copy_there p q i it.0 _ good it.2 }, root_is p q i _ _ it.2)
  node_posed (form.Global g) it parts =
      (it.0, it.1, record { first = size p; noted = it.2.copies.1; stands = copy_there p q i it.0 _ good it.2 }, root_is p q i _ _ it.2)
  node_posed (form.Number value) it parts =
      let at = root_state _ _ it refl in
      (ap (λ (s : State). s.polarity) at, ap (λ (s : State). s.head.integer) at)
  node_posed (form.Truth value) it parts =
      let at = root_state _ _ it refl in
      (ap (λ (s : State). s.polarity) at, ap (λ (s : State). s.head.boolean) at)
  node_posed (form.Fun x j) it parts =
      let at = root_state _ _ it refl in (
        ap (λ (s : State). s.polarity) at,
        ap (λ (s : State). s.head.function) at
            ∙ (λ k. Some (record { domain = sym (same_binder p q i _ _ it x) k ∷ []; codomain = sym (same_root p q i _ _ it is_new j parts) k ∷ [] })),
      )
  node_posed (form.Apply j k) it parts = (
    suc (suc (size p)),
    suc (size p),
    ap (λ (s : State). s.head.function) (third_state _ _ it)
        ∙ (λ l. Some (record { domain = sym (same_root p q i _ _ it is_new k parts.1) l ∷ []; codomain = suc (size p) ∷ [] })),
    goal_there _ _ it j (suc (suc (size p))) parts.0 (Contains-here _ []),
    into_root _ (suc (size p)) it refl,
  )
  node_posed (form.Make parts) (fields, are, it) roots =
      let at = root_state _ _ it refl in
      let each : (part : Part) → Contains parts part → set_at fields part.label ≡ Some (root_in q part.child ∷ []) = λ part there.
      are.there part there ∙ ap (λ r. Some (r ∷ [])) (sym (same_root p q i _ _ it is_new part.child (roots part there))) in (
        fields,
        ap (λ (s : State). s.polarity) at,
        ap (λ (s : State). s.head.fields) at,
        λ label. (
          are.back label,
          λ there. labelled label (Contains-map_back (λ (part : Part). part.label) parts label there) each,
        ),
        each,
      )
    where
      labelled : (label : List ℕ) → (part : Part) × Contains parts part × (part.label ≡ label) → ((part : Part) → Contains parts part → set_at fields part.label ≡ Some (root_in q part.child ∷ [])) → IsSome (set_at fields label)
      labelled label (part, there, is) each = subst (λ l. IsSome (set_at fields l)) is (subst IsSome (sym (each part there)) refl)
  node_posed (form.Project j label) it parts = (
    suc (suc (size p)),
    suc (size p),
    ap (λ (s : State). s.head.fields) (third_state _ _ it),
    goal_there _ _ it j (suc (suc (size p))) parts (Contains-here _ []),
    into_root _ (suc (size p)) it refl,
  )
  node_posed (form.If j k l) (inl it) parts = (
    suc (suc (size p)),
    suc (size p),
    ap (λ (s : State). s.head.boolean) (third_state _ _ it),
    goal_there _ _ it j (suc (suc (size p))) parts.0 (0, omega arith, refl),
    goal_there _ _ it k (suc (size p)) parts.1 (1, omega arith, refl),
    goal_there _ _ it l (suc (size p)) parts.2 (2, omega arith, refl),
    into_root _ (suc (size p)) it refl,
  )
  node_posed (form.If j k l) (inr (branch, n, which, noted, it)) parts = (
    size p,
    n,
    ap (λ (s : State). s.head.boolean) (first_state _ _ it),
    goal_there _ _ it j (size p) parts.0 (0, omega arith, refl),
    goal_there _ _ it k n parts.1 (1, omega arith, refl),
    goal_there _ _ it l n parts.2 (2, omega arith, refl),
    subst (HasFlow q.automaton n) (sym (root_is p q i _ _ it)) ((it.flows n (root_in p branch)).1 (inl (good.results branch n noted).flows)),
  )
  node_posed (form.Let k j l) it parts = (
    root_is p q i _ _ it.2 ∙ sym (same_root p q i _ _ it.2 is_new l parts),
    (it.0, it.1, record { first = size p; noted = it.2.copies.1; stands = copy_there p q i it.0 _ good it.2 }),
  )
  node_posed (form.Rec x j) it parts = (
    root_is p q i _ _ it ∙ sym (same_root p q i _ _ it is_new j parts),
    subst (λ n. IsGoal q.goals (root_in q j) n) (sym (same_binder p q i _ _ it x)) (goal_there _ _ it j (binder_in p x) parts (Contains-here _ [])),
  )

  -- and the states of its goals stand where its form says
  pair_there : (new : Added) (E : ℕ → ℕ → Type 0) (it : Adds p q i new E) (j n : ℕ) → HasRoot j → Contains new.goals (goal (root_in p j) n) → IsGoalOf (constraint_of q) (root_in q j) n
  pair_there new E it j n has there = pair_in q.goals (root_in q j) n (goal_there new E it j n has there)

  pub node_posed_at : (f : TermForm) → AddsNode known_global known_let p q i f → HasPartsIn HasRoot f → IsPosedAt (constraint_of q) q f i
  node_posed_at (form.Bound x) it parts = tt
  node_posed_at (form.Inner k) it parts = tt
  node_posed_at (form.Global g) it parts = tt
  node_posed_at (form.Number value) it parts = ap (λ (s : State). s.head.integer) (root_state _ _ it refl)
  node_posed_at (form.Truth value) it parts = ap (λ (s : State). s.head.boolean) (root_state _ _ it refl)
  node_posed_at (form.Fun x j) it parts = tt
  node_posed_at (form.Apply j k) it parts =
      subst (IsAppliedAt (constraint_of q) q j k) (sym (root_is p q i _ _ it)) (
        ap (λ (s : State). s.head.function) (third_state _ _ it)
            ∙ (λ l. Some (record { domain = sym (same_root p q i _ _ it is_new k parts.1) l ∷ []; codomain = suc (size p) ∷ [] })),
        pair_there _ _ it j (suc (suc (size p))) parts.0 (Contains-here _ []),
        (it.flows (suc (size p)) (size p)).1 (inr (refl, refl)),
      )
  node_posed_at (form.Make parts) it roots = tt
  node_posed_at (form.Project j label) it parts =
      subst (IsProjectedAt (constraint_of q) q j label) (sym (root_is p q i _ _ it)) (
        ap (λ (s : State). s.head.fields) (third_state _ _ it),
        pair_there _ _ it j (suc (suc (size p))) parts (Contains-here _ []),
        (it.flows (suc (size p)) (size p)).1 (inr (refl, refl)),
      )
  node_posed_at (form.If j k l) (inl it) parts = (
    suc (suc (size p)),
    suc (size p),
    it.results.1,
    ap (λ (s : State). s.head.boolean) (third_state _ _ it),
    pair_there _ _ it j (suc (suc (size p))) parts.0 (0, omega arith, refl),
    pair_there _ _ it k (suc (size p)) parts.1 (1, omega arith, refl),
    pair_there _ _ it l (suc (size p)) parts.2 (2, omega arith, refl),
    into_root _ (suc (size p)) it refl,
  )
  node_posed_at (form.If j k l) (inr (branch, n, which, noted, it)) parts = (
    size p,
    n,
    it.results.1,
    ap (λ (s : State). s.head.boolean) (first_state _ _ it),
    pair_there _ _ it j (size p) parts.0 (0, omega arith, refl),
    pair_there _ _ it k n parts.1 (1, omega arith, refl),
    pair_there _ _ it l n parts.2 (2, omega arith, refl),
    subst (HasFlow q.automaton n) (sym (root_is p q i _ _ it)) ((it.flows n (root_in p branch)).1 (inl (good.results branch n noted).flows)),
  )
  node_posed_at (form.Let k j l) it parts = tt
  node_posed_at (form.Rec x j) it parts = tt

  pub node_extends : (f : TermForm) → AddsNode known_global known_let p q i f → Extends p q
  node_extends (form.Bound x) it = adds_extends p q i _ _ it good is_new
  node_extends (form.Inner k) it = adds_extends p q i _ _ it.2 good is_new
  node_extends (form.Global g) it = adds_extends p q i _ _ it.2 good is_new
  node_extends (form.Number value) it = adds_extends p q i _ _ it good is_new
  node_extends (form.Truth value) it = adds_extends p q i _ _ it good is_new
  node_extends (form.Fun x j) it = adds_extends p q i _ _ it good is_new
  node_extends (form.Apply j k) it = adds_extends p q i _ _ it good is_new
  node_extends (form.Make parts) it = adds_extends p q i _ _ it.2 good is_new
  node_extends (form.Project j label) it = adds_extends p q i _ _ it good is_new
  node_extends (form.If j k l) (inl it) = adds_extends p q i _ _ it good is_new
  node_extends (form.If j k l) (inr (branch, n, which, noted, it)) = adds_extends p q i _ _ it good is_new
  node_extends (form.Let k j l) it = adds_extends p q i _ _ it.2 good is_new
  node_extends (form.Rec x j) it = adds_extends p q i _ _ it good is_new

  -- the node has a root now, and no other node has one more
  pub node_root : (f : TermForm) → AddsNode known_global known_let p q i f → (root : ℕ) × Updates nat_cmp p.roots q.roots i (Some root)
  node_root (form.Bound x) it = (_, it.roots)
  node_root (form.Inner k) it = (_, it.2.roots)
  node_root (form.Global g) it = (_, it.2.roots)
  node_root (form.Number value) it = (_, it.roots)
  node_root (form.Truth value) it = (_, it.roots)
  node_root (form.Fun x j) it = (_, it.roots)
  node_root (form.Apply j k) it = (_, it.roots)
  node_root (form.Make parts) it = (_, it.2.roots)
  node_root (form.Project j label) it = (_, it.roots)
  node_root (form.If j k l) (inl it) = (_, it.roots)
  node_root (form.If j k l) (inr (branch, n, which, noted, it)) = (_, it.roots)
  node_root (form.Let k j l) it = (_, it.2.roots)
  node_root (form.Rec x j) it = (_, it.roots)

-- a form that is a conditional
abbrev pub IsChoiceForm : TermForm → Type 0
IsChoiceForm f = (j k l : ℕ) × (f ≡ form.If j k l)

module _ (known_global known_let : ℕ → Option Scheme) (p q : Posing) (i k n : ℕ) (e : get nat_cmp q.results k ≡ Some n) where
  -- what is noted after a node was noted before, or the node is a conditional
  abbrev WasNoted : TermForm → Type 0
  WasNoted f = (get nat_cmp p.results k ≡ Some n) ⊎ ((k ≡ i) × IsChoiceForm f)

  before : (f : TermForm) → q.results ≡ p.results → WasNoted f
  before f same = inl (ap (λ rs. get nat_cmp rs k) (sym same) ∙ e)

  choice_noted : (j l m : ℕ) (result : Option ℕ) → IsNoted p.results q.results i result → WasNoted (form.If j l m)
  choice_noted j l m result it = elim (noted_cases p.results q.results i result it k n e) [
    | inl old ↦ inl old
    | inr new ↦ inr (new.0, (j, l, m, refl))
  ]

  pub node_noted : (f : TermForm) → AddsNode known_global known_let p q i f → WasNoted f
  node_noted (form.Bound x) it = before (form.Bound x) it.results
  node_noted (form.Inner l) it = before (form.Inner l) it.2.results
  node_noted (form.Global g) it = before (form.Global g) it.2.results
  node_noted (form.Number value) it = before (form.Number value) it.results
  node_noted (form.Truth value) it = before (form.Truth value) it.results
  node_noted (form.Fun x j) it = before (form.Fun x j) it.results
  node_noted (form.Apply j l) it = before (form.Apply j l) it.results
  node_noted (form.Make parts) it = before (form.Make parts) it.2.results
  node_noted (form.Project j label) it = before (form.Project j label) it.results
  node_noted (form.If j l m) (inl it) = choice_noted j l m (Some (suc (size p))) it.results
  node_noted (form.If j l m) (inr (branch, into, which, noted, it)) = choice_noted j l m (Some into) it.results
  node_noted (form.Let l j m) it = before (form.Let l j m) it.2.results
  node_noted (form.Rec x j) it = before (form.Rec x j) it.results

-- a form that is a use of a name
abbrev pub IsName : TermForm → Type 0
IsName (form.Inner k) = Unit {0}
IsName (form.Global g) = Unit {0}
IsName _ = ⊥

pub named : (globals lets : BTreeMap ℕ Scheme) (f : TermForm) → HasNoEdges globals lets f → IsName f
named globals lets (form.Bound x) none = none
named globals lets (form.Inner k) none = tt
named globals lets (form.Global g) none = tt
named globals lets (form.Number value) none = none
named globals lets (form.Truth value) none = none
named globals lets (form.Fun x j) none = none
named globals lets (form.Apply j k) none = none
named globals lets (form.Make parts) none = none
named globals lets (form.Project j label) none = none
named globals lets (form.If j k l) none = none
named globals lets (form.Let k j l) none = none
named globals lets (form.Rec x j) none = none

module _ (known_global known_let : ℕ → Option Scheme) (q : Posing) (i j : ℕ) (same : root_in q i ≡ root_in q j) (again : (n : ℕ) → get nat_cmp q.copies j ≡ Some n → get nat_cmp q.copies i ≡ Some n) where
  abbrev PosedAt : ℕ → TermForm → Type 0
  PosedAt k f = IsNodePosed q.automaton (IsGoal q.goals) (root_in q) (binder_in q) (IsUsePosed known_global known_let q) k f

  pub used_again : (f : TermForm) → IsName f → PosedAt j f → PosedAt i f
  used_again (form.Bound x) name at = absurd name
  used_again (form.Inner k) name (s, is, has, root) =
      (s, is, record { first = has.first; noted = again has.first has.noted; stands = has.stands }, same ∙ root)
  used_again (form.Global g) name (s, is, has, root) =
      (s, is, record { first = has.first; noted = again has.first has.noted; stands = has.stands }, same ∙ root)
  used_again (form.Number value) name at = absurd name
  used_again (form.Truth value) name at = absurd name
  used_again (form.Fun x k) name at = absurd name
  used_again (form.Apply k l) name at = absurd name
  used_again (form.Make parts) name at = absurd name
  used_again (form.Project k label) name at = absurd name
  used_again (form.If k l m) name at = absurd name
  used_again (form.Let k l m) name at = absurd name
  used_again (form.Rec x k) name at = absurd name

  -- a name has no goals
  pub name_posed_at : (f : TermForm) → IsName f → IsPosedAt (constraint_of q) q f i
  name_posed_at (form.Bound x) name = absurd name
  name_posed_at (form.Inner k) name = tt
  name_posed_at (form.Global g) name = tt
  name_posed_at (form.Number value) name = absurd name
  name_posed_at (form.Truth value) name = absurd name
  name_posed_at (form.Fun x k) name = absurd name
  name_posed_at (form.Apply k l) name = absurd name
  name_posed_at (form.Make parts) name = absurd name
  name_posed_at (form.Project k label) name = absurd name
  name_posed_at (form.If k l m) name = absurd name
  name_posed_at (form.Let k l m) name = absurd name
  name_posed_at (form.Rec x k) name = absurd name
