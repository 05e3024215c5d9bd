-- What a node adds leaves the constraint good.
--     adds_good, copy_good
--     node_good, shared_good
use Rattle.std.proofs.Common.{◌≡◌, ◌⊎◌, inl, inr, ℕ, zero, suc, ◌+◌, ◌<◌, Bool, true, false, List, [], ◌∷◌, map, length, get_or, All, Contains, refl, sym, ap, ◌∙◌, subst, arith, Option, Some, None, IsSome, length-append}
use Rattle.std.specs.Prelude.{cond}
use Rattle.std.specs.BTreeMap.{BTreeMap, get}
use Rattle.std.specs.Ordering.{nat_cmp, is_eq}
use Rattle.std.proofs.Math.ListN.{get_or-append}
use Rattle.std.proofs.lemmas.List.{get_or-append-add}
use Rattle.std.proofs.lemmas.List.Elements.{All-cons, Contains-append_cases}
use Rattle.mls_book.proofs.LongerBooks.{below_or_more}
use Rattle.mls_automaton.specs.declared.automaton.Polarity.{Polarity}
use Rattle.mls_automaton.specs.declared.automaton.Polarity.TheVariants.{Negative, Positive}
use Rattle.mls_automaton.specs.declared.automaton.FieldSet.{FieldSet}
use Rattle.mls_automaton.specs.declared.automaton.Flow.{Flow}
use Rattle.mls_automaton.specs.declared.automaton.Head.{Head}
use Rattle.mls_automaton.specs.declared.automaton.State.{State}
use Rattle.mls_automaton.specs.declared.scheme.EnvEntry.{EnvEntry}
use Rattle.mls_automaton.specs.declared.scheme.Scheme.{Scheme}
use Rattle.mls_automaton.specs.Automata.{empty_head, flow, state_at, polarity_at, head_at, HasFlow, IsState}
use Rattle.mls_automaton.specs.Embeddings.{appended, renamed_state}
use Rattle.mls_automaton.specs.Models.{HasRisingLabels, HasStatesIn, IsClosed}
use Rattle.mls_automaton.proofs.Appends.{closed-appended, second-embedded, second-state}
use Rattle.mls_automaton.proofs.Lists.{All-contained, Contains-cases, Contains-map_back}
use Rattle.mls_solver.specs.declared.goal.Goal.{Goal}
use Rattle.mls_solver.specs.Relations.{IsGoalOf}
use Rattle.mls_infer.proofs.Grown.{states_more}
use Rattle.mls_term.specs.declared.term.TermForm.{TermForm}
use Rattle.mls_term.specs.declared.term.TermForm.TheVariants as form
use Rattle.mls_parts.specs.declared.pose.Need.{Need}
use Rattle.mls_parts.specs.declared.pose.Posing.{Posing}
use Rattle.mls_parts.specs.PosedCopies.{HasBinder, HasBinderOf, IsGood, IsNew, IsResult}
use Rattle.mls_layout.specs.PosedNodes.{HasPartsIn}
use Rattle.mls_parts.specs.Posings.{Added, Adds, AddsNode, CanPose, HasKnown, known_in, IsCopiedEdge, IsKnownTo, OneEdge, binder_in, copied_need, copy_added, NoEdge, bool_head, choice_goals, fix_added, function_head, goal, int_head, joined_choice_added, literal_added, negative, one_field, or_zero, positive, record_head, copy_in, root_in, size}
use Rattle.mls_parts.specs.steps.Sharing.{shared_added}
use Rattle.mls_parts.proofs.PosedByNode.{new_state, none_noted, noted_cases, root_is, root_kept, same_root}
use Rattle.mls_parts.proofs.Posings.{longer, state_there}

abbrev past : State
past = record { polarity = Positive; head = empty_head }

pub only : {X : Type 0} (P : X → Type 0) (x : X) → P x → All P (x ∷ [])
only P x it = All-cons P x [] it (λ i d low. absurd (omega arith))

-- a head with nothing names nothing
no_states : (Q : Polarity → ℕ → Type 0) (p : Polarity) → HasStatesIn Q p empty_head
no_states Q p = record { function = tt; fields = tt }

module _ (p q : Posing) (i : ℕ) (new : Added) (IsEdge : ℕ → ℕ → Type 0) (it : Adds p q i new IsEdge) (good : IsGood p) where
  -- a state that was there is there
  pub old_state : (r : Polarity) (s : ℕ) → IsState p.automaton r s → IsState q.automaton r s
  old_state r s = longer p.automaton q.automaton new.states r s it.states

  pub fresh_state : (k : ℕ) → k < length new.states → IsState q.automaton (get_or new.states k past).polarity (size p + k)
  fresh_state k low = record {
    in_range =
        let all : length q.automaton.states ≡ length p.automaton.states + length new.states = ap length it.states ∙ length-append p.automaton.states new.states in
        omega arith;
    polarity = ap (λ (x : State). x.polarity) (new_state p q i new IsEdge it k);
  }

  abbrev HasGood : State → Type 0
  HasGood x = HasStatesIn (IsState q.automaton) x.polarity x.head × HasRisingLabels x.head.fields

  pub adds_good : IsNew p i → ((k : ℕ) → HasGood (get_or new.states k past))
      → ((n s : ℕ) → IsEdge n s → IsState q.automaton Negative n × IsState q.automaton Positive s)
      → ((g : Goal) → Contains new.goals g → IsGoalOf q.automaton g) → IsState q.automaton Positive new.root
      → ((need : Need) → Contains new.needs need → HasStatesIn (IsState q.automaton) Negative need.head × HasRisingLabels need.head.fields × HasBinder p need.binder)
      → ((n : ℕ) → new.result ≡ Some n → IsState q.automaton Negative n × HasFlow q.automaton n new.root) → IsGood q
  adds_good is_new heads edges goals root needs noted = record {
    closed = record {
      heads = λ s. (state_good s (below_or_more s (size p))).0;
      labels = λ s. (state_good s (below_or_more s (size p))).1;
      negative = λ f there. edge_negative f ((it.flows f.negative.0 f.positive.0).0 there);
      positive = λ f there. edge_positive f ((it.flows f.negative.0 f.positive.0).0 there);
    };
    goals = λ g there. goal_good g (Contains-append_cases p.goals new.goals g (subst (λ (gs : List Goal). Contains gs g) it.goals there));
    roots = λ k s e. root_good k s e (is_eq (nat_cmp i k)) (it.roots.0 k);
    binders = λ x s e. old_state Negative s (good.binders x s (old_binder x s e));
    no_head = λ x s e.
        let before = old_binder x s e in
        ap (λ (x : State). x.head) (same_state s (good.binders x s before).in_range) ∙ good.no_head x s before;
    needs = λ need there. (need_good need (Contains-append_cases p.needs new.needs need (subst (λ (ns : List Need). Contains ns need) it.needs there))).0;
    labels = λ need there. (need_good need (Contains-append_cases p.needs new.needs need (subst (λ (ns : List Need). Contains ns need) it.needs there))).1;
    around = λ need there.
        subst (λ bs. IsSome (get nat_cmp bs need.binder)) (sym it.binders)
        (need_good need (Contains-append_cases p.needs new.needs need (subst (λ (ns : List Need). Contains ns need) it.needs there))).2;
    copies = λ k n e. copy_rooted k n (noted_cases p.copies q.copies i new.copy it.copies k n e);
    results = λ k n e. result_good k n (noted_cases p.results q.results i new.result it.results k n e);
  }
    where
      same_state : (s : ℕ) → s < size p → state_at q.automaton s ≡ state_at p.automaton s
      same_state s low = ap (λ (xs : List State). get_or xs s past) it.states ∙ get_or-append p.automaton.states new.states past s low

      old_binder : (x s : ℕ) → get nat_cmp q.binders x ≡ Some s → get nat_cmp p.binders x ≡ Some s
      old_binder x s e = ap (λ bs. get nat_cmp bs x) (sym it.binders) ∙ e

      state_good : (s : ℕ) → (s < size p) ⊎ ((k : ℕ) × (s ≡ size p + k)) → HasGood (state_at q.automaton s)
      state_good s (inl low) =
          subst HasGood (sym (same_state s low)) (states_more (IsState p.automaton) (IsState q.automaton) old_state (polarity_at p.automaton s) (head_at p.automaton s) (good.closed.heads s), good.closed.labels s)
      state_good s (inr (k, is)) =
          subst (λ n. HasGood (state_at q.automaton n)) (sym is) (subst HasGood (sym (new_state p q i new IsEdge it k)) (heads k))

      edge_negative : (f : Flow) → HasFlow p.automaton f.negative.0 f.positive.0 ⊎ IsEdge f.negative.0 f.positive.0 → IsState q.automaton Negative f.negative.0
      edge_negative f (inl old) = old_state Negative f.negative.0 (good.closed.negative f old)
      edge_negative f (inr edge) = (edges f.negative.0 f.positive.0 edge).0

      edge_positive : (f : Flow) → HasFlow p.automaton f.negative.0 f.positive.0 ⊎ IsEdge f.negative.0 f.positive.0 → IsState q.automaton Positive f.positive.0
      edge_positive f (inl old) = old_state Positive f.positive.0 (good.closed.positive f old)
      edge_positive f (inr edge) = (edges f.negative.0 f.positive.0 edge).1

      goal_good : (g : Goal) → Contains p.goals g ⊎ Contains new.goals g → IsGoalOf q.automaton g
      goal_good g (inl old) = let before = good.goals g old in (old_state Positive g.positive.0 before.0, old_state Negative g.negative.0 before.1)
      goal_good g (inr there) = goals g there

      root_good : (k s : ℕ) → get nat_cmp q.roots k ≡ Some s → (b : Bool) → get nat_cmp q.roots k ≡ cond b (Some new.root) (get nat_cmp p.roots k) → IsState q.automaton Positive s
      root_good k s e true is = let same : new.root ≡ s = cc in subst (IsState q.automaton Positive) same root
      root_good k s e false is = old_state Positive s (good.roots k s (sym is ∙ e))

      root_there : (k : ℕ) (o : Option ℕ) → get nat_cmp p.roots k ≡ o → IsSome o → IsSome (get nat_cmp q.roots k)
      root_there k None e wrong = absurd (cc)
      root_there k (Some s) e some = subst IsSome (sym (root_kept p q i new IsEdge it is_new k s e)) refl

      copy_rooted : (k n : ℕ) → (get nat_cmp p.copies k ≡ Some n) ⊎ ((k ≡ i) × (new.copy ≡ Some n)) → IsSome (get nat_cmp q.roots k)
      copy_rooted k n (inl before) = root_there k (get nat_cmp p.roots k) refl (good.copies k n before)
      copy_rooted k n (inr (same, is)) = subst (λ j. IsSome (get nat_cmp q.roots j)) (sym same) (subst IsSome (sym it.roots.1) refl)

      result_good : (k n : ℕ) → (get nat_cmp p.results k ≡ Some n) ⊎ ((k ≡ i) × (new.result ≡ Some n)) → IsResult q k n
      result_good k n (inl before) =
          let at = good.results k n before in
          record {
            negative = old_state Negative n at.negative;
            rooted = root_there k (get nat_cmp p.roots k) refl at.rooted;
            flows = subst (HasFlow q.automaton n) (sym (same_root p q i new IsEdge it is_new k at.rooted)) ((it.flows n (root_in p k)).1 (inl at.flows));
          }
      result_good k n (inr (same, is)) =
          let at = noted n is in
          subst (λ j. IsResult q j n) (sym same) (record {
            negative = at.0;
            rooted = subst IsSome (sym it.roots.1) refl;
            flows = subst (HasFlow q.automaton n) (sym (root_is p q i new IsEdge it)) at.1;
          })

      need_good : (need : Need) → Contains p.needs need ⊎ Contains new.needs need → HasStatesIn (IsState q.automaton) Negative need.head × HasRisingLabels need.head.fields × HasBinder p need.binder
      need_good need (inl old) = (states_more (IsState p.automaton) (IsState q.automaton) old_state Negative need.head (good.needs need old), good.labels need old, good.around need old)
      need_good need (inr there) = needs need there

-- a known type that is there
pub known_from : (p : Posing) (s : Scheme) (o : Option Scheme) → HasKnown p o → o ≡ Some s → IsKnownTo p s
known_from p s None has e = absurd has
known_from p s (Some t) has e = let same : t ≡ s = cc in subst (IsKnownTo p) same has

module _ (p q : Posing) (i : ℕ) (good : IsGood p) (is_new : IsNew p i) where
  abbrev HasRoot : ℕ → Type 0
  HasRoot k = IsSome (get nat_cmp p.roots k)

  root_before : (k : ℕ) → HasRoot k → IsState p.automaton Positive (root_in p k)
  root_before k some = go (get nat_cmp p.roots k) refl some
    where
      go : (o : Option ℕ) → get nat_cmp p.roots k ≡ o → IsSome o → IsState p.automaton Positive (root_in p k)
      go None e wrong = absurd (cc)
      go (Some s) e some = subst (IsState p.automaton Positive) (sym (ap or_zero e)) (good.roots k s e)

  binder_before : (x : ℕ) → HasBinder p x → IsState p.automaton Negative (binder_in p x)
  binder_before x some = go (get nat_cmp p.binders x) refl some
    where
      go : (o : Option ℕ) → get nat_cmp p.binders x ≡ o → IsSome o → IsState p.automaton Negative (binder_in p x)
      go None e wrong = absurd (cc)
      go (Some s) e some = subst (IsState p.automaton Negative) (sym (ap or_zero e)) (good.binders x s e)

  -- one goal among those of a node
  at_goal : (r n : ℕ) → IsState p.automaton Positive r → ((n ≡ suc (size p)) ⊎ (n ≡ suc (suc (size p)))) → (g : Goal) → goal r n ≡ g → IsState p.automaton Positive g.positive.0 × ((g.negative.0 ≡ suc (size p)) ⊎ (g.negative.0 ≡ suc (suc (size p))))
  at_goal r n state at g same = subst (λ (g : Goal). IsState p.automaton Positive g.positive.0 × ((g.negative.0 ≡ suc (size p)) ⊎ (g.negative.0 ≡ suc (suc (size p))))) same (state, at)

  one_goal : (r n : ℕ) → IsState p.automaton Positive r → ((n ≡ suc (size p)) ⊎ (n ≡ suc (suc (size p)))) → (g : Goal) → Contains (goal r n ∷ []) g → IsState p.automaton Positive g.positive.0 × ((g.negative.0 ≡ suc (size p)) ⊎ (g.negative.0 ≡ suc (suc (size p))))
  one_goal r n state at g there = elim (Contains-cases (goal r n) [] g there) [
    | inl same ↦ at_goal r n state at g same
    | inr later ↦ let low : later.0 < 0 = later.1 in absurd (omega arith)
  ]

  -- a node of one new state
  literal_good : (head : Head) (E : ℕ → ℕ → Type 0) → Adds p q i (literal_added (size p) head) E
      → (((r : Polarity) (s : ℕ) → IsState p.automaton r s → IsState q.automaton r s) → HasStatesIn (IsState q.automaton) Positive head) → HasRisingLabels head.fields
      → ((n s : ℕ) → E n s → (s ≡ size p) × IsState p.automaton Negative n) → IsGood q
  literal_good head E it states labels edges =
      adds_good p q i (literal_added (size p) head) E it good is_new each
      (λ n s edge. let at = edges n s edge in (old Negative n at.1, subst (IsState q.automaton Positive) (sym at.0) root))
      (λ g there. let low : there.0 < 0 = there.1 in absurd (omega arith)) root
      (λ need there. let low : there.0 < 0 = there.1 in absurd (omega arith))
      (λ n e. absurd (none_noted n e))
    where
      old : (r : Polarity) (s : ℕ) → IsState p.automaton r s → IsState q.automaton r s
      old = old_state p q i (literal_added (size p) head) E it good

      root : IsState q.automaton Positive (size p)
      root = let at : size p + 0 ≡ size p = omega arith in subst (IsState q.automaton Positive) at (fresh_state p q i (literal_added (size p) head) E it good 0 (omega arith))

      each : (k : ℕ) → HasStatesIn (IsState q.automaton) (get_or (positive head ∷ []) k past).polarity (get_or (positive head ∷ []) k past).head × HasRisingLabels (get_or (positive head ∷ []) k past).head.fields
      each zero = (states old, labels)
      each (suc k) = (no_states (IsState q.automaton) Positive, tt)

  -- a node of three, of which the second flows into the first, and the third has this head
  result_good : (head : Head) (goals : List Goal) (result : Option ℕ) → Adds p q i (record { states = positive empty_head ∷ negative empty_head ∷ negative head ∷ []; goals = goals; needs = []; root = size p; copy = None; result = result }) (OneEdge (suc (size p)) (size p))
      → (((r : Polarity) (s : ℕ) → IsState p.automaton r s → IsState q.automaton r s) → IsState q.automaton Negative (suc (size p)) → HasStatesIn (IsState q.automaton) Negative head) → HasRisingLabels head.fields
      → ((g : Goal) → Contains goals g → IsState p.automaton Positive g.positive.0 × ((g.negative.0 ≡ suc (size p)) ⊎ (g.negative.0 ≡ suc (suc (size p)))))
      → ((n : ℕ) → result ≡ Some n → n ≡ suc (size p)) → IsGood q
  result_good head goals result it states labels between noted =
      adds_good p q i new (OneEdge (suc (size p)) (size p)) it good is_new each
      (λ n s edge. (subst (IsState q.automaton Negative) (sym edge.0) into, subst (IsState q.automaton Positive) (sym edge.1) root))
      (λ g there. let at = between g there in (old Positive g.positive.0 at.0, lower g at.1)) root
      (λ need there. let low : there.0 < 0 = there.1 in absurd (omega arith))
      (λ n e. (subst (IsState q.automaton Negative) (sym (noted n e)) into, (it.flows n (size p)).1 (inr (noted n e, refl))))
    where
      new : Added
      new = record { states = positive empty_head ∷ negative empty_head ∷ negative head ∷ []; goals = goals; needs = []; root = size p; copy = None; result = result }

      old : (r : Polarity) (s : ℕ) → IsState p.automaton r s → IsState q.automaton r s
      old = old_state p q i (record { states = positive empty_head ∷ negative empty_head ∷ negative head ∷ []; goals = goals; needs = []; root = size p; copy = None; result = result }) (OneEdge (suc (size p)) (size p)) it good

      root : IsState q.automaton Positive (size p)
      root = let at : size p + 0 ≡ size p = omega arith in subst (IsState q.automaton Positive) at (fresh_state p q i (record { states = positive empty_head ∷ negative empty_head ∷ negative head ∷ []; goals = goals; needs = []; root = size p; copy = None; result = result }) (OneEdge (suc (size p)) (size p)) it good 0 (omega arith))

      into : IsState q.automaton Negative (suc (size p))
      into = let at : size p + 1 ≡ suc (size p) = omega arith in subst (IsState q.automaton Negative) at (fresh_state p q i (record { states = positive empty_head ∷ negative empty_head ∷ negative head ∷ []; goals = goals; needs = []; root = size p; copy = None; result = result }) (OneEdge (suc (size p)) (size p)) it good 1 (omega arith))

      upper : IsState q.automaton Negative (suc (suc (size p)))
      upper = let at : size p + 2 ≡ suc (suc (size p)) = omega arith in subst (IsState q.automaton Negative) at (fresh_state p q i (record { states = positive empty_head ∷ negative empty_head ∷ negative head ∷ []; goals = goals; needs = []; root = size p; copy = None; result = result }) (OneEdge (suc (size p)) (size p)) it good 2 (omega arith))

      lower : (g : Goal) → (g.negative.0 ≡ suc (size p)) ⊎ (g.negative.0 ≡ suc (suc (size p))) → IsState q.automaton Negative g.negative.0
      lower g (inl is) = subst (IsState q.automaton Negative) (sym is) into
      lower g (inr is) = subst (IsState q.automaton Negative) (sym is) upper

      each : (k : ℕ) → HasStatesIn (IsState q.automaton) (get_or (positive empty_head ∷ negative empty_head ∷ negative head ∷ []) k past).polarity (get_or (positive empty_head ∷ negative empty_head ∷ negative head ∷ []) k past).head × HasRisingLabels (get_or (positive empty_head ∷ negative empty_head ∷ negative head ∷ []) k past).head.fields
      each zero = (no_states (IsState q.automaton) Positive, tt)
      each (suc zero) = (no_states (IsState q.automaton) Negative, tt)
      each (suc (suc zero)) = (states old into, labels)
      each (suc (suc (suc k))) = (no_states (IsState q.automaton) Positive, tt)

  -- a conditional that shares the states of another one
  joined_good : (c f s root into : ℕ) → Adds p q i (joined_choice_added (size p) c f s root into) NoEdge
      → IsState p.automaton Positive c → IsState p.automaton Positive f → IsState p.automaton Positive s → IsState p.automaton Positive root → IsState p.automaton Negative into → HasFlow p.automaton into root → IsGood q
  joined_good c f s root into it c_is f_is s_is root_state into_is edge =
      adds_good p q i (joined_choice_added (size p) c f s root into) NoEdge it good is_new each (λ n s edge. absurd edge) goal_good (old Positive root root_state)
      (λ need there. let low : there.0 < 0 = there.1 in absurd (omega arith))
      (λ n e. let same : into ≡ n = cc in subst (λ n. IsState q.automaton Negative n × HasFlow q.automaton n root) same (old Negative into into_is, (it.flows into root).1 (inl edge)))
    where
      old : (r : Polarity) (k : ℕ) → IsState p.automaton r k → IsState q.automaton r k
      old = old_state p q i (joined_choice_added (size p) c f s root into) NoEdge it good

      bit : IsState q.automaton Negative (size p)
      bit = let at : size p + 0 ≡ size p = omega arith in subst (IsState q.automaton Negative) at (fresh_state p q i (joined_choice_added (size p) c f s root into) NoEdge it good 0 (omega arith))

      each : (k : ℕ) → HasStatesIn (IsState q.automaton) (get_or (negative bool_head ∷ []) k past).polarity (get_or (negative bool_head ∷ []) k past).head × HasRisingLabels (get_or (negative bool_head ∷ []) k past).head.fields
      each zero = (record { function = tt; fields = tt }, tt)
      each (suc k) = (no_states (IsState q.automaton) Positive, tt)

      goal_good : (g : Goal) → Contains (choice_goals c f s (size p) into) g → IsGoalOf q.automaton g
      goal_good g there = elim (Contains-cases (goal c (size p)) (goal f into ∷ goal s into ∷ []) g there) [
        | inl same ↦ subst (IsGoalOf q.automaton) same (old Positive c c_is, bit)
        | inr later ↦ elim (Contains-cases (goal f into) (goal s into ∷ []) g later) [
          | inl same ↦ subst (IsGoalOf q.automaton) same (old Positive f f_is, old Negative into into_is)
          | inr last ↦ elim (Contains-cases (goal s into) [] g last) [
            | inl same ↦ subst (IsGoalOf q.automaton) same (old Positive s s_is, old Negative into into_is)
            | inr none ↦ let low : none.0 < 0 = none.1 in absurd (omega arith)
          ]
        ]
      ]

  -- a node with a copy of a known type
  pub copy_good : (s : Scheme) (root : ℕ) (known : IsKnownTo p s) → Adds p q i (copy_added (size p) s root) (IsCopiedEdge (size p) (binder_in p) s s.env)
      → (((r : Polarity) (k : ℕ) → IsState s.automaton r k → IsState q.automaton r (size p + k)) → ((r : Polarity) (k : ℕ) → IsState p.automaton r k → IsState q.automaton r k) → IsState q.automaton Positive root) → IsGood q
  copy_good s root known it root_is =
      adds_good p q i (copy_added (size p) s root) (IsCopiedEdge (size p) (binder_in p) s s.env) it good is_new each edges
      (λ g there. let low : there.0 < 0 = there.1 in absurd (omega arith)) (root_is above old) needed (λ n e. absurd (none_noted n e))
    where
      n : ℕ
      n = size p

      old : (r : Polarity) (k : ℕ) → IsState p.automaton r k → IsState q.automaton r k
      old = old_state p q i (copy_added (size p) s root) (IsCopiedEdge (size p) (binder_in p) s s.env) it good

      whole : IsClosed (appended p.automaton s.automaton)
      whole = closed-appended p.automaton s.automaton good.closed known.closed

      same_there : (r : Polarity) (k : ℕ) → IsState (appended p.automaton s.automaton) r k → IsState q.automaton r k
      same_there r k = state_there (appended p.automaton s.automaton) q.automaton r k it.states

      above : (r : Polarity) (k : ℕ) → IsState s.automaton r k → IsState q.automaton r (size p + k)
      above r k state =
          let embedded = second-embedded p.automaton s.automaton good.closed known.closed in
          same_there r (size p + k) (record { in_range = embedded.in_range k state.in_range; polarity = embedded.polarity k state.in_range ∙ state.polarity })

      copied : (k : ℕ) → HasStatesIn (IsState q.automaton) (polarity_at (appended p.automaton s.automaton) (size p + k)) (head_at (appended p.automaton s.automaton) (size p + k)) × HasRisingLabels (head_at (appended p.automaton s.automaton) (size p + k)).fields
      copied k = (states_more (IsState (appended p.automaton s.automaton)) (IsState q.automaton) same_there (polarity_at (appended p.automaton s.automaton) (size p + k)) (head_at (appended p.automaton s.automaton) (size p + k)) (whole.heads (size p + k)), whole.labels (size p + k))

      each : (k : ℕ) → HasStatesIn (IsState q.automaton) (get_or (map (renamed_state (λ j. size p + j)) s.automaton.states) k past).polarity (get_or (map (renamed_state (λ j. size p + j)) s.automaton.states) k past).head
          × HasRisingLabels (get_or (map (renamed_state (λ j. size p + j)) s.automaton.states) k past).head.fields
      each k =
          subst (λ (x : State). HasStatesIn (IsState q.automaton) x.polarity x.head × HasRisingLabels x.head.fields)
          (get_or-append-add p.automaton.states (map (renamed_state (λ j. size p + j)) s.automaton.states) k past) (copied k)

      edges : (m r : ℕ) → IsCopiedEdge (size p) (binder_in p) s s.env m r → IsState q.automaton Negative m × IsState q.automaton Positive r
      edges m r (inl (k, l, edge, is-m, is-r)) = (
        subst (IsState q.automaton Negative) (sym is-m) (above Negative k (known.closed.negative (flow k l) edge)),
        subst (IsState q.automaton Positive) (sym is-r) (above Positive l (known.closed.positive (flow k l) edge)),
      )
      edges m r (inr (entry, there, (is-m, l, edge, is-r))) = (
        subst (IsState q.automaton Negative) (sym is-m) (old Negative (binder_in p entry.binder) (known.around entry there)),
        subst (IsState q.automaton Positive) (sym is-r) (above Positive l (known.closed.positive (flow entry.state.0 l) edge)),
      )

      need_of : (entry : EnvEntry) → Contains s.env entry → HasStatesIn (IsState q.automaton) Negative (copied_need (size p) s entry).head × HasRisingLabels (copied_need (size p) s entry).head.fields
      need_of entry there =
          let at : state_at (appended p.automaton s.automaton) (size p + entry.state.0) ≡ renamed_state (λ j. size p + j) (state_at s.automaton entry.state.0) = second-state p.automaton s.automaton entry.state.0 in
          let is_negative : polarity_at s.automaton entry.state.0 ≡ Negative = (known.states entry there).polarity in
          subst (λ (r : Polarity). HasStatesIn (IsState q.automaton) r (copied_need (size p) s entry).head × HasRisingLabels (copied_need (size p) s entry).head.fields) is_negative
          (subst (λ (x : State). HasStatesIn (IsState q.automaton) x.polarity x.head × HasRisingLabels x.head.fields) at (copied entry.state.0))

      needed : (need : Need) → Contains (map (copied_need (size p) s) s.env) need → HasStatesIn (IsState q.automaton) Negative need.head × HasRisingLabels need.head.fields × HasBinder p need.binder
      needed need there =
          let found = Contains-map_back (copied_need (size p) s) s.env need there in
          let good_need = need_of found.0 found.1 in
          subst (λ (d : Need). HasStatesIn (IsState q.automaton) Negative d.head × HasRisingLabels d.head.fields × HasBinder p d.binder) found.2 (good_need.0, good_need.1, known.there found.0 found.1)

  pub node_good : (globals lets : BTreeMap ℕ Scheme) (f : TermForm) → AddsNode (known_in globals) (known_in lets) p q i f → HasPartsIn HasRoot f → HasBinderOf p f → CanPose globals lets p f → IsGood q
  node_good globals lets (form.Bound x) it parts binder can =
      literal_good empty_head (OneEdge (binder_in p x) (size p)) it (λ old. no_states (IsState q.automaton) Positive) tt
      (λ n s edge. (edge.1, subst (IsState p.automaton Negative) (sym edge.0) (binder_before x binder)))
  node_good globals lets (form.Inner k) (s, is, it) parts binder can =
      let known = known_from p s (known_in lets k) can is in
      copy_good s (size p + s.root.0) known it (λ above old. above Positive s.root.0 known.root)
  node_good globals lets (form.Global g) (s, is, it) parts binder can =
      let known = known_from p s (known_in globals g) can is in
      copy_good s (size p + s.root.0) known it (λ above old. above Positive s.root.0 known.root)
  node_good globals lets (form.Number value) it parts binder can =
      literal_good int_head NoEdge it (λ old. record { function = tt; fields = tt }) tt (λ n s edge. absurd edge)
  node_good globals lets (form.Truth value) it parts binder can =
      literal_good bool_head NoEdge it (λ old. record { function = tt; fields = tt }) tt (λ n s edge. absurd edge)
  node_good globals lets (form.Fun x j) it parts binder can =
      literal_good (function_head (binder_in p x) (root_in p j)) NoEdge it
      (λ old. record {
        function = (
          only (IsState q.automaton Negative) (binder_in p x) (old Negative (binder_in p x) (binder_before x binder)),
          only (IsState q.automaton Positive) (root_in p j) (old Positive (root_in p j) (root_before j parts)),
        );
        fields = tt;
      }) tt (λ n s edge. absurd edge)
  node_good globals lets (form.Apply j k) it parts binder can =
      result_good (function_head (root_in p k) (suc (size p))) (goal (root_in p j) (suc (suc (size p))) ∷ []) None it
      (λ old into. record {
        function = (
          only (IsState q.automaton Positive) (root_in p k) (old Positive (root_in p k) (root_before k parts.1)),
          only (IsState q.automaton Negative) (suc (size p)) into,
        );
        fields = tt;
      }) tt (λ g there. one_goal (root_in p j) (suc (suc (size p))) (root_before j parts.0) (inr refl) g there) (λ n e. absurd (none_noted n e))
  node_good globals lets (form.Make ps) (fields, are, it) roots binder can =
      literal_good (record_head fields) NoEdge it
      (λ old. record { function = tt; fields = All-contained (λ (field : FieldSet). All (IsState q.automaton Positive) field.set) fields (λ field there. field_good old field there) })
      are.rising (λ n s edge. absurd edge)
    where
      field_good : ((r : Polarity) (s : ℕ) → IsState p.automaton r s → IsState q.automaton r s) → (field : FieldSet) → Contains fields field → All (IsState q.automaton Positive) field.set
      field_good old field there =
          let found = are.single field there in
          subst (λ (set : List ℕ). All (IsState q.automaton Positive) set) (sym found.2) (only (IsState q.automaton Positive) (root_in p found.0.child) (old Positive (root_in p found.0.child) (root_before found.0.child (roots found.0 found.1))))
  node_good globals lets (form.Project j label) it parts binder can =
      result_good (record_head (one_field label (suc (size p)))) (goal (root_in p j) (suc (suc (size p))) ∷ []) None it
      (λ old into. record { function = tt; fields = only (λ (field : FieldSet). All (IsState q.automaton Negative) field.set) _ (only (IsState q.automaton Negative) (suc (size p)) into) })
      (λ i d low. absurd (omega arith), tt) (λ g there. one_goal (root_in p j) (suc (suc (size p))) (root_before j parts) (inr refl) g there) (λ n e. absurd (none_noted n e))
  node_good globals lets (form.If j k l) (inr (branch, into, which, noted, it)) parts binder can =
      let at = good.results branch into noted in
      joined_good (root_in p j) (root_in p k) (root_in p l) (root_in p branch) into it
      (root_before j parts.0) (root_before k parts.1) (root_before l parts.2) (root_before branch at.rooted) at.negative at.flows
  node_good globals lets (form.If j k l) (inl it) parts binder can =
      result_good bool_head (choice_goals (root_in p j) (root_in p k) (root_in p l) (suc (suc (size p))) (suc (size p))) (Some (suc (size p))) it
      (λ old into. record { function = tt; fields = tt }) tt
      (λ g there. elim (Contains-cases (goal (root_in p j) (suc (suc (size p)))) (goal (root_in p k) (suc (size p)) ∷ goal (root_in p l) (suc (size p)) ∷ []) g there) [
        | inl same ↦ at_goal (root_in p j) (suc (suc (size p))) (root_before j parts.0) (inr refl) g same
        | inr later ↦ elim (Contains-cases (goal (root_in p k) (suc (size p))) (goal (root_in p l) (suc (size p)) ∷ []) g later) [
          | inl same ↦ at_goal (root_in p k) (suc (size p)) (root_before k parts.1) (inl refl) g same
          | inr last ↦ one_goal (root_in p l) (suc (size p)) (root_before l parts.2) (inl refl) g last
        ]
      ])
      (λ n e. let same : suc (size p) ≡ n = cc in sym same)
  node_good globals lets (form.Let k j l) (s, is, it) parts binder can =
      copy_good s (root_in p l) (known_from p s (known_in lets k) can is) it (λ above old. old Positive (root_in p l) (root_before l parts))
  node_good globals lets (form.Rec x j) it parts binder can =
      adds_good p q i (fix_added (root_in p j) (binder_in p x)) NoEdge it good is_new (λ k. (no_states (IsState q.automaton) Positive, tt)) (λ n s edge. absurd edge)
      (λ g there. recursion g there) (old Positive (root_in p j) (root_before j parts)) (λ need there. let low : there.0 < 0 = there.1 in absurd (omega arith)) (λ n e. absurd (none_noted n e))
    where
      old : (r : Polarity) (s : ℕ) → IsState p.automaton r s → IsState q.automaton r s
      old = old_state p q i (fix_added (root_in p j) (binder_in p x)) NoEdge it good

      recursion : (g : Goal) → Contains (goal (root_in p j) (binder_in p x) ∷ []) g → IsGoalOf q.automaton g
      recursion g there = elim (Contains-cases (goal (root_in p j) (binder_in p x)) [] g there) [
        | inl same ↦ subst (IsGoalOf q.automaton) same (old Positive (root_in p j) (root_before j parts), old Negative (binder_in p x) (binder_before x binder))
        | inr later ↦ let low : later.0 < 0 = later.1 in absurd (omega arith)
      ]

  -- a use that shares the copy of another one
  pub shared_good : (j : ℕ) → HasRoot j → Adds p q i (shared_added (root_in p j) (copy_in p j)) NoEdge → IsGood q
  shared_good j rooted it =
      adds_good p q i (shared_added (root_in p j) (copy_in p j)) NoEdge it good is_new (λ k. (no_states (IsState q.automaton) Positive, tt)) (λ n s edge. absurd edge)
      (λ g there. let low : there.0 < 0 = there.1 in absurd (omega arith))
      (old_state p q i (shared_added (root_in p j) (copy_in p j)) NoEdge it good Positive (root_in p j) (root_before j rooted))
      (λ need there. let low : there.0 < 0 = there.1 in absurd (omega arith)) (λ n e. absurd (none_noted n e))
