-- What is posed stays posed while more is added.
--     extends_all         what was there stays, step by step
--     posed_kept, posed_at_kept
use Rattle.std.proofs.Common.{◌≡◌, ◌⊎◌, inl, inr, ℕ, suc, ◌+◌, ◌<◌, ◌≤◌, true, false, List, [], ◌∷◌, length, refl, sym, ap, ◌∙◌, subst, arith, Option, Some, None, IsSome}
use Rattle.std.specs.BTreeMap.{get}
use Rattle.std.specs.Ordering.{nat_cmp}
use Rattle.std.proofs.lemmas.List.{get_or_past}
use Rattle.mls_book.proofs.LongerBooks.{below_or_more}
use Rattle.mls_automaton.specs.declared.automaton.Polarity.TheVariants.{Positive}
use Rattle.mls_automaton.specs.declared.automaton.Arms.{Arms}
use Rattle.mls_automaton.specs.declared.automaton.FieldSet.{FieldSet}
use Rattle.mls_automaton.specs.declared.automaton.State.{State}
use Rattle.mls_automaton.specs.declared.scheme.Scheme.{Scheme}
use Rattle.mls_automaton.specs.Automata.{Automaton, empty_head, state_at, head_at, HasFlow}
use Rattle.mls_solver.specs.Relations.{IsGoal}
use Rattle.mls_infer.proofs.Solvable.{goal_in, pair_in}
use Rattle.mls_term.specs.declared.term.TermForm.{TermForm}
use Rattle.mls_term.specs.declared.term.TermForm.TheVariants as form
use Rattle.mls_parts.specs.declared.pose.Posing.{Posing}
use Rattle.mls_parts.specs.PosedCopies.{Extends, HasCopyAt, IsCopyAt, IsGood, IsUsePosed}
use Rattle.mls_layout.specs.Parts.{IsGoalOf}
use Rattle.mls_layout.specs.PosedNodes.{HasPartsIn, IsNodePosed}
use Rattle.mls_parts.specs.PosedGoals.{constraint_of, IsAppliedAt, IsPosedAt, IsProjectedAt}
use Rattle.mls_parts.specs.Posings.{binder_in, number_at, or_zero, root_in, size}

pub extends_self : (p : Posing) → Extends p p
extends_self p = record {
  more = omega arith;
  states = λ s low. refl;
  flows = λ n s edge. edge;
  goals = λ g there. there;
  roots = λ i s e. e;
  binders = refl;
  needs = λ need there. there;
  copies = λ i n e. e;
  results = λ i n e. e;
}

pub extends_all : (p q r : Posing) → Extends p q → Extends q r → Extends p r
extends_all p q r first second = record {
  more = let one : size p ≤ size q = first.more in let two : size q ≤ size r = second.more in omega arith;
  states = λ s low. let more : size p ≤ size q = first.more in second.states s (omega arith) ∙ first.states s low;
  flows = λ n s edge. second.flows n s (first.flows n s edge);
  goals = λ g there. second.goals g (first.goals g there);
  roots = λ i s e. second.roots i s (first.roots i s e);
  binders = second.binders ∙ first.binders;
  needs = λ need there. second.needs need (first.needs need there);
  copies = λ i n e. second.copies i n (first.copies i n e);
  results = λ i n e. second.results i n (first.results i n e);
}

-- a state with a part is there
module _ (a : Automaton) (s : ℕ) where
  is_there : (state_at a s ≡ record { polarity = Positive; head = empty_head } → ⊥) → s < length a.states
  is_there other = go (below_or_more s (length a.states))
    where
      go : (s < length a.states) ⊎ ((j : ℕ) × (s ≡ length a.states + j)) → s < length a.states
      go (inl low) = low
      go (inr (j, is)) = absurd (other (get_or_past a.states s (record { polarity = Positive; head = empty_head }) (omega (arith, is))))

  pub has_function : (arms : Arms) → (head_at a s).function ≡ Some arms → s < length a.states
  has_function arms e = is_there (λ is. let none : (head_at a s).function ≡ None = ap (λ (x : State). x.head.function) is in absurd (cc))

  pub has_fields : (fields : List FieldSet) → (head_at a s).fields ≡ Some fields → s < length a.states
  has_fields fields e = is_there (λ is. let none : (head_at a s).fields ≡ None = ap (λ (x : State). x.head.fields) is in absurd (cc))

  pub has_boolean : (head_at a s).boolean ≡ true → s < length a.states
  has_boolean e = is_there (λ is. let none : (head_at a s).boolean ≡ false = ap (λ (x : State). x.head.boolean) is in absurd (cc))

module _ (p q : Posing) (it : Extends p q) where
  pub kept_root : (i : ℕ) → IsSome (get nat_cmp p.roots i) → root_in q i ≡ root_in p i
  kept_root i some = go (get nat_cmp p.roots i) refl some
    where
      go : (o : Option ℕ) → get nat_cmp p.roots i ≡ o → IsSome o → root_in q i ≡ root_in p i
      go None e wrong = absurd (cc)
      go (Some s) e some = ap or_zero (it.roots i s e) ∙ sym (ap or_zero e)

  pub kept_binder : (x : ℕ) → binder_in q x ≡ binder_in p x
  kept_binder x = ap (λ bs. number_at bs x) it.binders

  kept_copy : (s : Scheme) (n : ℕ) → IsCopyAt p s n → IsCopyAt q s n
  kept_copy s n copy = record {
    inside = let more : size p ≤ size q = it.more in let low : n + length s.automaton.states ≤ size p = copy.inside in omega arith;
    behind = λ x m e. copy.behind x m (ap (λ bs. get nat_cmp bs x) (sym it.binders) ∙ e);
    states = λ k low. it.states (n + k) (let all : n + length s.automaton.states ≤ size p = copy.inside in omega arith) ∙ copy.states k low;
    flows = λ k l edge. it.flows (n + k) (n + l) (copy.flows k l edge);
    bound = λ entry l there edge. subst (λ m. HasFlow q.automaton m (n + l)) (sym (kept_binder entry.binder)) (it.flows (binder_in p entry.binder) (n + l) (copy.bound entry l there edge));
    needs = λ entry there. it.needs _ (copy.needs entry there);
  }

  pair_kept : (m n : ℕ) → IsGoalOf (constraint_of p) m n → IsGoalOf (constraint_of q) m n
  pair_kept m n there = pair_in q.goals m n (it.goals _ (goal_in p.goals m n there))

  abbrev HasRoot : ℕ → Type 0
  HasRoot k = IsSome (get nat_cmp p.roots k)

  module _ (good : IsGood p) (i : ℕ) (has : IsSome (get nat_cmp p.roots i)) where
    -- the root's state stays
    same_root : root_in q i ≡ root_in p i
    same_root = kept_root i has

    root_state : state_at q.automaton (root_in q i) ≡ state_at p.automaton (root_in p i)
    root_state = ap (state_at q.automaton) same_root ∙ it.states (root_in p i) (low (get nat_cmp p.roots i) refl has)
      where
        low : (o : Option ℕ) → get nat_cmp p.roots i ≡ o → IsSome o → root_in p i < size p
        low None e wrong = absurd (cc)
        low (Some s) e some = subst (λ r. r < size p) (sym (ap or_zero e)) (good.roots i s e).in_range

    into_root : (n : ℕ) → HasFlow p.automaton n (root_in p i) → HasFlow q.automaton n (root_in q i)
    into_root n edge = subst (HasFlow q.automaton n) (sym same_root) (it.flows n (root_in p i) edge)

    kept_goal : (j n : ℕ) → HasRoot j → IsGoal p.goals (root_in p j) n → IsGoal q.goals (root_in q j) n
    kept_goal j n root there = subst (λ r. IsGoal q.goals r n) (sym (kept_root j root)) (it.goals _ there)

    -- the states of its goals stay where they are
    rooted_pair : (j n : ℕ) → HasRoot j → IsGoalOf (constraint_of p) (root_in p j) n → IsGoalOf (constraint_of q) (root_in q j) n
    rooted_pair j n root there = subst (λ r. IsGoalOf (constraint_of q) r n) (sym (kept_root j root)) (pair_kept (root_in p j) n there)

    pub posed_at_kept : (f : TermForm) → HasPartsIn HasRoot f → IsPosedAt (constraint_of p) p f i → IsPosedAt (constraint_of q) q f i
    posed_at_kept (form.Bound x) parts at = tt
    posed_at_kept (form.Inner k) parts at = tt
    posed_at_kept (form.Global g) parts at = tt
    posed_at_kept (form.Number value) parts at = ap (λ (s : State). s.head.integer) root_state ∙ at
    posed_at_kept (form.Truth value) parts at = ap (λ (s : State). s.head.boolean) root_state ∙ at
    posed_at_kept (form.Fun x j) parts at = tt
    posed_at_kept (form.Apply j k) parts (arms, there, edge) =
        subst (IsAppliedAt (constraint_of q) q j k) (sym same_root) (
          ap (λ (s : State). s.head.function) (it.states (suc (suc (root_in p i))) (has_function p.automaton (suc (suc (root_in p i))) _ arms))
              ∙ (arms ∙ (λ l. Some (record { domain = sym (kept_root k parts.1) l ∷ []; codomain = suc (root_in p i) ∷ [] }))),
          rooted_pair j (suc (suc (root_in p i))) parts.0 there,
          it.flows (suc (root_in p i)) (root_in p i) edge,
        )
    posed_at_kept (form.Make parts) roots at = tt
    posed_at_kept (form.Project j label) parts (fields, there, edge) =
        subst (IsProjectedAt (constraint_of q) q j label) (sym same_root) (
          ap (λ (s : State). s.head.fields) (it.states (suc (suc (root_in p i))) (has_fields p.automaton (suc (suc (root_in p i))) _ fields)) ∙ fields,
          rooted_pair j (suc (suc (root_in p i))) parts there,
          it.flows (suc (root_in p i)) (root_in p i) edge,
        )
    posed_at_kept (form.If j k l) parts (bit, n, noted, head, first, second, third, edge) = (
      bit,
      n,
      it.results i n noted,
      ap (λ (s : State). s.head.boolean) (it.states bit (has_boolean p.automaton bit head)) ∙ head,
      rooted_pair j bit parts.0 first,
      rooted_pair k n parts.1 second,
      rooted_pair l n parts.2 third,
      into_root n edge,
    )
    posed_at_kept (form.Let k j l) parts at = tt
    posed_at_kept (form.Rec x j) parts at = tt

    -- its copy stays, from the same state on
    abbrev has_kept : (s : Scheme) → HasCopyAt p i s → HasCopyAt q i s
    has_kept s has = record { first = has.first; noted = it.copies i has.first has.noted; stands = kept_copy s has.first has.stands }

    module _ (known_global known_let : ℕ → Option Scheme) where
      abbrev Posed : Posing → TermForm → Type 0
      Posed r f = IsNodePosed r.automaton (IsGoal r.goals) (root_in r) (binder_in r) (IsUsePosed known_global known_let r) i f

      pub posed_kept : (f : TermForm) → HasPartsIn HasRoot f → Posed p f → Posed q f
      posed_kept (form.Bound x) parts edge = subst (λ n. HasFlow q.automaton n (root_in q i)) (sym (kept_binder x)) (into_root (binder_in p x) edge)
      posed_kept (form.Inner k) parts (s, is, has, root) = (s, is, has_kept s has, same_root ∙ root)
      posed_kept (form.Global g) parts (s, is, has, root) = (s, is, has_kept s has, same_root ∙ root)
      posed_kept (form.Number value) parts at = (ap (λ (s : State). s.polarity) root_state ∙ at.0, ap (λ (s : State). s.head.integer) root_state ∙ at.1)
      posed_kept (form.Truth value) parts at = (ap (λ (s : State). s.polarity) root_state ∙ at.0, ap (λ (s : State). s.head.boolean) root_state ∙ at.1)
      posed_kept (form.Fun x j) parts at = (
        ap (λ (s : State). s.polarity) root_state ∙ at.0,
        ap (λ (s : State). s.head.function) root_state
            ∙ (at.1 ∙ (λ k. Some (record { domain = sym (kept_binder x) k ∷ []; codomain = sym (kept_root j parts) k ∷ [] }))),
      )
      posed_kept (form.Apply j k) parts (g, n, head, there, edge) = (
        g,
        n,
        ap (λ (s : State). s.head.function) (it.states g (has_function p.automaton g _ head))
            ∙ (head ∙ (λ l. Some (record { domain = sym (kept_root k parts.1) l ∷ []; codomain = n ∷ [] }))),
        kept_goal j g parts.0 there,
        into_root n edge,
      )
      posed_kept (form.Make parts) roots (sets, polarity, fields, labels, each) = (
        sets,
        ap (λ (s : State). s.polarity) root_state ∙ polarity,
        ap (λ (s : State). s.head.fields) root_state ∙ fields,
        labels,
        λ part at. each part at ∙ ap (λ r. Some (r ∷ [])) (sym (kept_root part.child (roots part at))),
      )
      posed_kept (form.Project j label) parts (g, n, head, there, edge) = (
        g,
        n,
        ap (λ (s : State). s.head.fields) (it.states g (has_fields p.automaton g _ head)) ∙ head,
        kept_goal j g parts there,
        into_root n edge,
      )
      posed_kept (form.If j k l) parts (bit, n, head, first, second, third, edge) = (
        bit,
        n,
        ap (λ (s : State). s.head.boolean) (it.states bit (has_boolean p.automaton bit head)) ∙ head,
        kept_goal j bit parts.0 first,
        kept_goal k n parts.1 second,
        kept_goal l n parts.2 third,
        into_root n edge,
      )
      posed_kept (form.Let k j l) parts (root, (s, is, has)) = (same_root ∙ (root ∙ sym (kept_root l parts)), (s, is, has_kept s has))
      posed_kept (form.Rec x j) parts (root, there) = (
        same_root ∙ (root ∙ sym (kept_root j parts)),
        subst (λ n. IsGoal q.goals (root_in q j) n) (sym (kept_binder x)) (kept_goal j (binder_in p x) parts there),
      )
