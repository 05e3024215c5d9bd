-- Where the nodes of a part are posed and the needs of binders are met, the part is posed.
--     part_posed
use Rattle.std.proofs.Common.{◌≡◌, ℕ, suc, ◌+◌, ◌<◌, true, false, List, Contains, refl, sym, ap, ◌∙◌, subst, Option, Some, None, IsSome}
use Rattle.std.specs.BTreeMap.{BTreeMap, get}
use Rattle.std.specs.Ordering.{nat_cmp}
use Rattle.mls_book.specs.Predicates.{Predicate, Implies}
use Rattle.mls_automaton.specs.declared.automaton.Polarity.{Polarity}
use Rattle.mls_automaton.specs.declared.automaton.Polarity.TheVariants.{Negative, Positive}
use Rattle.mls_automaton.specs.declared.automaton.Arms.{Arms}
use Rattle.mls_automaton.specs.declared.automaton.FieldSet.{FieldSet}
use Rattle.mls_automaton.specs.declared.automaton.Flow.{Flow}
use Rattle.mls_automaton.specs.declared.automaton.Head.{Head}
use Rattle.mls_automaton.specs.declared.scheme.EnvEntry.{EnvEntry}
use Rattle.mls_automaton.specs.declared.scheme.Scheme.{Scheme}
use Rattle.mls_automaton.specs.Automata.{Automaton, empty_head, flow, head_at, polarity_at, HasFlow, IsState}
use Rattle.mls_automaton.specs.Heads.{head_value}
use Rattle.mls_automaton.specs.Models.{HasStatesIn, IsClosed, IsInside}
use Rattle.mls_solver.specs.Relations.{IsGoal}
use Rattle.mls_infer.proofs.Grown.{states_more}
use Rattle.mls_term.specs.declared.term.TermForm.{TermForm}
use Rattle.mls_term.specs.declared.term.TermForm.TheVariants as form
use Rattle.mls_term.specs.declared.term.TermNode.{TermNode}
use Rattle.mls_parts.specs.declared.pose.Need.{Need}
use Rattle.mls_parts.specs.declared.pose.Posing.{Posing}
use Rattle.mls_parts.specs.MetCopies.{HasCopy, IsUseMet}
use Rattle.mls_parts.specs.MetNeeds.{AreNeeds, HasMet, needy}
use Rattle.mls_parts.specs.PosedCopies.{HasCopyAt, IsGood, IsUsePosed}
use Rattle.mls_parts.specs.PosedGoals.{constraint_of, IsPosedAt}
use Rattle.mls_parts.specs.PosedModels.{HasModel}
use Rattle.mls_layout.specs.PosedNodes.{IsNodePosed}
use Rattle.mls_parts.specs.PosedParts.{ArePosable, HasKnownType, HavePosed, IsBegun, IsKnownType, IsPartPosed, IsPosable}
use Rattle.mls_parts.specs.Posings.{binder_in, known_in, number_at, or_zero, root_in}
use Rattle.mls_parts.proofs.BegunPosings.{begun_model}
use Rattle.mls_parts.proofs.MetCopies.{copy, copy_met, copy_root, plain}
use Rattle.mls_parts.proofs.PosedParts.{binder_state, binder_there}

-- what is needed may be met
module _ (q : Posing) (good : IsGood q) where
  needy_state : (need : Need) → Contains q.needs need → IsState q.automaton Negative (needy q.binders need) × (head_at q.automaton (needy q.binders need) ≡ empty_head)
  needy_state need there = go (get nat_cmp q.binders need.binder) refl (good.around need there)
    where
      go : (o : Option ℕ) → get nat_cmp q.binders need.binder ≡ o → IsSome o → IsState q.automaton Negative (needy q.binders need) × (head_at q.automaton (needy q.binders need) ≡ empty_head)
      go None e wrong = absurd (cc)
      go (Some s) e some =
          subst (λ n. IsState q.automaton Negative n × (head_at q.automaton n ≡ empty_head)) (sym (ap or_zero e)) (good.binders need.binder s e, good.no_head need.binder s e)

  pub are_needs : AreNeeds q.automaton q.binders q.needs
  are_needs = record { negative = λ need there. (needy_state need there).0; states = good.needs; labels = good.labels }

  module _ (a : Automaton) (met : HasMet q.binders q.needs q.automaton a) where
    abbrev r : Posing
    r = record q { automaton = a }

    state_met : (p : Polarity) (s : ℕ) → IsState q.automaton p s → IsState a p s
    state_met p s state = record { in_range = subst (λ n. s < n) (sym met.same_length) state.in_range; polarity = met.polarity s ∙ state.polarity }

    flow_met : (n s : ℕ) → HasFlow q.automaton n s → HasFlow a n s
    flow_met n s edge = subst (λ (fs : List Flow). Contains fs (flow n s)) (sym met.flows) edge

    flow_back : (n s : ℕ) → HasFlow a n s → HasFlow q.automaton n s
    flow_back n s edge = subst (λ (fs : List Flow). Contains fs (flow n s)) met.flows edge

    -- a head with a part stays, and so does that of a positive state
    head_kept : (s : ℕ) → (head_at q.automaton s ≡ empty_head → ⊥) → head_at a s ≡ head_at q.automaton s
    head_kept s other = met.others s (λ need there e. other (subst (λ n. head_at q.automaton n ≡ empty_head) e (needy_state need there).1))

    function_kept : (s : ℕ) (arms : Arms) → (head_at q.automaton s).function ≡ Some arms → (head_at a s).function ≡ Some arms
    function_kept s arms has =
        ap (λ (h : Head). h.function) (head_kept s (λ e. let none : (head_at q.automaton s).function ≡ None = ap (λ (h : Head). h.function) e in absurd (cc))) ∙ has

    fields_kept : (s : ℕ) (fields : List FieldSet) → (head_at q.automaton s).fields ≡ Some fields → (head_at a s).fields ≡ Some fields
    fields_kept s fields has =
        ap (λ (h : Head). h.fields) (head_kept s (λ e. let none : (head_at q.automaton s).fields ≡ None = ap (λ (h : Head). h.fields) e in absurd (cc))) ∙ has

    boolean_kept : (s : ℕ) → (head_at q.automaton s).boolean ≡ true → (head_at a s).boolean ≡ true
    boolean_kept s has =
        ap (λ (h : Head). h.boolean) (head_kept s (λ e. let none : (head_at q.automaton s).boolean ≡ false = ap (λ (h : Head). h.boolean) e in absurd (cc))) ∙ has

    positive_kept : (s : ℕ) → polarity_at q.automaton s ≡ Positive → head_at a s ≡ head_at q.automaton s
    positive_kept s is = met.others s (λ need there e.
        let negative : polarity_at q.automaton s ≡ Negative = subst (λ n. polarity_at q.automaton n ≡ Negative) e (needy_state need there).0.polarity in
        cc)

    pub closed_met : IsClosed a
    closed_met = record {
      heads = λ s.
          subst (λ (p : Polarity). HasStatesIn (IsState a) p (head_at a s)) (sym (met.polarity s))
          (states_more (IsState q.automaton) (IsState a) state_met (polarity_at q.automaton s) (head_at a s) (met.states s));
      labels = met.labels;
      negative = λ f there. state_met Negative f.negative.0 (good.closed.negative f (flow_back f.negative.0 f.positive.0 there));
      positive = λ f there. state_met Positive f.positive.0 (good.closed.positive f (flow_back f.negative.0 f.positive.0 there));
    }

    pub model_met : (type binder : ℕ → Predicate) → HasModel q type binder → HasModel r type binder
    model_met type binder m = record {
      value = m.value;
      types_are = m.types_are;
      model = record {
        flows = λ f there. m.model.flows f (flow_back f.negative.0 f.positive.0 there);
        heads = λ s. inside s (polarity_at q.automaton s) refl;
      };
      goals = m.goals;
      roots = m.roots;
      binders = m.binders;
      results = m.results;
      needs = m.needs;
    }
      where
        needed : (s : ℕ) (need : Need) → Contains q.needs need → needy q.binders need ≡ s → Implies (m.value s) (head_value Negative m.value need.head)
        needed s need there e = go (get nat_cmp q.binders need.binder) refl (good.around need there)
          where
            go : (o : Option ℕ) → get nat_cmp q.binders need.binder ≡ o → IsSome o → Implies (m.value s) (head_value Negative m.value need.head)
            go None e' wrong = absurd (cc)
            go (Some n) e' some =
                let same : m.value s ≡ binder need.binder = ap m.value (sym e ∙ ap or_zero e') ∙ m.binders need.binder n e' in
                subst (λ f. Implies f (head_value Negative m.value need.head)) (sym same) (m.needs need there)

        inside : (s : ℕ) (p : Polarity) → polarity_at q.automaton s ≡ p → IsInside (polarity_at a s) (head_value (polarity_at a s) m.value (head_at a s)) (m.value s)
        inside s Positive is =
            subst (λ (p : Polarity). IsInside p (head_value p m.value (head_at a s)) (m.value s)) (sym (met.polarity s))
            (subst (λ (h : Head). IsInside (polarity_at q.automaton s) (head_value (polarity_at q.automaton s) m.value h) (m.value s)) (sym (positive_kept s is)) (m.model.heads s))
        inside s Negative is =
            subst (λ (p : Polarity). IsInside p (head_value p m.value (head_at a s)) (m.value s)) (sym (met.polarity s ∙ is))
            (met.below m.value s (m.value s) (subst (λ (p : Polarity). IsInside p (head_value p m.value (head_at q.automaton s)) (m.value s)) is (m.model.heads s)) (needed s))

    module _ (binders : List ℕ) (globals lets : BTreeMap ℕ Scheme) (around : (x : ℕ) → Contains binders x → IsState q.automaton Negative (binder_in q x))
        (i : ℕ) (root_state : IsState q.automaton Positive (root_in q i)) where
      abbrev MetUse : ℕ → TermForm → Type 0
      MetUse = IsUseMet (known_in globals) (known_in lets) a (root_in q) (binder_in q) q.copies

      use_met : (s : Scheme) (o : Option Scheme) → HasKnownType binders o → o ≡ Some s → (at : HasCopyAt q i s) → (has : HasCopy a (binder_in q) q.copies i s) × (has.copy s.root.0 ≡ at.first + s.root.0)
      use_met s None known e at = absurd known
      use_met s (Some t) known e at =
          let same : t ≡ s = cc in
          let is : IsKnownType binders s = subst (IsKnownType binders) same known in
          let entries : (entry : EnvEntry) → Contains s.env entry → IsState q.automaton Negative (binder_in q entry.binder) = λ entry there. around entry.binder (is.around entry there) in (
            record {
              copy = copy binders q a s at.first is at.stands met entries low;
              met = copy_met binders q a s at.first is at.stands met entries low;
              first = at.first;
              noted = at.noted;
              stands = plain binders q a s at.first is at.stands met entries low;
            },
            copy_root binders q a s at.first is at.stands met entries low,
          )
        where
          low : (need : Need) → Contains q.needs need → needy q.binders need < at.first
          low need there = go (get nat_cmp q.binders need.binder) refl (good.around need there)
            where
              go : (o : Option ℕ) → get nat_cmp q.binders need.binder ≡ o → IsSome o → needy q.binders need < at.first
              go None e' wrong = absurd (cc)
              go (Some m) e' some = subst (λ k. k < at.first) (sym (ap or_zero e')) (at.stands.behind need.binder m e')

      pub node_met : (f : TermForm) → IsPosable binders globals lets f → IsNodePosed q.automaton (IsGoal q.goals) (root_in q) (binder_in q) (IsUsePosed (known_in globals) (known_in lets) q) i f
          → IsNodePosed a (IsGoal q.goals) (root_in q) (binder_in q) MetUse i f
      node_met (form.Bound x) can edge = flow_met (binder_in q x) (root_in q i) edge
      node_met (form.Inner k) can (s, is, at, root) = let it = use_met s (known_in lets k) can is at in (s, is, it.0, root ∙ sym it.1)
      node_met (form.Global g) can (s, is, at, root) = let it = use_met s (known_in globals g) can is at in (s, is, it.0, root ∙ sym it.1)
      node_met (form.Number value) can it = (met.polarity (root_in q i) ∙ it.0, ap (λ (h : Head). h.integer) (positive_kept (root_in q i) it.0) ∙ it.1)
      node_met (form.Truth value) can it = (met.polarity (root_in q i) ∙ it.0, ap (λ (h : Head). h.boolean) (positive_kept (root_in q i) it.0) ∙ it.1)
      node_met (form.Fun x j) can it = (met.polarity (root_in q i) ∙ it.0, ap (λ (h : Head). h.function) (positive_kept (root_in q i) it.0) ∙ it.1)
      node_met (form.Apply j k) can (g, n, head, up, edge) = (g, n, function_kept g _ head, up, flow_met n (root_in q i) edge)
      node_met (form.Make parts) can (sets, polarity, fields, labels, each) = (
        sets,
        met.polarity (root_in q i) ∙ polarity,
        ap (λ (h : Head). h.fields) (positive_kept (root_in q i) polarity) ∙ fields,
        labels,
        each,
      )
      node_met (form.Project j label) can (g, n, head, up, edge) = (g, n, fields_kept g _ head, up, flow_met n (root_in q i) edge)
      node_met (form.If j k l) can (bit, n, head, first, second, third, edge) = (bit, n, boolean_kept bit head, first, second, third, flow_met n (root_in q i) edge)
      node_met (form.Let k j l) can (same, (s, is, at)) = (same, (s, is, (use_met s (known_in lets k) can is at).0))
      node_met (form.Rec x j) can it = it

      -- the states of goals stay where they are
      pub node_met_at : (f : TermForm) → IsPosedAt (constraint_of q) q f i → IsPosedAt (constraint_of r) r f i
      node_met_at (form.Bound x) at = tt
      node_met_at (form.Inner k) at = tt
      node_met_at (form.Global g) at = tt
      node_met_at (form.Number value) at = ap (λ (h : Head). h.integer) (positive_kept (root_in q i) root_state.polarity) ∙ at
      node_met_at (form.Truth value) at = ap (λ (h : Head). h.boolean) (positive_kept (root_in q i) root_state.polarity) ∙ at
      node_met_at (form.Fun x j) at = tt
      node_met_at (form.Apply j k) (arms, up, edge) = (function_kept (suc (suc (root_in q i))) _ arms, up, flow_met (suc (root_in q i)) (root_in q i) edge)
      node_met_at (form.Make parts) at = tt
      node_met_at (form.Project j label) (fields, up, edge) = (fields_kept (suc (suc (root_in q i))) _ fields, up, flow_met (suc (root_in q i)) (root_in q i) edge)
      node_met_at (form.If j k l) (bit, n, noted, head, first, second, third, edge) =
          (bit, n, noted, boolean_kept bit head, first, second, third, flow_met n (root_in q i) edge)
      node_met_at (form.Let k j l) at = tt
      node_met_at (form.Rec x j) at = tt

pub part_posed : (nodes : List TermNode) (globals lets : BTreeMap ℕ Scheme) (binders part : List ℕ) (begun q : Posing) (a : Automaton) → IsBegun binders begun → ArePosable binders nodes part globals lets
    → HavePosed nodes globals lets begun q part → HasMet q.binders q.needs q.automaton a
    → IsPartPosed nodes globals lets binders part (record q { automaton = a })
part_posed nodes globals lets binders part begun q a is_begun posable it met = record {
  closed = closed_met q it.good a met;
  goals = λ g there. let at = it.good.goals g there in (state_met q it.good a met Positive g.positive.0 at.0, state_met q it.good a met Negative g.negative.0 at.1);
  roots = λ i there. state_met q it.good a met Positive (root_in q i) (root i there);
  around = λ x there. state_met q it.good a met Negative (binder_in q x) (around x there);
  rooted = λ i there. number_is q.roots i (it.rooted i there);
  bound = λ x there. number_is q.binders x (binder_there binders globals lets begun q is_begun it.extends it.good x there);
  posed = λ i f there e. node_met q it.good a met binders globals lets around i (root i there) f (posable i f there e) (it.posed i f there e);
  posed_at = λ i f there e. node_met_at q it.good a met binders globals lets around i (root i there) f (it.posed_at i f there e);
  models = λ known over type binder types binder_types typed.
      model_met q it.good a met type binder (it.models known over type binder types typed (begun_model binders begun is_begun type binder binder_types));
}
  where
    number_is : (numbers : BTreeMap ℕ ℕ) (k : ℕ) → IsSome (get nat_cmp numbers k) → get nat_cmp numbers k ≡ Some (number_at numbers k)
    number_is numbers k there = go (get nat_cmp numbers k) there
      where
        go : (o : Option ℕ) → IsSome o → o ≡ Some (or_zero o)
        go None wrong = absurd (cc)
        go (Some s) some = refl

    around : (x : ℕ) → Contains binders x → IsState q.automaton Negative (binder_in q x)
    around = binder_state binders globals lets begun q is_begun it.extends it.good

    root : (i : ℕ) → Contains part i → IsState q.automaton Positive (root_in q i)
    root i there = go (get nat_cmp q.roots i) refl (it.rooted i there)
      where
        go : (o : Option ℕ) → get nat_cmp q.roots i ≡ o → IsSome o → IsState q.automaton Positive (root_in q i)
        go None e wrong = absurd (cc)
        go (Some s) e some = subst (IsState q.automaton Positive) (sym (ap or_zero e)) (it.good.roots i s e)
