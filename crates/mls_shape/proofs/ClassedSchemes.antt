-- A scheme that is put together of classes has one state for each class.
--     class_ends          the classes of the ends of edges are states
--     flows_next, flows_whole    the edges are added one after another
--     classed_scheme      it is a scheme
--     classed_minimised   it is the one of the definition
use Rattle.std.proofs.Common.{◌≡◌, ◌⊎◌, inl, inr, ℕ, ◌+◌, ◌<◌, ◌≤◌, List, [], ◌∷◌, map, take, refl, sym, ap, ◌∙◌, subst, arith, length, get_or, All, Contains, Some, None}
use Rattle.std.specs.Prelude.{◌↔◌, Option, option_map}
use Rattle.std.proofs.lemmas.Bool.{cases_lt}
use Rattle.std.proofs.lemmas.List.{get_or-map, get_or_past, length-map, take_all}
use Rattle.std.proofs.lemmas.List.Elements.{All-head, All-tail}
use Rattle.mls_automaton.specs.declared.automaton.Polarity.{Polarity}
use Rattle.mls_automaton.specs.declared.automaton.Polarity.TheVariants.{Positive, Negative}
use Rattle.mls_automaton.specs.declared.automaton.Arms.{Arms}
use Rattle.mls_automaton.specs.declared.automaton.FieldSet.{FieldSet}
use Rattle.mls_automaton.specs.declared.automaton.Head.{Head}
use Rattle.mls_automaton.specs.declared.automaton.State.{State}
use Rattle.mls_automaton.specs.declared.automaton.Flow.{Flow}
use Rattle.mls_automaton.specs.declared.scheme.Scheme.{Scheme}
use Rattle.mls_automaton.specs.Automata.{Automaton, state_at, head_at, polarity_at, empty_head, flow, HasFlow, IsState}
use Rattle.mls_automaton.specs.Embeddings.{renamed_arms, renamed_field, renamed_head}
use Rattle.mls_automaton.specs.Models.{HasStatesIn, HasRisingLabels, IsSingle, HasSingleArms, HasSingleFields, IsClosed, IsDeterministic}
use Rattle.mls_automaton.specs.Schemes.{state_of, IsScheme}
use Rattle.mls_automaton.specs.steps.Keeping.{renamed_entry}
use Rattle.mls_automaton.proofs.Appends.{renamed_states, renamed_labels}
use Rattle.mls_automaton.proofs.KeptSchemes.{state_of-renamed}
use Rattle.mls_automaton.proofs.Lists.{All-contained}
use Rattle.mls_automaton.proofs.Searches.{next-more, next-last, next-cases}
use Rattle.mls_shape.specs.declared.classes.Classes.{Classes}
use Rattle.mls_shape.specs.Alike.{IsAlike}
use Rattle.mls_shape.specs.Minimised.{IsMinimised}
use Rattle.mls_shape.specs.steps.Classes.{class_in, one_of, AreClasses}
use Rattle.mls_shape.specs.steps.Classed.{classed_set, classed_arms, classed_field, classed_head, classed_state, HasClassEnds, IsFlowOfClasses, IsClassed}
use Rattle.mls_shape.specs.steps.Edges.{AddsFlows}
use Rattle.mls_shape.proofs.AddedFlows.{flows-none, flows-then}

-- sets of one member
module _ (class : ℕ → ℕ) where
  set_renamed : (set : List ℕ) → IsSingle set → classed_set class set ≡ map class set
  set_renamed set one = ap (λ xs. class (one_of xs) ∷ []) one.1 ∙ sym (ap (map class) one.1)

  function_renamed : (o : Option Arms) → HasSingleArms o → option_map (classed_arms class) o ≡ option_map (renamed_arms class) o
  function_renamed None single = refl
  function_renamed (Some arms) single = λ i. Some (record { domain = set_renamed arms.domain single.0 i; codomain = set_renamed arms.codomain single.1 i })

  fields_renamed : (fields : List FieldSet) → All (λ (f : FieldSet). IsSingle f.set) fields → map (classed_field class) fields ≡ map (renamed_field class) fields
  fields_renamed [] single = refl
  fields_renamed (f ∷ fields) single = λ i.
      record { label = f.label; set = set_renamed f.set (All-head (λ (f : FieldSet). IsSingle f.set) f fields single) i }
      ∷ fields_renamed fields (All-tail (λ (f : FieldSet). IsSingle f.set) f fields single) i

  record_renamed : (o : Option (List FieldSet)) → HasSingleFields o → option_map (map (classed_field class)) o ≡ option_map (map (renamed_field class)) o
  record_renamed None single = refl
  record_renamed (Some fields) single = ap Some (fields_renamed fields single)

  head_renamed : (h : Head) → HasSingleArms h.function × HasSingleFields h.fields → classed_head class h ≡ renamed_head class h
  head_renamed h single = λ i. record {
    boolean = h.boolean;
    integer = h.integer;
    function = function_renamed h.function single.0 i;
    fields = record_renamed h.fields single.1 i;
  }

abbrev nothing : State
nothing = record { polarity = Positive; head = empty_head }

-- the states of classes
module _ (a : Automaton) (closed : IsClosed a) (single : IsDeterministic a) (c : Classes) (are : AreClasses a c) (b : Automaton)
    (states : b.states ≡ map (λ s. classed_state (class_in c.numbers.items) (state_at a s)) c.chosen.items) where
  abbrev class : ℕ → ℕ
  class = class_in c.numbers.items

  abbrev chosen : ℕ → ℕ
  chosen k = get_or c.chosen.items k 0

  pub class_count : length b.states ≡ length c.chosen.items
  class_count = ap length states ∙ length-map c.chosen.items (λ s. classed_state class (state_at a s))

  pub class_state_is : (k : ℕ) → k < length b.states → state_at b k ≡ classed_state class (state_at a (chosen k))
  class_state_is k low =
      let size = class_count in
      ap (λ xs. get_or xs k nothing) states ∙ get_or-map (λ s. classed_state class (state_at a s)) c.chosen.items k 0 nothing (omega arith)

  pub class_head_is : (k : ℕ) → k < length b.states → head_at b k ≡ renamed_head class (head_at a (chosen k))
  class_head_is k low = ap (λ (st : State). st.head) (class_state_is k low) ∙ head_renamed class (head_at a (chosen k)) (single (chosen k))

  pub class_polarity_is : (k : ℕ) → k < length b.states → polarity_at b k ≡ polarity_at a (chosen k)
  class_polarity_is k low = ap (λ (st : State). st.polarity) (class_state_is k low)

  pub class_state : (q : Polarity) (i : ℕ) → IsState a q i → IsState b q (class i)
  class_state q i state =
      let size = class_count in
      let low : class i < length c.chosen.items = are.low i state.in_range in
      let first = are.chosen (class i) low in
      let alike : IsAlike a (chosen (class i)) i = (are.classes (chosen (class i)) i first.0 state.in_range).0 first.1 in
      record {
        in_range = omega arith;
        polarity = class_polarity_is (class i) (omega arith) ∙ ((alike.1 (chosen (class i)) i first.0 state.in_range alike.2).polarity ∙ state.polarity);
      }

  pub class_ends : All (HasClassEnds b class) a.flows
  class_ends = All-contained (HasClassEnds b class) a.flows (λ f there. (class_state Negative f.negative.0 (closed.negative f there), class_state Positive f.positive.0 (closed.positive f there)))

  pub class_heads : (k : ℕ) → HasStatesIn (IsState b) (polarity_at b k) (head_at b k)
  class_heads k =
      elim (cases_lt k (length b.states)) [
        | inl less ↦
            let p : Polarity = polarity_at a (chosen k) in
            subst (λ q. HasStatesIn (IsState b) q (head_at b k)) (sym (class_polarity_is k less))
            (subst (HasStatesIn (IsState b) p) (sym (class_head_is k less))
            (renamed_states class (IsState a) (IsState b) class_state p (head_at a (chosen k)) (closed.heads (chosen k))))
        | inr more ↦ subst (λ (st : State). HasStatesIn (IsState b) st.polarity st.head) (sym (get_or_past b.states k nothing more)) (record { function = tt; fields = tt })
      ]

  pub class_labels : (k : ℕ) → HasRisingLabels (head_at b k).fields
  class_labels k =
      elim (cases_lt k (length b.states)) [
        | inl less ↦ subst (λ (h : Head). HasRisingLabels h.fields) (sym (class_head_is k less)) (renamed_labels class (head_at a (chosen k)).fields (closed.labels (chosen k)))
        | inr more ↦ subst (λ (st : State). HasRisingLabels st.head.fields) (sym (get_or_past b.states k nothing more)) tt
      ]

-- edges, one after another
module _ (class : ℕ → ℕ) (flows : List Flow) (old : Automaton) where
  abbrev none : Flow
  none = flow 0 0

  pub flows_begun : AddsFlows old old (IsFlowOfClasses class (take 0 flows))
  flows_begun = flows-none old (IsFlowOfClasses class (take 0 flows)) (λ k l it. let low : it.1.0 < 0 = it.1.1 in absurd (omega arith))

  module _ (i : ℕ) (low : i < length flows) (d : Flow) (mid new : Automaton) (n p : ℕ) (so_far : AddsFlows old mid (IsFlowOfClasses class (take i flows)))
      (same : new.states ≡ mid.states) (adds : (k l : ℕ) → HasFlow new k l ↔ HasFlow mid k l ⊎ ((k ≡ n) × (l ≡ p)))
      (is_n : n ≡ class (get_or flows i d).negative.0) (is_p : p ≡ class (get_or flows i d).positive.0) where
    abbrev IsOne : ℕ → ℕ → Type 0
    IsOne k l = (k ≡ n) × (l ≡ p)

    pub flows_next : AddsFlows old new (IsFlowOfClasses class (take (i + 1) flows))
    flows_next =
        flows-then old mid new (IsFlowOfClasses class (take i flows)) IsOne (IsFlowOfClasses class (take (i + 1) flows)) so_far
        (record { states = same; kept = λ k l it. (adds k l).1 (inl it); sound = λ k l it. (adds k l).0 it; complete = λ k l it. (adds k l).1 (inr it) })
        (λ k l it. (it.0, next-more flows i d low it.0 it.1, it.2, it.3))
        (λ k l it. (get_or flows i d, next-last flows i d low, sym is_n ∙ sym it.0, sym is_p ∙ sym it.1))
        (λ k l it.
        elim (next-cases flows i d low it.0 it.1) [
          | inl before ↦ inl (it.0, before, it.2, it.3)
          | inr last ↦ inr (
            sym it.2 ∙ (ap (λ (f : Flow). class f.negative.0) (sym last) ∙ sym is_n),
            sym it.3 ∙ (ap (λ (f : Flow). class f.positive.0) (sym last) ∙ sym is_p),
          )
        ])

  pub flows_whole : (i : ℕ) (new : Automaton) → length flows ≤ i → AddsFlows old new (IsFlowOfClasses class (take i flows)) → AddsFlows old new (IsFlowOfClasses class flows)
  flows_whole i new all it = subst (λ (fs : List Flow). AddsFlows old new (IsFlowOfClasses class fs)) (take_all i flows all) it

-- put together, with numbers and edges as slices
pub put_together : (s m : Scheme) (c : Classes) → AreClasses s.automaton c → (b : Automaton)
    → b.states ≡ map (λ k. classed_state (class_in c.numbers.items) (state_at s.automaton k)) c.chosen.items → b.flows ≡ []
    → (numbers : List ℕ) (flows : List Flow) → numbers ≡ c.numbers.items → flows ≡ s.automaton.flows
    → AddsFlows b m.automaton (IsFlowOfClasses (class_in numbers) flows)
    → m.env ≡ map (renamed_entry (class_in numbers)) s.env
    → m.root.0 ≡ class_in numbers s.root.0
    → IsClassed s m
put_together s m c are b states no_flows numbers flows same_numbers same_flows adds env root = record {
  classes = c;
  are = are;
  without_flows = b;
  states = states;
  no_flows = no_flows;
  flows =
      subst (λ (xs : List ℕ). AddsFlows b m.automaton (IsFlowOfClasses (class_in xs) s.automaton.flows)) same_numbers
      (subst (λ (fs : List Flow). AddsFlows b m.automaton (IsFlowOfClasses (class_in numbers) fs)) same_flows adds);
  env = env ∙ ap (λ xs. map (renamed_entry (class_in xs)) s.env) same_numbers;
  root = root ∙ ap (λ xs. class_in xs s.root.0) same_numbers;
}

module _ (s m : Scheme) (is : IsScheme s) (single : IsDeterministic s.automaton) (it : IsClassed s m) where
  abbrev a' : Automaton
  a' = s.automaton

  abbrev e : Automaton
  e = m.automaton

  abbrev number : ℕ → ℕ
  number = class_in it.classes.numbers.items

  abbrev first : ℕ → ℕ
  first k = get_or it.classes.chosen.items k 0

  states_are : e.states ≡ map (λ s. classed_state number (state_at a' s)) it.classes.chosen.items
  states_are = it.flows.states ∙ it.states

  state_to : (q : Polarity) (i : ℕ) → IsState a' q i → IsState e q (number i)
  state_to = class_state a' is.automaton single it.classes it.are e states_are

  count : length e.states ≡ length it.classes.chosen.items
  count = class_count a' is.automaton single it.classes it.are e states_are

  flow_of : (k l : ℕ) → HasFlow e k l → IsFlowOfClasses number a'.flows k l
  flow_of k l edge = elim (it.flows.sound k l edge) [
    | inl old ↦ absurd (no_flow (subst (λ (fs : List Flow). Contains fs (flow k l)) it.no_flows old))
    | inr new ↦ new
  ]
    where
      no_flow : Contains [] (flow k l) → ⊥
      no_flow there = let low : there.0 < 0 = there.1 in omega arith

  negative_end : (k l : ℕ) → HasFlow e k l → IsState e Negative k
  negative_end k l edge = let f = flow_of k l edge in subst (IsState e Negative) f.2 (state_to Negative f.0.negative.0 (is.automaton.negative f.0 f.1))

  positive_end : (k l : ℕ) → HasFlow e k l → IsState e Positive l
  positive_end k l edge = let f = flow_of k l edge in subst (IsState e Positive) f.3 (state_to Positive f.0.positive.0 (is.automaton.positive f.0 f.1))

  env_is : (x : ℕ) → state_of m.env x ≡ option_map number (state_of s.env x)
  env_is x = ap (λ env. state_of env x) it.env ∙ state_of-renamed number s.env x

  binder_state : (o : Option ℕ) → ((i : ℕ) → o ≡ Some i → IsState a' Negative i) → (n : ℕ) → option_map number o ≡ Some n → IsState e Negative n
  binder_state None each n found = absurd (cc)
  binder_state (Some i) each n found =
      let same : number i ≡ n = cc in
      subst (IsState e Negative) same (state_to Negative i (each i refl))

  pub classed_scheme : IsScheme m
  classed_scheme = record {
    automaton = record {
      heads = class_heads a' is.automaton single it.classes it.are e states_are;
      labels = class_labels a' is.automaton single it.classes it.are e states_are;
      negative = λ f there. negative_end f.negative.0 f.positive.0 there;
      positive = λ f there. positive_end f.negative.0 f.positive.0 there;
    };
    root = subst (IsState e Positive) (sym it.root) (state_to Positive s.root.0 is.root);
    env = λ x n found. binder_state (state_of s.env x) (is.env x) n (sym (env_is x) ∙ found);
  }

  pub classed_minimised : IsMinimised s m
  classed_minimised = record {
    class_of = number;
    in_range = λ i low. let size = count in let below = it.are.low i low in omega arith;
    classes = it.are.classes;
    chosen = first;
    is_chosen = λ k low. it.are.chosen k (let size = count in omega arith);
    polarity = class_polarity_is a' is.automaton single it.classes it.are e states_are;
    head = class_head_is a' is.automaton single it.classes it.are e states_are;
    flows = λ k l. (
      (λ edge. let f = flow_of k l edge in (f.0.negative.0, f.0.positive.0, f.1, f.2, f.3)),
      (λ found. it.flows.complete k l (flow found.0 found.1, found.2, found.3, found.4)),
    );
    root = it.root;
    env = env_is;
  }
