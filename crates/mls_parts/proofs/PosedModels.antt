-- A model of a constraint goes on over what a node adds, where the node is typed as its form asks.
--     adds_model
--     node_model
--     shared_model        the same for a use that shares the copy of another one
use Rattle.std.proofs.Common.{◌≡◌, ◌⊎◌, inl, inr, ℕ, zero, suc, ◌+◌, ◌<◌, Bool, true, false, List, [], ◌∷◌, map, length, get_or, Contains, refl, sym, ap, ◌∙◌, subst, arith, Option, Some, None, IsSome}
use Rattle.std.specs.Prelude.{bytes_eq, cond, find, option_map}
use Rattle.std.proofs.lemmas.Slice.Eq.{bytes_eq-Decides}
use Rattle.std.specs.BTreeMap.{BTreeMap, get}
use Rattle.std.specs.Ordering.{nat_cmp, is_eq}
use Rattle.std.proofs.Math.ListN.{get_or-append, get_or-map}
use Rattle.std.proofs.lemmas.List.{get_or_past, length-map}
use Rattle.std.proofs.lemmas.List.Elements.{Contains-append_cases}
use Rattle.mls_book.specs.Passes.{passes_by}
use Rattle.mls_book.specs.Predicates.{Predicate, Implies, arrow, bool, rcd, top}
use Rattle.mls_book.specs.Schemes as book
use Rattle.mls_book.proofs.Constructors.{rcd-implies}
use Rattle.mls_book.proofs.LongerBooks.{below_or_more}
use Rattle.mls_automaton.specs.declared.automaton.Polarity.{Polarity}
use Rattle.mls_automaton.specs.declared.automaton.Polarity.TheVariants.{Negative, Positive}
use Rattle.mls_automaton.specs.declared.automaton.Flow.{Flow}
use Rattle.mls_automaton.specs.declared.automaton.Head.{Head}
use Rattle.mls_automaton.specs.declared.automaton.State.{State}
use Rattle.mls_automaton.specs.Automata.{empty_head, flow, state_at, polarity_at, head_at, opposite, HasFlow, IsState}
use Rattle.mls_automaton.specs.Embeddings.{renamed_head, renamed_state}
use Rattle.mls_automaton.specs.Heads.{head_value, record_value, set_at, set_value}
use Rattle.mls_automaton.specs.Schemes.{IsScheme, IsSchemeOf}
use Rattle.mls_automaton.proofs.Lists.{Contains-cases, Contains-here, Contains-later, Contains-map_back}
use Rattle.mls_book.specs.Schemes.{binder_passes}
use Rattle.mls_automaton.specs.Models.{IsInside, IsModel}
use Rattle.mls_solver.specs.declared.goal.Goal.{Goal}
use Rattle.mls_infer.proofs.HeadValues.{bool_value, empty_value, function_head-value, int_value, record_head-value, set_one}
use Rattle.mls_infer.proofs.Grown.{head_value-agree, head_value-moved, model_agree, states_more}
use Rattle.mls_term.specs.Derivations.{Known}
use Rattle.mls_term.specs.declared.term.Part.{Part}
use Rattle.mls_term.specs.declared.term.TermForm.{TermForm}
use Rattle.mls_term.specs.declared.term.TermForm.TheVariants as form
use Rattle.mls_term.specs.declared.term.TermNode.{TermNode}
use Rattle.mls_typing.specs.Typed.{IsType}
use Rattle.mls_typing.specs.Typed.{one_field as typed_field}
use Rattle.mls_automaton.specs.declared.automaton.FieldSet.{FieldSet}
use Rattle.mls_parts.specs.NodeTypes.{HasInstance, IsConditional, IsNodeTyped, part_types}
use Rattle.mls_layout.specs.PosedNodes.{HasPartsIn}
use Rattle.mls_typing.proofs.Contexts.{same_key}
use Rattle.mls_parts.specs.declared.pose.Need.{Need}
use Rattle.mls_parts.specs.declared.pose.Posing.{Posing}
use Rattle.mls_parts.specs.PosedCopies.{HasBinder, HasBinderOf, IsGood}
use Rattle.mls_parts.specs.PosedModels.{AreOver, HasModel}
use Rattle.mls_parts.proofs.GoodPosings.{known_from}
use Rattle.mls_book.proofs.Depths.{Implies-same, Implies-trans}
use Rattle.mls_parts.specs.steps.Sharing.{HasNoEdges, IsWithoutEdges, shared_added}
use Rattle.mls_parts.specs.Posings.{Added, Adds, AddsNode, CanPose, known_in, IsCopiedEdge, IsKnownTo, NoEdge, OneEdge, binder_in, bool_head, choice_goals, copied_need, copy_added, fix_added, function_head, goal, int_head, IsBranch, joined_choice_added, literal_added, negative, one_field, or_zero, positive, record_head, copy_in, root_in, size}
use Rattle.mls_automaton.specs.declared.scheme.EnvEntry.{EnvEntry}
use Rattle.mls_automaton.specs.declared.scheme.Scheme.{Scheme}
use Rattle.mls_automaton.proofs.BookValues.{root-value}
use Rattle.mls_automaton.proofs.StatesHeld.{state_passes-agree}
use Rattle.mls_parts.proofs.TypedModels.{IsCopiedModel, copied_model}
use Rattle.mls_parts.proofs.HeldTypes.{arrow_type, bool_type, field_type, top_type}
use Rattle.mls_parts.proofs.PosedByNode.{new_state, none_noted, noted_cases}

-- these values below n, and others from n on
abbrev pub extended : ℕ → (ℕ → Predicate) → (ℕ → Predicate) → ℕ → Predicate
extended zero old new s = new s
extended (suc n) old new zero = old zero
extended (suc n) old new (suc s) = extended n (λ k. old (suc k)) new s

pub extended_old : (n : ℕ) (old new : ℕ → Predicate) (s : ℕ) → s < n → extended n old new s ≡ old s
extended_old zero old new s low = absurd (omega arith)
extended_old (suc n) old new zero low = refl
extended_old (suc n) old new (suc s) low = extended_old n (λ k. old (suc k)) new s (omega arith)

pub extended_new : (n : ℕ) (old new : ℕ → Predicate) (k : ℕ) → extended n old new (n + k) ≡ new k
extended_new zero old new k = let at : 0 + k ≡ k = omega arith in ap new at
extended_new (suc n) old new k =
    let at : suc n + k ≡ suc (n + k) = omega arith in
    ap (extended (suc n) old new) at ∙ extended_new n (λ k. old (suc k)) new k

pub extended_types : (n : ℕ) (old new : ℕ → Predicate) → ((s : ℕ) → s < n → IsType (old s)) → ((k : ℕ) → IsType (new k)) → (s : ℕ) → IsType (extended n old new s)
extended_types zero old new olds news s = news s
extended_types (suc n) old new olds news zero = olds 0 (omega arith)
extended_types (suc n) old new olds news (suc s) = extended_types n (λ k. old (suc k)) new (λ k low. olds (suc k) (omega arith)) news s

module _ (p q : Posing) (i : ℕ) (new : Added) (IsEdge : ℕ → ℕ → Type 0) (it : Adds p q i new IsEdge) (good : IsGood p) (type binder : ℕ → Predicate) (m : HasModel p type binder)
    (fresh : ℕ → Predicate) (are : (k : ℕ) → IsType (fresh k)) where
  abbrev pub value : ℕ → Predicate
  value = extended (size p) m.value fresh

  pub old_value : (r : Polarity) (s : ℕ) → IsState p.automaton r s → value s ≡ m.value s
  old_value r s state = extended_old (size p) m.value fresh s state.in_range

  abbrev IsMet : ℕ → State → Type 0
  IsMet s x = IsInside x.polarity (head_value x.polarity value x.head) (value s)

  pub adds_model : ((k : ℕ) → IsMet (size p + k) (state_at q.automaton (size p + k))) → ((n s : ℕ) → IsEdge n s → Implies (value n) (value s))
      → ((g : Goal) → Contains new.goals g → Implies (value g.positive.0) (value g.negative.0)) → value new.root ≡ type i
      → ((need : Need) → Contains new.needs need → Implies (binder need.binder) (head_value Negative value need.head))
      → ((n : ℕ) → new.result ≡ Some n → value n ≡ type i)
      → HasModel q type binder
  adds_model states edges goals root needs noted = record {
    value = value;
    types_are = extended_types (size p) m.value fresh (λ s low. m.types_are s) are;
    model = record {
      flows = λ f there. edge_up f ((it.flows f.negative.0 f.positive.0).0 there);
      heads = λ s. met s (below_or_more s (size p));
    };
    goals = λ g there. goal_up g (Contains-append_cases p.goals new.goals g (subst (λ (gs : List Goal). Contains gs g) it.goals there));
    roots = λ k s e. root_at k s e (is_eq (nat_cmp i k)) refl (it.roots.0 k);
    binders = λ x s e.
        let before : get nat_cmp p.binders x ≡ Some s = ap (λ bs. get nat_cmp bs x) (sym it.binders) ∙ e in
        old_value Negative s (good.binders x s before) ∙ m.binders x s before;
    results = λ k n e. result_at k n (noted_cases p.results q.results i new.result it.results k n e);
    needs = λ need there. need_met need (Contains-append_cases p.needs new.needs need (subst (λ (ns : List Need). Contains ns need) it.needs there));
  }
    where
      old_model : IsModel p.automaton value
      old_model = model_agree p.automaton good.closed m.value value (λ s low. sym (extended_old (size p) m.value fresh s low)) m.model

      met : (s : ℕ) → (s < size p) ⊎ ((k : ℕ) × (s ≡ size p + k)) → IsMet s (state_at q.automaton s)
      met s (inl low) =
          let same : state_at q.automaton s ≡ state_at p.automaton s = ap (λ (xs : List State). get_or xs s (record { polarity = Positive; head = empty_head })) it.states ∙ get_or-append p.automaton.states new.states (record { polarity = Positive; head = empty_head }) s low in
          subst (IsMet s) (sym same) (old_model.heads s)
      met s (inr (k, is)) = subst (λ n. IsMet n (state_at q.automaton n)) (sym is) (states k)

      edge_up : (f : Flow) → HasFlow p.automaton f.negative.0 f.positive.0 ⊎ IsEdge f.negative.0 f.positive.0 → Implies (value f.negative.0) (value f.positive.0)
      edge_up f (inl old) = old_model.flows f old
      edge_up f (inr edge) = edges f.negative.0 f.positive.0 edge

      goal_up : (g : Goal) → Contains p.goals g ⊎ Contains new.goals g → Implies (value g.positive.0) (value g.negative.0)
      goal_up g (inl old) =
          let state = good.goals g old in
          subst (λ f. Implies f (value g.negative.0)) (sym (old_value Positive g.positive.0 state.0))
          (subst (Implies (m.value g.positive.0)) (sym (old_value Negative g.negative.0 state.1)) (m.goals g old))
      goal_up g (inr there) = goals g there

      root_at : (k s : ℕ) → get nat_cmp q.roots k ≡ Some s → (b : Bool) → is_eq (nat_cmp i k) ≡ b → get nat_cmp q.roots k ≡ cond b (Some new.root) (get nat_cmp p.roots k) → value s ≡ type k
      root_at k s e true same is =
          let at : new.root ≡ s = cc in
          subst (λ s. value s ≡ type k) at (root ∙ ap type (same_key i k same))
      root_at k s e false other is =
          let before : get nat_cmp p.roots k ≡ Some s = sym is ∙ e in
          old_value Positive s (good.roots k s before) ∙ m.roots k s before

      result_at : (k n : ℕ) → (get nat_cmp p.results k ≡ Some n) ⊎ ((k ≡ i) × (new.result ≡ Some n)) → value n ≡ type k
      result_at k n (inl before) = old_value Negative n (good.results k n before).negative ∙ m.results k n before
      result_at k n (inr (same, is)) = noted n is ∙ ap type (sym same)

      need_met : (need : Need) → Contains p.needs need ⊎ Contains new.needs need → Implies (binder need.binder) (head_value Negative value need.head)
      need_met need (inl old) =
          subst (Implies (binder need.binder))
          (sym (head_value-agree Negative value m.value need.head (states_more (IsState p.automaton) (λ r s. value s ≡ m.value s) old_value Negative need.head (good.needs need old))))
          (m.needs need old)
      need_met need (inr there) = needs need there

-- the values of a known type's states, and `top` past them
abbrev pub kept_types : Scheme → (ℕ → Predicate) → ℕ → Predicate
kept_types s value = extended (length s.automaton.states) value (λ k. top)

-- what heads of one function or one field pass
function_is : (r : Polarity) (v : ℕ → Predicate) (d c : ℕ) → head_value r v (function_head d c) ≡ arrow (v d) (v c)
function_is r v d c = function_head-value r v (d ∷ []) (c ∷ []) ∙ (λ k. arrow (set_one (opposite r) v d k) (set_one r v c k))

one_value : (v : ℕ → Predicate) (label : List ℕ) (n : ℕ) (f : Predicate) → v n ≡ f → (other : List ℕ) → option_map (set_value Negative v) (set_at (one_field label n) other) ≡ typed_field label f other
one_value v label n f is other =
    elim (bytes_eq label other) as (λ b. option_map (set_value Negative v) (option_map (λ (g : FieldSet). g.set) (cond b (Some (record { label = label; set = n ∷ [] })) None)) ≡ cond b (Some f) None) [
      | true ↦ ap Some (set_one Negative v n ∙ is)
      | false ↦ refl
    ]

-- the part at a label of a record
part_found : (type : ℕ → Predicate) (parts : List Part) (label : List ℕ) (g : Predicate) → part_types type parts label ≡ Some g → (part : Part) × Contains parts part × (part.label ≡ label) × (type part.child ≡ g)
part_found type [] label g e = absurd (cc)
part_found type (first ∷ rest) label g e = go (bytes_eq first.label label) refl e (λ later. part_found type rest label g later)
  where
    go : (b : Bool) → bytes_eq first.label label ≡ b → option_map (λ (part : Part). type part.child) (cond b (Some first) (find (λ (part : Part). bytes_eq part.label label) rest)) ≡ Some g
        → (part_types type rest label ≡ Some g → (part : Part) × Contains rest part × (part.label ≡ label) × (type part.child ≡ g)) → (part : Part) × Contains (first ∷ rest) part × (part.label ≡ label) × (type part.child ≡ g)
    go true same is later = let at : type first.child ≡ g = cc in (first, Contains-here first rest, (bytes_eq-Decides first.label label).0 same, at)
    go false other is later = let found = later is in (found.0, Contains-later first rest found.0 found.1, found.2, found.3)

-- a known type without edges
pub known_without : (o : Option Scheme) → IsWithoutEdges o → (s : Scheme) × (o ≡ Some s) × (s.automaton.flows ≡ [])
known_without None none = absurd none
known_without (Some s) none = (s, refl, none)

-- all instances of a scheme whose automaton has no edges are the same
pub one_type : (s : Scheme) (b : book.Scheme) → IsScheme s × IsSchemeOf s b → s.automaton.flows ≡ [] → (types : ℕ → Predicate) (f g : Predicate) → HasInstance b types f → HasInstance b types g → f ≡ g
one_type s b (scheme, over) none types f g (a, is_f) (c, is_g) =
    sym is_f
    ∙ (root-value s scheme b over a.reading
    ∙ (state_passes-agree s.automaton (λ e. a.reading (over.variable e)) (λ e. c.reading (over.variable e)) (λ e there. no_edge e there) s.root.0
    ∙ (sym (root-value s scheme b over c.reading) ∙ is_g)))
  where
    no_edge : (e : Flow) → Contains s.automaton.flows e → a.reading (over.variable e) ≡ c.reading (over.variable e)
    no_edge e there = let nowhere : Contains [] e = subst (λ (es : List Flow). Contains es e) none there in let low : nowhere.0 < 0 = nowhere.1 in absurd (omega arith)

abbrev no_goals : List Goal
no_goals = []

abbrev no_needs : List Need
no_needs = []

-- the values of states that were there
module _ (p : Posing) (good : IsGood p) (type binder : ℕ → Predicate) (m : HasModel p type binder) where
  abbrev HasRoot : ℕ → Type 0
  HasRoot k = IsSome (get nat_cmp p.roots k)

  root_low : (k : ℕ) → HasRoot k → (root_in p k < size p) × (m.value (root_in p k) ≡ type k)
  root_low k some = go (get nat_cmp p.roots k) refl some
    where
      go : (o : Option ℕ) → get nat_cmp p.roots k ≡ o → IsSome o → (root_in p k < size p) × (m.value (root_in p k) ≡ type k)
      go None e wrong = absurd (cc)
      go (Some s) e some = subst (λ r. (r < size p) × (m.value r ≡ type k)) (sym (ap or_zero e)) ((good.roots k s e).in_range, m.roots k s e)

  binder_low : (x : ℕ) → HasBinder p x → (binder_in p x < size p) × (m.value (binder_in p x) ≡ binder x)
  binder_low x some = go (get nat_cmp p.binders x) refl some
    where
      go : (o : Option ℕ) → get nat_cmp p.binders x ≡ o → IsSome o → (binder_in p x < size p) × (m.value (binder_in p x) ≡ binder x)
      go None e wrong = absurd (cc)
      go (Some s) e some = subst (λ r. (r < size p) × (m.value r ≡ binder x)) (sym (ap or_zero e)) ((good.binders x s e).in_range, m.binders x s e)

  module _ (q : Posing) (i : ℕ) (types_are : (k : ℕ) → IsType (type k)) where
    i_type : IsType (type i)
    i_type = types_are i

    nothing_goal : (f : Goal → Type 0) (g : Goal) → Contains no_goals g → f g
    nothing_goal f g there = let low : there.0 < 0 = there.1 in absurd (omega arith)

    nothing_need : (f : Need → Type 0) (need : Need) → Contains no_needs need → f need
    nothing_need f need there = let low : there.0 < 0 = there.1 in absurd (omega arith)

    -- past the new states there is no head
    past_met : (v : ℕ → Predicate) (s : ℕ) → IsInside Positive (head_value Positive v empty_head) (v s)
    past_met v s = subst (λ f. Implies f (v s)) (sym (empty_value Positive v)) (λ t e. absurd (cc))

    -- a node of one new state, whose head is below its type
    literal_model : (head : Head) (E : ℕ → ℕ → Type 0) → Adds p q i (literal_added (size p) head) E
        → ((v : ℕ → Predicate) → ((s : ℕ) → s < size p → v s ≡ m.value s) → Implies (head_value Positive v head) (type i))
        → ((n s : ℕ) → E n s → (s ≡ size p) × (n < size p) × Implies (m.value n) (type i)) → HasModel q type binder
    literal_model head E it below edges =
        adds_model p q i (literal_added (size p) head) E it good type binder m (λ k. type i) (λ k. i_type) met
        (λ n s edge. let at = edges n s edge in
        subst (Implies (extended (size p) m.value (λ k. type i) n)) (sym (ap V at.0 ∙ root)) (subst (λ f. Implies f (type i)) (sym (extended_old (size p) m.value (λ k. type i) n at.1)) at.2))
        (λ g there. nothing_goal (λ g. Implies (V g.positive.0) (V g.negative.0)) g there) root
        (λ need there. nothing_need (λ need. Implies (binder need.binder) (head_value Negative V need.head)) need there)
        (λ n e. absurd (none_noted n e))
      where
        V : ℕ → Predicate
        V = extended (size p) m.value (λ k. type i)

        root : extended (size p) m.value (λ k. type i) (size p) ≡ type i
        root = let at : size p ≡ size p + 0 = omega arith in ap (extended (size p) m.value (λ k. type i)) at ∙ extended_new (size p) m.value (λ k. type i) 0

        met : (k : ℕ) → IsInside (state_at q.automaton (size p + k)).polarity (head_value (state_at q.automaton (size p + k)).polarity (extended (size p) m.value (λ k. type i)) (state_at q.automaton (size p + k)).head) (extended (size p) m.value (λ k. type i) (size p + k))
        met zero =
            subst (λ (x : State). IsInside x.polarity (head_value x.polarity (extended (size p) m.value (λ k. type i)) x.head) (extended (size p) m.value (λ k. type i) (size p + 0))) (sym (new_state p q i (literal_added (size p) head) E it 0))
            (subst (Implies (head_value Positive (extended (size p) m.value (λ k. type i)) head)) (sym (extended_new (size p) m.value (λ k. type i) 0)) (below (extended (size p) m.value (λ k. type i)) (λ s low. extended_old (size p) m.value (λ k. type i) s low)))
        met (suc k) =
            subst (λ (x : State). IsInside x.polarity (head_value x.polarity (extended (size p) m.value (λ k. type i)) x.head) (extended (size p) m.value (λ k. type i) (size p + suc k))) (sym (new_state p q i (literal_added (size p) head) E it (suc k)))
            (past_met (extended (size p) m.value (λ k. type i)) (size p + suc k))

    -- a goal from a state that was there
    up_goal : (fresh : ℕ → Predicate) (r n : ℕ) (f g : Predicate) → r < size p → m.value r ≡ f → extended (size p) m.value fresh n ≡ g → Implies f g → Implies (extended (size p) m.value fresh r) (extended (size p) m.value fresh n)
    up_goal fresh r n f g low is-r is-n below =
        subst (λ h. Implies h (extended (size p) m.value fresh n)) (sym (extended_old (size p) m.value fresh r low ∙ is-r)) (subst (Implies f) (sym is-n) below)

    one_up : (v : ℕ → Predicate) (r n : ℕ) → Implies (v r) (v n) → (g : Goal) → Contains (goal r n ∷ []) g → Implies (v g.positive.0) (v g.negative.0)
    one_up v r n up g there = elim (Contains-cases (goal r n) [] g there) [
      | inl same ↦ subst (λ (g : Goal). Implies (v g.positive.0) (v g.negative.0)) same up
      | inr later ↦ let low : later.0 < 0 = later.1 in absurd (omega arith)
    ]

    -- the goals of a conditional
    choice_up : (v : ℕ → Predicate) (c f s bit into : ℕ) → Implies (v c) (v bit) → Implies (v f) (v into) → Implies (v s) (v into) → (g : Goal) → Contains (choice_goals c f s bit into) g → Implies (v g.positive.0) (v g.negative.0)
    choice_up v c f s bit into first second third g there = elim (Contains-cases (goal c bit) (goal f into ∷ goal s into ∷ []) g there) [
      | inl same ↦ subst (λ (g : Goal). Implies (v g.positive.0) (v g.negative.0)) same first
      | inr later ↦ elim (Contains-cases (goal f into) (goal s into ∷ []) g later) [
        | inl same ↦ subst (λ (g : Goal). Implies (v g.positive.0) (v g.negative.0)) same second
        | inr last ↦ one_up v s into third g last
      ]
    ]

    -- a conditional that shares the states of another one, of the same type
    joined_model : (c f s root into : ℕ) → Adds p q i (joined_choice_added (size p) c f s root into) NoEdge → c < size p → Implies (m.value c) bool → f < size p → Implies (m.value f) (type i) → s < size p → Implies (m.value s) (type i)
        → root < size p → m.value root ≡ type i → into < size p → m.value into ≡ type i → HasModel q type binder
    joined_model c f s root into it c_low c_up f_low f_up s_low s_up root_low root_is into_low into_is =
        adds_model p q i (joined_choice_added (size p) c f s root into) NoEdge it good type binder m (λ k. bool) (λ k. bool_type) met (λ n s edge. absurd edge)
        (choice_up J c f s (size p) into
        (up_goal (λ k. bool) c (size p) (m.value c) bool c_low refl at_bit c_up)
        (up_goal (λ k. bool) f into (m.value f) (type i) f_low refl at_into f_up)
        (up_goal (λ k. bool) s into (m.value s) (type i) s_low refl at_into s_up))
        (extended_old (size p) m.value (λ k. bool) root root_low ∙ root_is)
        (λ need there. nothing_need (λ need. Implies (binder need.binder) (head_value Negative J need.head)) need there)
        (λ n e. let same : into ≡ n = cc in ap J (sym same) ∙ at_into)
      where
        J : ℕ → Predicate
        J = extended (size p) m.value (λ k. bool)

        at_bit : extended (size p) m.value (λ k. bool) (size p) ≡ bool
        at_bit = let at : size p ≡ size p + 0 = omega arith in ap (extended (size p) m.value (λ k. bool)) at ∙ extended_new (size p) m.value (λ k. bool) 0

        at_into : extended (size p) m.value (λ k. bool) into ≡ type i
        at_into = extended_old (size p) m.value (λ k. bool) into into_low ∙ into_is

        met : (k : ℕ) → IsInside (state_at q.automaton (size p + k)).polarity (head_value (state_at q.automaton (size p + k)).polarity (extended (size p) m.value (λ k. bool)) (state_at q.automaton (size p + k)).head) (extended (size p) m.value (λ k. bool) (size p + k))
        met zero =
            subst (λ (x : State). IsInside x.polarity (head_value x.polarity (extended (size p) m.value (λ k. bool)) x.head) (extended (size p) m.value (λ k. bool) (size p + 0))) (sym (new_state p q i (joined_choice_added (size p) c f s root into) NoEdge it 0))
            (Implies-same (extended (size p) m.value (λ k. bool) (size p + 0)) (head_value Negative (extended (size p) m.value (λ k. bool)) bool_head) (extended_new (size p) m.value (λ k. bool) 0 ∙ sym (bool_value Negative (extended (size p) m.value (λ k. bool)))))
        met (suc k) =
            subst (λ (x : State). IsInside x.polarity (head_value x.polarity (extended (size p) m.value (λ k. bool)) x.head) (extended (size p) m.value (λ k. bool) (size p + suc k))) (sym (new_state p q i (joined_choice_added (size p) c f s root into) NoEdge it (suc k)))
            (past_met (extended (size p) m.value (λ k. bool)) (size p + suc k))

    -- a node of three states: into its root flows a state of its type, and the last has this head, which has this type
    module _ (head : Head) (goals : List Goal) (upper : Predicate) (upper_type : IsType upper) where
      abbrev fresh : ℕ → Predicate
      fresh zero = type i
      fresh (suc zero) = type i
      fresh (suc (suc k)) = upper

      fresh_types : (k : ℕ) → IsType (fresh k)
      fresh_types zero = i_type
      fresh_types (suc zero) = i_type
      fresh_types (suc (suc k)) = upper_type

      abbrev V : ℕ → Predicate
      V = extended (size p) m.value fresh

      at_fresh : (k : ℕ) → V (size p + k) ≡ fresh k
      at_fresh k = extended_new (size p) m.value fresh k

      pub at_root : V (size p) ≡ type i
      at_root = let at : size p ≡ size p + 0 = omega arith in ap V at ∙ at_fresh 0

      pub at_into : V (suc (size p)) ≡ type i
      at_into = let at : suc (size p) ≡ size p + 1 = omega arith in ap V at ∙ at_fresh 1

      pub at_upper : V (suc (suc (size p))) ≡ upper
      at_upper = let at : suc (suc (size p)) ≡ size p + 2 = omega arith in ap V at ∙ at_fresh 2

      pub result_model : (result : Option ℕ) → Adds p q i (record { states = positive empty_head ∷ negative empty_head ∷ negative head ∷ []; goals = goals; needs = no_needs; root = size p; copy = None; result = result }) (OneEdge (suc (size p)) (size p))
          → (((s : ℕ) → s < size p → V s ≡ m.value s) → Implies upper (head_value Negative V head)) → ((g : Goal) → Contains goals g → Implies (V g.positive.0) (V g.negative.0))
          → ((n : ℕ) → result ≡ Some n → n ≡ suc (size p)) → HasModel q type binder
      result_model result it below up noted =
          adds_model p q i (record { states = positive empty_head ∷ negative empty_head ∷ negative head ∷ []; goals = goals; needs = no_needs; root = size p; copy = None; result = result }) (OneEdge (suc (size p)) (size p)) it good type binder m fresh fresh_types met
          (λ n s edge. subst (λ n. Implies (V n) (V s)) (sym edge.0) (subst (λ s. Implies (V (suc (size p))) (V s)) (sym edge.1) (Implies-same (V (suc (size p))) (V (size p)) (at_into ∙ sym at_root))))
          up at_root (λ need there. nothing_need (λ need. Implies (binder need.binder) (head_value Negative V need.head)) need there)
          (λ n e. ap V (noted n e) ∙ at_into)
        where
          at : (k : ℕ) → state_at q.automaton (size p + k) ≡ get_or (positive empty_head ∷ negative empty_head ∷ negative head ∷ []) k (record { polarity = Positive; head = empty_head })
          at k = new_state p q i (record { states = positive empty_head ∷ negative empty_head ∷ negative head ∷ []; goals = goals; needs = no_needs; root = size p; copy = None; result = result }) (OneEdge (suc (size p)) (size p)) it k

          met : (k : ℕ) → IsInside (state_at q.automaton (size p + k)).polarity (head_value (state_at q.automaton (size p + k)).polarity V (state_at q.automaton (size p + k)).head) (V (size p + k))
          met zero = subst (λ (x : State). IsInside x.polarity (head_value x.polarity V x.head) (V (size p + 0))) (sym (at 0)) (past_met V (size p + 0))
          met (suc zero) =
              subst (λ (x : State). IsInside x.polarity (head_value x.polarity V x.head) (V (size p + 1))) (sym (at 1))
              (subst (Implies (V (size p + 1))) (sym (empty_value Negative V)) (λ t e. refl))
          met (suc (suc zero)) =
              subst (λ (x : State). IsInside x.polarity (head_value x.polarity V x.head) (V (size p + 2))) (sym (at 2))
              (subst (λ f. Implies f (head_value Negative V head)) (sym (at_fresh 2)) (below (λ s low. extended_old (size p) m.value fresh s low)))
          met (suc (suc (suc k))) = subst (λ (x : State). IsInside x.polarity (head_value x.polarity V x.head) (V (size p + suc (suc (suc k))))) (sym (at (suc (suc (suc k))))) (past_met V (size p + suc (suc (suc k))))

    -- a node with a copy of a known type, which has such a model
    module _ (s : Scheme) (known : IsKnownTo p s) (f : Predicate) (value : ℕ → Predicate) (copied : IsCopiedModel s binder f value) where
      abbrev W : ℕ → Predicate
      W = extended (size p) m.value (kept_types s value)

      -- the states of the copy have the values of the model
      pub copy_value : (k : ℕ) → k < length s.automaton.states → W (size p + k) ≡ value k
      copy_value k low = extended_new (size p) m.value (kept_types s value) k ∙ extended_old (length s.automaton.states) value (λ k. top) k low

      copy_head : (k : ℕ) → head_value (polarity_at s.automaton k) W (renamed_head (λ j. size p + j) (head_at s.automaton k)) ≡ head_value (polarity_at s.automaton k) value (head_at s.automaton k)
      copy_head k =
          head_value-moved (polarity_at s.automaton k) W (size p) (head_at s.automaton k)
          ∙ head_value-agree (polarity_at s.automaton k) (λ j. W (size p + j)) value (head_at s.automaton k)
          (states_more (IsState s.automaton) (λ r j. W (size p + j) ≡ value j) (λ r j state. copy_value j state.in_range) (polarity_at s.automaton k) (head_at s.automaton k) (known.closed.heads k))

      -- what flows out of a binder
      binder_up : (entry : EnvEntry) → Contains s.env entry → Implies (binder entry.binder) (value entry.state.0)
      binder_up entry there = subst (λ o. Implies (binder entry.binder) (binder_passes value o)) (known.found entry there) (copied.env entry.binder)

      pub copy_model : (root : ℕ) → Adds p q i (copy_added (size p) s root) (IsCopiedEdge (size p) (binder_in p) s s.env)
          → W root ≡ type i → HasModel q type binder
      copy_model root it root_is =
          adds_model p q i (copy_added (size p) s root) (IsCopiedEdge (size p) (binder_in p) s s.env) it good type binder m (kept_types s value)
          (extended_types (length s.automaton.states) value (λ k. top) copied.types_are (λ k. top_type)) met up
          (λ g there. nothing_goal (λ g. Implies (W g.positive.0) (W g.negative.0)) g there) root_is needed (λ n e. absurd (none_noted n e))
        where
          met_at : (k : ℕ) → (k < length s.automaton.states) ⊎ ((j : ℕ) × (k ≡ length s.automaton.states + j))
              → IsInside (get_or (map (renamed_state (λ j. size p + j)) s.automaton.states) k (record { polarity = Positive; head = empty_head })).polarity (head_value (get_or (map (renamed_state (λ j. size p + j)) s.automaton.states) k (record { polarity = Positive; head = empty_head })).polarity W (get_or (map (renamed_state (λ j. size p + j)) s.automaton.states) k (record { polarity = Positive; head = empty_head })).head) (W (size p + k))
          met_at k (inl low) =
              subst (λ (x : State). IsInside x.polarity (head_value x.polarity W x.head) (W (size p + k))) (sym (get_or-map (renamed_state (λ j. size p + j)) s.automaton.states k (record { polarity = Positive; head = empty_head })))
              (subst (λ g. IsInside (polarity_at s.automaton k) g (W (size p + k))) (sym (copy_head k))
              (subst (IsInside (polarity_at s.automaton k) (head_value (polarity_at s.automaton k) value (head_at s.automaton k))) (sym (copy_value k low)) (copied.model.heads k)))
          met_at k (inr (j, is)) =
              subst (λ (x : State). IsInside x.polarity (head_value x.polarity W x.head) (W (size p + k)))
              (sym (get_or_past (map (renamed_state (λ j. size p + j)) s.automaton.states) k (record { polarity = Positive; head = empty_head }) (let same : length (map (renamed_state (λ j. size p + j)) s.automaton.states) ≡ length s.automaton.states = length-map s.automaton.states (renamed_state (λ j. size p + j)) in let at : k ≡ length s.automaton.states + j = is in omega arith)))
              (past_met W (size p + k))

          met : (k : ℕ) → IsInside (state_at q.automaton (size p + k)).polarity (head_value (state_at q.automaton (size p + k)).polarity W (state_at q.automaton (size p + k)).head) (W (size p + k))
          met k =
              subst (λ (x : State). IsInside x.polarity (head_value x.polarity W x.head) (W (size p + k))) (sym (new_state p q i (copy_added (size p) s root) (IsCopiedEdge (size p) (binder_in p) s s.env) it k))
              (met_at k (below_or_more k (length s.automaton.states)))

          up : (n r : ℕ) → IsCopiedEdge (size p) (binder_in p) s s.env n r → Implies (W n) (W r)
          up n r (inl (k, l, edge, is-n, is-r)) =
              subst (λ g. Implies g (W r)) (sym (ap W is-n ∙ copy_value k (known.closed.negative (flow k l) edge).in_range))
              (subst (Implies (value k)) (sym (ap W is-r ∙ copy_value l (known.closed.positive (flow k l) edge).in_range)) (copied.model.flows (flow k l) edge))
          up n r (inr (entry, there, (is-n, l, edge, is-r))) =
              let at = binder_low entry.binder (known.there entry there) in
              subst (λ g. Implies g (W r)) (sym (ap W is-n ∙ (extended_old (size p) m.value (kept_types s value) (binder_in p entry.binder) at.0 ∙ at.1)))
              (subst (Implies (binder entry.binder)) (sym (ap W is-r ∙ copy_value l (known.closed.positive (flow entry.state.0 l) edge).in_range))
              (Implies-trans (binder entry.binder) (value entry.state.0) (value l) (binder_up entry there) (copied.model.flows (flow entry.state.0 l) edge)))

          need_of : (entry : EnvEntry) → Contains s.env entry → Implies (binder entry.binder) (head_value Negative W (copied_need (size p) s entry).head)
          need_of entry there =
              let is_negative : polarity_at s.automaton entry.state.0 ≡ Negative = (known.states entry there).polarity in
              let head : head_value Negative W (copied_need (size p) s entry).head ≡ head_value Negative value (head_at s.automaton entry.state.0) =
              subst (λ (r : Polarity). head_value r W (copied_need (size p) s entry).head ≡ head_value r value (head_at s.automaton entry.state.0)) is_negative (copy_head entry.state.0) in
              subst (Implies (binder entry.binder)) (sym head)
              (Implies-trans (binder entry.binder) (value entry.state.0) (head_value Negative value (head_at s.automaton entry.state.0)) (binder_up entry there)
              (subst (λ (r : Polarity). IsInside r (head_value r value (head_at s.automaton entry.state.0)) (value entry.state.0)) is_negative (copied.model.heads entry.state.0)))

          needed : (need : Need) → Contains (map (copied_need (size p) s) s.env) need → Implies (binder need.binder) (head_value Negative W need.head)
          needed need there =
              let found = Contains-map_back (copied_need (size p) s) s.env need there in
              subst (λ (d : Need). Implies (binder d.binder) (head_value Negative W d.head)) found.2 (need_of found.0 found.1)

    module _ (nodes : List TermNode) (known : Known) (globals lets : BTreeMap ℕ Scheme) (are_over : AreOver known globals lets) where
      -- a name that has an instance of its type
      name_model : (s : Scheme) (b : book.Scheme) → IsKnownTo p s → IsScheme s × IsSchemeOf s b → HasInstance b binder (type i)
          → Adds p q i (copy_added (size p) s (size p + s.root.0)) (IsCopiedEdge (size p) (binder_in p) s s.env) → HasModel q type binder
      name_model s b is (scheme, over) (a, root_is) it =
          let made = copied_model s b scheme over binder (type i) a in
          copy_model s is (passes_by a.reading b.book b.root) made.0 made.1 (size p + s.root.0) it
          (copy_value s is (passes_by a.reading b.book b.root) made.0 made.1 s.root.0 is.root.in_range ∙ (made.1.root ∙ root_is))

      pub node_model : (f : TermForm) → AddsNode (known_in globals) (known_in lets) p q i f → ((b n : ℕ) → get nat_cmp p.results b ≡ Some n → IsConditional nodes b)
          → HasPartsIn HasRoot f → HasBinderOf p f → CanPose globals lets p f → IsNodeTyped nodes known type binder i f → HasModel q type binder
      node_model (form.Bound x) it conditionals parts has can typed =
          let at = binder_low x has in
          literal_model empty_head (OneEdge (binder_in p x) (size p)) it (λ v same. subst (λ f. Implies f (type i)) (sym (empty_value Positive v)) (λ t e. absurd (cc)))
          (λ n s edge. (
            edge.1,
            subst (λ n. n < size p) (sym edge.0) at.0,
            subst (λ n. Implies (m.value n) (type i)) (sym edge.0) (subst (λ f. Implies f (type i)) (sym at.1) typed),
          ))
      node_model (form.Inner k) (s, is, it) conditionals parts has can (b, at, instance) = name_model s b (known_from p s (known_in lets k) can is) (are_over.lets k s b is at) instance it
      node_model (form.Global g) (s, is, it) conditionals parts has can (b, at, instance) = name_model s b (known_from p s (known_in globals g) can is) (are_over.globals g s b is at) instance it
      node_model (form.Number number) it conditionals parts has can typed =
          literal_model int_head NoEdge it (λ v same. subst (λ f. Implies f (type i)) (sym (int_value Positive v)) typed) (λ n s edge. absurd edge)
      node_model (form.Truth truth) it conditionals parts has can typed =
          literal_model bool_head NoEdge it (λ v same. subst (λ f. Implies f (type i)) (sym (bool_value Positive v)) typed) (λ n s edge. absurd edge)
      node_model (form.Fun x j) it conditionals parts has can typed =
          let from = binder_low x has in
          let to = root_low j parts in
          literal_model (function_head (binder_in p x) (root_in p j)) NoEdge it
          (λ v same. subst (λ f. Implies f (type i)) (sym (function_is Positive v (binder_in p x) (root_in p j) ∙ (λ k. arrow ((same (binder_in p x) from.0 ∙ from.1) k) ((same (root_in p j) to.0 ∙ to.1) k)))) typed)
          (λ n s edge. absurd edge)
      node_model (form.Apply j k) it conditionals parts has can typed =
          let one = root_low j parts.0 in
          let two = root_low k parts.1 in
          let head : Head = function_head (root_in p k) (suc (size p)) in
          let goals : List Goal = goal (root_in p j) (suc (suc (size p))) ∷ [] in
          let upper : Predicate = arrow (type k) (type i) in
          let upper_type : IsType upper = arrow_type (type k) (type i) (types_are k) (types_are i) in
          result_model head goals upper upper_type None it
          (λ same. Implies-same upper (head_value Negative (V head goals upper upper_type) head) (sym (function_is Negative (V head goals upper upper_type) (root_in p k) (suc (size p)) ∙ (λ l. arrow ((same (root_in p k) two.0 ∙ two.1) l) (at_into head goals upper upper_type l)))))
          (one_up (V head goals upper upper_type) (root_in p j) (suc (suc (size p))) (up_goal (fresh head goals upper upper_type) (root_in p j) (suc (suc (size p))) (type j) upper one.0 one.1 (at_upper head goals upper upper_type) typed))
          (λ n e. absurd (none_noted n e))
      node_model (form.Make ps) (fields, are, it) conditionals roots has can typed = literal_model (record_head fields) NoEdge it (λ v same. below v same) (λ n s edge. absurd edge)
        where
          fieldwise : (v : ℕ → Predicate) → ((s : ℕ) → s < size p → v s ≡ m.value s) → (label : List ℕ) (g : Predicate) → part_types type ps label ≡ Some g
              → (f : Predicate) × (option_map (set_value Positive v) (set_at fields label) ≡ Some f) × Implies f g
          fieldwise v same label g e =
              let found = part_found type ps label g e in
              let at = root_low found.0.child (roots found.0 found.1) in
              let set : set_at fields label ≡ Some (root_in p found.0.child ∷ []) = subst (λ l. set_at fields l ≡ Some (root_in p found.0.child ∷ [])) found.2 (are.there found.0 found.1) in (
                v (root_in p found.0.child),
                ap (option_map (set_value Positive v)) set ∙ ap Some (set_one Positive v (root_in p found.0.child)),
                Implies-same (v (root_in p found.0.child)) g (same (root_in p found.0.child) at.0 ∙ (at.1 ∙ found.3)),
              )

          below : (v : ℕ → Predicate) → ((s : ℕ) → s < size p → v s ≡ m.value s) → Implies (head_value Positive v (record_head fields)) (type i)
          below v same =
              subst (λ f. Implies f (type i)) (sym (record_head-value Positive v fields))
              (Implies-trans (record_value Positive v (set_at fields)) (rcd (part_types type ps)) (type i)
              (rcd-implies (λ label. option_map (set_value Positive v) (set_at fields label)) (part_types type ps) (λ label g e. fieldwise v same label g e)) typed)
      node_model (form.Project j label) it conditionals parts has can typed =
          let one = root_low j parts in
          let head : Head = record_head (one_field label (suc (size p))) in
          let goals : List Goal = goal (root_in p j) (suc (suc (size p))) ∷ [] in
          let upper : Predicate = rcd (typed_field label (type i)) in
          let upper_type : IsType upper = field_type label (type i) (types_are i) in
          result_model head goals upper upper_type None it
          (λ same. Implies-same upper (head_value Negative (V head goals upper upper_type) head)
          (sym (record_head-value Negative (V head goals upper upper_type) (one_field label (suc (size p))) ∙ (λ k. rcd (λ other. one_value (V head goals upper upper_type) label (suc (size p)) (type i) (at_into head goals upper upper_type) other k)))))
          (one_up (V head goals upper upper_type) (root_in p j) (suc (suc (size p))) (up_goal (fresh head goals upper upper_type) (root_in p j) (suc (suc (size p))) (type j) upper one.0 one.1 (at_upper head goals upper upper_type) typed))
          (λ n e. absurd (none_noted n e))
      node_model (form.If j k l) (inl it) conditionals parts has can typed =
          let one = root_low j parts.0 in
          let two = root_low k parts.1 in
          let three = root_low l parts.2 in
          let goals : List Goal = choice_goals (root_in p j) (root_in p k) (root_in p l) (suc (suc (size p))) (suc (size p)) in
          result_model bool_head goals bool bool_type (Some (suc (size p))) it
          (λ same. Implies-same bool (head_value Negative (V bool_head goals bool bool_type) bool_head) (sym (bool_value Negative (V bool_head goals bool bool_type))))
          (choice_up (V bool_head goals bool bool_type) (root_in p j) (root_in p k) (root_in p l) (suc (suc (size p))) (suc (size p))
          (up_goal (fresh bool_head goals bool bool_type) (root_in p j) (suc (suc (size p))) (type j) bool one.0 one.1 (at_upper bool_head goals bool bool_type) typed.0)
          (up_goal (fresh bool_head goals bool bool_type) (root_in p k) (suc (size p)) (type k) (type i) two.0 two.1 (at_into bool_head goals bool bool_type) typed.1)
          (up_goal (fresh bool_head goals bool bool_type) (root_in p l) (suc (size p)) (type l) (type i) three.0 three.1 (at_into bool_head goals bool bool_type) typed.2))
          (λ n e. let same : suc (size p) ≡ n = cc in sym same)
      node_model (form.If j k l) (inr (branch, into, which, noted, it)) conditionals parts has can (condition, first, second, raised_first, raised_second) =
          let one = root_low j parts.0 in
          let two = root_low k parts.1 in
          let three = root_low l parts.2 in
          let at = good.results branch into noted in
          let root = root_low branch at.rooted in
          joined_model (root_in p j) (root_in p k) (root_in p l) (root_in p branch) into it
          one.0 (subst (λ f. Implies f bool) (sym one.1) condition) two.0 (subst (λ f. Implies f (type i)) (sym two.1) first) three.0 (subst (λ f. Implies f (type i)) (sym three.1) second)
          root.0 (root.1 ∙ same_type which) at.negative.in_range (m.results branch into noted ∙ same_type which)
        where
          same_type : IsBranch k l branch → type branch ≡ type i
          same_type (inl is) = ap type is ∙ raised_first (subst (IsConditional nodes) is (conditionals branch into noted))
          same_type (inr is) = ap type is ∙ raised_second (subst (IsConditional nodes) is (conditionals branch into noted))
      node_model (form.Let k j l) (s, is, it) conditionals parts has can (same, b, at, allows) =
          let known_is = known_from p s (known_in lets k) can is in
          let over = are_over.lets k s b is at in
          let made = copied_model s b over.0 over.1 binder top allows in
          let second = root_low l parts in
          copy_model s known_is (passes_by allows.reading b.book b.root) made.0 made.1 (root_in p l) it
          (extended_old (size p) m.value (kept_types s made.0) (root_in p l) second.0 ∙ (second.1 ∙ sym same))
      node_model (form.Rec x j) it conditionals parts has can typed =
          let body = root_low j parts in
          let from = binder_low x has in
          let U : ℕ → Predicate = extended (size p) m.value (λ k. top) in
          let root : U (root_in p j) ≡ type j = extended_old (size p) m.value (λ k. top) (root_in p j) body.0 ∙ body.1 in
          let into : U (binder_in p x) ≡ binder x = extended_old (size p) m.value (λ k. top) (binder_in p x) from.0 ∙ from.1 in
          adds_model p q i (fix_added (root_in p j) (binder_in p x)) NoEdge it good type binder m (λ k. top) (λ k. top_type)
          (λ k. subst (λ (y : State). IsInside y.polarity (head_value y.polarity U y.head) (U (size p + k))) (sym (new_state p q i (fix_added (root_in p j) (binder_in p x)) NoEdge it k)) (past_met U (size p + k)))
          (λ n s edge. absurd edge)
          (λ g there. elim (Contains-cases (goal (root_in p j) (binder_in p x)) [] g there) [
            | inl same ↦ subst (λ (g : Goal). Implies (U g.positive.0) (U g.negative.0)) same (subst (λ f. Implies f (U (binder_in p x))) (sym root) (subst (Implies (type j)) (sym into) typed.1))
            | inr later ↦ let low : later.0 < 0 = later.1 in absurd (omega arith)
          ])
          (root ∙ sym typed.0) (λ need there. nothing_need (λ need. Implies (binder need.binder) (head_value Negative U need.head)) need there)
          (λ n e. absurd (none_noted n e))

      -- two uses of a name whose type has no edges have the same type
      same_types : (j : ℕ) (f : TermForm) → HasNoEdges globals lets f → IsNodeTyped nodes known type binder j f → IsNodeTyped nodes known type binder i f → type j ≡ type i
      same_types j (form.Bound x) none first second = absurd none
      same_types j (form.Inner k) none (b, at, one) (c, at', two) =
          let found = known_without (known_in lets k) none in
          one_type found.0 b (are_over.lets k found.0 b found.1 at) found.2 binder (type j) (type i) one
          (let same : c ≡ b = cc in subst (λ (d : book.Scheme). HasInstance d binder (type i)) same two)
      same_types j (form.Global g) none (b, at, one) (c, at', two) =
          let found = known_without (known_in globals g) none in
          one_type found.0 b (are_over.globals g found.0 b found.1 at) found.2 binder (type j) (type i) one
          (let same : c ≡ b = cc in subst (λ (d : book.Scheme). HasInstance d binder (type i)) same two)
      same_types j (form.Number number) none first second = absurd none
      same_types j (form.Truth truth) none first second = absurd none
      same_types j (form.Fun x k) none first second = absurd none
      same_types j (form.Apply k l) none first second = absurd none
      same_types j (form.Make parts) none first second = absurd none
      same_types j (form.Project k label) none first second = absurd none
      same_types j (form.If k l n) none first second = absurd none
      same_types j (form.Let k l n) none first second = absurd none
      same_types j (form.Rec x k) none first second = absurd none

      pub shared_model : (j : ℕ) (f : TermForm) → HasRoot j → HasNoEdges globals lets f → IsNodeTyped nodes known type binder j f → IsNodeTyped nodes known type binder i f
          → Adds p q i (shared_added (root_in p j) (copy_in p j)) NoEdge → HasModel q type binder
      shared_model j f rooted none first second it =
          let at = root_low j rooted in
          let U : ℕ → Predicate = extended (size p) m.value (λ k. top) in
          adds_model p q i (shared_added (root_in p j) (copy_in p j)) NoEdge it good type binder m (λ k. top) (λ k. top_type)
          (λ k. subst (λ (y : State). IsInside y.polarity (head_value y.polarity U y.head) (U (size p + k))) (sym (new_state p q i (shared_added (root_in p j) (copy_in p j)) NoEdge it k)) (past_met U (size p + k)))
          (λ n s edge. absurd edge)
          (λ g there. nothing_goal (λ g. Implies (U g.positive.0) (U g.negative.0)) g there)
          (extended_old (size p) m.value (λ k. top) (root_in p j) at.0 ∙ (at.1 ∙ same_types j f none first second))
          (λ need there. nothing_need (λ need. Implies (binder need.binder) (head_value Negative U need.head)) need there)
          (λ n e. absurd (none_noted n e))
