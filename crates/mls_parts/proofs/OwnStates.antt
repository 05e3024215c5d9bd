-- Automata that get a state of its own for each binder.
--     edges_none, edges_more      edges from one state, one after another
--     twin_added                  a twin of a state
--     own_none, own_more          a state for each binder, one after another
--     own_separate                so no two binders have one state, and no head names one
--     own_binders, own_subsumes   the scheme has no other binders, and subsumes the first one
--     own_deterministic, own_all, own_subsumed
--                                 it is deterministic where that is, has all its binders, and is subsumed by it
--     subsumes_equivalent, equivalent_subsumes
--                                 so with what is equivalent to that
use Rattle.std.proofs.Common.{◌≡◌, ◌⊎◌, inl, inr, ℕ, zero, suc, ◌+◌, ◌==◌, ◌≢◌, ◌<◌, ◌≤◌, Bool, true, false, cond, List, [], ◌∷◌, ◌++◌, length, get_or, refl, sym, ap, ◌∙◌, subst, arith, Contains, Option, Some, None, length-append}
use Rattle.std.specs.Prelude.{◌↔◌, filter, find, IsSome, is_some, option_map}
use Rattle.std.specs.List.{range_with_len}
use Rattle.std.proofs.lemmas.Bool.{eqb-true, eq-eqb}
use Rattle.std.proofs.lemmas.Bool.Decides.{eqb_tells}
use Rattle.std.proofs.lemmas.List.{get_or_append_left, get_or_past, get_or_push}
use Rattle.std.proofs.lemmas.List.Elements.{Contains-append_left, Contains-push, Contains-push_cases}
use Rattle.mls_book.proofs.LongerBooks.{below_or_more}
use Rattle.mls_book.specs.Predicates.{Predicate, Implies, var}
use Rattle.mls_book.specs.Passes.{passes}
use Rattle.mls_book.specs.Schemes.{binder_passes}
use Rattle.mls_book.proofs.Depths.{Implies-trans, Implies-same, Implies-same_back}
use Rattle.mls_book.proofs.Representation.{IsIn}
use Rattle.mls_book.proofs.Subsumption.{Subsumes-refl, Subsumes-trans}
use Rattle.mls_automaton.specs.declared.automaton.Flow.{Flow}
use Rattle.mls_automaton.specs.declared.automaton.Polarity.{Polarity}
use Rattle.mls_automaton.specs.declared.automaton.Polarity.TheVariants.{Negative, Positive}
use Rattle.mls_automaton.specs.declared.automaton.State.{State}
use Rattle.mls_automaton.specs.declared.scheme.EnvEntry.{EnvEntry}
use Rattle.mls_automaton.specs.declared.scheme.Scheme.{Scheme}
use Rattle.mls_automaton.specs.Automata.{Automaton, empty_head, flow, head_at, polarity_at, state_at, HasFlow, IsPartner, IsState}
use Rattle.mls_automaton.specs.Environments.{BindersRise}
use Rattle.mls_automaton.specs.Heads.{head_value, parts_of}
use Rattle.mls_automaton.specs.Models.{HasSingleArms, HasSingleFields, HasStatesIn, IsClosed, IsDeterministic, IsInside, IsModel}
use Rattle.mls_automaton.specs.Schemes.{state_of, AreEquivalentSchemes, IsScheme, NoGoal}
use Rattle.mls_automaton.proofs.BooksExist.{scheme_exists}
use Rattle.mls_automaton.proofs.Instances.{HasModel, binder_of, model-of_subsumes, plain, subsumes_by_model}
use Rattle.mls_automaton.proofs.Bounds.{passes-model}
use Rattle.mls_automaton.proofs.Lists.{Contains-cases, Contains-filter, Contains-filtered, Contains-here, Contains-later, Contains-range, passes-filtered, range_from-contains}
use Rattle.mls_flow.specs.Simulations.{IsHeadWithin, IsSimulation}
use Rattle.mls_flow.proofs.HeadsWithin.{Same, within-more, within-self}
use Rattle.mls_flow.proofs.Simulation.{IsBinderPaired, simulation_subsumes}
use Rattle.mls_automaton.proofs.Passing.{states_more}
use Rattle.mls_automaton.proofs.Reaching.{entry-found, found-entry}
use Rattle.mls_subsume.specs.Verdicts.{DoesSubsume}
use Rattle.mls_parts.specs.MetCopies.{AreSeparate, IsOfNoBinder}
use Rattle.mls_parts.specs.SolvedTypes.{HasBindersOf}
use Rattle.mls_parts.specs.steps.Twins.{AddsEdgesTo, AddsTwin, HasOwnStates}
use Rattle.mls_parts.proofs.AddedStates.{IsInsideAt, model_added, old_inside}
use Rattle.mls_parts.proofs.PosedModels.{extended, extended_old, extended_new}
use Rattle.mls_layout.proofs.WorkedParts.{nothing}

abbrev past : State
past = record { polarity = Positive; head = empty_head }

pub edges_none : (a : Automaton) (from : ℕ) → AddsEdgesTo a a from []
edges_none a from = record { states = refl; flows = λ n p edge. inl edge; kept = λ n p edge. edge; added = λ p there. absurd (nothing p there) }

pub edges_more : (a b c : Automaton) (from end : ℕ) (ends : List ℕ) → AddsEdgesTo a b from ends → c.states ≡ b.states → ((n p : ℕ) → HasFlow c n p ↔ (HasFlow b n p ⊎ ((n ≡ from) × (p ≡ end)))) → AddsEdgesTo a c from (ends ++ end ∷ [])
edges_more a b c from end ends it states flows = record {
  states = states ∙ it.states;
  flows = λ n p edge. go n p ((flows n p).0 edge);
  kept = λ n p edge. (flows n p).1 (inl (it.kept n p edge));
  added = λ p there. elim (Contains-push_cases ends end p there) [ inl old ↦ (flows from p).1 (inl (it.added p old)) | inr same ↦ (flows from p).1 (inr (refl, sym same)) ];
}
  where
    old : (n p : ℕ) → HasFlow a n p ⊎ ((n ≡ from) × Contains ends p) → HasFlow a n p ⊎ ((n ≡ from) × Contains (ends ++ end ∷ []) p)
    old n p (inl edge) = inl edge
    old n p (inr is) = inr (is.0, Contains-append_left ends (end ∷ []) p is.1)

    go : (n p : ℕ) → HasFlow b n p ⊎ ((n ≡ from) × (p ≡ end)) → HasFlow a n p ⊎ ((n ≡ from) × Contains (ends ++ end ∷ []) p)
    go n p (inl edge) = old n p (it.flows n p edge)
    go n p (inr is) = inr (is.0, subst (Contains (ends ++ end ∷ [])) (sym is.1) (Contains-push ends end))

-- a state with the head of this one, and then edges to its partners
pub twin_added : (a b c : Automaton) (n twin : ℕ) (ends : List ℕ) → twin ≡ length a.states → b.states ≡ a.states ++ record { polarity = Negative; head = head_at a n } ∷ [] → b.flows ≡ a.flows
    → AddsEdgesTo b c twin ends → ((p : ℕ) → Contains ends p → HasFlow a n p) → ((p : ℕ) → HasFlow a n p → Contains ends p) → AddsTwin a c n twin
twin_added a b c n twin ends number states same it partners all = record {
  number = number;
  states = it.states ∙ states;
  flows = λ m p edge. go m p (it.flows m p edge);
  kept = λ m p edge. it.kept m p (subst (λ (fs : List Flow). Contains fs (flow m p)) (sym same) edge);
  edges = λ p edge. it.added p (all p edge);
}
  where
    go : (m p : ℕ) → HasFlow b m p ⊎ ((m ≡ twin) × Contains ends p) → HasFlow a m p ⊎ ((m ≡ twin) × HasFlow a n p)
    go m p (inl edge) = inl (subst (λ (fs : List Flow). Contains fs (flow m p)) same edge)
    go m p (inr is) = inr (is.0, partners p is.1)

-- the partners of a negative state have edges from it
pub partner_edge : (a : Automaton) → IsClosed a → (n p : ℕ) → IsState a Negative n → IsPartner a n p → HasFlow a n p
partner_edge a closed n p is (inl edge) = edge
partner_edge a closed n p is (inr edge) =
    let positive : polarity_at a n ≡ Positive = (closed.positive (flow p n) edge).polarity in
    let negative : polarity_at a n ≡ Negative = is.polarity in
    absurd (cc)

-- no binder
pub own_none : (a : Automaton) → IsClosed a → HasOwnStates a [] a []
own_none a closed = record {
  more = omega arith;
  heads = λ k. states_more (IsState a) (λ p s. s < length a.states) (λ p s is. is.in_range) (polarity_at a k) (head_at a k) (closed.heads k);
  own = λ entry there. absurd (nothing entry there);
  apart = λ entry other there. absurd (nothing entry there);
  old_of = λ s. s;
  old_state = λ k low. (low, refl);
  itself = λ s low. refl;
  edges = λ n p k l edge low low' same same'. subst (λ z. HasFlow a z l) (sym same) (subst (HasFlow a n) (sym same') edge);
  back = λ entry there. absurd (nothing entry there);
  forth = λ entry there. absurd (nothing entry there);
  models = λ value model. (value, model, (λ s low. refl), (λ k low. (k, low, refl, refl)), (λ entry there. absurd (nothing entry there)));
}

-- one binder more
module _ (a b c : Automaton) (entries env : List EnvEntry) (entry mine : EnvEntry) (it : HasOwnStates a entries b env) (closed : IsClosed b) (closed_a : IsClosed a) (state : IsState a Negative entry.state.0) (state_b : IsState b Negative entry.state.0)
    (same_binder : mine.binder ≡ entry.binder) (adds : AddsTwin b c entry.state.0 mine.state.0) where
  abbrev twin_state : State
  twin_state = record { polarity = Negative; head = head_at b entry.state.0 }

  many : length c.states ≡ length b.states + 1
  many = ap length adds.states ∙ length-append b.states (twin_state ∷ [])

  abbrev Named : Polarity → ℕ → Type 0
  Named p s = s < length a.states

  abbrev Good : State → Type 0
  Good x = HasStatesIn Named x.polarity x.head

  twin_good : Good twin_state
  twin_good = subst (λ (q : Polarity). HasStatesIn Named q (head_at b entry.state.0)) state_b.polarity (it.heads entry.state.0)

  good_at : (k : ℕ) → (k < length b.states) ⊎ ((d : ℕ) × (k ≡ length b.states + d)) → Good (state_at c k)
  good_at k (inl low) = subst Good (sym (ap (λ (xs : List State). get_or xs k past) adds.states ∙ get_or_append_left b.states (twin_state ∷ []) past k low)) (it.heads k)
  good_at k (inr (zero, at)) = subst Good (sym (ap (λ (xs : List State). get_or xs k past) adds.states ∙ get_or_push b.states twin_state past k (omega (arith, at)))) twin_good
  good_at k (inr (suc d, at)) = subst Good (sym (get_or_past c.states k past (omega (arith, many, at)))) (record { function = tt; fields = tt })

  cases : (e : EnvEntry) → Contains (env ++ mine ∷ []) e → Contains env e ⊎ (mine ≡ e)
  cases e inside = Contains-push_cases env mine e inside

  state_of_mine : (e : EnvEntry) → mine ≡ e → e.state.0 ≡ length b.states
  state_of_mine e same = ap (λ (x : EnvEntry). x.state.0) (sym same) ∙ adds.number

  own_at : (e : EnvEntry) → Contains env e ⊎ (mine ≡ e) → (length a.states ≤ e.state.0) × (e.state.0 < length c.states)
  own_at e (inl inside) = let at = it.own e inside in (at.0, omega (arith, at.1, many))
  own_at e (inr same) = let at : e.state.0 ≡ length b.states = state_of_mine e same in (omega (arith, at, it.more), omega (arith, at, many))

  apart_at : (e f : EnvEntry) → Contains env e ⊎ (mine ≡ e) → Contains env f ⊎ (mine ≡ f) → e.state.0 ≡ f.state.0 → e.binder ≡ f.binder
  apart_at e f (inl one) (inl two) same = it.apart e f one two same
  apart_at e f (inl one) (inr two) same = let at : f.state.0 ≡ length b.states = state_of_mine f two in absurd (omega (arith, at, same, (it.own e one).1))
  apart_at e f (inr one) (inl two) same = let at : e.state.0 ≡ length b.states = state_of_mine e one in absurd (omega (arith, at, same, (it.own f two).1))
  apart_at e f (inr one) (inr two) same = ap (λ (x : EnvEntry). x.binder) (sym one ∙ two)

  -- the twin is one of its state
  abbrev new_of : ℕ → ℕ
  new_of k = cond (k == length b.states) entry.state.0 (it.old_of k)

  new_low : (k : ℕ) → k < length b.states → new_of k ≡ it.old_of k
  new_low k low = elim (eqb_tells k (length b.states)) [ inl same ↦ (let at : k ≡ length b.states = same.1 in absurd (omega (arith, at, low))) | inr other ↦ ap (λ x. cond x entry.state.0 (it.old_of k)) other.0 ]

  new_last : (k : ℕ) → k ≡ length b.states → new_of k ≡ entry.state.0
  new_last k at = elim (eqb_tells k (length b.states)) [ inl same ↦ ap (λ x. cond x entry.state.0 (it.old_of k)) same.0 | inr other ↦ absurd (other.1 at) ]

  old_entry : state_at b entry.state.0 ≡ state_at a entry.state.0
  old_entry = (it.old_state entry.state.0 state_b.in_range).1 ∙ ap (state_at a) (it.itself entry.state.0 state.in_range)

  new_state : (k : ℕ) → k < length c.states → (k < length b.states) ⊎ ((d : ℕ) × (k ≡ length b.states + d)) → (new_of k < length a.states) × (state_at c k ≡ state_at a (new_of k))
  new_state k low (inl before) =
      let at = it.old_state k before in
      let same : state_at c k ≡ state_at b k = ap (λ (xs : List State). get_or xs k past) adds.states ∙ get_or_append_left b.states (twin_state ∷ []) past k before in (
        subst (λ z. z < length a.states) (sym (new_low k before)) at.0,
        same ∙ (at.1 ∙ ap (state_at a) (sym (new_low k before))),
      )
  new_state k low (inr (d, at)) =
      let last : k ≡ length b.states = omega (arith, low, many, at) in
      let twin : state_at c k ≡ twin_state = ap (λ (xs : List State). get_or xs k past) adds.states ∙ get_or_push b.states twin_state past k (sym last) in
      let alike : state_at b entry.state.0 ≡ twin_state = λ i. record { polarity = state_b.polarity i; head = head_at b entry.state.0 } in (
        subst (λ z. z < length a.states) (sym (new_last k last)) state.in_range,
        twin ∙ (sym alike ∙ (old_entry ∙ ap (state_at a) (sym (new_last k last)))),
      )

  new_edges : (n p k l : ℕ) → HasFlow a n p → (k < length b.states) ⊎ (k ≡ length b.states) → (l < length b.states) ⊎ (l ≡ length b.states) → new_of k ≡ n → new_of l ≡ p → HasFlow c k l
  new_edges n p k l edge (inl low) (inl low') same same' = adds.kept k l (it.edges n p k l edge low low' (sym (new_low k low) ∙ same) (sym (new_low l low') ∙ same'))
  new_edges n p k l edge (inr last) (inl low') same same' =
      let from : it.old_of entry.state.0 ≡ n = it.itself entry.state.0 state.in_range ∙ (sym (new_last k last) ∙ same) in
      let old : HasFlow b entry.state.0 l = it.edges n p entry.state.0 l edge state_b.in_range low' from (sym (new_low l low') ∙ same') in
      subst (λ z. HasFlow c z l) (adds.number ∙ sym last) (adds.edges l old)
  new_edges n p k l edge before (inr last) same same' =
      let positive : polarity_at a p ≡ Positive = (closed_a.positive (flow n p) edge).polarity in
      let negative : polarity_at a p ≡ Negative = subst (λ z. polarity_at a z ≡ Negative) (sym (new_last l last) ∙ same') state.polarity in
      absurd (cc)

  within : (k : ℕ) → k < length c.states → (k < length b.states) ⊎ (k ≡ length b.states)
  within k low = elim (below_or_more k (length b.states)) [ inl before ↦ inl before | inr at ↦ inr (let more : k ≡ length b.states + at.0 = at.1 in omega (arith, low, many, more)) ]

  back_at : (e : EnvEntry) → Contains env e ⊎ (mine ≡ e) → (old : EnvEntry) × Contains (entries ++ entry ∷ []) old × (old.binder ≡ e.binder) × (new_of e.state.0 ≡ old.state.0)
  back_at e (inl inside) = let at = it.back e inside in (at.0, Contains-append_left entries (entry ∷ []) at.0 at.1, at.2, new_low e.state.0 (it.own e inside).1 ∙ at.3)
  back_at e (inr same) = (entry, Contains-push entries entry, sym same_binder ∙ ap (λ (x : EnvEntry). x.binder) same, new_last e.state.0 (state_of_mine e same))

  forth_at : (e : EnvEntry) → Contains entries e ⊎ (entry ≡ e) → (m : EnvEntry) × Contains (env ++ mine ∷ []) m × (m.binder ≡ e.binder)
  forth_at e (inl inside) = let at = it.forth e inside in (at.0, Contains-append_left env (mine ∷ []) at.0 at.1, at.2)
  forth_at e (inr same) = (mine, Contains-push env mine, same_binder ∙ ap (λ (x : EnvEntry). x.binder) same)

  -- a model goes on with the value of the state for its twin
  module _ (value wide : ℕ → Predicate) (model : IsModel b wide) (old : (s : ℕ) → s < length a.states → wide s ≡ value s)
      (from : (k : ℕ) → k < length b.states → (o : ℕ) × (o < length a.states) × (polarity_at a o ≡ polarity_at b k) × (wide k ≡ value o))
      (binders : (e : EnvEntry) → Contains env e → (o : EnvEntry) × Contains entries o × (o.binder ≡ e.binder) × (wide e.state.0 ≡ value o.state.0)) where
    abbrev more : ℕ → Predicate
    more = extended (length b.states) wide (λ k. wide entry.state.0)

    kept : (s : ℕ) → s < length b.states → more s ≡ wide s
    kept s low = extended_old (length b.states) wide (λ k. wide entry.state.0) s low

    at_twin : (s : ℕ) → s ≡ length b.states → more s ≡ wide entry.state.0
    at_twin s at = ap more (at ∙ (let same : length b.states ≡ length b.states + 0 = omega arith in same)) ∙ extended_new (length b.states) wide (λ k. wide entry.state.0) 0

    edges : (m p : ℕ) → HasFlow b m p ⊎ ((m ≡ mine.state.0) × HasFlow b entry.state.0 p) → HasFlow b m p ⊎ Implies (more m) (more p)
    edges m p (inl edge) = inl edge
    edges m p (inr (same, edge)) = inr (
        Implies-trans (more m) (wide entry.state.0) (more p) (Implies-same (more m) (wide entry.state.0) (at_twin m (same ∙ adds.number)))
        (Implies-trans (wide entry.state.0) (wide p) (more p) (model.flows (flow entry.state.0 p) edge)
        (Implies-same_back (more p) (wide p) (kept p (closed.positive (flow entry.state.0 p) edge).in_range)))
        )

    twin_inside : (i : ℕ) → i < length (twin_state ∷ []) → IsInsideAt more (length b.states + i) (get_or (twin_state ∷ []) i past)
    twin_inside zero low =
        let at : length b.states + 0 ≡ length b.states = omega arith in
        let was : state_at c entry.state.0 ≡ state_at b entry.state.0 = ap (λ (xs : List State). get_or xs entry.state.0 past) adds.states ∙ get_or_append_left b.states (twin_state ∷ []) past entry.state.0 state_b.in_range in
        let alike : state_at b entry.state.0 ≡ twin_state = λ i. record { polarity = state_b.polarity i; head = head_at b entry.state.0 } in
        let same : state_at c entry.state.0 ≡ twin_state = was ∙ alike in
        let inside : IsInsideAt more entry.state.0 twin_state =
        subst (IsInsideAt more entry.state.0) same (old_inside b c (twin_state ∷ []) wide more closed model kept adds.states entry.state.0 state_b.in_range) in
        let values : more entry.state.0 ≡ more (length b.states + 0) = kept entry.state.0 state_b.in_range ∙ sym (at_twin (length b.states + 0) at) in
        subst (λ (f : Predicate). IsInside Negative (head_value Negative more (head_at b entry.state.0)) f) values inside
    twin_inside (suc i) low = absurd (omega (arith, low))

    pub wider_model : IsModel c more
    wider_model = model_added b c (twin_state ∷ []) wide more closed model kept adds.states (λ m p edge. edges m p (adds.flows m p edge)) twin_inside

    from_at : (k : ℕ) → k < length c.states → (k < length b.states) ⊎ ((d : ℕ) × (k ≡ length b.states + d)) → (o : ℕ) × (o < length a.states) × (polarity_at a o ≡ polarity_at c k) × (more k ≡ value o)
    from_at k low (inl before) =
        let found = from k before in
        let same : polarity_at c k ≡ polarity_at b k = ap (λ (x : State). x.polarity) (ap (λ (xs : List State). get_or xs k past) adds.states ∙ get_or_append_left b.states (twin_state ∷ []) past k before) in
        (found.0, found.1, found.2 ∙ sym same, kept k before ∙ found.3)
    from_at k low (inr (d, at)) =
        let last : k ≡ length b.states = omega (arith, low, many, at) in
        let same : polarity_at c k ≡ Negative = ap (λ (x : State). x.polarity) (ap (λ (xs : List State). get_or xs k past) adds.states ∙ get_or_push b.states twin_state past k (sym last)) in
        (entry.state.0, state.in_range, state.polarity ∙ sym same, at_twin k last ∙ old entry.state.0 state.in_range)

    value_at : (e : EnvEntry) → Contains env e ⊎ (mine ≡ e) → (o : EnvEntry) × Contains (entries ++ entry ∷ []) o × (o.binder ≡ e.binder) × (more e.state.0 ≡ value o.state.0)
    value_at e (inl inside) =
        let found = binders e inside in
        (found.0, Contains-append_left entries (entry ∷ []) found.0 found.1, found.2, kept e.state.0 (it.own e inside).1 ∙ found.3)
    value_at e (inr same) = (
      entry,
      Contains-push entries entry,
      sym same_binder ∙ ap (λ (x : EnvEntry). x.binder) same,
      at_twin e.state.0 (state_of_mine e same) ∙ old entry.state.0 state.in_range,
    )

  pub own_more : HasOwnStates a (entries ++ entry ∷ []) c (env ++ mine ∷ [])
  own_more = record {
    more = omega (arith, it.more, many);
    heads = λ k. good_at k (below_or_more k (length b.states));
    own = λ e inside. own_at e (cases e inside);
    apart = λ e f one two same. apart_at e f (cases e one) (cases f two) same;
    old_of = new_of;
    old_state = λ k low. new_state k low (below_or_more k (length b.states));
    itself = λ s low. new_low s (let more : length a.states ≤ length b.states = it.more in omega (arith, low, more)) ∙ it.itself s low;
    edges = λ n p k l edge low low' same same'. new_edges n p k l edge (within k low) (within l low') same same';
    back = λ e inside. back_at e (cases e inside);
    forth = λ e inside. forth_at e (Contains-push_cases entries entry e inside);
    models = λ value model.
        let found = it.models value model in
        let wide : ℕ → Predicate = found.0 in (
          more value wide found.1 found.2 found.3 found.4,
          wider_model value wide found.1 found.2 found.3 found.4,
          (λ s low. kept value wide found.1 found.2 found.3 found.4 s (omega (arith, low, it.more)) ∙ found.2 s low),
          (λ k low. from_at value wide found.1 found.2 found.3 found.4 k low (below_or_more k (length b.states))),
          (λ e inside. value_at value wide found.1 found.2 found.3 found.4 e (cases e inside)),
        );
  }

-- a binder of an environment has a state
some_state : (env : List EnvEntry) (entry : EnvEntry) → Contains env entry → IsSome (state_of env entry.binder)
some_state [] entry there = absurd (nothing entry there)
some_state (first ∷ rest) entry there = go (eqb_tells first.binder entry.binder) (Contains-cases first rest entry there) (some_state rest entry)
  where
    found : (x : Bool) → (first.binder == entry.binder) ≡ x → state_of (first ∷ rest) entry.binder ≡ option_map (λ (e : EnvEntry). e.state.0) (cond x (Some first) (find (λ (e : EnvEntry). e.binder == entry.binder) rest))
    found x same = ap (λ b. option_map (λ (e : EnvEntry). e.state.0) (cond b (Some first) (find (λ (e : EnvEntry). e.binder == entry.binder) rest))) same

    go : (((first.binder == entry.binder) ≡ true) × (first.binder ≡ entry.binder)) ⊎ (((first.binder == entry.binder) ≡ false) × (first.binder ≢ entry.binder)) → (first ≡ entry) ⊎ Contains rest entry → (Contains rest entry → IsSome (state_of rest entry.binder))
        → IsSome (state_of (first ∷ rest) entry.binder)
    go (inl same) cases next = ap is_some (found true same.0)
    go (inr other) (inl same) next = absurd (other.1 (ap (λ (e : EnvEntry). e.binder) same))
    go (inr other) (inr later) next = ap is_some (found false other.0) ∙ next later

-- the scheme with these states
module _ (s own : Scheme) (it : HasOwnStates s.automaton s.env own.automaton own.env) where
  pub own_separate : AreSeparate own
  own_separate = record {
    apart = it.apart;
    free = λ k. states_more (λ p j. j < length s.automaton.states) (λ p. IsOfNoBinder own) (λ p j low entry there same. let at = it.own entry there in absurd (omega (arith, low, at.0, same))) (polarity_at own.automaton k) (head_at own.automaton k) (it.heads k);
  }

  pub own_binders : BindersRise s.env → HasBindersOf own s
  own_binders rise x some = go (state_of own.env x) refl some
    where
      go : (o : Option ℕ) → state_of own.env x ≡ o → IsSome o → IsSome (state_of s.env x)
      go None e wrong = absurd (cc)
      go (Some n) e is =
          let mine = found-entry own.env x n e in
          let at = it.back mine.0 mine.1 in
          let same : state_of s.env x ≡ Some at.0.state.0 = subst (λ y. state_of s.env y ≡ Some at.0.state.0) (at.2 ∙ mine.2) (entry-found s.env rise at.0 at.1) in
          ap is_some same

  pub own_subsumes : IsScheme s → IsScheme own → BindersRise s.env → own.root.0 ≡ s.root.0 → DoesSubsume own s
  own_subsumes is is_own rise root b c is_b is_c = subsumes_by_model own is_own b is_b c model
    where
      old : HasModel s NoGoal (passes c.book c.root) (binder_of c)
      old = model-of_subsumes s is c is_c c (Subsumes-refl c)

      wide : ℕ → Predicate
      wide = (it.models old.value old.model).0

      wide_model : IsModel own.automaton wide
      wide_model = (it.models old.value old.model).1

      same_old : (k : ℕ) → k < length s.automaton.states → wide k ≡ old.value k
      same_old = (it.models old.value old.model).2

      from : (k : ℕ) → k < length own.automaton.states → (o : ℕ) × (o < length s.automaton.states) × (polarity_at s.automaton o ≡ polarity_at own.automaton k) × (wide k ≡ old.value o)
      from = (it.models old.value old.model).3

      binders : (entry : EnvEntry) → Contains own.env entry → (o : EnvEntry) × Contains s.env o × (o.binder ≡ entry.binder) × (wide entry.state.0 ≡ old.value o.state.0)
      binders = (it.models old.value old.model).4

      held : (n : ℕ) → IsState own.automaton Negative n → IsIn old.nodes (wide n)
      held n state =
          let at = from n state.in_range in
          subst (IsIn old.nodes) (sym at.3) (old.held at.0 (record { in_range = at.1; polarity = at.2 ∙ state.polarity }))

      root_below : Implies (wide own.root.0) (passes c.book c.root)
      root_below =
          Implies-trans (wide own.root.0) (old.value s.root.0) (passes c.book c.root)
          (Implies-same (wide own.root.0) (old.value s.root.0) (ap wide root ∙ same_old s.root.0 is.root.in_range)) old.root

      env_above : (x : ℕ) (o : Option ℕ) → state_of own.env x ≡ o → Implies (binder_of c x) (binder_passes wide o)
      env_above x None e = λ t h. refl
      env_above x (Some n) e =
          let mine = found-entry own.env x n e in
          let at = binders mine.0 mine.1 in
          let same : state_of s.env x ≡ Some at.0.state.0 = subst (λ y. state_of s.env y ≡ Some at.0.state.0) (at.2 ∙ mine.2) (entry-found s.env rise at.0 at.1) in
          let above : Implies (binder_of c x) (old.value at.0.state.0) = subst (λ (o : Option ℕ). Implies (binder_of c x) (binder_passes old.value o)) same (old.env x) in
          let value : wide n ≡ old.value at.0.state.0 = ap wide (sym mine.3) ∙ at.3 in
          Implies-trans (binder_of c x) (old.value at.0.state.0) (wide n) above (Implies-same_back (wide n) (old.value at.0.state.0) value)

      model : HasModel own NoGoal (passes c.book c.root) (binder_of c)
      model = record {
        nodes = old.nodes;
        closed = old.closed;
        value = wide;
        model = wide_model;
        held = held;
        goals = λ p n goal. absurd goal;
        root = root_below;
        env = λ x. env_above x (state_of own.env x) refl;
      }

  -- the other way round: each state of the scheme goes to itself and to its twins
  pub own_deterministic : IsDeterministic s.automaton → IsDeterministic own.automaton
  own_deterministic single k = at (below_or_more k (length own.automaton.states))
    where
      at : (k < length own.automaton.states) ⊎ ((d : ℕ) × (k ≡ length own.automaton.states + d)) → HasSingleArms (head_at own.automaton k).function × HasSingleFields (head_at own.automaton k).fields
      at (inl low) = subst (λ (x : State). HasSingleArms x.head.function × HasSingleFields x.head.fields) (sym (it.old_state k low).1) (single (it.old_of k))
      at (inr (d, more)) = subst (λ (x : State). HasSingleArms x.head.function × HasSingleFields x.head.fields) (sym (get_or_past own.automaton.states k past (omega (arith, more)))) (tt, tt)

  pub own_all : HasBindersOf s own
  own_all x some = go (state_of s.env x) refl some
    where
      go : (o : Option ℕ) → state_of s.env x ≡ o → IsSome o → IsSome (state_of own.env x)
      go None e wrong = absurd (cc)
      go (Some n) e is =
          let entry = found-entry s.env x n e in
          let mine = it.forth entry.0 entry.1 in
          subst (λ y. IsSome (state_of own.env y)) (mine.2 ∙ entry.2) (some_state own.env mine.0 mine.1)

  abbrev twins : ℕ → List ℕ
  twins g = g ∷ filter (λ k. it.old_of k == g) (range_with_len 0 (length own.automaton.states))

  IsTwin : ℕ → ℕ → Type 0
  IsTwin g k = (k ≡ g) ⊎ ((k < length own.automaton.states) × (it.old_of k ≡ g))

  twin_of : (g k : ℕ) → Contains (twins g) k → IsTwin g k
  unfolding IsTwin
  twin_of g k there = elim (Contains-cases g (filter (λ k. it.old_of k == g) (range_with_len 0 (length own.automaton.states))) k there) [
    | inl same ↦ inl (sym same)
    | inr later ↦ inr (
      (let low : k < 0 + length own.automaton.states = (range_from-contains 0 (length own.automaton.states) k (Contains-filtered (λ k. it.old_of k == g) (range_with_len 0 (length own.automaton.states)) k later)).1 in omega (arith, low)),
      eqb-true (it.old_of k) g (passes-filtered (λ k. it.old_of k == g) (range_with_len 0 (length own.automaton.states)) k later),
    )
  ]

  own_twin : (k : ℕ) → k < length own.automaton.states → Contains (twins (it.old_of k)) k
  own_twin k low =
      Contains-later (it.old_of k) (filter (λ j. it.old_of j == it.old_of k) (range_with_len 0 (length own.automaton.states))) k
      (Contains-filter (λ j. it.old_of j == it.old_of k) (range_with_len 0 (length own.automaton.states)) k (Contains-range (length own.automaton.states) k low) (eq-eqb (it.old_of k) (it.old_of k) refl))

  module _ (is : IsScheme s) (is_own : IsScheme own) where
    twin_low : (g k : ℕ) → g < length s.automaton.states → IsTwin g k → (k < length own.automaton.states) × (it.old_of k ≡ g)
    unfolding IsTwin
    twin_low g k low (inl same) =
        let more : length s.automaton.states ≤ length own.automaton.states = it.more in
        (omega (arith, low, same, more), ap it.old_of same ∙ it.itself g low)
    twin_low g k low (inr at) = at

    simulates : (value : ℕ → Predicate) → IsModel own.automaton value → IsSimulation s.automaton own.automaton twins value
    simulates value model = record {
      states = λ g k low there.
          let at = twin_low g k low (twin_of g k there) in
          record { in_range = at.0; polarity = ap (λ (x : State). x.polarity) ((it.old_state k at.0).1 ∙ ap (state_at s.automaton) at.1) };
      heads = λ g k low there.
          let at = twin_low g k low (twin_of g k there) in
          subst (λ (x : State). IsHeadWithin (λ x y. Contains (twins x) y) (polarity_at s.automaton g) (parts_of (head_at s.automaton g)) (parts_of x.head)) (sym ((it.old_state k at.0).1 ∙ ap (state_at s.automaton) at.1))
          (within-more Same (λ x y. Contains (twins x) y) (λ x y same. subst (Contains (twins x)) same (Contains-here x (filter (λ j. it.old_of j == x) (range_with_len 0 (length own.automaton.states))))) (polarity_at s.automaton g)
          (parts_of (head_at s.automaton g)) (parts_of (head_at s.automaton g)) (within-self (polarity_at s.automaton g) (parts_of (head_at s.automaton g))));
      flows = λ f k l edge one two.
          let n : ℕ = f.negative.0 in
          let p : ℕ = f.positive.0 in
          let at = twin_low n k (is.automaton.negative f edge).in_range (twin_of n k one) in
          let at' = twin_low p l (is.automaton.positive f edge).in_range (twin_of p l two) in
          model.flows (flow k l) (it.edges n p k l edge at.0 at'.0 at.1 at'.1);
    }

    pub own_subsumed : BindersRise s.env → own.root.0 ≡ s.root.0 → DoesSubsume s own
    own_subsumed rise root b t is_b is_t =
        simulation_subsumes s own b t is is_own is_b is_t twins (simulates (plain is_t.variable own.automaton) (passes-model own.automaton is_own.automaton (λ f. var (is_t.variable f))))
        (subst (Contains (twins s.root.0)) (sym root) (Contains-here s.root.0 (filter (λ j. it.old_of j == s.root.0) (range_with_len 0 (length own.automaton.states)))))
        (λ x. paired x (state_of s.env x) refl (state_of own.env x) refl)
      where
        paired : (x : ℕ) (o : Option ℕ) → state_of s.env x ≡ o → (k : Option ℕ) → state_of own.env x ≡ k → IsBinderPaired twins o k
        paired x None e k e' = tt
        paired x (Some g) e None e' = let some : IsSome (state_of own.env x) = own_all x (ap is_some e) in let none : is_some (state_of own.env x) ≡ false = ap is_some e' in absurd (cc)
        paired x (Some g) e (Some m) e' =
            let mine = found-entry own.env x m e' in
            let old = it.back mine.0 mine.1 in
            let state : state_of s.env x ≡ Some old.0.state.0 = subst (λ y. state_of s.env y ≡ Some old.0.state.0) (old.2 ∙ mine.2) (entry-found s.env rise old.0 old.1) in
            let same : g ≡ old.0.state.0 = cc in
            let of : it.old_of m ≡ g = ap it.old_of (sym mine.3) ∙ (old.3 ∙ sym same) in
            subst (λ z. Contains (twins z) m) of (own_twin m (is_own.env x m e').in_range)

-- what subsumes a scheme subsumes what is equivalent to it
pub subsumes_equivalent : (own simple s : Scheme) → IsScheme simple → DoesSubsume own simple → AreEquivalentSchemes s simple → DoesSubsume own s
subsumes_equivalent own simple s is does same b c is_b is_c =
    let d = scheme_exists simple is in
    Subsumes-trans b d.0 c (does b d.0 is_b d.1) (same c d.0 is_c d.1).1

-- and what a scheme subsumes is subsumed by what is equivalent to it
pub equivalent_subsumes : (own simple s : Scheme) → IsScheme simple → DoesSubsume simple own → AreEquivalentSchemes s simple → DoesSubsume s own
equivalent_subsumes own simple s is does same b c is_b is_c =
    let d = scheme_exists simple is in
    Subsumes-trans b d.0 c (same b d.0 is_b d.1).0 (does d.0 c d.1 is_c)
