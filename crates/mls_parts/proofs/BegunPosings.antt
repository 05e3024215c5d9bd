-- A constraint that has a state for each binder, and nothing else.
--     begun_none, begun_next      one binder after another
--     begun_good, begun_model
use Rattle.std.proofs.Common.{◌≡◌, ◌⊎◌, inl, inr, ℕ, zero, suc, ◌+◌, ◌<◌, Bool, true, false, List, [], ◌∷◌, ◌++◌, map, length, get_or, Contains, refl, sym, ap, ◌∙◌, subst, arith, Some, None, IsSome, length-append}
use Rattle.std.specs.Prelude.{cond}
use Rattle.std.specs.BTreeMap.{BTreeMap, IsEmpty, get, is_at}
use Rattle.std.specs.Map.{lookup}
use Rattle.std.specs.Ordering.{nat_cmp, is_eq}
use Rattle.std.proofs.Math.ListN.{get_or-append}
use Rattle.std.proofs.lemmas.List.{get_or-append-add, get_or_past, length-map, map-append}
use Rattle.std.proofs.lemmas.List.Elements.{Contains-get_or, Contains-push_cases}
use Rattle.mls_book.specs.Predicates.{Predicate, Implies, top}
use Rattle.mls_book.proofs.LongerBooks.{below_or_more}
use Rattle.mls_automaton.specs.declared.automaton.Polarity.TheVariants.{Negative, Positive}
use Rattle.mls_automaton.specs.declared.automaton.Flow.{Flow}
use Rattle.mls_automaton.specs.declared.automaton.Head.{Head}
use Rattle.mls_automaton.specs.declared.automaton.State.{State}
use Rattle.mls_automaton.specs.Automata.{Automaton, empty_head, head_at, polarity_at, state_at, IsState}
use Rattle.mls_automaton.specs.Heads.{head_value}
use Rattle.mls_automaton.specs.Models.{HasRisingLabels, HasStatesIn, IsInside}
use Rattle.mls_solver.specs.declared.goal.Goal.{Goal}
use Rattle.mls_infer.proofs.HeadValues.{empty_value}
use Rattle.mls_typing.specs.Typed.{IsType}
use Rattle.mls_typing.proofs.Contexts.{same_key}
use Rattle.mls_parts.specs.declared.pose.Need.{Need}
use Rattle.mls_parts.specs.declared.pose.Posing.{Posing}
use Rattle.mls_parts.specs.PosedCopies.{IsGood}
use Rattle.mls_parts.specs.PosedModels.{HasModel}
use Rattle.mls_parts.specs.PosedParts.{AddsBinder, IsBegun}
use Rattle.mls_parts.specs.Posings.{negative, size}
use Rattle.mls_parts.proofs.HeldTypes.{top_type}
use Rattle.mls_parts.proofs.PosedModels.{extended, extended_old, extended_types}

abbrev past : State
past = record { polarity = Positive; head = empty_head }

abbrev state_for : ℕ → State
state_for x = negative empty_head

nowhere : (m : BTreeMap ℕ ℕ) (k : ℕ) → IsEmpty m → get nat_cmp m k ≡ None
nowhere m k empty = ap (lookup (is_at (nat_cmp k))) empty

pub begun_none : (p : Posing) → p.automaton ≡ record { states = []; flows = [] } → p.goals ≡ [] → p.needs ≡ [] → IsEmpty p.roots → IsEmpty p.binders → IsEmpty p.copies → IsEmpty p.results → IsBegun [] p
begun_none p automaton goals needs roots binders copies results = record {
  states = ap (λ (a : Automaton). a.states) automaton;
  flows = ap (λ (a : Automaton). a.flows) automaton;
  goals = goals;
  needs = needs;
  no_root = λ i. nowhere p.roots i roots;
  no_copy = λ i. nowhere p.copies i copies;
  no_result = λ i. nowhere p.results i results;
  there = λ x there. let low : there.0 < 0 = there.1 in absurd (omega arith);
  back = λ x s e. let none : get nat_cmp p.binders x ≡ None = nowhere p.binders x binders in absurd (cc);
}

module _ (binders : List ℕ) (p : Posing) (it : IsBegun binders p) where
  pub many : size p ≡ length binders
  many = ap length it.states ∙ length-map binders state_for

  pub begun_next : (x : ℕ) (q : Posing) → AddsBinder p q x → IsBegun (binders ++ x ∷ []) q
  begun_next x q more = record {
    states =
        ap (λ (a : Automaton). a.states) more.automaton
        ∙ (ap (λ (xs : List State). xs ++ negative empty_head ∷ []) it.states ∙ sym (map-append state_for binders (x ∷ [])));
    flows = ap (λ (a : Automaton). a.flows) more.automaton ∙ it.flows;
    goals = more.goals ∙ it.goals;
    needs = more.needs ∙ it.needs;
    no_root = λ i. ap (λ rs. get nat_cmp rs i) more.roots ∙ it.no_root i;
    no_copy = λ i. ap (λ cs. get nat_cmp cs i) more.copies ∙ it.no_copy i;
    no_result = λ i. ap (λ rs. get nat_cmp rs i) more.results ∙ it.no_result i;
    there = λ y there. has y (Contains-push_cases binders x y there) (is_eq (nat_cmp x y)) refl (more.binders.0 y);
    back = λ y s e. found y s e (is_eq (nat_cmp x y)) refl (more.binders.0 y);
  }
    where
      has : (y : ℕ) → Contains binders y ⊎ (x ≡ y) → (b : Bool) → is_eq (nat_cmp x y) ≡ b → get nat_cmp q.binders y ≡ cond b (Some (size p)) (get nat_cmp p.binders y) → IsSome (get nat_cmp q.binders y)
      has y it' true same is = subst IsSome (sym is) refl
      has y (inl old) false other is = subst IsSome (sym is) (it.there y old)
      has y (inr new) false other is = subst (λ z. IsSome (get nat_cmp q.binders z)) new (subst IsSome (sym more.binders.1) refl)

      found : (y s : ℕ) → get nat_cmp q.binders y ≡ Some s → (b : Bool) → is_eq (nat_cmp x y) ≡ b → get nat_cmp q.binders y ≡ cond b (Some (size p)) (get nat_cmp p.binders y)
          → (s < length (binders ++ x ∷ [])) × ((d : ℕ) → get_or (binders ++ x ∷ []) s d ≡ y)
      found y s e true same is =
          let at : size p ≡ s = cc in
          let all : length (binders ++ x ∷ []) ≡ length binders + 1 = length-append binders (x ∷ []) in
          let where_is : s ≡ length binders + 0 = let m : size p ≡ length binders = many in omega arith in
          ((let m : size p ≡ length binders = many in omega arith), λ d. ap (λ k. get_or (binders ++ x ∷ []) k d) where_is ∙ (get_or-append-add binders (x ∷ []) 0 d ∙ same_key x y same))
      found y s e false other is =
          let old = it.back y s (sym is ∙ e) in
          let all : length (binders ++ x ∷ []) ≡ length binders + 1 = length-append binders (x ∷ []) in
          let low : s < length binders = old.0 in
          (omega arith, λ d. get_or-append binders (x ∷ []) d s low ∙ old.1 d)

  -- each state is negative, and has nothing
  pub begun_state : (s : ℕ) → s < length binders → state_at p.automaton s ≡ negative empty_head
  begun_state s low = ap (λ (xs : List State). get_or xs s past) it.states ∙ mapped binders s low
    where
      mapped : (xs : List ℕ) (s : ℕ) → s < length xs → get_or (map state_for xs) s past ≡ negative empty_head
      mapped [] s low = absurd (omega arith)
      mapped (x ∷ xs) zero low = refl
      mapped (x ∷ xs) (suc s) low = mapped xs s (omega arith)

  no_head : (s : ℕ) → head_at p.automaton s ≡ empty_head
  no_head s = go (below_or_more s (length binders))
    where
      go : (s < length binders) ⊎ ((k : ℕ) × (s ≡ length binders + k)) → head_at p.automaton s ≡ empty_head
      go (inl low) = ap (λ (x : State). x.head) (begun_state s low)
      go (inr (k, is)) = ap (λ (x : State). x.head) (get_or_past p.automaton.states s past (let m : size p ≡ length binders = many in omega (arith, is)))

  no_flow : (f : Flow) → Contains p.automaton.flows f → ⊥
  no_flow f there = let in_none : Contains [] f = subst (λ (fs : List Flow). Contains fs f) it.flows there in let low : in_none.0 < 0 = in_none.1 in omega arith

  no_goal : (g : Goal) → Contains p.goals g → ⊥
  no_goal g there = let in_none : Contains [] g = subst (λ (gs : List Goal). Contains gs g) it.goals there in let low : in_none.0 < 0 = in_none.1 in omega arith

  no_need : (need : Need) → Contains p.needs need → ⊥
  no_need need there = let in_none : Contains [] need = subst (λ (ns : List Need). Contains ns need) it.needs there in let low : in_none.0 < 0 = in_none.1 in omega arith

  pub begun_good : IsGood p
  begun_good = record {
    closed = record {
      heads = λ s. subst (HasStatesIn (IsState p.automaton) (polarity_at p.automaton s)) (sym (no_head s)) (record { function = tt; fields = tt });
      labels = λ s. subst (λ (h : Head). HasRisingLabels h.fields) (sym (no_head s)) tt;
      negative = λ f there. absurd (no_flow f there);
      positive = λ f there. absurd (no_flow f there);
    };
    goals = λ g there. absurd (no_goal g there);
    roots = λ i s e. let none : get nat_cmp p.roots i ≡ None = it.no_root i in absurd (cc);
    binders = λ x s e.
        let at = it.back x s e in
        record { in_range = let m : size p ≡ length binders = many in let low : s < length binders = at.0 in omega arith; polarity = ap (λ (y : State). y.polarity) (begun_state s at.0) };
    no_head = λ x s e. no_head s;
    needs = λ need there. absurd (no_need need there);
    labels = λ need there. absurd (no_need need there);
    around = λ need there. absurd (no_need need there);
    copies = λ i n e. let none : get nat_cmp p.copies i ≡ None = it.no_copy i in absurd (cc);
    results = λ i n e. let none : get nat_cmp p.results i ≡ None = it.no_result i in absurd (cc);
  }

  pub begun_model : (type binder : ℕ → Predicate) → ((x : ℕ) → Contains binders x → IsType (binder x)) → HasModel p type binder
  begun_model type binder are = record {
    value = value;
    types_are = extended_types (length binders) (λ s. binder (get_or binders s 0)) (λ k. top) (λ s low. are (get_or binders s 0) (Contains-get_or binders s 0 low)) (λ k. top_type);
    model = record { flows = λ f there. absurd (no_flow f there); heads = λ s. met s (below_or_more s (length binders)) };
    goals = λ g there. absurd (no_goal g there);
    roots = λ i s e. let none : get nat_cmp p.roots i ≡ None = it.no_root i in absurd (cc);
    binders = λ x s e. let at = it.back x s e in extended_old (length binders) (λ s. binder (get_or binders s 0)) (λ k. top) s at.0 ∙ ap binder (at.1 0);
    results = λ i s e. let none : get nat_cmp p.results i ≡ None = it.no_result i in absurd (cc);
    needs = λ need there. absurd (no_need need there);
  }
    where
      value : ℕ → Predicate
      value = extended (length binders) (λ s. binder (get_or binders s 0)) (λ k. top)

      met : (s : ℕ) → (s < length binders) ⊎ ((k : ℕ) × (s ≡ length binders + k))
          → IsInside (state_at p.automaton s).polarity (head_value (state_at p.automaton s).polarity (extended (length binders) (λ s. binder (get_or binders s 0)) (λ k. top)) (state_at p.automaton s).head) (extended (length binders) (λ s. binder (get_or binders s 0)) (λ k. top) s)
      met s (inl low) =
          subst (λ (x : State). IsInside x.polarity (head_value x.polarity (extended (length binders) (λ s. binder (get_or binders s 0)) (λ k. top)) x.head) (extended (length binders) (λ s. binder (get_or binders s 0)) (λ k. top) s)) (sym (begun_state s low))
          (subst (Implies (extended (length binders) (λ s. binder (get_or binders s 0)) (λ k. top) s)) (sym (empty_value Negative (extended (length binders) (λ s. binder (get_or binders s 0)) (λ k. top)))) (λ t e. refl))
      met s (inr (k, is)) =
          subst (λ (x : State). IsInside x.polarity (head_value x.polarity (extended (length binders) (λ s. binder (get_or binders s 0)) (λ k. top)) x.head) (extended (length binders) (λ s. binder (get_or binders s 0)) (λ k. top) s))
          (sym (get_or_past p.automaton.states s past (let m : size p ≡ length binders = many in omega (arith, is))))
          (subst (λ f. Implies f (extended (length binders) (λ s. binder (get_or binders s 0)) (λ k. top) s)) (sym (empty_value Positive (extended (length binders) (λ s. binder (get_or binders s 0)) (λ k. top)))) (λ t e. absurd (cc)))
