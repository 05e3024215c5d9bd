-- Where binders rise, a binder has one state at most.
--     state_alone                   the state of a binder that has one at most
--     states_step, states_all       its states, entry by entry
--     scheme_states                 a scheme has the states that constraints ask for
use Rattle.std.proofs.Common.{◌≡◌, ◌≢◌, ◌↔◌, ◌⊎◌, inl, inr, ℕ, suc, ◌<◌, ◌≤◌, Bool, true, false, cond, List, [], ◌∷◌, ◌++◌, ◌+◌, take, map, length, get_or, refl, sym, ap, subst, ◌∙◌, arith, Some, None, Contains}
use Rattle.std.specs.Prelude.{Option, option_map, find, filter, ◌==◌}
use Rattle.std.specs.Ordering.{nat_cmp, eq_by_cmp}
use Rattle.std.specs.Cmp.{unsigned_tied}
use Rattle.std.proofs.lemmas.Bool.{cases_eq}
use Rattle.std.proofs.lemmas.Bool.Decides.{nat_tests}
use Rattle.std.proofs.lemmas.List.{get_or_default, take_all, take_more}
use Rattle.mls_automaton.specs.declared.state_set.StateId.{StateId}
use Rattle.mls_automaton.specs.declared.scheme.EnvEntry.{EnvEntry}
use Rattle.mls_automaton.specs.Environments.{BindersRise}
use Rattle.mls_automaton.specs.declared.scheme.Scheme.{Scheme}
use Rattle.mls_automaton.specs.Schemes.{IsScheme, state_of}
use Rattle.mls_automaton.proofs.Lists.{Contains-cases, Contains-here, Contains-later}
use Rattle.mls_infer.specs.Constraints.{HasStates, states_of}
use Rattle.mls_infer.specs.Joining.{listed}
use Rattle.mls_infer.proofs.ConstraintRows.{nothing_in}
use Rattle.mls_infer.proofs.Models.{EachFound}

abbrev numbers : Option ℕ → List ℕ
numbers None = []
numbers (Some n) = n ∷ []

same_test : (a b : ℕ) → eq_by_cmp nat_cmp a b ≡ (a == b)
same_test a b = unsigned_tied a b

different : (a b : ℕ) → a < b → (b == a) ≡ false
different a b less = grind (arith, nat_tests)

equal_back : (a b : ℕ) → a ≡ b → (a == b) ≡ true
equal_back a b e = grind (arith, nat_tests)

different_back : (a b : ℕ) → a < b → (a == b) ≡ false
different_back a b less = grind (arith, nat_tests)

equal : (a b : ℕ) → (a == b) ≡ true → a ≡ b
equal a b e = grind (arith, nat_tests)

unequal : (a b : ℕ) → a ≢ b → (a == b) ≡ false
unequal a b apart = go (a == b) refl
  where
    go : (t : Bool) → (a == b) ≡ t → t ≡ false
    go false test = refl
    go true test = absurd (apart (equal a b test))

abbrev number_in : EnvEntry → ℕ
number_in entry = entry.state.0

-- no state above all binders
no_states : (x : ℕ) (env : List EnvEntry) → ((j : ℕ) (d : EnvEntry) → j < length env → x < (get_or env j d).binder) → states_of x env ≡ []
no_states x [] above = refl
no_states x (e ∷ rest) above =
    let apart : eq_by_cmp nat_cmp e.binder x ≡ false = same_test e.binder x ∙ different x e.binder (above 0 e (omega arith)) in
    (λ k. map number_in (cond (apart k) (e ∷ filter (λ (entry : EnvEntry). eq_by_cmp nat_cmp entry.binder x) rest) (filter (λ (entry : EnvEntry). eq_by_cmp nat_cmp entry.binder x) rest)))
    ∙ no_states x rest (λ j d low. above (suc j) d (omega arith))

later_rise : (e : EnvEntry) (rest : List EnvEntry) → BindersRise (e ∷ rest) → BindersRise rest
later_rise e rest rise = λ i j d less low. rise (suc i) (suc j) d (omega arith) (omega arith)

listed_numbers : (o : Option StateId) → listed o ≡ numbers (option_map (λ (s : StateId). s.0) o)
listed_numbers None = refl
listed_numbers (Some s) = refl

-- each entry is the one that is found
pub rising_found : (env : List EnvEntry) → BindersRise env → EachFound env
rising_found [] rise entry inside = absurd (nothing_in entry inside)
rising_found (e ∷ rest) rise entry inside = by_case (Contains-cases e rest entry inside) (rising_found rest (later_rise e rest rise) entry)
  where
    others : Option EnvEntry
    others = find (λ (other : EnvEntry). other.binder == entry.binder) rest

    by_case : (e ≡ entry) ⊎ Contains rest entry → (Contains rest entry → state_of rest entry.binder ≡ Some entry.state.0) → state_of (e ∷ rest) entry.binder ≡ Some entry.state.0
    by_case (inl same) later =
        let test : (e.binder == entry.binder) ≡ true = equal_back e.binder entry.binder (ap (λ (e : EnvEntry). e.binder) same) in
        (λ k. option_map number_in (cond (test k) (Some e) others)) ∙ ap (λ (e : EnvEntry). Some e.state.0) same
    by_case (inr inside) later =
        let low : inside.0 < length rest = inside.1 in
        let less : e.binder < entry.binder = subst (λ (x : EnvEntry). e.binder < x.binder) inside.2 (rise 0 (suc inside.0) entry (omega arith) (omega arith)) in
        let test : (e.binder == entry.binder) ≡ false = different_back e.binder entry.binder less in
        (λ k. option_map number_in (cond (test k) (Some e) others)) ∙ later inside

-- a binder that has one state at most
pub few_found : (x : ℕ) (env : List EnvEntry) → length (states_of x env) ≤ 1 → states_of x env ≡ numbers (state_of env x)
few_found x [] few = refl
few_found x (e ∷ rest) few =
    (λ k. map number_in (cond (same_test e.binder x k) (e ∷ others) others))
    ∙ go (e.binder == x) refl (subst (λ b. length (map number_in (cond b (e ∷ others) others)) ≤ 1) (same_test e.binder x) few) (few_found x rest)
  where
    others : List EnvEntry
    others = filter (λ (entry : EnvEntry). eq_by_cmp nat_cmp entry.binder x) rest

    none : (ns : List ℕ) → length ns ≤ 0 → ns ≡ []
    none [] low = refl
    none (n ∷ ns) low = absurd (omega arith)

    go : (b : Bool) → (e.binder == x) ≡ b → length (map number_in (cond b (e ∷ others) others)) ≤ 1 → (length (map number_in others) ≤ 1 → map number_in others ≡ numbers (state_of rest x))
        → map number_in (cond b (e ∷ others) others) ≡ numbers (option_map number_in (cond b (Some e) (find (λ (entry : EnvEntry). entry.binder == x) rest)))
    go false test few later = later few
    go true test few later = ap (λ ns. e.state.0 ∷ ns) (none (map number_in others) (omega arith))

pub state_alone : (x : ℕ) (env : List EnvEntry) (o : Option StateId) → length (states_of x env) ≤ 1 → option_map (λ (s : StateId). s.0) o ≡ state_of env x → listed o ≡ states_of x env
state_alone x env o few is = listed_numbers o ∙ (ap numbers is ∙ sym (few_found x env few))

-- the states of a binder, entry by entry
one_more_state : (x : ℕ) (env : List EnvEntry) (e : EnvEntry) (n : ℕ) → e.binder ≡ x → Contains (states_of x (env ++ e ∷ [])) n ↔ (n ≡ e.state.0) ⊎ Contains (states_of x env) n
one_more_state x [] e n is = subst (λ b. Contains (map number_in (cond b (e ∷ []) [])) n ↔ (n ≡ e.state.0) ⊎ Contains [] n) (sym (same_test e.binder x ∙ equal_back e.binder x is)) (
  λ inside. elim (Contains-cases e.state.0 [] n inside) [ inl same ↦ inl (sym same) | inr there ↦ inr there ],
  λ either. elim either [ inl same ↦ subst (λ n. Contains (e.state.0 ∷ []) n) (sym same) (Contains-here e.state.0 []) | inr there ↦ absurd (nothing_in n there) ],
)
one_more_state x (f ∷ rest) e n is = go (eq_by_cmp nat_cmp f.binder x) (one_more_state x rest e n is)
  where
    later : List EnvEntry
    later = filter (λ (entry : EnvEntry). eq_by_cmp nat_cmp entry.binder x) (rest ++ e ∷ [])

    before : List EnvEntry
    before = filter (λ (entry : EnvEntry). eq_by_cmp nat_cmp entry.binder x) rest

    go : (b : Bool) → (Contains (map number_in later) n ↔ (n ≡ e.state.0) ⊎ Contains (map number_in before) n) → Contains (map number_in (cond b (f ∷ later) later)) n ↔ (n ≡ e.state.0) ⊎ Contains (map number_in (cond b (f ∷ before) before)) n
    go false it = it
    go true it = (
      λ inside. elim (Contains-cases f.state.0 (map number_in later) n inside) [
        | inl same ↦ inr (subst (Contains (f.state.0 ∷ map number_in before)) same (Contains-here f.state.0 (map number_in before)))
        | inr there ↦ elim (it.0 there) [ inl same ↦ inl same | inr old ↦ inr (Contains-later f.state.0 (map number_in before) n old) ]
      ],
      λ either. elim either [
        | inl same ↦ Contains-later f.state.0 (map number_in later) n (it.1 (inl same))
        | inr old ↦ elim (Contains-cases f.state.0 (map number_in before) n old) [
          | inl same ↦ subst (Contains (f.state.0 ∷ map number_in later)) same (Contains-here f.state.0 (map number_in later))
          | inr there ↦ Contains-later f.state.0 (map number_in later) n (it.1 (inr there))
        ]
      ],
    )

no_more_state : (x : ℕ) (env : List EnvEntry) (e : EnvEntry) → e.binder ≢ x → states_of x (env ++ e ∷ []) ≡ states_of x env
no_more_state x [] e other = λ k. map number_in (cond (other_test k) (e ∷ []) [])
  where
    other_test : eq_by_cmp nat_cmp e.binder x ≡ false
    other_test = same_test e.binder x ∙ unequal e.binder x other
no_more_state x (f ∷ rest) e other = go (eq_by_cmp nat_cmp f.binder x) (no_more_state x rest e other)
  where
    later : List EnvEntry
    later = filter (λ (entry : EnvEntry). eq_by_cmp nat_cmp entry.binder x) (rest ++ e ∷ [])

    before : List EnvEntry
    before = filter (λ (entry : EnvEntry). eq_by_cmp nat_cmp entry.binder x) rest

    go : (b : Bool) → map number_in later ≡ map number_in before → map number_in (cond b (f ∷ later) later) ≡ map number_in (cond b (f ∷ before) before)
    go false it = it
    go true it = ap (λ ns. f.state.0 ∷ ns) it

module _ (x : ℕ) (env : List EnvEntry) (i : ℕ) (e : EnvEntry) (low : i < length env) (is : get_or env i e ≡ e) where
  next_entry : take (i + 1) env ≡ take i env ++ e ∷ []
  next_entry = take_more env i e low ∙ ap (λ f. take i env ++ f ∷ []) is

  states_more : (n : ℕ) → Contains (states_of x (take (i + 1) env)) n ↔ ((e.binder ≡ x) × (n ≡ e.state.0)) ⊎ Contains (states_of x (take i env)) n
  states_more n = subst (λ env'. Contains (states_of x env') n ↔ ((e.binder ≡ x) × (n ≡ e.state.0)) ⊎ Contains (states_of x (take i env)) n) (sym next_entry) (by_case (cases_eq e.binder x))
    where
      Old : Type 0
      Old = Contains (states_of x (take i env)) n

      by_case : (e.binder ≡ x) ⊎ (e.binder ≢ x) → Contains (states_of x (take i env ++ e ∷ [])) n ↔ ((e.binder ≡ x) × (n ≡ e.state.0)) ⊎ Old
      by_case (inl own) =
          let it = one_more_state x (take i env) e n own in (
            λ inside. elim (it.0 inside) [ inl same ↦ inl (own, same) | inr old ↦ inr old ],
            λ either. it.1 (elim either [ inl new ↦ inl new.1 | inr old ↦ inr old ]),
          )
      by_case (inr other) =
          let same : states_of x (take i env ++ e ∷ []) ≡ states_of x (take i env) = no_more_state x (take i env) e other in (
            λ inside. inr (subst (λ ns. Contains ns n) same inside),
            λ either. elim either [ inl new ↦ absurd (other new.0) | inr old ↦ subst (λ ns. Contains ns n) (sym same) old ],
          )

-- one more entry is gone through
pub states_step : (x : ℕ) (env : List EnvEntry) (i : ℕ) (d : EnvEntry) → i < length env → (old new : List ℕ) → ((n : ℕ) → Contains old n ↔ Contains (states_of x (take i env)) n)
    → ((n : ℕ) → Contains new n ↔ (((get_or env i d).binder ≡ x) × (n ≡ (get_or env i d).state.0)) ⊎ Contains old n)
    → (n : ℕ) → Contains new n ↔ Contains (states_of x (take (i + 1) env)) n
states_step x env i d low old new before after n =
    let e : EnvEntry = get_or env i d in
    let more = states_more x env i e low (get_or_default env i e d low) n in (
      λ inside. more.1 (elim ((after n).0 inside) [ inl own ↦ inl own | inr was ↦ inr ((before n).0 was) ]),
      λ inside. (after n).1 (elim (more.0 inside) [ inl own ↦ inl own | inr was ↦ inr ((before n).1 was) ]),
    )

pub states_all : (x : ℕ) (env : List EnvEntry) (i : ℕ) (set : List ℕ) → length env ≤ i → ((n : ℕ) → Contains set n ↔ Contains (states_of x (take i env)) n) → (n : ℕ) → Contains set n ↔ Contains (states_of x env) n
states_all x env i set past they n = subst (λ env'. Contains set n ↔ Contains (states_of x env') n) (take_all i env past) (they n)

-- a scheme over rising binders has the states that constraints ask for
pub scheme_states : (s : Scheme) → IsScheme s → BindersRise s.env → HasStates s
scheme_states s is rise = record { automaton = is.automaton; root = is.root; env = λ entry inside. is.env entry.binder entry.state.0 (rising_found s.env rise entry inside) }
