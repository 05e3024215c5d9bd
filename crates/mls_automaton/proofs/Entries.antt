-- Environments of which an entry is taken out.
use Rattle.std.proofs.Common.{◌≡◌, ◌≢◌, inl, inr, ℕ, zero, suc, ◌<◌, ◌≤◌, ◌+◌, Bool, true, false, Option, Some, None, List, [], ◌∷◌, refl, sym, ap, ◌∙◌, subst, arith, length, get_or, Contains, cond, ◌==◌}
use Rattle.std.specs.Prelude.{find, option_map}
use Rattle.std.specs.List.{remove}
use Rattle.std.proofs.lemmas.Bool.{cases_lt, eqb-true}
use Rattle.std.proofs.lemmas.List.Edits.{get_or-remove_below, get_or-remove_above, length-remove}
use Rattle.std.proofs.lemmas.List.Elements.{Contains-get_or}
use Rattle.mls_automaton.specs.declared.scheme.EnvEntry.{EnvEntry}
use Rattle.mls_automaton.specs.Environments.{BindersRise, HasNoEntry, IsPlaceOf}
use Rattle.mls_automaton.specs.Schemes.{state_of}
use Rattle.mls_automaton.proofs.Reaching.{entry-found, found-entry}

pub binders-removed : (env : List EnvEntry) (i : ℕ) → BindersRise env → i < length env → BindersRise (remove env i)
binders-removed env i rise in_list j k d less low =
    let size : length (remove env i) + 1 ≡ length env = length-remove env i in_list in
    elim (cases_lt j i) [
      | inl j-low ↦
          let here : (get_or (remove env i) j d).binder ≡ (get_or env j d).binder = ap (λ (e : EnvEntry). e.binder) (get_or-remove_below env i d j j-low in_list) in
          elim (cases_lt k i) [
            | inl k-low ↦
                let there : (get_or (remove env i) k d).binder ≡ (get_or env k d).binder = ap (λ (e : EnvEntry). e.binder) (get_or-remove_below env i d k k-low in_list) in
                let h : (get_or env j d).binder < (get_or env k d).binder = rise j k d less (omega arith) in
                omega arith
            | inr k-high ↦
                let there : (get_or (remove env i) k d).binder ≡ (get_or env (k + 1) d).binder = ap (λ (e : EnvEntry). e.binder) (get_or-remove_above env i d k k-high in_list) in
                let h : (get_or env j d).binder < (get_or env (k + 1) d).binder = rise j (k + 1) d (omega arith) (omega arith) in
                omega arith
          ]
      | inr j-high ↦
          let here : (get_or (remove env i) j d).binder ≡ (get_or env (j + 1) d).binder = ap (λ (e : EnvEntry). e.binder) (get_or-remove_above env i d j j-high in_list) in
          let k-high : i ≤ k = omega arith in
          let there : (get_or (remove env i) k d).binder ≡ (get_or env (k + 1) d).binder = ap (λ (e : EnvEntry). e.binder) (get_or-remove_above env i d k k-high in_list) in
          let h : (get_or env (j + 1) d).binder < (get_or env (k + 1) d).binder = rise (j + 1) (k + 1) d (omega arith) (omega arith) in
          omega arith
    ]

-- the state of a binder by its place
pub state-at-place : (env : List EnvEntry) (x i : ℕ) (e : EnvEntry) → BindersRise env → IsPlaceOf env x i → e ≡ get_or env i e → state_of env x ≡ Some e.state.0
state-at-place env x i e rise place is =
    let there : Contains env e = subst (λ (y : EnvEntry). Contains env y) (sym is) (Contains-get_or env i e place.0) in
    let binder : e.binder ≡ x = ap (λ (y : EnvEntry). y.binder) is ∙ place.1 e in
    subst (λ y. state_of env y ≡ Some e.state.0) binder (entry-found env rise e there)

pub no-state : (env : List EnvEntry) (x : ℕ) → HasNoEntry env x (length env) → state_of env x ≡ None
no-state env x none = go (state_of env x) refl
  where
    go : (o : Option ℕ) → state_of env x ≡ o → o ≡ None
    go None e = refl
    go (Some j) e =
        let it = found-entry env x j e in
        absurd (none it.1.0 it.0 it.1.1 it.1.1 (ap (λ (y : EnvEntry). y.binder) it.1.2 ∙ it.2))

pub removed-none : (env : List EnvEntry) (x i : ℕ) → BindersRise env → IsPlaceOf env x i → HasNoEntry (remove env i) x (length (remove env i))
removed-none env x i rise place k d low within is =
    let size : length (remove env i) + 1 ≡ length env = length-remove env i place.0 in
    let at : (get_or env i d).binder ≡ x = place.1 d in
    elim (cases_lt k i) [
      | inl k-low ↦
          let there : (get_or (remove env i) k d).binder ≡ (get_or env k d).binder = ap (λ (e : EnvEntry). e.binder) (get_or-remove_below env i d k k-low place.0) in
          let h : (get_or env k d).binder < (get_or env i d).binder = rise k i d k-low place.0 in
          let e : (get_or (remove env i) k d).binder ≡ x = is in
          absurd (omega arith)
      | inr k-high ↦
          let there : (get_or (remove env i) k d).binder ≡ (get_or env (k + 1) d).binder = ap (λ (e : EnvEntry). e.binder) (get_or-remove_above env i d k k-high place.0) in
          let h : (get_or env i d).binder < (get_or env (k + 1) d).binder = rise i (k + 1) d (omega arith) (omega arith) in
          let e : (get_or (remove env i) k d).binder ≡ x = is in
          absurd (omega arith)
    ]

pub state_of-removed : (env : List EnvEntry) (i : ℕ) (d : EnvEntry) (y : ℕ) → i < length env → (get_or env i d).binder ≢ y → state_of (remove env i) y ≡ state_of env y
state_of-removed [] i d y low other = absurd (omega arith)
state_of-removed (first ∷ rest) zero d y low other = go (first.binder == y) refl
  where
    go : (b : Bool) → (first.binder == y) ≡ b → state_of rest y ≡ option_map (λ (e : EnvEntry). e.state.0) (cond (first.binder == y) (Some first) (find (λ (e : EnvEntry). e.binder == y) rest))
    go true e = absurd (other (eqb-true first.binder y e))
    go false e = ap (λ b. option_map (λ (x : EnvEntry). x.state.0) (cond b (Some first) (find (λ (x : EnvEntry). x.binder == y) rest))) (sym e)
state_of-removed (first ∷ rest) (suc i) d y low other = go (first.binder == y) (state_of-removed rest i d y (omega arith) other)
  where
    go : (b : Bool) → state_of (remove rest i) y ≡ state_of rest y → option_map (λ (e : EnvEntry). e.state.0) (cond b (Some first) (find (λ (e : EnvEntry). e.binder == y) (remove rest i))) ≡ option_map (λ (e : EnvEntry). e.state.0) (cond b (Some first) (find (λ (e : EnvEntry). e.binder == y) rest))
    go true later = refl
    go false later = later
