-- Parts that are trimmed, and parts that leave the table.
--     trimmed_as       a part over the states alone that are reached
--     taken_out_as     a scheme that is taken out and simplified
--     frozen_closed    the scheme of a part without its environment
--     roots_of, roots_collected    the root of a part and the states of its binders
--     roots_within     are among its states
--     trimmed_to       a part over what they reach
use Rattle.std.proofs.Common.{◌≡◌, ◌≢◌, ◌⊎◌, ◌↔◌, inl, inr, ℕ, ◌≤◌, false, List, [], ◌∷◌, ◌++◌, map, length, take, refl, sym, ap, ◌∙◌, subst, arith, Some, None, Contains, All}
use Rattle.std.specs.Prelude.{Option, option_map, is_some}
use Rattle.std.proofs.lemmas.Bool.{cases_eq}
use Rattle.std.proofs.lemmas.List.{take_all}
use Rattle.mls_automaton.specs.declared.automaton.Polarity.TheVariants.{Positive, Negative}
use Rattle.mls_automaton.specs.declared.state_set.StateId.{StateId}
use Rattle.mls_automaton.specs.declared.scheme.EnvEntry.{EnvEntry}
use Rattle.mls_automaton.specs.declared.scheme.Scheme.{Scheme}
use Rattle.mls_automaton.specs.Automata.{IsState}
use Rattle.mls_automaton.specs.Environments.{BindersRise}
use Rattle.mls_automaton.specs.Reached.{KeepsReached}
use Rattle.mls_automaton.specs.Schemes.{AreEquivalentSchemes, IsScheme, state_of}
use Rattle.mls_automaton.proofs.Lists.{All-contained, Contains-cases, Contains-here, Contains-later, Contains-map}
use Rattle.mls_biunify.specs.Live.{IsLive, IsLiveState, IsReachedFrom, IsRegion, IsThere, KeepsThere, Live, StaysBeside, numbers_in}
use Rattle.mls_solver.specs.Solutions.{scheme_over}
use Rattle.mls_infer.specs.Constraints.{HasStates, no_goals}
use Rattle.mls_infer.specs.Doing.{IsTakenOut}
use Rattle.mls_infer.specs.Finishing.{without_env}
use Rattle.mls_infer.specs.Merges.{HaveSameTypes}
use Rattle.mls_infer.specs.Pending.{Changes, IsRemade, Waits}
use Rattle.mls_infer.specs.Regions.{TablePart, part_over, scheme_at}
use Rattle.mls_infer.proofs.ConstraintRows.{nothing_in}
use Rattle.mls_infer.proofs.Grown.{Contains-mapped}
use Rattle.mls_infer.proofs.Merges.{types_trans}
use Rattle.mls_infer.proofs.Models.{found_entry}
use Rattle.mls_infer.proofs.PartChanges.{changes_then}
use Rattle.mls_infer.proofs.RegionSteps.{left, reached_in}
use Rattle.mls_infer.proofs.SimplerSchemes.{no_entries}
use Rattle.mls_infer.proofs.TableSolutions.{frozen_types, kept_part, kept_types, part_states}

decided : (xs : List ℕ) (s : ℕ) → Contains xs s ⊎ (Contains xs s → ⊥)
decided [] s = inr (nothing_in s)
decided (x ∷ xs) s = go (cases_eq x s) (decided xs s)
  where
    go : (x ≡ s) ⊎ (x ≢ s) → Contains xs s ⊎ (Contains xs s → ⊥) → Contains (x ∷ xs) s ⊎ (Contains (x ∷ xs) s → ⊥)
    go (inl same) later = let P : ℕ → Type 0 = Contains (x ∷ xs) in inl (subst P same (Contains-here x xs))
    go (inr other) (inl later) = inl (Contains-later x xs s later)
    go (inr other) (inr none) = inr (λ it. elim (Contains-cases x xs s it) [ inl same ↦ other same | inr later ↦ none later ])

-- The states of a region leave that heads do not reach from its roots.
module _ (old new : Live) (is_old : IsLive old) (is_new : IsLive new) (roots : List StateId) (states : List ℕ) (region : IsRegion old.table states) (there : (s : ℕ) → Contains states s → IsThere old s)
    (roots_in : (r : StateId) → Contains roots r → Contains states r.0)
    (keeps : KeepsThere old new (λ s. IsThere old s × (IsReachedFrom old.table roots s ⊎ (Contains states s → ⊥)))) where
  pub kept_changes : (kept : List ℕ) → ((s : ℕ) → Contains kept s → IsReachedFrom old.table roots s) → Changes states old new kept
  kept_changes kept are = record {
    touched = states;
    within = left old new is_old is_new roots states region there roots_in keeps;
    touched_of = λ s it. inl it;
    stays = λ s was. elim (decided states s) [
      | inl own ↦ inl own
      | inr out ↦ inr ((keeps.there s).1 (was, inr out))
    ];
    made_of = λ s it. inl (reached_in old new is_old is_new roots states region there roots_in keeps s (are s it));
  }

  pub kept_there : (kept : List ℕ) → ((s : ℕ) → Contains kept s → IsReachedFrom old.table roots s) → (s : ℕ) → Contains kept s → IsThere new s
  kept_there kept are s it =
      let reached : IsReachedFrom old.table roots s = are s it in
      (keeps.there s).1 (there s (reached_in old new is_old is_new roots states region there roots_in keeps s reached), inl reached)

-- A part is trimmed, after its binders were merged.
module _ (first old new : Live) (is_old : IsLive old) (is_new : IsLive new) (part : TablePart) (other : TablePart) (remade : IsRemade first part old other) (roots : List StateId)
    (roots_in : (r : StateId) → Contains roots r → Contains other.states r.0)
    (keeps : KeepsThere old new (λ s. IsThere old s × (IsReachedFrom old.table roots s ⊎ (Contains other.states s → ⊥)))) where
  pub trimmed_as : (kept : List ℕ) → ((s : ℕ) → Contains kept s ↔ IsReachedFrom old.table roots s) → Contains roots other.root → ((e : EnvEntry) → Contains other.env e → Contains roots e.state)
      → IsRemade first part new (record { states = kept; env = other.env; root = other.root })
  trimmed_as kept are root_in env_in =
      let waits : Waits old other = remade.waits in
      let after : TablePart = record { states = kept; env = other.env; root = other.root } in
      record {
        waits = record {
          there = kept_there old new is_old is_new roots other.states waits.part.region waits.there roots_in keeps kept (λ s it. (are s).0 it);
          part = kept_part old new is_old is_new roots other.states waits.there other.env other.root waits.part roots_in keeps kept are root_in env_in;
        };
        changes =
            changes_then part.states first old new other.states kept remade.changes
            (kept_changes old new is_old is_new roots other.states waits.part.region waits.there roots_in keeps kept (λ s it. (are s).0 it));
        alike =
            types_trans (no_goals (scheme_at first.table part)) (no_goals (scheme_at old.table other)) (no_goals (scheme_at new.table after)) remade.alike
            (kept_types old new is_old is_new roots other.states waits.there other.env other.root waits.part roots_in keeps kept are root_in env_in);
      }

-- the root of a part and the states of its binders
abbrev pub roots_of : StateId → List EnvEntry → List StateId
roots_of root env = root ∷ map (λ (e : EnvEntry). e.state) env

-- the roots that a loop over the entries collects
pub roots_collected : {root : StateId} {env items : List EnvEntry} {none first seen roots : List StateId} {n : ℕ} → none ≡ [] → first ≡ none ++ root ∷ [] → seen ≡ first ++ map (λ (e : EnvEntry). e.state) (take n items) → length items ≤ n → items ≡ env → roots ≡ seen → roots ≡ roots_of root env
roots_collected {root} {env} {items} {n = n} nothing one seen past all same =
    same ∙ (seen ∙ (λ i. (one ∙ ap (λ (xs : List StateId). xs ++ root ∷ []) nothing) i ++ map (λ (e : EnvEntry). e.state) ((take_all n items past ∙ all) i)))

-- states of a part are there
pub each_there : (live : Live) (list : List StateId) → ((s : ℕ) → Contains (numbers_in list) s → IsThere live s) → All (λ (s : StateId). IsThere live s.0) list
each_there live list there = All-contained (λ (s : StateId). IsThere live s.0) list (λ s it. there s.0 (Contains-map (λ (s : StateId). s.0) list s it))

-- the roots of a part that waits are among its states
module _ (live : Live) (part : TablePart) (waits : Waits live part) where
  root_within : (r : StateId) → Contains (roots_of part.root part.env) r → Contains part.states r.0
  root_within r it = elim (Contains-cases part.root (map (λ (e : EnvEntry). e.state) part.env) r it) [
    | inl same ↦ subst (λ (r : StateId). Contains part.states r.0) same waits.part.root_in
    | inr later ↦
        let e = Contains-mapped (λ (e : EnvEntry). e.state) part.env r later in
        subst (λ (r : StateId). Contains part.states r.0) e.2 (waits.part.env_in e.0 e.1)
  ]

  pub roots_within : (roots : List StateId) → roots ≡ roots_of part.root part.env → All (λ (r : StateId). Contains part.states r.0) roots
  roots_within roots are = subst (All (λ (r : StateId). Contains part.states r.0)) (sym are) (All-contained (λ (r : StateId). Contains part.states r.0) (roots_of part.root part.env) root_within)

  pub root_live : IsLiveState live Positive part.root.0
  root_live = record { there = waits.there part.root.0 waits.part.root_in; polarity = waits.part.root_positive }

  pub entries_live : (env : List EnvEntry) → env ≡ part.env → All (λ (e : EnvEntry). IsLiveState live Negative e.state.0) env
  entries_live env same =
      subst (All (λ (e : EnvEntry). IsLiveState live Negative e.state.0)) (sym same)
      (All-contained (λ (e : EnvEntry). IsLiveState live Negative e.state.0) part.env (λ e it. record { there = waits.there e.state.0 (waits.part.env_in e it); polarity = waits.part.env_negative e it }))

  -- the states that its roots reach, where the others are gone
  module _ (new : Live) (is_old : IsLive live) (is_new : IsLive new) (roots : List StateId) (roots_are : roots ≡ roots_of part.root part.env) (keeps : KeepsThere live new (StaysBeside live part.states roots)) (kept : List ℕ) (are : (s : ℕ) → Contains kept s ↔ IsReachedFrom live.table roots s) where
    abbrev within : (r : StateId) → Contains roots r → Contains part.states r.0
    within = λ r it. root_within r (subst (λ (xs : List StateId). Contains xs r) roots_are it)

    pub stays_there : (s : ℕ) → Contains kept s → IsThere new s
    stays_there = kept_there live new is_old is_new roots part.states waits.part.region waits.there within keeps kept (λ s it. (are s).0 it)

    pub trimmed_to : (first : Live) (before : TablePart) → IsRemade first before live part → IsRemade first before new (record { states = kept; env = part.env; root = part.root })
    trimmed_to first before remade =
        let all : List StateId = roots_of part.root part.env in
        let root_in : Contains all part.root = Contains-here part.root (map (λ (e : EnvEntry). e.state) part.env) in
        let env_in : (e : EnvEntry) → Contains part.env e → Contains all e.state = λ e it. Contains-later part.root (map (λ (e : EnvEntry). e.state) part.env) e.state (Contains-map (λ (e : EnvEntry). e.state) part.env e it) in
        trimmed_as first live new is_old is_new before part remade roots within keeps kept are
        (subst (λ (xs : List StateId). Contains xs part.root) (sym roots_are) root_in)
        (λ e it. subst (λ (xs : List StateId). Contains xs e.state) (sym roots_are) (env_in e it))

-- a part whose binders rise is a scheme
pub rising_scheme : (s : Scheme) → HasStates s → IsScheme s
rising_scheme s states = record {
  automaton = states.automaton;
  root = states.root;
  env = λ x n e. let it = found_entry s.env x n e in subst (IsState s.automaton Negative) it.3 (states.env it.0 it.1);
}

-- A part leaves the table, simplified.
pub taken_out_as : (first old new : Live) → IsLive old → IsLive new → (part other : TablePart) → IsRemade first part old other → BindersRise other.env
    → (scheme simple : Scheme) → IsScheme scheme → BindersRise scheme.env → AreEquivalentSchemes (scheme_over old.table other.root.0 other.env) scheme → IsScheme simple → BindersRise simple.env → AreEquivalentSchemes scheme simple
    → KeepsThere old new (λ s. IsThere old s × (IsReachedFrom old.table [] s ⊎ (Contains other.states s → ⊥))) → IsTakenOut first part new simple
taken_out_as first old new is_old is_new part other remade rise scheme simple is rise_scheme same is_simple rise_simple same_simple keeps =
    let waits : Waits old other = remade.waits in
    let none : (r : StateId) → Contains [] r → Contains other.states r.0 = λ r it. absurd (nothing_in r it) in
    let own : IsScheme (scheme_over old.table other.root.0 other.env) = rising_scheme (scheme_at old.table other) (part_states old is_old other.states waits.there other.env other.root waits.part) in
    let one : HaveSameTypes (no_goals (scheme_at old.table other)) (no_goals scheme) = frozen_types old.table other.root other.env scheme own rise is rise_scheme same in
    let two : HaveSameTypes (no_goals scheme) (no_goals simple) = frozen_types scheme.automaton scheme.root scheme.env simple is rise_scheme is_simple rise_simple same_simple in
    record {
      is_live = is_new;
      scheme = is_simple;
      rise = rise_simple;
      changes =
          changes_then part.states first old new other.states [] remade.changes
          (kept_changes old new is_old is_new [] other.states waits.part.region waits.there none keeps [] (λ s it. absurd (nothing_in s it)));
      alike =
          types_trans (no_goals (scheme_at first.table part)) (no_goals (scheme_at old.table other)) (no_goals simple) remade.alike
          (types_trans (no_goals (scheme_at old.table other)) (no_goals scheme) (no_goals simple) one two);
    }

-- the scheme of a part without its environment
pub frozen_closed : (live : Live) → IsLive live → (part : TablePart) → Waits live part → (t : Scheme) → IsScheme t → BindersRise t.env → AreEquivalentSchemes (scheme_over live.table part.root.0 []) t
    → HaveSameTypes (no_goals (without_env (scheme_at live.table part))) (no_goals t)
frozen_closed live is part waits t is_t rise same =
    let states : HasStates (scheme_at live.table part) = part_states live is part.states waits.there part.env part.root waits.part in
    let closed : HasStates (part_over live.table [] part.root) = record { automaton = states.automaton; root = states.root; env = λ e none. absurd (nothing_in e none) } in
    frozen_types live.table part.root [] t (rising_scheme (part_over live.table [] part.root) closed) (λ i j d less low. absurd (omega arith)) is_t rise same

pub frozen_env : (live : Live) (root : ℕ) (t : Scheme) → KeepsReached t (scheme_over live.table root []) → t.env ≡ []
frozen_env live root t keeps = no_entries t.env (λ x. none x (state_of t.env x) (keeps.embedded.env x))
  where
    none : (x : ℕ) (o : Option ℕ) → None ≡ option_map keeps.place o → false ≡ is_some o
    none x None e = refl
    none x (Some n) e = absurd (cc)
