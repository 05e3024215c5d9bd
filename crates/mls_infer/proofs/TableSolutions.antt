-- The types of parts of one table, where it is solved, where states go, where a copy comes and where a part is taken out.
--     part_states         a part has the states that constraints ask for
--     solution_in         the solved table has a solution
--     refused_in          after a clash there are no types
--     first_clash_in      and it is the first clash of the constraint
--     settled_within      a part is solved within its states
--     kept_part, kept_types        what heads reach from the root and the binders is a part with the same types
--     copied_part, copied_types    a copy of a scheme is a part with its types
--     frozen_types        a scheme that is taken out has the types of the part
use Rattle.std.proofs.Common.{◌≡◌, ◌↔◌, ◌⊎◌, inl, ℕ, ◌<◌, List, map, length, refl, sym, ap, ◌∙◌, subst, All, Contains}
use Rattle.std.specs.List.{range_with_len}
use Rattle.std.proofs.lemmas.List.Elements.{All-weaker, Contains-get_or}
use Rattle.mls_automaton.specs.declared.automaton.Polarity.TheVariants.{Positive, Negative}
use Rattle.mls_automaton.specs.declared.automaton.State.{State}
use Rattle.mls_automaton.specs.declared.state_set.StateId.{StateId}
use Rattle.mls_automaton.specs.declared.scheme.EnvEntry.{EnvEntry}
use Rattle.mls_automaton.specs.declared.scheme.Scheme.{Scheme}
use Rattle.mls_automaton.specs.Automata.{Automaton, IsState, polarity_at, state_at}
use Rattle.mls_automaton.specs.Environments.{BindersRise}
use Rattle.mls_automaton.specs.Models.{IsClosed}
use Rattle.mls_automaton.specs.Schemes.{AreEquivalentSchemes, IsScheme}
use Rattle.mls_solver.specs.declared.goal.Clash.{Clash}
use Rattle.mls_solver.specs.declared.goal.Goal.{Goal}
use Rattle.mls_solver.specs.declared.goal.Refusal.TheVariants.{Clashing}
use Rattle.mls_solver.specs.Clashes.{IsFirstClash}
use Rattle.mls_biunify.specs.Live.{AreRelated, IsCopyAt, IsLive, IsLiveGoal, IsReachedFrom, IsRefusalOf, IsSolvedFor, IsThere, KeepsThere, Live, number_of, pairs_of, room_of_pairs, root as at-root, named as by-name}
use Rattle.mls_solver.specs.Relations.{IsGoal, IsGoalOf, IsRelated}
use Rattle.mls_solver.specs.Rooms.{Holds}
use Rattle.mls_solver.specs.Solutions.{scheme_over}
use Rattle.mls_solver.specs.Solved.{IsSolved}
use Rattle.mls_biunify.proofs.Lives.{state-of}
use Rattle.mls_solver.proofs.SolvedRooms.{solved-same}
use Rattle.mls_biunify.proofs.TableSteps.{table-closed}
use Rattle.mls_infer.specs.Constraints.{Constraint, HasStates, id, no_goals, renamed_entry}
use Rattle.mls_infer.specs.Merges.{HaveSameTypes}
use Rattle.mls_infer.specs.Posed.{goal_pair}
use Rattle.mls_biunify.specs.Live.{IsRegion}
use Rattle.mls_infer.specs.Regions.{ChangesWithin, IsSeparatePart, part_over}
use Rattle.mls_infer.specs.Solved.{GoalsOf}
use Rattle.mls_infer.specs.Steps.{HasNoTypes, IsSolution}
use Rattle.mls_infer.proofs.Grown.{Contains-mapped}
use Rattle.mls_infer.proofs.NumberedBinders.{open_none, open_solution}
use Rattle.mls_infer.proofs.OneState.{scheme_states}
use Rattle.mls_infer.proofs.RegionSteps.{kept_region, reached_in, related_within, solved as within}
use Rattle.mls_infer.proofs.Solvable.{goal_in, pair_in}
use Rattle.mls_infer.proofs.SolvedConstraints.{clash_same, related_more, solution_kept}
use Rattle.mls_infer.proofs.StandingParts.{StandsIn, embedded_stands, is_among, own_entries, renamed_entries, same_stands, standing_alike}

pub part_states : (live : Live) → IsLive live → (states : List ℕ) → ((s : ℕ) → Contains states s → IsThere live s) → (env : List EnvEntry) (root : StateId)
    → IsSeparatePart live.table states env root → HasStates (part_over live.table env root)
part_states live is states there env root part = record {
  automaton = table-closed live.table live.there is;
  root = record { in_range = is.in_range root.0 (there root.0 part.root_in); polarity = part.root_positive };
  env = λ e inside. record { in_range = is.in_range e.state.0 (there e.state.0 (part.env_in e inside)); polarity = part.env_negative e inside };
}

-- A table is solved.
module _ (live : Live) (is : IsLive live) (goals : List Goal) (env : List EnvEntry) (root : StateId) (states : HasStates (part_over live.table env root)) where
  -- the part with these goals
  abbrev pub posed_in : Constraint
  posed_in = record { scheme = part_over live.table env root; goals = map goal_pair goals }

  abbrev R : ℕ → ℕ → Type 0
  R = IsRelated live.table (IsGoal goals)

  pub solution_in : (solved : Automaton) → IsClosed solved → IsSolvedFor live goals → IsSolved live.table (AreRelated live) solved → IsSolution posed_in (part_over solved env root)
  solution_in solved closed it solves =
      open_solution (part_over live.table env root) goals states it.saturated.states solved
      (record {
        room = room_of_pairs (pairs_of live);
        relation = it.saturated.relation;
        free = it.saturated.free;
        is_solved = solved-same live.table (Holds (room_of_pairs (pairs_of live))) R it.saturated.relation solved solves;
        closed = closed;
      })

  module _ (are : All (IsLiveGoal live) goals) (after : Live) (same : after.table ≡ live.table) (clash : Clash) (refused : IsRefusalOf after R (Clashing clash)) where
    first_clash : IsFirstClash live.table R clash
    first_clash = subst (λ (a : Automaton). IsFirstClash a R clash) same refused.1

    goals_are : All (IsGoalOf live.table) goals
    goals_are =
        All-weaker (IsLiveGoal live) (IsGoalOf live.table)
        (λ g it. (state-of live.table live.there is Positive g.positive.0 it.0, state-of live.table live.there is Negative g.negative.0 it.1))
        goals are

    pub refused_in : HasNoTypes posed_in
    refused_in = open_none (part_over live.table env root) goals states goals_are clash first_clash.clash

    pub first_clash_in : IsFirstClash live.table (IsRelated live.table (GoalsOf posed_in)) clash
    first_clash_in =
        clash_same live.table R (IsRelated live.table (GoalsOf posed_in))
        (λ p n. (related_more live.table (IsGoal goals) (GoalsOf posed_in) (pair_in goals) p n, related_more live.table (GoalsOf posed_in) (IsGoal goals) (goal_in goals) p n))
        clash first_clash

-- Goals between states of a region change the table within it.
pub settled_within : (live : Live) (goals : List Goal) (states : List ℕ) → IsRegion live.table states → ((g : Goal) → Contains goals g → Contains states g.positive.0 × Contains states g.negative.0) → IsSolvedFor live goals
    → (solved : Automaton) → IsClosed solved → IsSolved live.table (AreRelated live) solved → ChangesWithin states live.table solved
settled_within live goals states region between it solved closed solves =
    within live.table states region (AreRelated live)
    (λ p n related. related_within live.table states region (IsGoal goals) (λ q m one. between (record { positive = id q; negative = id m }) one) p n ((it.saturated.relation p n).0 related))
    solved solves closed.labels

-- Of a part the states go that heads do not reach from its root and its binders.
module _ (old new : Live) (is_old : IsLive old) (is_new : IsLive new) (roots : List StateId) (states : List ℕ) (there : (s : ℕ) → Contains states s → IsThere old s) (env : List EnvEntry) (root : StateId) (part : IsSeparatePart old.table states env root)
    (roots_in : (r : StateId) → Contains roots r → Contains states r.0)
    (keeps : KeepsThere old new (λ s. IsThere old s × (IsReachedFrom old.table roots s ⊎ (Contains states s → ⊥))))
    (kept : List ℕ) (are : (s : ℕ) → Contains kept s ↔ IsReachedFrom old.table roots s)
    (root_in : Contains roots root) (env_in : (e : EnvEntry) → Contains env e → Contains roots e.state) where
  stays : (s : ℕ) → Contains kept s → IsThere old s × (IsReachedFrom old.table roots s ⊎ (Contains states s → ⊥))
  stays s here =
      let reached : IsReachedFrom old.table roots s = (are s).0 here in
      (there s (reached_in old new is_old is_new roots states part.region there roots_in keeps s reached), inl reached)

  same : (s : ℕ) → Contains kept s → state_at new.table s ≡ state_at old.table s
  same s here = keeps.states s (stays s here)

  root_kept : Contains kept root.0
  root_kept = (are root.0).1 (at-root root root_in refl)

  entry_kept : (e : EnvEntry) → Contains env e → Contains kept e.state.0
  entry_kept e inside = (are e.state.0).1 (at-root e.state (env_in e inside) refl)

  pub kept_part : IsSeparatePart new.table kept env root
  kept_part = record {
    region = kept_region old new is_old is_new roots states part.region there roots_in keeps kept are;
    root_in = root_kept;
    root_positive = ap (λ (x : State). x.polarity) (same root.0 root_kept) ∙ part.root_positive;
    env_in = entry_kept;
    env_negative = λ e inside. ap (λ (x : State). x.polarity) (same e.state.0 (entry_kept e inside)) ∙ part.env_negative e inside;
  }

  pub kept_types : HaveSameTypes (no_goals (part_over old.table env root)) (no_goals (part_over new.table env root))
  kept_types types f =
      let stands : StandsIn kept (λ s. s) old.table new.table =
      same_stands kept old.table new.table same
      (λ s j here names. (are j).1 (by-name ((are s).0 here) names))
      (λ n p one two. (λ edge. (keeps.flows n p).1 (edge, stays n one, stays p two), λ edge. ((keeps.flows n p).0 edge).0)) in
      standing_alike old.table new.table (table-closed old.table old.there is_old) (table-closed new.table new.there is_new) kept (λ s. s) stands
      root root env env root_kept entry_kept refl (own_entries env) types f

-- A copy of an automaton.
module _ (a table : Automaton) (closed : IsClosed a) (numbers : List ℕ) (copy : IsCopyAt a numbers table) (env : List EnvEntry) (root : StateId) (states : HasStates (part_over a env root)) where
  abbrev pub copied_env : List EnvEntry
  copied_env = map (renamed_entry (number_of numbers)) env

  abbrev pub copied_root : StateId
  copied_root = id (number_of numbers root.0)

  pub copied_types : IsClosed table → HaveSameTypes (no_goals (part_over a env root)) (no_goals (part_over table copied_env copied_root))
  copied_types closed_table types f =
      standing_alike a table closed closed_table (range_with_len 0 (length a.states)) (number_of numbers) (embedded_stands (number_of numbers) a table closed copy.embedded)
      root copied_root env copied_env (is_among a root.0 states.root.in_range) (λ e inside. is_among a e.state.0 (states.env e inside).in_range) refl (renamed_entries (number_of numbers) env) types f

  number_among : (s : ℕ) → s < length a.states → Contains numbers (number_of numbers s)
  number_among s low = Contains-get_or numbers s 0 (subst (λ n. s < n) (sym copy.count) low)

  pub copied_part : IsRegion table numbers → IsSeparatePart table numbers copied_env copied_root
  copied_part region = record {
    region = region;
    root_in = number_among root.0 states.root.in_range;
    root_positive = copy.embedded.polarity root.0 states.root.in_range ∙ states.root.polarity;
    env_in = λ d inside.
        let it = old_entry d inside in
        subst (λ (e : EnvEntry). Contains numbers e.state.0) it.2 (number_among it.0.state.0 (states.env it.0 it.1).in_range);
    env_negative = λ d inside.
        let it = old_entry d inside in
        let state : IsState a Negative it.0.state.0 = states.env it.0 it.1 in
        subst (λ (e : EnvEntry). polarity_at table e.state.0 ≡ Negative) it.2 (copy.embedded.polarity it.0.state.0 state.in_range ∙ state.polarity);
  }
    where
      old_entry : (d : EnvEntry) → Contains copied_env d → (e : EnvEntry) × Contains env e × (renamed_entry (number_of numbers) e ≡ d)
      old_entry d inside = Contains-mapped (renamed_entry (number_of numbers)) env d inside

-- A scheme that is taken out.
pub frozen_types : (table : Automaton) (root : StateId) (env : List EnvEntry) (t : Scheme) → IsScheme (scheme_over table root.0 env) → BindersRise env → IsScheme t → BindersRise t.env
    → AreEquivalentSchemes (scheme_over table root.0 env) t → HaveSameTypes (no_goals (part_over table env root)) (no_goals t)
frozen_types table root env t is rise is' rise' same types f =
    let s : Scheme = part_over table env root in
    let own : IsSolution (no_goals s) s = record { states = scheme_states s is rise; just = λ types f. (λ h. h, λ h. h) } in
    (solution_kept (no_goals s) s t own is rise is' rise' same).just types f
