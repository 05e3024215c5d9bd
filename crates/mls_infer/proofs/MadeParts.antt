-- The last steps of each form: the parts and the new states are the part of the node, and its goals are solved.
--     made_grown       where there are no goals
--     made_solved      where goals are solved
--     refused_none     where they clash, there are no types
--     own_alike, are_posed     the constraint over the schemes of the parts themselves
--     solved_waits, solved_changes, solved_types     a part where goals are solved
use Rattle.std.proofs.Common.{◌≡◌, ℕ, Bool, true, false, List, [], ◌∷◌, map, get_or, sym, ap, ◌∙◌, subst, All, Contains}
use Rattle.mls_automaton.specs.declared.state_set.StateId.{StateId}
use Rattle.mls_automaton.specs.declared.scheme.EnvEntry.{EnvEntry}
use Rattle.mls_automaton.specs.Automata.{Automaton, polarity_at}
use Rattle.mls_solver.specs.declared.goal.Goal.{Goal}
use Rattle.mls_biunify.specs.Live.{IsLive, IsLiveGoal, IsRegion, IsTable, IsThere, Live}
use Rattle.mls_biunify.proofs.TableSteps.{table-closed}
use Rattle.mls_term.specs.declared.term.TermForm.{TermForm}
use Rattle.mls_infer.specs.Constraints.{Constraint, HasStates, no_goals}
use Rattle.mls_infer.specs.Forms.{IsPosed}
use Rattle.mls_infer.specs.Merges.{AreAlike, HaveSameTypes, over}
use Rattle.mls_infer.specs.Pending.{AreWaiting, Changes, IsMade, IsPosedOver, IsRefused, IsSettled, Waits, all_states}
use Rattle.mls_infer.specs.Posed.{goal_pair}
use Rattle.mls_infer.specs.Regions.{ChangesWithin, TablePart, part_over, scheme_at, schemes_at}
use Rattle.mls_infer.specs.Steps.{HasNoTypes, IsSolution}
use Rattle.mls_infer.proofs.GrownParts.{waiting_states}
use Rattle.mls_infer.proofs.PartChanges.{changes_from, changes_then, within_more}
use Rattle.std.proofs.lemmas.List.Elements.{Contains-append_right}
use Rattle.std.proofs.Common.{◌++◌, inl, inr}
use Rattle.mls_infer.proofs.RegionSteps.{own_part}
use Rattle.mls_infer.proofs.SolvedConstraints.{solution_same}
use Rattle.mls_infer.proofs.TableSolutions.{refused_in, settled_within, solution_in}

-- the parts that wait, each with its own types
pub own_alike : (live : Live) → IsLive live → (parts : List TablePart) → AreWaiting live parts → AreAlike (schemes_at live.table parts) (schemes_at live.table parts)
own_alike live is [] are = tt
own_alike live is (part ∷ rest) are = ((waiting_states live is part are.0, λ types f. (λ h. h, λ h. h)), own_alike live is rest are.2)

pub are_posed : (live : Live) → IsLive live → (parts : List TablePart) → AreWaiting live parts → (node : TermForm) (c : Constraint) → IsPosed node (schemes_at live.table parts) c → IsPosedOver node (schemes_at live.table parts) c
are_posed live is parts are node c posed = record { taken = schemes_at live.table parts; alike = own_alike live is parts are; is = posed }

-- Goals between states of a part are solved in place: the part stays, with other types.
module _ (old new : Live) (goals : List Goal) (it : IsSettled old goals new) (part : TablePart) (waits : Waits old part)
    (between : (g : Goal) → Contains goals g → Contains part.states g.positive.0 × Contains part.states g.negative.0) where
  live_mid : IsLive it.mid
  live_mid =
      subst (λ (a : Automaton). IsTable a it.mid.there) (sym it.same)
      (subst (λ (numbers : List Bool). IsTable old.table numbers) (sym it.same_numbers) it.live_old)

  solved_within : ChangesWithin part.states old.table new.table
  solved_within =
      subst (λ (a : Automaton). ChangesWithin part.states a new.table) it.same
      (settled_within it.mid goals part.states (subst (λ (a : Automaton). IsRegion a part.states) (sym it.same) waits.part.region) between it.related
      new.table (table-closed new.table new.there it.live_new) it.solved)

  still : (s : ℕ) → IsThere old s → IsThere new s
  still s was = subst (λ (numbers : List Bool). get_or numbers s false ≡ true) (sym it.numbers) was

  pub solved_waits : Waits new part
  solved_waits = record {
    there = λ s here. still s (waits.there s here);
    part =
        own_part part.states old.table new.table solved_within part.env part.root
        (λ s here. it.solved.polarity s ∙ ap (λ (a : Automaton). polarity_at a s) it.same) waits.part;
  }

  pub solved_changes : Changes part.states old new part.states
  solved_changes =
      changes_from part.states old new part.states
      (within_more part.states (part.states ++ part.states) old.table new.table (λ s here. Contains-append_right part.states part.states s here) solved_within)
      (λ s was. inr (still s was)) (λ s here. inl here)

  pub solved_types : IsSolution (over old.table part.env part.root (map goal_pair goals)) (scheme_at new.table part)
  solved_types =
      subst (λ (a : Automaton). IsSolution (over a part.env part.root (map goal_pair goals)) (scheme_at new.table part)) it.same
      (solution_in it.mid live_mid goals part.env part.root
      (subst (λ (a : Automaton). HasStates (part_over a part.env part.root)) (sym it.same) (waiting_states old it.live_old part waits))
      new.table (table-closed new.table new.there it.live_new) it.related it.solved)

-- goals that clash
pub refused_none : (live after : Live) (goals : List Goal) (env : List EnvEntry) (root : StateId) → HasStates (part_over live.table env root) → All (IsLiveGoal live) goals → IsRefused live goals after
    → HasNoTypes (over live.table env root (map goal_pair goals))
refused_none live after goals env root states are it types f h =
    refused_in live it.live_old goals env root states are after it.same it.clash it.refused types f h

-- The part of a node, before its goals are solved.
module _ (node : TermForm) (old : Live) (parts : List TablePart) (new : Live) (made : TablePart) (waits : Waits new made) (changes : Changes (all_states parts) old new made.states)
    (c : Constraint) (posed : IsPosedOver node (schemes_at old.table parts) c) where
  pub made_grown : IsLive new → HaveSameTypes c (no_goals (scheme_at new.table made)) → IsMade node old parts new made
  made_grown is same = record {
    waits = waits;
    changes = changes;
    constraint = c;
    posed = posed;
    solution =
        solution_same c (no_goals (scheme_at new.table made)) (scheme_at new.table made) same
        (record { states = waiting_states new is made waits; just = λ types f. (λ h. h, λ h. h) });
  }

  pub made_solved : (goals : List Goal) (after : Live) → IsSettled new goals after → ((g : Goal) → Contains goals g → Contains made.states g.positive.0 × Contains made.states g.negative.0)
      → HaveSameTypes c (over new.table made.env made.root (map goal_pair goals)) → IsMade node old parts after made
  made_solved goals after it between same = record {
    waits = solved_waits new after goals it made waits between;
    changes = changes_then (all_states parts) old new after made.states made.states changes (solved_changes new after goals it made waits between);
    constraint = c;
    posed = posed;
    solution = solution_same c (over new.table made.env made.root (map goal_pair goals)) (scheme_at after.table made) same (solved_types new after goals it made waits between);
  }
