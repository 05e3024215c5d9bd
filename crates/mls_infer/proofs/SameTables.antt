-- Automata with the states and edges of a table.
--     some_types          a scheme has types
--     has_solution        what has a solution has types
--     same_table_types, same_table_states     a part over such an automaton
--     same_table_back     the table before it was tried to solve it
--     same_table_own      the table itself is one
--     alone_states        a part of its own over a copy of the table
use Rattle.std.proofs.Common.{◌≡◌, ◌↔◌, ℕ, Bool, true, false, List, [], get_or, refl, sym, ap, ◌∙◌, subst, arith, Contains}
use Rattle.mls_book.specs.Predicates.{Predicate, bot, top}
use Rattle.mls_automaton.specs.declared.automaton.Polarity.{Polarity}
use Rattle.mls_automaton.specs.declared.automaton.Polarity.TheVariants.{Positive, Negative}
use Rattle.mls_automaton.specs.declared.automaton.State.{State}
use Rattle.mls_automaton.specs.declared.state_set.StateId.{StateId}
use Rattle.mls_automaton.specs.declared.scheme.EnvEntry.{EnvEntry}
use Rattle.mls_automaton.specs.declared.scheme.Scheme.{Scheme}
use Rattle.mls_automaton.specs.Automata.{Automaton, HasFlow, IsState, state_at}
use Rattle.mls_automaton.specs.Heads.{head_value}
use Rattle.mls_automaton.specs.Models.{IsInside, IsModel}
use Rattle.mls_biunify.specs.Live.{IsLive, IsLiveState, Live}
use Rattle.mls_biunify.proofs.TableSteps.{table-closed}
use Rattle.mls_infer.specs.declared.constraints.Open.{Open}
use Rattle.mls_infer.specs.Posed.{scheme_in}
use Rattle.mls_infer.specs.Constraints.{Constraint, HasStates, HasTypes, no_goals}
use Rattle.mls_infer.specs.Merges.{HaveSameTypes, over}
use Rattle.mls_infer.specs.Pending.{IsSameTable}
use Rattle.mls_infer.specs.Regions.{part_over}
use Rattle.mls_infer.specs.Steps.{HasNoTypes, IsSolution}
use Rattle.mls_infer.proofs.ConstraintRows.{nothing_in, no_goal}
use Rattle.mls_infer.proofs.StandingParts.{ends_held, filled, filled_held, filled_model}
use Rattle.mls_book.proofs.LongerBooks.{closed_from}

-- A scheme has types: that of the root may be the greatest one, where each binder has the least one.
pub some_types : (s : Scheme) → HasStates s → HasTypes (no_goals s) (λ x. bot) top
some_types s states =
    let ends = ends_held [] (closed_from [] (λ i low. absurd (omega arith))) in
    let itself : ℕ → ℕ = λ t. t in
    let least : ℕ → Predicate = λ t. bot in
    let apart : (t j : ℕ) → Contains [] t → Contains [] j → itself t ≡ itself j → t ≡ j = λ t j one two e. e in
    let value : ℕ → Predicate = filled s.automaton states.automaton [] itself apart least in
    record {
      nodes = ends.0;
      closed = ends.1.closed;
      value = value;
      held = filled_held s.automaton states.automaton [] itself apart least ends.0 ends.2 ends.3 (λ t none. absurd (nothing_in t none));
      model = filled_model s.automaton states.automaton [] itself apart least (λ n p none. absurd (nothing_in n none)) (λ t none. absurd (nothing_in t none));
      goals = no_goal value;
      root = λ t e. refl;
      env = λ entry inside. λ t e. absurd (cc);
    }

-- and so does a constraint that has a solution
pub has_solution : (c : Constraint) (s : Scheme) → IsSolution c s → HasNoTypes c → ⊥
has_solution c s it none = none (λ x. bot) top ((it.just (λ x. bot) top).1 (some_types s it.states))

-- an automaton with the same states and edges has the same models
same_model : (a b : Automaton) → ((s : ℕ) → state_at b s ≡ state_at a s) → ((n p : ℕ) → HasFlow b n p → HasFlow a n p) → (value : ℕ → Predicate) → IsModel a value → IsModel b value
same_model a b states flows value m = record {
  flows = λ f there. m.flows f (flows f.negative.0 f.positive.0 there);
  heads = λ s. subst (λ (x : State). IsInside x.polarity (head_value x.polarity value x.head) (value s)) (sym (states s)) (m.heads s);
}

same_over : (a b : Automaton) (env : List EnvEntry) (root : StateId) (goals : List (ℕ × ℕ)) → ((s : ℕ) → state_at b s ≡ state_at a s) → ((n p : ℕ) → HasFlow b n p → HasFlow a n p) → (types : ℕ → Predicate) (f : Predicate)
    → HasTypes (over a env root goals) types f → HasTypes (over b env root goals) types f
same_over a b env root goals states flows types f h = record {
  nodes = h.nodes;
  closed = h.closed;
  value = h.value;
  held = h.held;
  model = same_model a b states flows h.value h.model;
  goals = h.goals;
  root = h.root;
  env = h.env;
}

module _ (live : Live) (a : Automaton) (same : IsSameTable live a) where
  pub same_table_types : (env : List EnvEntry) (root : StateId) → HaveSameTypes (no_goals (part_over live.table env root)) (no_goals (part_over a env root))
  same_table_types env root types f = (
    same_over live.table a env root [] same.states (λ n p. (same.flows n p).0) types f,
    same_over a live.table env root [] (λ s. sym (same.states s)) (λ n p. (same.flows n p).1) types f,
  )

  pub same_table_state : (p : Polarity) (s : ℕ) → IsLiveState live p s → IsState a p s
  same_table_state p s it = record { in_range = same.there s it.there; polarity = ap (λ (x : State). x.polarity) (same.states s) ∙ it.polarity }

  pub same_table_states : (env : List EnvEntry) (root : StateId) → IsLiveState live Positive root.0 → ((entry : EnvEntry) → Contains env entry → IsLiveState live Negative entry.state.0) → HasStates (part_over a env root)
  same_table_states env root root_is env_is = record {
    automaton = same.closed;
    root = same_table_state Positive root.0 root_is;
    env = λ entry inside. same_table_state Negative entry.state.0 (env_is entry inside);
  }

pub same_table_back : (old new : Live) → new.table ≡ old.table → new.there ≡ old.there → (a : Automaton) → IsSameTable new a → IsSameTable old a
same_table_back old new table numbers a it = record {
  states = λ s. it.states s ∙ ap (λ (t : Automaton). state_at t s) table;
  there = λ s was. it.there s (subst (λ (bits : List Bool). get_or bits s false ≡ true) (sym numbers) was);
  flows = λ n p. subst (λ (t : Automaton). HasFlow a n p ↔ HasFlow t n p) table (it.flows n p);
  closed = it.closed;
}

-- the table itself is one
pub same_table_own : (live : Live) → IsLive live → IsSameTable live live.table
same_table_own live is = record {
  states = λ s. refl;
  there = is.in_range;
  flows = λ n p. (λ h. h, λ h. h);
  closed = table-closed live.table live.there is;
}

-- a part of its own over a copy of the table
pub alone_states : (live : Live) (o : Open) (env : List EnvEntry) (root : StateId) → IsSameTable live o.automaton → scheme_in o ≡ part_over o.automaton env root → IsLiveState live Positive root.0
    → ((entry : EnvEntry) → Contains env entry → IsLiveState live Negative entry.state.0) → HasStates (scheme_in o)
alone_states live o env root same is root_is env_is =
    subst (λ (s : Scheme). HasStates s) (sym is) (same_table_states live o.automaton same env root root_is env_is)

pub no_entries : (live : Live) (entry : EnvEntry) → Contains [] entry → IsLiveState live Negative entry.state.0
no_entries live entry inside = absurd (nothing_in entry inside)
