-- Merged constraints: their goals, their scheme and their types.
--     goal_in, pair_in     goals as pairs of states, and as the program keeps them
--     between_pairs
--     merged_scheme
use Rattle.std.proofs.Common.{◌≡◌, ℕ, List, map, subst, Contains, All}
use Rattle.mls_automaton.specs.declared.automaton.Polarity.TheVariants.{Positive, Negative}
use Rattle.mls_automaton.specs.declared.state_set.StateId.{StateId}
use Rattle.mls_automaton.specs.declared.scheme.EnvEntry.{EnvEntry}
use Rattle.mls_automaton.specs.Automata.{Automaton, IsState}
use Rattle.mls_automaton.specs.Schemes.{IsScheme}
use Rattle.mls_automaton.proofs.Lists.{Contains-map}
use Rattle.std.proofs.lemmas.List.Elements.{All-contains}
use Rattle.mls_solver.specs.declared.goal.Goal.{Goal}
use Rattle.mls_solver.specs.Relations.{IsGoal, IsGoalOf}
use Rattle.mls_infer.specs.Merges.{AreBetween, Merges}
use Rattle.mls_infer.specs.Posed.{goal_pair}
use Rattle.mls_infer.proofs.Grown.{Contains-mapped}
use Rattle.mls_infer.proofs.Models.{found_entry}

pub goal_in : (goals : List Goal) (p n : ℕ) → Contains (map goal_pair goals) (p, n) → IsGoal goals p n
goal_in goals p n it =
    let found = Contains-mapped goal_pair goals (p, n) it in
    let same : found.0 ≡ record { positive = record { 0 = p }; negative = record { 0 = n } } = λ i. record { positive = record { 0 = (found.2 i).0 }; negative = record { 0 = (found.2 i).1 } } in
    subst (Contains goals) same found.1

pub pair_in : (goals : List Goal) (p n : ℕ) → IsGoal goals p n → Contains (map goal_pair goals) (p, n)
pair_in goals p n it = Contains-map goal_pair goals (record { positive = record { 0 = p }; negative = record { 0 = n } }) it

pub between_pairs : (a : Automaton) (goals : List Goal) → All (IsGoalOf a) goals → AreBetween a (map goal_pair goals)
between_pairs a goals are p n it = All-contains (IsGoalOf a) goals (record { positive = record { 0 = p }; negative = record { 0 = n } }) are (goal_in goals p n it)

module _ (a b : Automaton) (env fewer : List EnvEntry) (m : Merges a env b fewer) where
  pub merged_scheme : (root : StateId) → IsState a Positive root.0 → IsScheme (record { automaton = b; env = fewer; root = root })
  merged_scheme root is = record {
    automaton = m.closed;
    root = m.states Positive root.0 is;
    env = λ x n e.
        let it = found_entry fewer x n e in
        subst (IsState b Negative) it.3 (m.negative it.0 it.1);
  }
