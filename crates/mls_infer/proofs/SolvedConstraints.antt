-- The answers of solving: a solution, or no types.
--     scheme_solution, scheme_none         over a scheme in which each binder has one state
--     solvable_solution, solvable_none     the same, as merged constraints
--     solution_same, none_same             over constraints with the same types
--     solvable_scheme, answer_none         and what solving answers over these
--     free_same, clash_same                equal relations clash alike
--     without_goals                        without goals the constraints are a solution themselves
--     solution_kept                        an equivalent scheme is a solution too
--     solution_after                       and so is a solution of a solution
use Rattle.std.proofs.Common.{◌≡◌, ◌↔◌, ℕ, ◌==◌, Bool, true, ◌&&◌, false, List, map, refl, subst, arith, Contains, All}
use Rattle.std.specs.List.{list_any}
use Rattle.std.proofs.lemmas.Bool.{eqb-true}
use Rattle.std.proofs.lemmas.Bool.Decides.{nat_tests}
use Rattle.mls_automaton.specs.declared.scheme.Scheme.{Scheme}
use Rattle.mls_automaton.specs.Automata.{Automaton}
use Rattle.mls_automaton.specs.Environments.{BindersRise}
use Rattle.mls_automaton.specs.Schemes.{IsScheme, AreEquivalentSchemes}
use Rattle.mls_automaton.proofs.BooksExist.{scheme_exists}
use Rattle.mls_automaton.proofs.Instances.{AreGoals}
use Rattle.mls_automaton.proofs.Lists.{any_found, found_any}
use Rattle.mls_automaton.proofs.Reaching.{entry-found}
use Rattle.mls_solver.specs.declared.goal.Clash.{Clash}
use Rattle.mls_solver.specs.declared.goal.Goal.{Goal}
use Rattle.mls_solver.specs.Clashes.{HasNoClash, IsClashOf, IsFirstClash}
use Rattle.mls_solver.specs.Relations.{IsGoal, IsGoalOf, IsRelated, IsTable, goal, domain, codomain, field, along}
use Rattle.mls_solver.specs.Rooms.{Room, HoldsJust}
use Rattle.mls_solver.specs.Solved.{IsSolved}
use Rattle.mls_solver.proofs.Following.{related_states}
use Rattle.mls_solver.proofs.Solution.{Sources}
use Rattle.mls_solver.proofs.SolvedInstances.{over}
use Rattle.mls_solver.proofs.SolvedRooms.{solved-same}
use Rattle.mls_solver.proofs.SourceLists.{sources_from_table}
use Rattle.mls_infer.specs.Constraints.{Constraint, HasStates, no_goals}
use Rattle.mls_infer.specs.Posed.{goal_pair}
use Rattle.mls_infer.specs.Merges.{HaveSameTypes}
use Rattle.mls_infer.specs.Solved.{GoalsOf, IsSolvedFor}
use Rattle.mls_infer.specs.Steps.{IsSolution, HasNoTypes}
use Rattle.mls_infer.proofs.Models.{EachFound}
use Rattle.mls_infer.proofs.Reading.{read_as}
use Rattle.mls_infer.proofs.Solvable.{between_pairs, goal_in, pair_in}
use Rattle.mls_infer.proofs.Solving.{clash_no_types, solved_solution}
use Rattle.mls_infer.proofs.Stepping.{solution_equivalent}

-- more goals relate more
pub related_more : (a : Automaton) (R S : ℕ → ℕ → Type 0) → ((p n : ℕ) → R p n → S p n) → (p n : ℕ) → IsRelated a R p n → IsRelated a S p n
related_more a R S more p n (goal it) = goal (more p n it)
related_more a R S more p n (domain {p = q} {n = m} it from to) = domain (related_more a R S more q m it) from to
related_more a R S more p n (codomain {p = q} {n = m} it from to) = codomain (related_more a R S more q m it) from to
related_more a R S more p n (field {p = q} {n = m} label it from to) = field label (related_more a R S more q m it) from to
related_more a R S more p n (along {n = m} {q = q} it edge after) = along (related_more a R S more p m it) edge (related_more a R S more q n after)

-- whether a room holds a pair, as a test
is_pair : (p n : ℕ) → ℕ × ℕ → Bool
is_pair p n q = (q.0 == p) && (q.1 == n)

both : (x y : Bool) → x && y ≡ true → (x ≡ true) × (y ≡ true)
both true true e = (refl, refl)
both true false e = absurd (cc)
both false y e = absurd (cc)

module _ (room : Room) (R : ℕ → ℕ → Type 0) (just : HoldsJust room R) where
  holds : ℕ → ℕ → Bool
  holds p n = list_any (is_pair p n) room.pairs

  table : IsTable R holds
  unfolding holds is_pair
  table = record {
    sound = λ p n e.
        let found = any_found (is_pair p n) room.pairs e in
        let equal = both (found.0.0 == p) (found.0.1 == n) found.2 in
        let first : found.0.0 ≡ p = eqb-true found.0.0 p equal.0 in
        let second : found.0.1 ≡ n = eqb-true found.0.1 n equal.1 in
        let pair : ℕ × ℕ = (p, n) in
        let same : found.0 ≡ pair = λ i. (first i, second i) in
        (just p n).0 (subst (Contains room.pairs) same found.1);
    complete = λ p n it.
        let pair : ℕ × ℕ = (p, n) in
        let first : (p == p) ≡ true = grind (arith, nat_tests) in
        let second : (n == n) ≡ true = grind (arith, nat_tests) in
        let self : is_pair p n pair ≡ true = λ i. first i && second i in
        found_any (is_pair p n) room.pairs pair ((just p n).1 it) self;
  }

module _ (s : Scheme) (goals : List Goal) (is : IsScheme s) (rise : BindersRise s.env) (are : All (IsGoalOf s.automaton) goals) where
  abbrev c : Constraint
  c = record { scheme = s; goals = map goal_pair goals }

  abbrev a : Automaton
  a = s.automaton

  abbrev R : ℕ → ℕ → Type 0
  R = IsRelated a (IsGoal goals)

  abbrev S : ℕ → ℕ → Type 0
  S = IsRelated a (GoalsOf c)

  each : EachFound s.env
  each = entry-found s.env rise

  goals_are : AreGoals a (GoalsOf c)
  goals_are = between_pairs a goals are

  to_pairs : (p n : ℕ) → R p n → S p n
  to_pairs = related_more a (IsGoal goals) (GoalsOf c) (pair_in goals)

  from_pairs : (p n : ℕ) → S p n → R p n
  from_pairs = related_more a (GoalsOf c) (IsGoal goals) (goal_in goals)

  pub scheme_none : (clash : Clash) → IsClashOf a R clash → HasNoTypes c
  scheme_none clash it = clash_no_types c is each goals_are clash (to_pairs clash.positive.0 clash.negative.0 it.0, it.1)

  pub scheme_solution : (solved : Automaton) → IsSolvedFor a goals solved → IsSolution c (over s solved)
  scheme_solution solved it =
      let just : HoldsJust it.room S = λ p n. (λ h. to_pairs p n ((it.relation p n).0 h), λ h. (it.relation p n).1 (from_pairs p n h)) in
      let free : HasNoClash a S = λ p n h. it.free p n (from_pairs p n h) in
      let solves : IsSolved a S solved = solved-same a R S (λ p n. (to_pairs p n, from_pairs p n)) solved it.is_solved in
      let sources : Sources a S = sources_from_table a S (holds it.room S just) (table it.room S just) (λ p n h. (related_states a (GoalsOf c) is.automaton goals_are p n h).0.in_range) in
      solved_solution c is each goals_are solved solves it.closed free sources

-- equal relations clash alike
pub free_same : (a : Automaton) (R S : ℕ → ℕ → Type 0) → ((p n : ℕ) → R p n ↔ S p n) → HasNoClash a R → HasNoClash a S
free_same a R S same free p n it = free p n ((same p n).1 it)

pub clash_same : (a : Automaton) (R S : ℕ → ℕ → Type 0) → ((p n : ℕ) → R p n ↔ S p n) → (c : Clash) → IsFirstClash a R c → IsFirstClash a S c
clash_same a R S same c it = record {
  clash = ((same c.positive.0 c.negative.0).0 it.clash.0, it.clash.1);
  first = λ d is. it.first d ((same d.positive.0 d.negative.0).1 is.0, is.1);
}

pub solution_same : (c d : Constraint) (s : Scheme) → HaveSameTypes c d → IsSolution d s → IsSolution c s
solution_same c d s same it = record {
  states = it.states;
  just = λ types f. (λ h. (it.just types f).0 ((same types f).0 h), λ h. (same types f).1 ((it.just types f).1 h));
}

pub solution_after : (c : Constraint) (s t : Scheme) → IsSolution c s → IsSolution (no_goals s) t → IsSolution c t
solution_after c s t first second = record {
  states = second.states;
  just = λ types f. (λ h. (second.just types f).0 ((first.just types f).0 h), λ h. (first.just types f).1 ((second.just types f).1 h));
}

pub solution_kept : (c : Constraint) (s t : Scheme) → IsSolution c s → IsScheme s → BindersRise s.env → IsScheme t → BindersRise t.env → AreEquivalentSchemes s t → IsSolution c t
solution_kept c s t solution is rise is' rise' same =
    let each : EachFound s.env = entry-found s.env rise in
    let each' : EachFound t.env = entry-found t.env rise' in
    let b = scheme_exists s is in
    let d = scheme_exists t is' in
    let states : HasStates t = record { automaton = is'.automaton; root = is'.root; env = λ entry inside. is'.env entry.binder entry.state.0 (each' entry inside) } in
    solution_equivalent c s t b.0 d.0 solution states (read_as s is each b.0 b.1) (read_as t is' each' d.0 d.1) (same b.0 d.0 b.1 d.1)
