-- The solved automaton of a room that was saturated without a clash has the instances under the goals.
use Rattle.std.proofs.Common.{◌≡◌, inl, inr, ℕ, ◌==◌, Bool, true, false, ◌&&◌, List, refl, subst, arith, Contains}
use Rattle.std.specs.Prelude.{◌↔◌}
use Rattle.std.specs.List.{list_any}
use Rattle.std.proofs.lemmas.Bool.{eqb-true}
use Rattle.std.proofs.lemmas.Bool.Decides.{nat_tests}
use Rattle.mls_automaton.specs.declared.automaton.Polarity.{Polarity}
use Rattle.mls_automaton.specs.declared.automaton.Polarity.TheVariants.{Positive, Negative}
use Rattle.mls_automaton.specs.Automata.{Automaton, polarity_at}
use Rattle.mls_automaton.specs.Models.{IsClosed}
use Rattle.mls_automaton.proofs.Lists.{any_found, found_any}
use Rattle.mls_automaton.proofs.Instances.{AreGoals}
use Rattle.mls_solver.specs.declared.goal.Goal.{Goal}
use Rattle.mls_solver.specs.Relations.{IsGoal, IsRelated, IsTable}
use Rattle.mls_solver.specs.Rooms.{Room, Holds, HoldsJust}
use Rattle.mls_solver.specs.Solved.{IsSolved, ReachesBy}
use Rattle.mls_solver.specs.Solutions.{HasInstancesUnder, IsSaturated, scheme_over}
use Rattle.mls_solver.proofs.Following.{goals_between}
use Rattle.mls_solver.proofs.SolvedInstances.{solved_instances, solved_subsumes}

-- equal relations have the same solved automata
module _ (a : Automaton) (R S : ℕ → ℕ → Type 0) (same : (p n : ℕ) → R p n ↔ S p n) (solved : Automaton) (is : IsSolved a R solved) where
  to_reach : (p : Polarity) (s j : ℕ) → ReachesBy a R p s j → ReachesBy a S p s j
  to_reach Positive s j it = (it.0, (same j it.0).0 it.1, it.2)
  to_reach Negative s j it = (it.0, it.1, (same it.0 j).0 it.2)

  from_reach : (p : Polarity) (s j : ℕ) → ReachesBy a S p s j → ReachesBy a R p s j
  from_reach Positive s j it = (it.0, (same j it.0).1 it.1, it.2)
  from_reach Negative s j it = (it.0, it.1, (same it.0 j).1 it.2)

  pub solved-same : IsSolved a S solved
  solved-same = record {
    same_length = is.same_length;
    polarity = is.polarity;
    flows = λ n q it.
        elim (is.flows n q it) [
          | inl old ↦ inl old
          | inr new ↦ inr (new.0, new.1, new.2, (same new.0 new.1).0 new.3, new.4)
        ];
    old_flows = is.old_flows;
    new_flows = λ n q new. is.new_flows n q (new.0, new.1, new.2, (same new.0 new.1).1 new.3, new.4);
    members = is.members;
    self = is.self;
    reached = λ s j it.
        elim (is.reached s j it) [
          | inl self ↦ inl self
          | inr reach ↦ inr (to_reach (polarity_at a s) s j reach)
        ];
    reaching = λ s j reach. is.reaching s j (from_reach (polarity_at a s) s j reach);
    heads = is.heads;
  }

-- whether a room holds a pair, as a test
is_pair : (p n : ℕ) → ℕ × ℕ → Bool
is_pair p n q = (q.0 == p) && (q.1 == n)

both : (x y : Bool) → x && y ≡ true → (x ≡ true) × (y ≡ true)
both true true e = (refl, refl)
both true false e = absurd (cc)
both false y e = absurd (cc)

module _ (room : Room) (R : ℕ → ℕ → Type 0) (just : HoldsJust room R) where
  holds : ℕ → ℕ → Bool
  holds p n = list_any (is_pair p n) room.pairs

  table : IsTable R holds
  unfolding holds is_pair
  table = record {
    sound = λ p n e.
        let found = any_found (is_pair p n) room.pairs e in
        let equal = both (found.0.0 == p) (found.0.1 == n) found.2 in
        let first : found.0.0 ≡ p = eqb-true found.0.0 p equal.0 in
        let second : found.0.1 ≡ n = eqb-true found.0.1 n equal.1 in
        let pair : ℕ × ℕ = (p, n) in
        let same : found.0 ≡ pair = λ i. (first i, second i) in
        (just p n).0 (subst (Contains room.pairs) same found.1);
    complete = λ p n it.
        let pair : ℕ × ℕ = (p, n) in
        let first : (p == p) ≡ true = grind (arith, nat_tests) in
        let second : (n == n) ≡ true = grind (arith, nat_tests) in
        let self : is_pair p n pair ≡ true = λ i. first i && second i in
        found_any (is_pair p n) room.pairs pair ((just p n).1 it) self;
  }

module _ (a : Automaton) (closed : IsClosed a) (room : Room) (solved : Automaton) (is : IsSolved a (Holds room) solved) (is_closed : IsClosed solved) where
  pub instances-under : (goals : List Goal) → IsSaturated a goals room → HasInstancesUnder a (IsGoal goals) solved
  instances-under goals it =
      let R : ℕ → ℕ → Type 0 = IsRelated a (IsGoal goals) in
      let are : AreGoals a (IsGoal goals) = goals_between a goals it.states in
      let solves : IsSolved a R solved = solved-same a (Holds room) R it.relation solved is in
      record {
        instances = λ root env scheme t. solved_instances (scheme_over a root env) (IsGoal goals) scheme are solved solves is_closed it.free (holds room R it.relation) (table room R it.relation) t;
        books = λ root env scheme b c first second t. solved_subsumes (scheme_over a root env) (IsGoal goals) scheme are solved solves is_closed it.free (holds room R it.relation) (table room R it.relation) t b c first second;
      }
