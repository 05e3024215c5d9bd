-- Laws of the closed relation.
use Rattle.std.specs.Prelude.{ℕ, List, All}
use Rattle.mls_book.specs.Predicates.{Predicate, Implies}
use Rattle.mls_book.specs.Schemes as book
use Rattle.mls_automaton.specs.declared.scheme.EnvEntry.{EnvEntry}
use Rattle.mls_automaton.specs.Automata.{Automaton}
use Rattle.mls_automaton.specs.Models.{IsClosed, IsModel}
use Rattle.mls_automaton.specs.Schemes.{IsScheme, IsSchemeOf, IsInstanceUnder, PairAt}
use Rattle.mls_solver.specs.declared.goal.Clash.{Clash}
use Rattle.mls_solver.specs.declared.goal.Goal.{Goal}
use Rattle.mls_solver.specs.Relations.{IsGoal, IsGoalOf, IsRelated}
use Rattle.mls_solver.specs.Clashes.{IsClashOf}
use Rattle.mls_solver.specs.Solutions.{scheme_over}

-- a model in which the goals hold satisfies the whole closed relation
abbrev pub SolutionsSatisfyAll : Type 0
SolutionsSatisfyAll =
    (a : Automaton) (goals : List Goal) → IsClosed a → All (IsGoalOf a) goals → (value : ℕ → Predicate)
    → IsModel a value
    → ((p n : ℕ) → IsGoal goals p n → Implies (value p) (value n))
    → (p n : ℕ) → IsRelated a (IsGoal goals) p n → Implies (value p) (value n)

-- where a related pair clashes, no substitution satisfies the goals, whatever the root and the binders
abbrev pub NoInstanceBesideAClash : Type 0
NoInstanceBesideAClash =
    (a : Automaton) (goals : List Goal) → All (IsGoalOf a) goals → (c : Clash)
    → IsClashOf a (IsRelated a (IsGoal goals)) c
    → (root : ℕ) (env : List EnvEntry) → IsScheme (scheme_over a root env)
    → (b : book.Scheme) (is : IsSchemeOf (scheme_over a root env) b) (t : book.Scheme)
    → IsInstanceUnder b (PairAt is.place (IsGoal goals)) t → ⊥
