-- What the solved automaton of a room is worth: its instances are those under the goals.
use Rattle.std.specs.Prelude.{◌↔◌, ℕ, List, All}
use Rattle.mls_book.specs.Schemes as book
use Rattle.mls_book.specs.Schemes.{Subsumes}
use Rattle.mls_automaton.specs.declared.scheme.EnvEntry.{EnvEntry}
use Rattle.mls_automaton.specs.declared.scheme.Scheme.{Scheme}
use Rattle.mls_automaton.specs.Automata.{Automaton}
use Rattle.mls_automaton.specs.Schemes.{IsScheme, IsSchemeOf, IsInstance, NoGoal, IsInstanceUnder, PairAt}
use Rattle.mls_solver.specs.declared.goal.Goal.{Goal}
use Rattle.mls_solver.specs.Relations.{IsGoal, IsGoalOf, IsRelated}
use Rattle.mls_solver.specs.Clashes.{HasNoClash}
use Rattle.mls_solver.specs.Rooms.{Room, HoldsJust}

-- the scheme over an automaton with this root and these binders
abbrev pub scheme_over : Automaton → ℕ → List EnvEntry → Scheme
scheme_over a root env = record { automaton = a; root = record { 0 = root }; env = env }

-- the room holds just the closed relation of the goals, and no pair of it clashes
pub record IsSaturated (a : Automaton) (goals : List Goal) (room : Room) : Type 0 where
  pub states : All (IsGoalOf a) goals
  pub relation : HoldsJust room (IsRelated a (IsGoal goals))
  pub free : HasNoClash a (IsRelated a (IsGoal goals))

-- For every root and all binders, the instances of the scheme over the second automaton are exactly the instances under
-- the goals of the scheme over the first. Said of books: a book of the one scheme subsumes exactly the instances under
-- the goals of a book of the other.
pub record HasInstancesUnder (a : Automaton) (IsGoal : ℕ → ℕ → Type 0) (solved : Automaton) : Type 0 where
  pub instances : (root : ℕ) (env : List EnvEntry) → IsScheme (scheme_over a root env) → (t : book.Scheme)
      → IsInstance (scheme_over a root env) IsGoal t ↔ IsInstance (scheme_over solved root env) NoGoal t
  pub books : (root : ℕ) (env : List EnvEntry) → IsScheme (scheme_over a root env)
      → (b c : book.Scheme) (is : IsSchemeOf (scheme_over a root env) b) → IsSchemeOf (scheme_over solved root env) c
      → (t : book.Scheme) → IsInstanceUnder b (PairAt is.place IsGoal) t ↔ Subsumes c t
