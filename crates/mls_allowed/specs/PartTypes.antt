-- The constraint of a part as a scheme: the root of the part, and binders around it.
use Rattle.std.specs.Prelude.{◌≡◌, ℕ, List, Contains, Some}
use Rattle.mls_automaton.specs.declared.scheme.EnvEntry.{EnvEntry}
use Rattle.mls_automaton.specs.declared.scheme.Scheme.{Scheme}
use Rattle.mls_automaton.specs.Automata.{Automaton}
use Rattle.mls_automaton.specs.Schemes.{state_of}
use Rattle.mls_parts.specs.declared.pose.Posing.{Posing}
use Rattle.mls_parts.specs.Posings.{binder_in, root_in}

-- the root is that of the node `top`, and these binders have these states
abbrev pub part_scheme : Posing → (top : ℕ) → List EnvEntry → Scheme
part_scheme p top env = record { automaton = p.automaton; env = env; root = record { 0 = root_in p top } }

-- the same over the solved constraint
abbrev pub solved_part : Posing → (top : ℕ) → List EnvEntry → Automaton → Scheme
solved_part p top env solved = record { automaton = solved; env = env; root = record { 0 = root_in p top } }

-- Each binder of the environment is one of the constraint and around the part, and has its own state.
pub record AreAround (p : Posing) (binders scope : List ℕ) (env : List EnvEntry) : Type 0 where
  pub there : (x s : ℕ) → state_of env x ≡ Some s → Contains binders x
  pub around : (x s : ℕ) → state_of env x ≡ Some s → Contains scope x
  pub own : (x s : ℕ) → state_of env x ≡ Some s → s ≡ binder_in p x
