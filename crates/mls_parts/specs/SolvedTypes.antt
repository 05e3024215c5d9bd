-- The scheme of a solved constraint: its root, and binders with their states.
use Rattle.std.specs.Prelude.{ℕ, List, map, IsSome}
use Rattle.mls_automaton.specs.declared.scheme.EnvEntry.{EnvEntry}
use Rattle.mls_automaton.specs.declared.scheme.Scheme.{Scheme}
use Rattle.mls_automaton.specs.Automata.{Automaton}
use Rattle.mls_automaton.specs.Schemes.{state_of}

abbrev pub entry_of : ℕ × ℕ → EnvEntry
entry_of binder = record { binder = binder.0; state = record { 0 = binder.1 } }

abbrev pub entries_of : List (ℕ × ℕ) → List EnvEntry
entries_of binders = map entry_of binders

abbrev pub solved_scheme : Automaton → (root : ℕ) → List (ℕ × ℕ) → Scheme
solved_scheme solved root binders = record { automaton = solved; env = entries_of binders; root = record { 0 = root } }

-- the first scheme has no binders but those of the second
abbrev pub HasBindersOf : Scheme → Scheme → Type 0
HasBindersOf s u = (x : ℕ) → IsSome (state_of s.env x) → IsSome (state_of u.env x)
