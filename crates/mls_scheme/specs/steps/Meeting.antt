-- New states for binders of two environments, one after another.
use Rattle.std.specs.Prelude.{◌≡◌, ◌↔◌, ◌⊎◌, ℕ, ◌+◌, ◌-◌, ◌≤◌, List, [], ◌∷◌, ◌++◌, length, map, Some}
use Rattle.mls_automaton.specs.declared.automaton.Polarity.TheVariants.{Negative}
use Rattle.mls_automaton.specs.declared.automaton.State.{State}
use Rattle.mls_automaton.specs.declared.scheme.EnvEntry.{EnvEntry}
use Rattle.mls_automaton.specs.declared.scheme.Scheme.{Scheme}
use Rattle.mls_automaton.specs.Automata.{Automaton, head_at, HasFlow, IsState}
use Rattle.mls_automaton.specs.Heads.{parts_of, combined_two, IsSameParts}
use Rattle.mls_automaton.specs.Models.{HasRisingLabels, IsClosed}
use Rattle.mls_automaton.specs.Embeddings.{appended, front}
use Rattle.mls_automaton.specs.Schemes.{state_of}
use Rattle.mls_scheme.specs.Merged.{IsMerged}
use Rattle.mls_scheme.specs.declared.environments.Shared.{Shared}
use Rattle.mls_scheme.specs.steps.Environments.{pair_at, raised_entry, IsMet}

-- both are negative states
abbrev pub IsPairIn : Automaton → Shared → Type 0
IsPairIn a pair = IsState a Negative pair.first.0 × IsState a Negative pair.second.0

-- the two of the state of this number, where new states come from `start` on
abbrev pub first_of : ℕ → List Shared → ℕ → ℕ
first_of start shared k = (pair_at shared (k - start)).first.0

abbrev pub second_of : ℕ → List Shared → ℕ → ℕ
second_of start shared k = (pair_at shared (k - start)).second.0

-- the second automaton has one more state, which is negative and has the combined head and all edges of two
pub record AddsMet (m n : ℕ) (old new : Automaton) : Type 0 where
  pub state : State
  pub states : new.states ≡ old.states ++ state ∷ []
  pub polarity : state.polarity ≡ Negative
  pub head : IsSameParts (parts_of state.head)
      (combined_two Negative (parts_of (head_at old m)) (parts_of (head_at old n)))
  pub labels : HasRisingLabels state.head.fields
  pub flows : (s p : ℕ) → HasFlow new s p ↔ HasFlow old s p
      ⊎ ((s ≡ length old.states) × (HasFlow old m p ⊎ HasFlow old n p))

-- the first states up to each of these, and the edges between them, stayed
abbrev pub HasSameFront : ℕ → Automaton → Automaton → Type 0
HasSameFront n old new = (m : ℕ) → m ≤ n → front m new ≡ front m old

-- the states of binders are negative states of the automaton
abbrev pub HasBinders : Automaton → List EnvEntry → Type 0
HasBinders a env = (x s : ℕ) → state_of env x ≡ Some s → IsState a Negative s

-- The automaton with that of a scheme behind it, and new states for the binders of both.
pub record IsPutTogether (old new : Automaton) (env : List EnvEntry) (from : Scheme) (both : List EnvEntry)
    (place : ℕ) : Type 0 where
  pub shared : List Shared
  pub automaton : IsMerged (first_of (length (appended old from.automaton).states) shared)
      (second_of (length (appended old from.automaton).states) shared) (appended old from.automaton) new
  pub many : length new.states ≡ length (appended old from.automaton).states + length shared
  pub closed : IsClosed new
  pub state : (x : ℕ) → IsMet (length (appended old from.automaton).states) shared (state_of env x)
      (state_of (map (raised_entry (length old.states)) from.env) x) (state_of both x)
  pub place_is : place ≡ length old.states + from.root.0
