-- A state for several of a binder, in a table.
use Rattle.std.specs.Prelude.{◌≡◌, ◌↔◌, ◌⊎◌, ℕ, false, List, map, get_or, Contains}
use Rattle.mls_automaton.specs.declared.automaton.Polarity.TheVariants.{Negative}
use Rattle.mls_automaton.specs.declared.scheme.EnvEntry.{EnvEntry}
use Rattle.mls_automaton.specs.Automata.{Automaton, HasFlow, head_at, polarity_at, state_at}
use Rattle.mls_automaton.specs.Heads.{IsSameParts, Parts, combined, parts_of}
use Rattle.mls_biunify.specs.Live.{IsThere, Live}

-- the combined head of the states of these entries
abbrev pub parts_together : Automaton → List EnvEntry → Parts
parts_together a entries = combined Negative (map (λ (entry : EnvEntry). parts_of (head_at a entry.state.0)) entries)

-- an edge to this state from that of one of the entries
abbrev pub HasFlowOfOne : Automaton → List EnvEntry → ℕ → Type 0
HasFlowOfOne a entries p = (entry : EnvEntry) × Contains entries entry × HasFlow a entry.state.0 p

-- One negative state came, under a number that was free. It has the combined head and all edges of the states of these
-- entries; all else stays.
pub record MeetsAt (entries : List EnvEntry) (state : ℕ) (old new : Live) : Type 0 where
  pub was_free : get_or old.there state false ≡ false
  pub there : (j : ℕ) → IsThere new j ↔ IsThere old j ⊎ (j ≡ state)
  pub others : (j : ℕ) → IsThere old j → state_at new.table j ≡ state_at old.table j
  pub polarity : polarity_at new.table state ≡ Negative
  pub head : IsSameParts (parts_of (head_at new.table state)) (parts_together old.table entries)
  pub flows : (n p : ℕ) → HasFlow new.table n p ↔ HasFlow old.table n p
      ⊎ ((n ≡ state) × HasFlowOfOne old.table entries p)
