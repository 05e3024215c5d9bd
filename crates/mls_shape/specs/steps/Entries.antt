-- How the states of binders get their numbers.
use Rattle.std.specs.Prelude.{◌≡◌, ℕ, List, [], ◌∷◌, Contains}
use Rattle.mls_automaton.specs.declared.automaton.Polarity.TheVariants.{Negative}
use Rattle.mls_automaton.specs.declared.scheme.EnvEntry.{EnvEntry}
use Rattle.mls_shape.specs.declared.register.SetState.{SetState}
use Rattle.mls_shape.specs.steps.Registers.{IsAt, Grows}

-- the same binders, each with the number of the set of its state alone
abbrev pub AreEntriesOf : List SetState → List EnvEntry → List EnvEntry → Type 0
AreEntriesOf sets [] [] = Unit {0}
AreEntriesOf sets (e ∷ env) (f ∷ row) = (e.binder ≡ f.binder) × IsAt sets f.state.0 Negative (e.state.0 ∷ [])
    × AreEntriesOf sets env row
AreEntriesOf sets _ _ = ⊥

-- a binder has this state
abbrev pub HasEntryAt : List EnvEntry → ℕ → Type 0
HasEntryAt env k = (e : EnvEntry) × Contains env e × (e.state.0 ≡ k)

pub record NumbersEnv (env : List EnvEntry) (old new : List SetState) (row : List EnvEntry) : Type 0 where
  pub grows : Grows (HasEntryAt row) old new
  pub is : AreEntriesOf new env row
