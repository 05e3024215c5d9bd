-- Environments: states by binders.
use Rattle.std.specs.Prelude.{◌≡◌, ◌≢◌, ℕ, ◌<◌, List, length, get_or}
use Rattle.mls_automaton.specs.declared.scheme.EnvEntry.{EnvEntry}

-- each binder is below those behind it
abbrev pub BindersRise : List EnvEntry → Type 0
BindersRise env = (i j : ℕ) (d : EnvEntry) → i < j → j < length env → (get_or env i d).binder < (get_or env j d).binder

-- the entry at this place is that of the binder
abbrev pub IsPlaceOf : List EnvEntry → ℕ → ℕ → Type 0
IsPlaceOf env x i = (i < length env) × ((d : EnvEntry) → (get_or env i d).binder ≡ x)

-- none of the first n entries is that of the binder
abbrev pub HasNoEntry : List EnvEntry → ℕ → ℕ → Type 0
HasNoEntry env x n = (k : ℕ) (d : EnvEntry) → k < n → k < length env → (get_or env k d).binder ≢ x
