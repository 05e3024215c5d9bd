-- The states of a copy in a table are there, and nothing leads into them or out of them.
use Rattle.std.proofs.Common.{◌≡◌, ◌⊎◌, ◌↔◌, inr, ℕ, List, sym, subst, Contains, All}
use Rattle.mls_automaton.specs.declared.state_set.StateId.{StateId}
use Rattle.mls_automaton.specs.Automata.{Automaton, HasFlow}
use Rattle.mls_automaton.specs.Models.{IsClosed}
use Rattle.mls_automaton.proofs.Lists.{All-contained, Contains-map}
use Rattle.mls_biunify.specs.Live.{AddsStates, IsCopiedFlow, IsCopyAt, IsLive, IsRegion, IsThere, Live, numbers_in}
use Rattle.mls_infer.proofs.RegionSteps.{copied_region}

module _ (old new : Live) (is_old : IsLive old) (is_new : IsLive new) (a : Automaton) (closed : IsClosed a) (numbers : List ℕ) (copy : IsCopyAt a numbers new.table) (adds : AddsStates old new numbers)
    (flows : (n p : ℕ) → HasFlow new.table n p ↔ HasFlow old.table n p ⊎ IsCopiedFlow a numbers n p) (states : List StateId) (same : numbers_in states ≡ numbers) where
  pub states_there : All (λ (s : StateId). IsThere new s.0) states
  states_there =
      All-contained (λ (s : StateId). IsThere new s.0) states
      (λ s it. (adds.there s.0).1 (inr (subst (λ (xs : List ℕ). Contains xs s.0) same (Contains-map (λ (j : StateId). j.0) states s it))))

  pub states_region : IsRegion new.table (numbers_in states)
  states_region = subst (IsRegion new.table) (sym same) (copied_region old new is_old is_new a closed numbers copy adds flows)
