-- The states that heads name, by their places.
use Rattle.std.specs.Prelude.{◌≡◌, ℕ, List, Contains, Some}
use Rattle.mls_automaton.specs.declared.automaton.Arms.{Arms}
use Rattle.mls_automaton.specs.declared.automaton.FieldSet.{FieldSet}
use Rattle.mls_automaton.specs.Automata.{Automaton, head_at}
use Rattle.mls_automaton.specs.Heads.{set_at}

-- state s has a function with state m in its domain, or in its codomain
abbrev pub InDomain : Automaton → ℕ → ℕ → Type 0
InDomain a s m = (arms : Arms) × ((head_at a s).function ≡ Some arms) × Contains arms.domain m

abbrev pub InCodomain : Automaton → ℕ → ℕ → Type 0
InCodomain a s m = (arms : Arms) × ((head_at a s).function ≡ Some arms) × Contains arms.codomain m

-- state s has a record with state m at this label
abbrev pub InField : Automaton → ℕ → List ℕ → ℕ → Type 0
InField a s label m =
    (fields : List FieldSet) × (set : List ℕ)
    × ((head_at a s).fields ≡ Some fields)
    × (set_at fields label ≡ Some set)
    × Contains set m
