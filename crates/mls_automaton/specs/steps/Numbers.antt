-- New numbers of states, and where they keep the order of the members of sets.
use Rattle.std.specs.Prelude.{ℕ, ◌+◌, ◌<◌, List, All, Contains, get_or, Option, Some, None}
use Rattle.mls_automaton.specs.declared.automaton.Arms.{Arms}
use Rattle.mls_automaton.specs.declared.automaton.FieldSet.{FieldSet}
use Rattle.mls_automaton.specs.declared.automaton.Head.{Head}
use Rattle.mls_automaton.specs.declared.renumber.Numbers.{Numbers}
use Rattle.mls_automaton.specs.declared.renumber.Numbers.TheVariants.{Raised, Listed}

abbrev pub number_in : Numbers → ℕ → ℕ
number_in (Raised by) s = by + s
number_in (Listed numbers) s = get_or numbers.items s 0

abbrev pub KeepsOrder : (ℕ → ℕ) → List ℕ → Type 0
KeepsOrder place set = (i j : ℕ) → Contains set i → Contains set j → i < j → place i < place j

abbrev pub KeepsOrderInArms : (ℕ → ℕ) → Option Arms → Type 0
KeepsOrderInArms place None = Unit {0}
KeepsOrderInArms place (Some arms) = KeepsOrder place arms.domain × KeepsOrder place arms.codomain

abbrev pub KeepsOrderInFields : (ℕ → ℕ) → Option (List FieldSet) → Type 0
KeepsOrderInFields place None = Unit {0}
KeepsOrderInFields place (Some fields) = All (λ field. KeepsOrder place field.set) fields

abbrev pub KeepsOrderInHead : (ℕ → ℕ) → Head → Type 0
KeepsOrderInHead place head = KeepsOrderInArms place head.function × KeepsOrderInFields place head.fields
