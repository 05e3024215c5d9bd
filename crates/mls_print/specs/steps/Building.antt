-- How the table of the shown sets grows, row by row.
use Rattle.std.specs.Prelude.{◌≡◌, ◌⊎◌, ℕ, ◌<◌, ◌≤◌, List, [], ◌∷◌, length, get_or, All, Option, Some, None}
use Rattle.mls_automaton.specs.declared.automaton.Polarity.{Polarity}
use Rattle.mls_automaton.specs.declared.automaton.Polarity.TheVariants.{Positive}
use Rattle.mls_automaton.specs.Automata.{Automaton, polarity_at}
use Rattle.mls_automaton.specs.Heads.{Parts, IsSameSet}
use Rattle.mls_print.specs.declared.row.Row.{Row}
use Rattle.mls_print.specs.declared.table.Builder.{Builder}
use Rattle.mls_print.specs.Shown.{set_head}
use Rattle.mls_print.specs.steps.Registers.{sets_in, set_of, IsRegister, Adds, IsArm}
use Rattle.mls_print.specs.steps.Tables.{ShowsRow, IsWithin}
use Rattle.mls_print.specs.steps.Visits.{IsVisited, IsVisitedSet}

-- a head names a set of these members
abbrev pub IsFieldOf : Option (List ℕ → Option (List ℕ)) → List ℕ → Type 0
IsFieldOf None set = ⊥
IsFieldOf (Some sets) set = (label : List ℕ) × (named : List ℕ) × (sets label ≡ Some named) × IsSameSet named set

abbrev pub IsNamed : Parts → List ℕ → Type 0
IsNamed head set = IsArm head.function set ⊎ IsFieldOf head.fields set

-- The row shows this set, whose sets are there now, and no set was added but those.
pub record MakesRow (a : Automaton) (order : List ℕ) (p : Polarity) (set : List ℕ) (old new : List (List ℕ))
    (row : Row) : Type 0 where
  pub adds : Adds (IsNamed (set_head a p set)) old new
  pub within : IsWithin (length new) row
  pub shows : ShowsRow a order (set_of new) p set row

-- the polarity of the members of a set
abbrev pub polarity_in : Automaton → List ℕ → Polarity
polarity_in a [] = Positive
polarity_in a (s ∷ rest) = polarity_at a s

-- there are rows for the first sets, each of them a set of visited states
pub record IsBuilding (a : Automaton) (order : List ℕ) (b : Builder) : Type 0 where
  pub register : IsRegister b.register
  pub visited : All (IsVisitedSet a order) (sets_in b.register)
  pub rows : length b.rows.items ≤ length (sets_in b.register)
  pub within : All (IsWithin (length (sets_in b.register))) b.rows.items
  pub shows : (i : ℕ) (d : Row) → i < length b.rows.items → (p : Polarity)
      → All (IsVisited a order p) (set_of (sets_in b.register) i)
      → ShowsRow a order (set_of (sets_in b.register)) p (set_of (sets_in b.register) i) (get_or b.rows.items i d)

-- the first set is that of this state alone
pub record BeginsWith (root : ℕ) (b : Builder) : Type 0 where
  pub some : 0 < length (sets_in b.register)
  pub first : set_of (sets_in b.register) 0 ≡ root ∷ []
