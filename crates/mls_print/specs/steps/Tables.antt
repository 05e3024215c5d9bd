-- The table of the sets that are shown.
use Rattle.std.specs.Prelude.{◌≡◌, ℕ, ◌<◌, List, [], ◌∷◌, length, map, get_or, All, Contains, option_map, Option, Some}
use Rattle.std.specs.Prelude.{None, IsSome}
use Rattle.std.specs.Global.{Vec}
use Rattle.mls_automaton.specs.declared.automaton.Polarity.{Polarity}
use Rattle.mls_automaton.specs.declared.automaton.Arms.{Arms}
use Rattle.mls_automaton.specs.Automata.{Automaton}
use Rattle.mls_automaton.specs.Heads.{IsSameSet, IsSameOption}
use Rattle.mls_print.specs.declared.row.Row.{Row}
use Rattle.mls_print.specs.declared.row.RowArms.{RowArms}
use Rattle.mls_print.specs.declared.row.RowField.{RowField}
use Rattle.mls_print.specs.declared.row.Table.{Table}
use Rattle.mls_print.specs.Walks.{shown_variables}
use Rattle.mls_print.specs.steps.Visits.{IsVisited}
use Rattle.mls_print.specs.Shown.{AreRisingLabels, set_head}
use Rattle.mls_print.specs.steps.Printing.{LabelledSet}

-- the sets of the table, and the set of a number
abbrev pub sets_of : Table → List (List ℕ)
sets_of table = map (λ set. set.items) table.sets.items

abbrev pub set_at : Table → ℕ → List ℕ
set_at table n = get_or (sets_of table) n []

-- the function and the record of a row, with the sets themselves
abbrev pub arms_of : (ℕ → List ℕ) → Option RowArms → Option Arms
arms_of sets None = None
arms_of sets (Some arms) = Some (record { domain = sets arms.domain; codomain = sets arms.codomain })

abbrev pub labelled : (ℕ → List ℕ) → RowField → LabelledSet
labelled sets field = record { label = field.label.now; set = sets field.set }

-- these are the labels of a record in byte order, with sets of the same members
pub record AreFieldsOf (sets : List ℕ → Option (List ℕ)) (all : List LabelledSet) : Type 0 where
  pub rising : AreRisingLabels (map (λ f. f.label) all)
  pub each : (f : LabelledSet) → Contains all f → (set : List ℕ) × (sets f.label ≡ Some set) × IsSameSet set f.set
  pub all_labels : (label : List ℕ) → IsSome (sets label) → Contains (map (λ f. f.label) all) label

abbrev pub IsRecordOf : Option (List ℕ → Option (List ℕ)) → Option (List LabelledSet) → Type 0
IsRecordOf None None = Unit {0}
IsRecordOf (Some sets) (Some all) = AreFieldsOf sets all
IsRecordOf _ _ = ⊥

abbrev pub IsFunctionOf : Option Arms → Option Arms → Type 0
IsFunctionOf = IsSameOption (λ (f : Arms) g. IsSameSet f.domain g.domain × IsSameSet f.codomain g.codomain)

-- a row shows this set at this polarity, where its numbers are those of these sets
pub record ShowsRow (a : Automaton) (order : List ℕ) (sets : ℕ → List ℕ) (p : Polarity) (set : List ℕ)
    (row : Row) : Type 0 where
  pub variables : row.variables.items ≡ shown_variables a order p set
  pub boolean : row.boolean ≡ (set_head a p set).boolean
  pub integer : row.integer ≡ (set_head a p set).integer
  pub function : IsFunctionOf (set_head a p set).function (arms_of sets row.function)
  pub fields : IsRecordOf (set_head a p set).fields (option_map (λ fields. map (labelled sets) fields.items) row.fields)

-- the sets that a row names are in the table
abbrev pub HasArmsBelow : ℕ → Option RowArms → Type 0
HasArmsBelow n None = Unit {0}
HasArmsBelow n (Some arms) = (arms.domain < n) × (arms.codomain < n)

abbrev pub HasFieldsBelow : ℕ → Option (Vec RowField) → Type 0
HasFieldsBelow n None = Unit {0}
HasFieldsBelow n (Some fields) = All (λ field. field.set < n) fields.items

pub record IsWithin (n : ℕ) (row : Row) : Type 0 where
  pub function : HasArmsBelow n row.function
  pub fields : HasFieldsBelow n row.fields

-- each row stands beside its set, and names sets of the table
pub record IsWhole (table : Table) : Type 0 where
  pub rows : length table.rows.items ≡ length table.sets.items
  pub some : 0 < length table.sets.items
  pub within : All (IsWithin (length table.sets.items)) table.rows.items

-- The table has each set that is shown of this root once, the set of the root alone first.
pub record IsTable (a : Automaton) (order : List ℕ) (root : ℕ) (table : Table) : Type 0 where
  pub first : set_at table 0 ≡ root ∷ []
  pub distinct : (i j : ℕ) → i < length table.sets.items → j < length table.sets.items
      → IsSameSet (set_at table i) (set_at table j) → i ≡ j
  pub shows : (i : ℕ) (d : Row) → i < length table.rows.items → (p : Polarity)
      → All (IsVisited a order p) (set_at table i)
      → ShowsRow a order (set_at table) p (set_at table i) (get_or table.rows.items i d)
