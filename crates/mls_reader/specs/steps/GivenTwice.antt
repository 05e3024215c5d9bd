-- What a module gives a second time, found from what it gives in the order of the text.
use Rattle.std.specs.Prelude.{◌≡◌, ℕ, Bool, true, false, not, List, [], ◌∷◌, ◌++◌, Option, Some, None, bytes_eq}
use Rattle.std.specs.List.{list_any}
use Rattle.mls_grammar.specs.declared.fault.Fault.{Fault}
use Rattle.mls_grammar.specs.declared.fault.Fault.TheVariants.{DuplicateBinding, DuplicateLabel, DuplicateImport}
use Rattle.mls_reader.specs.declared.piece.Event.{Event}
use Rattle.mls_reader.specs.declared.piece.Event.TheVariants as event
use Rattle.mls_grammar.specs.Doubles.{if_seen}

-- the faults of the names and labels that are given, where these modules are imported, these names bound, and these
-- labels given by the records that are open, the innermost first
abbrev pub doubles_in : (imports bindings : List (List ℕ)) (records : List (List (List ℕ))) → List Event → List Fault
doubles_in imports bindings records [] = []
doubles_in imports bindings records (event.Import at x ∷ es) =
    if_seen imports x (DuplicateImport at) ++ doubles_in (x ∷ imports) bindings records es
doubles_in imports bindings records (event.Binding at x ∷ es) =
    if_seen bindings x (DuplicateBinding at) ++ doubles_in imports (x ∷ bindings) records es
doubles_in imports bindings records (event.Open ∷ es) = doubles_in imports bindings ([] ∷ records) es
doubles_in imports bindings [] (event.Label at x ∷ es) = doubles_in imports bindings [] es
doubles_in imports bindings (labels ∷ records) (event.Label at x ∷ es) =
    if_seen labels x (DuplicateLabel at) ++ doubles_in imports bindings ((x ∷ labels) ∷ records) es
doubles_in imports bindings [] (event.Close ∷ es) = doubles_in imports bindings [] es
doubles_in imports bindings (labels ∷ records) (event.Close ∷ es) = doubles_in imports bindings records es

-- the first of these, where there is one
abbrev pub first_of : List Fault → Option Fault
first_of [] = None
first_of (fault ∷ faults) = Some fault

-- one of these more, where there is one
abbrev pub fault_before : Option Fault → List Fault → List Fault
fault_before None faults = faults
fault_before (Some fault) faults = fault ∷ faults

-- the fault of a name, unless it is new
abbrev pub fault_unless : Bool → Fault → Option Fault
fault_unless true fault = None
fault_unless false fault = Some fault

-- the same names are in both lists
abbrev pub HasSameNames : List (List ℕ) → List (List ℕ) → Type 0
HasSameNames xs ys = (x : List ℕ) → list_any (bytes_eq x) xs ≡ list_any (bytes_eq x) ys

-- a label was added to the innermost record that is open, where it is new or not
abbrev pub AddsLabel : List ℕ → (old new : List (List (List ℕ))) → Bool → Type 0
AddsLabel x [] new fresh = (new ≡ []) × (fresh ≡ true)
AddsLabel x (labels ∷ records) new fresh =
    (more : List (List ℕ)) × (new ≡ more ∷ records) × HasSameNames (x ∷ labels) more
    × (fresh ≡ not (list_any (bytes_eq x) labels))
