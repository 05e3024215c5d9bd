-- The record of the combined head of a set, label by label.
use Rattle.std.specs.Prelude.{ℕ, Bool, true, ◌==◌, List, [], ◌∷◌, ◌++◌, length, map, option_map, unwrap_or, Option}
use Rattle.std.specs.Prelude.{Some, None, if◌then◌else◌}
use Rattle.std.specs.Global.{Vec}
use Rattle.std.specs.List.{flat_map, filter_map}
use Rattle.mls_automaton.specs.declared.automaton.Polarity.{Polarity}
use Rattle.mls_automaton.specs.declared.automaton.Polarity.TheVariants.{Positive, Negative}
use Rattle.mls_automaton.specs.declared.automaton.FieldSet.{FieldSet}
use Rattle.mls_automaton.specs.Automata.{Automaton, head_at}
use Rattle.mls_automaton.specs.Heads.{set_at}
use Rattle.mls_print.specs.declared.record.JoinedField.{JoinedField}
use Rattle.mls_print.specs.steps.Flat.{flat_record}
use Rattle.mls_print.specs.steps.Printing.{LabelledSet}

-- the record of the combined head of a set
abbrev pub record_of_all : Automaton → Polarity → List ℕ → Option (List ℕ → Option (List ℕ))
record_of_all a = flat_record (λ s. (head_at a s).function) (λ s. option_map set_at (head_at a s).fields)

-- the fields that are found
abbrev pub field_in : JoinedField → LabelledSet
field_in field = record { label = field.label.now; set = field.states.items }

abbrev pub fields_in : Vec JoinedField → List LabelledSet
fields_in fields = map field_in fields.items

-- a field with its own set
abbrev pub whole_field : FieldSet → LabelledSet
whole_field field = record { label = field.label; set = field.set }

-- the set of a state at a label
abbrev pub set_in_record : List ℕ → Option (List FieldSet) → Option (List ℕ)
set_in_record label None = None
set_in_record label (Some fields) = set_at fields label

-- the sets so far at a label, with one more if there is one
abbrev pub grown : Option (List ℕ) → Option (List (List ℕ)) → Option (List (List ℕ))
grown None sets = sets
grown (Some set) sets = Some (unwrap_or sets [] ++ set ∷ [])

-- the sets of states at a label, if there is one
abbrev pub non_empty : List (List ℕ) → Option (List (List ℕ))
non_empty [] = None
non_empty (set ∷ sets) = Some (set ∷ sets)

abbrev pub sets_at_label : Automaton → List ℕ → List ℕ → Option (List (List ℕ))
sets_at_label a label set = non_empty (filter_map (λ s. set_in_record label (head_at a s).fields) set)

-- At a positive place a label is shown that each record has, at a negative one each label that some record has.
abbrev pub is_shown : Polarity → (records count : ℕ) → Bool
is_shown Positive records count = count == records
is_shown Negative records count = true

-- the fields that are shown of the labels with their sets
abbrev pub entry_fields : Polarity → (records : ℕ) → List (List ℕ × List (List ℕ)) → List LabelledSet
entry_fields p records [] = []
entry_fields p records (entry ∷ rest) =
    if is_shown p records (length entry.1)
    then record { label = entry.0; set = flat_map (λ set. set) entry.1 } ∷ entry_fields p records rest
    else entry_fields p records rest
