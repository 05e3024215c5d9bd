-- The items of a set, from its row in the table.
use Rattle.std.specs.Prelude.{◌≡◌, ℕ, Bool, true, false, not, ◌||◌, List, [], ◌∷◌, ◌++◌, map, codes, Contains, Option}
use Rattle.std.specs.Prelude.{Some, None, option_map, is_some}
use Rattle.std.specs.Global.{Vec}
use Rattle.mls_automaton.specs.declared.automaton.Polarity.{Polarity}
use Rattle.mls_print.specs.declared.components.Item.{Item as LaidItem}
use Rattle.mls_print.specs.declared.components.Item.TheVariants as laid
use Rattle.mls_print.specs.declared.row.Row.{Row}
use Rattle.mls_print.specs.declared.row.RowArms.{RowArms}
use Rattle.mls_print.specs.declared.row.RowField.{RowField}
use Rattle.mls_print.specs.Keys.{variable}
use Rattle.mls_print.specs.Pieces.{name_of, opens, separator}
use Rattle.mls_print.specs.steps.Printing.{Place, Item, tell, show, show_domain, LabelledSet, text, items_in_parens}
use Rattle.mls_print.specs.steps.Printing.{bit_items, function_items, record_items, parts_items, is_alone}
use Rattle.mls_print.specs.steps.Tables.{arms_of, labelled}
use Rattle.mls_print.specs.steps.Writing.{piece_of}

-- the item, where the table has these sets, inside these sets; no row tells what an item stands for here that only
-- leaves a set
abbrev pub item_of : (ℕ → List ℕ) → List Place → LaidItem → Item
item_of sets around (laid.Tell p) = tell (piece_of p)
item_of sets around (laid.Show p n) = show around p (sets n)
item_of sets around (laid.ShowDomain p n) = show_domain around p (sets n)
item_of sets around (laid.Leave n) = tell (opens n)

abbrev pub items_told : (ℕ → List ℕ) → List Place → List LaidItem → List Item
items_told sets around items = map (item_of sets around) items

abbrev pub components_told : (ℕ → List ℕ) → List Place → List (Vec LaidItem) → List (List Item)
components_told sets around components = map (λ c. items_told sets around c.items) components

-- the fields of a row, with the sets themselves
abbrev pub fields_of : (ℕ → List ℕ) → Row → Option (List LabelledSet)
fields_of sets row = option_map (λ fields. map (labelled sets) fields.items) row.fields

-- a set shows something beside its function
abbrev pub is_nil : {X : Type 0} → List X → Bool
is_nil [] = true
is_nil (x ∷ rest) = false

abbrev pub has_more : Row → Bool
has_more row = not (is_nil row.variables.items) || (row.boolean || (row.integer || is_some row.fields))

-- the function among the components, in parentheses if it is one of several
abbrev pub function_component : Bool → Option (List Item) → List (List Item)
function_component several None = []
function_component true (Some f) = items_in_parens f ∷ []
function_component false (Some f) = f ∷ []

abbrev pub variable_items : List ℕ → List (List Item)
variable_items vs = map (λ n. tell (name_of (variable n)) ∷ []) vs

-- the components of a row
abbrev pub row_components : (ℕ → List ℕ) → List Place → Polarity → Row → List (List Item)
row_components sets around p row =
    variable_items row.variables.items
    ++ (bit_items (codes "bool") row.boolean
    ++ (bit_items (codes "int") row.integer
    ++ (function_component (has_more row) (function_items around p (arms_of sets row.function))
    ++ record_items around p (fields_of sets row))))

-- and all its items
abbrev pub row_items : (ℕ → List ℕ) → List Place → Polarity → Row → List Item
row_items sets around p row = parts_items around p row.variables.items row.boolean row.integer
    (arms_of sets row.function) (fields_of sets row)

abbrev pub row_is_alone : (ℕ → List ℕ) → Row → Bool
row_is_alone sets row = is_alone row.variables.items row.boolean row.integer (arms_of sets row.function)
    (fields_of sets row)

-- the set is one of the fields
abbrev pub IsFieldSet : Option (List RowField) → ℕ → Type 0
IsFieldSet None n = ⊥
IsFieldSet (Some fields) n = (f : RowField) × Contains fields f × (f.set ≡ n)

abbrev pub IsDomain : Option RowArms → ℕ → Type 0
IsDomain None n = ⊥
IsDomain (Some arms) n = arms.domain ≡ n

abbrev pub IsCodomain : Option RowArms → ℕ → Type 0
IsCodomain None n = ⊥
IsCodomain (Some arms) n = arms.codomain ≡ n

-- what one more component adds
abbrev pub push_items : Polarity → Bool → List Item → List Item
push_items p true c = c
push_items p false c = text (separator p) ∷ c

-- what one more field adds
abbrev pub push_field : List Place → Polarity → Bool → LabelledSet → List Item
push_field around p true f = text f.label ∷ text (codes ": ") ∷ show around p f.set ∷ []
push_field around p false f = text (codes ", ") ∷ text f.label ∷ text (codes ": ") ∷ show around p f.set ∷ []
