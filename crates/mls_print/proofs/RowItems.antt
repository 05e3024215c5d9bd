-- The items of a row, one component after the other.
--     joined-push, components-joined, started-push, fields-over      the loops that tell them
use Rattle.std.proofs.Common.{◌≡◌, ◌+◌, ◌<◌, ◌==◌, ℕ, zero, suc, arith, length, take, get_or, Bool, true, false, not, ◌||◌, List, [], ◌∷◌, ◌++◌, map, refl, sym, ap, ◌∙◌, codes, Some, None, append_assoc, append-nil}
use Rattle.std.proofs.lemmas.List.{take_more, map-append}
use Rattle.std.specs.Prelude.{Option, option_map, is_some}
use Rattle.std.specs.Global.{Vec}
use Rattle.mls_automaton.specs.declared.automaton.Polarity.{Polarity}
use Rattle.mls_automaton.specs.declared.automaton.Polarity.TheVariants.{Positive, Negative}
use Rattle.mls_print.specs.declared.row.Row.{Row}
use Rattle.mls_print.specs.declared.row.RowField.{RowField}
use Rattle.mls_print.specs.Pieces.{separator}
use Rattle.mls_print.specs.steps.Printing.{Place, Item, show, LabelledSet, text, more_items, component_items, items_in_parens, with_function_items, bit_items, function_items, later_items, field_items, record_items}
use Rattle.mls_print.specs.steps.Tables.{arms_of, labelled}
use Rattle.mls_print.specs.steps.Items.{is_nil, push_items, push_field, function_component, variable_items, row_components, row_items}
use Rattle.mls_print.proofs.NamedKeys.{unlike}

-- components that are not over, with what stands between them
abbrev pub joined_items : Polarity → List (List Item) → List Item
joined_items p [] = []
joined_items p (c ∷ rest) = c ++ more_items p rest

more-push : (p : Polarity) (cs : List (List Item)) (c : List Item) → more_items p (cs ++ c ∷ []) ≡ more_items p cs ++ text (separator p) ∷ c
more-push p [] c = ap (λ rest. text (separator p) ∷ rest) (append-nil c)
more-push p (d ∷ cs) c =
    ap (λ rest. text (separator p) ∷ (d ++ rest)) (more-push p cs c)
    ∙ ap (λ rest. text (separator p) ∷ rest) (sym (append_assoc d (more_items p cs) (text (separator p) ∷ c)))

pub joined-push : (p : Polarity) (cs : List (List Item)) (c : List Item) → joined_items p (cs ++ c ∷ []) ≡ joined_items p cs ++ push_items p (is_nil cs) c
joined-push p [] c = append-nil c
joined-push p (d ∷ cs) c = ap (λ rest. d ++ rest) (more-push p cs c) ∙ sym (append_assoc d (more_items p cs) (text (separator p) ∷ c))

pub joined-some : (p : Polarity) (c : List Item) (cs : List (List Item)) → joined_items p (c ∷ cs) ≡ component_items p (c ∷ cs)
joined-some Positive c cs = refl
joined-some Negative c cs = refl

-- a row with its function among the others
around-function : (p : Polarity) (V B I R : List (List Item)) (f : List Item) → V ++ (B ++ (I ++ (f ∷ R))) ≡ (V ++ (B ++ I)) ++ f ∷ R
around-function p V B I R f = ap (λ rest. V ++ rest) (sym (append_assoc B I (f ∷ R))) ∙ sym (append_assoc V (B ++ I) (f ∷ R))

function-joined : (around : List Place) (p : Polarity) (sets : ℕ → List ℕ) (vs : List ℕ) (b i : Bool) (o : Option (List Item)) (fields : Option (Vec RowField))
    → component_items p (variable_items vs ++ (bit_items (codes "bool") b ++ (bit_items (codes "int") i ++ (function_component (not (is_nil vs) || (b || (i || is_some fields))) o ++ record_items around p (option_map (λ all. map (labelled sets) all.items) fields)))))
    ≡ with_function_items p (variable_items vs ++ (bit_items (codes "bool") b ++ bit_items (codes "int") i)) o (record_items around p (option_map (λ all. map (labelled sets) all.items) fields))
function-joined around p sets vs b i None fields =
    ap (component_items p)
    (ap (λ rest. variable_items vs ++ rest) (sym (append_assoc (bit_items (codes "bool") b) (bit_items (codes "int") i) (record_items around p (option_map (λ all. map (labelled sets) all.items) fields))))
    ∙ sym (append_assoc (variable_items vs) (bit_items (codes "bool") b ++ bit_items (codes "int") i) (record_items around p (option_map (λ all. map (labelled sets) all.items) fields))))
function-joined around p sets (n ∷ vs) b i (Some f) fields =
    ap (component_items p) (around-function p (variable_items (n ∷ vs)) (bit_items (codes "bool") b) (bit_items (codes "int") i) (record_items around p (option_map (λ all. map (labelled sets) all.items) fields)) (items_in_parens f))
function-joined around p sets [] true i (Some f) fields = refl
function-joined around p sets [] false true (Some f) fields = refl
function-joined around p sets [] false false (Some f) (Some fields) = refl
function-joined around Positive sets [] false false (Some f) None = append-nil f
function-joined around Negative sets [] false false (Some f) None = append-nil f

pub components-joined : (sets : ℕ → List ℕ) (around : List Place) (p : Polarity) (row : Row) → component_items p (row_components sets around p row) ≡ row_items sets around p row
components-joined sets around p row = function-joined around p sets row.variables.items row.boolean row.integer (function_items around p (arms_of sets row.function)) row.fields

-- fields that are not over
abbrev pub later_started : List Place → Polarity → List LabelledSet → List Item
later_started around p [] = []
later_started around p (f ∷ rest) = text (codes ", ") ∷ text f.label ∷ text (codes ": ") ∷ show around p f.set ∷ later_started around p rest

abbrev pub started : List Place → Polarity → List LabelledSet → List Item
started around p [] = []
started around p (f ∷ rest) = text f.label ∷ text (codes ": ") ∷ show around p f.set ∷ later_started around p rest

later-push : (around : List Place) (p : Polarity) (all : List LabelledSet) (f : LabelledSet) → later_started around p (all ++ f ∷ []) ≡ later_started around p all ++ push_field around p false f
later-push around p [] f = refl
later-push around p (g ∷ all) f = ap (λ rest. text (codes ", ") ∷ text g.label ∷ text (codes ": ") ∷ show around p g.set ∷ rest) (later-push around p all f)

pub started-push : (around : List Place) (p : Polarity) (all : List LabelledSet) (f : LabelledSet) → started around p (all ++ f ∷ []) ≡ started around p all ++ push_field around p (is_nil all) f
started-push around p [] f = refl
started-push around p (g ∷ all) f = ap (λ rest. text g.label ∷ text (codes ": ") ∷ show around p g.set ∷ rest) (later-push around p all f)

later-over : (around : List Place) (p : Polarity) (all : List LabelledSet) → later_items around p all ≡ later_started around p all ++ text (codes "}") ∷ []
later-over around p [] = refl
later-over around p (f ∷ all) = ap (λ rest. text (codes ", ") ∷ text f.label ∷ text (codes ": ") ∷ show around p f.set ∷ rest) (later-over around p all)

pub fields-over : (around : List Place) (p : Polarity) (all : List LabelledSet) → field_items around p all ≡ started around p all ++ text (codes "}") ∷ []
fields-over around p [] = refl
fields-over around p (f ∷ all) = ap (λ rest. text f.label ∷ text (codes ": ") ∷ show around p f.set ∷ rest) (later-over around p all)

nil-take : {X Y : Type 0} (f : X → Y) (xs : List X) (i : ℕ) → i < length xs → is_nil (map f (take i xs)) ≡ (i == 0)
nil-take f [] i low = absurd (omega arith)
nil-take f (x ∷ xs) zero low = refl
nil-take f (x ∷ xs) (suc i) low = sym (unlike 0 (suc i) (λ e. omega arith))

map-more : {X Y : Type 0} (f : X → Y) (xs : List X) (i : ℕ) (d : X) → i < length xs → map f (take (i + 1) xs) ≡ map f (take i xs) ++ f (get_or xs i d) ∷ []
map-more f xs i d low = ap (map f) (take_more xs i d low) ∙ map-append f (take i xs) (get_or xs i d ∷ [])

-- one round of each loop
pub joined_step : {X : Type 0} (p : Polarity) (f : X → List Item) (xs : List X) (i : ℕ) (d : X) → i < length xs → joined_items p (map f (take (i + 1) xs)) ≡ joined_items p (map f (take i xs)) ++ push_items p (i == 0) (f (get_or xs i d))
joined_step p f xs i d low =
    ap (joined_items p) (map-more f xs i d low)
    ∙ (joined-push p (map f (take i xs)) (f (get_or xs i d))
    ∙ ap (λ b. joined_items p (map f (take i xs)) ++ push_items p b (f (get_or xs i d))) (nil-take f xs i low))

pub started_step : {X : Type 0} (around : List Place) (p : Polarity) (f : X → LabelledSet) (xs : List X) (i : ℕ) (d : X) → i < length xs → started around p (map f (take (i + 1) xs)) ≡ started around p (map f (take i xs)) ++ push_field around p (i == 0) (f (get_or xs i d))
started_step around p f xs i d low =
    ap (started around p) (map-more f xs i d low)
    ∙ (started-push around p (map f (take i xs)) (f (get_or xs i d))
    ∙ ap (λ b. started around p (map f (take i xs)) ++ push_field around p b (f (get_or xs i d))) (nil-take f xs i low))
