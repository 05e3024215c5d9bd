-- The items of a row name its variables and its sets alone.
--     row_sound      each item that a row tells
use Rattle.std.proofs.Common.{◌≡◌, ◌⊎◌, inl, inr, ℕ, suc, zero, ◌<◌, Bool, true, false, List, [], ◌∷◌, ◌++◌, map, refl, sym, ap, subst, arith, length, get_or, All, Contains, Some, None, codes}
use Rattle.std.specs.Prelude.{Option, option_map}
use Rattle.std.specs.Global.{Vec}
use Rattle.std.proofs.lemmas.List.{length-map}
use Rattle.std.proofs.lemmas.List.Elements.{All-nil, All-cons, All-append, All-map, All-weaker, All-contains_itself}
use Rattle.mls_automaton.specs.declared.automaton.Polarity.{Polarity}
use Rattle.mls_automaton.specs.declared.automaton.Polarity.TheVariants.{Positive, Negative}
use Rattle.mls_automaton.specs.Automata.{opposite}
use Rattle.mls_print.specs.declared.components.Item.{Item as LaidItem}
use Rattle.mls_print.specs.declared.components.Item.TheVariants as laid
use Rattle.mls_print.specs.declared.piece.Piece.TheVariants as piece
use Rattle.mls_print.specs.declared.row.Row.{Row}
use Rattle.mls_print.specs.declared.row.RowArms.{RowArms}
use Rattle.mls_print.specs.declared.row.RowField.{RowField}
use Rattle.mls_print.specs.Keys.{variable, recursion}
use Rattle.mls_print.specs.Pieces.{bytes, name_of, begins, opens, closes, separator}
use Rattle.mls_print.specs.steps.Printing.{Item, tell, show, show_domain, LabelledSet, text, more_items, component_items, items_in_parens, with_function_items, bit_items, function_items, later_items, field_items, record_items}
use Rattle.mls_print.specs.steps.Tables.{arms_of, labelled}
use Rattle.mls_print.specs.steps.Items.{item_of, items_told, variable_items, row_items, IsFieldSet, IsDomain, IsCodomain}

-- all of a list that is another one under a function
all-unmapped : {X Y : Type 0} (Q : Y → Type 0) (f : X → Y) (xs : List X) → All Q (map f xs) → All (λ x. Q (f x)) xs
all-unmapped {X} {Y} Q f xs all k d low =
    let inside : k < length (map f xs) = omega (arith, length-map xs f) in
    subst Q (mapped xs k d low) (all k (f d) inside)
  where
    mapped : (xs : List X) (k : ℕ) (d : X) → k < length xs → get_or (map f xs) k (f d) ≡ f (get_or xs k d)
    mapped [] k d low = absurd (omega arith)
    mapped (x ∷ xs) zero d low = refl
    mapped (x ∷ xs) (suc k) d low = mapped xs k d (omega arith)

module _ (p : Polarity) (row : Row) where
  -- the set is the codomain or a field
  abbrev pub IsInner : ℕ → Type 0
  IsInner n = IsCodomain row.function n ⊎ IsFieldSet (option_map (λ (fields : Vec RowField). fields.items) row.fields) n

  -- an item that the row may tell
  abbrev pub IsRowItem : LaidItem → Type 0
  IsRowItem (laid.Tell (piece.Text t)) = Unit {0}
  IsRowItem (laid.Tell (piece.Variable n)) = Contains row.variables.items n
  IsRowItem (laid.Tell (piece.Again j)) = ⊥
  IsRowItem (laid.Tell (piece.Begins j)) = ⊥
  IsRowItem (laid.Tell (piece.Opens j)) = ⊥
  IsRowItem (laid.Tell (piece.Closes j)) = ⊥
  IsRowItem (laid.Show q n) = (q ≡ p) × IsInner n
  IsRowItem (laid.ShowDomain q n) = (q ≡ opposite p) × IsDomain row.function n
  IsRowItem (laid.Leave n) = ⊥

  abbrev alone : ℕ → List ℕ
  alone n = n ∷ []

  -- the same of what it tells, where each set is its number alone
  abbrev Q : Item → Type 0
  Q (tell (bytes t)) = Unit {0}
  Q (tell (name_of (variable n))) = Contains row.variables.items n
  Q (tell (name_of (recursion j))) = ⊥
  Q (tell (begins j)) = ⊥
  Q (tell (opens j)) = ⊥
  Q (tell (closes j)) = ⊥
  Q (show around q set) = (n : ℕ) × (set ≡ n ∷ []) × ((q ≡ p) × IsInner n)
  Q (show_domain around q set) = (n : ℕ) × (set ≡ n ∷ []) × ((q ≡ opposite p) × IsDomain row.function n)

  head-same : (m n : ℕ) → m ∷ [] ≡ n ∷ [] → n ≡ m
  head-same m n e = sym (ap (λ (xs : List ℕ). get_or xs 0 0) e)

  one-sound : (item : LaidItem) → Q (item_of alone [] item) → IsRowItem item
  one-sound (laid.Tell (piece.Text t)) it = tt
  one-sound (laid.Tell (piece.Variable n)) it = it
  one-sound (laid.Tell (piece.Again j)) it = it
  one-sound (laid.Tell (piece.Begins j)) it = it
  one-sound (laid.Tell (piece.Opens j)) it = it
  one-sound (laid.Tell (piece.Closes j)) it = it
  one-sound (laid.Show q n) it = (it.2.0, subst IsInner (head-same n it.0 it.1) it.2.1)
  one-sound (laid.ShowDomain q n) it = (it.2.0, subst (IsDomain row.function) (head-same n it.0 it.1) it.2.1)
  one-sound (laid.Leave n) it = it

  abbrev AllQ : List Item → Type 0
  AllQ items = All Q items

  more-all : (cs : List (List Item)) → All AllQ cs → AllQ (more_items p cs)
  more-all [] all = All-nil Q
  more-all (c ∷ cs) all =
      All-cons Q (text (separator p)) (c ++ more_items p cs) tt
      (All-append Q c (more_items p cs) (all 0 c (omega arith)) (more-all cs (λ k d low. all (suc k) d (omega arith))))

  all-of : (q : Polarity) → q ≡ p → (cs : List (List Item)) → All AllQ cs → AllQ (component_items q cs)
  all-of Positive e [] all = All-cons Q (text (codes "bot")) [] tt (All-nil Q)
  all-of Negative e [] all = All-cons Q (text (codes "top")) [] tt (All-nil Q)
  all-of Positive e (c ∷ cs) all = All-append Q c (more_items Positive cs) (all 0 c (omega arith)) (subst (λ q. AllQ (more_items q cs)) (sym e) (more-all cs (λ k d low. all (suc k) d (omega arith))))
  all-of Negative e (c ∷ cs) all = All-append Q c (more_items Negative cs) (all 0 c (omega arith)) (subst (λ q. AllQ (more_items q cs)) (sym e) (more-all cs (λ k d low. all (suc k) d (omega arith))))

  parens-all : (items : List Item) → AllQ items → AllQ (items_in_parens items)
  parens-all items all = All-cons Q (text (codes "(")) (items ++ text (codes ")") ∷ []) tt (All-append Q items (text (codes ")") ∷ []) all (All-cons Q (text (codes ")")) [] tt (All-nil Q)))

  abbrev OptionAll : Option (List Item) → Type 0
  OptionAll None = Unit {0}
  OptionAll (Some f) = AllQ f

  with_function-all : (before : List (List Item)) (o : Option (List Item)) (after : List (List Item)) → All AllQ before → OptionAll o → All AllQ after → AllQ (with_function_items p before o after)
  with_function-all before None after first middle second = all-of p refl (before ++ after) (All-append AllQ before after first second)
  with_function-all [] (Some f) [] first middle second = middle
  with_function-all [] (Some f) (d ∷ after) first middle second = all-of p refl (items_in_parens f ∷ d ∷ after) (All-cons AllQ (items_in_parens f) (d ∷ after) (parens-all f middle) second)
  with_function-all (c ∷ before) (Some f) after first middle second =
      all-of p refl ((c ∷ before) ++ items_in_parens f ∷ after) (All-append AllQ (c ∷ before) (items_in_parens f ∷ after) first (All-cons AllQ (items_in_parens f) after (parens-all f middle) second))

  variables-all : All AllQ (variable_items row.variables.items)
  variables-all =
      All-map AllQ (λ n. tell (name_of (variable n)) ∷ []) row.variables.items
      (All-weaker (Contains row.variables.items) (λ n. AllQ (tell (name_of (variable n)) ∷ []))
      (λ n it. All-cons Q (tell (name_of (variable n))) [] it (All-nil Q))
      row.variables.items (All-contains_itself row.variables.items))

  bit-all : (word : List ℕ) (b : Bool) → All AllQ (bit_items word b)
  bit-all word false = All-nil AllQ
  bit-all word true = All-cons AllQ (text word ∷ []) [] (All-cons Q (text word) [] tt (All-nil Q)) (All-nil AllQ)

  later-all : (all : List LabelledSet) → All (λ (f : LabelledSet). Q (show [] p f.set)) all → AllQ (later_items [] p all)
  later-all [] each = All-cons Q (text (codes "}")) [] tt (All-nil Q)
  later-all (f ∷ all) each =
      All-cons Q (text (codes ", ")) (text f.label ∷ text (codes ": ") ∷ show [] p f.set ∷ later_items [] p all) tt
      (All-cons Q (text f.label) (text (codes ": ") ∷ show [] p f.set ∷ later_items [] p all) tt
      (All-cons Q (text (codes ": ")) (show [] p f.set ∷ later_items [] p all) tt
      (All-cons Q (show [] p f.set) (later_items [] p all) (each 0 f (omega arith)) (later-all all (λ k d low. each (suc k) d (omega arith))))))

  field-all : (all : List LabelledSet) → All (λ (f : LabelledSet). Q (show [] p f.set)) all → AllQ (field_items [] p all)
  field-all [] each = All-cons Q (text (codes "}")) [] tt (All-nil Q)
  field-all (f ∷ all) each =
      All-cons Q (text f.label) (text (codes ": ") ∷ show [] p f.set ∷ later_items [] p all) tt
      (All-cons Q (text (codes ": ")) (show [] p f.set ∷ later_items [] p all) tt
      (All-cons Q (show [] p f.set) (later_items [] p all) (each 0 f (omega arith)) (later-all all (λ k d low. each (suc k) d (omega arith)))))

  function-all : (o : Option RowArms) → row.function ≡ o → OptionAll (function_items [] p (arms_of alone o))
  function-all None e = tt
  function-all (Some arms) e =
      All-cons Q (show_domain [] (opposite p) (arms.domain ∷ [])) (text (codes " -> ") ∷ show [] p (arms.codomain ∷ []) ∷ [])
      (arms.domain, refl, (refl, subst (λ o. IsDomain o arms.domain) (sym e) refl))
      (All-cons Q (text (codes " -> ")) (show [] p (arms.codomain ∷ []) ∷ []) tt
      (All-cons Q (show [] p (arms.codomain ∷ [])) [] (arms.codomain, refl, (refl, inl (subst (λ o. IsCodomain o arms.codomain) (sym e) refl))) (All-nil Q)))

  record-all : (o : Option (Vec RowField)) → row.fields ≡ o → All AllQ (record_items [] p (option_map (λ (fields : Vec RowField). map (labelled alone) fields.items) o))
  record-all None e = All-nil AllQ
  record-all (Some fields) e =
      let each : All (λ (f : LabelledSet). Q (show [] p f.set)) (map (labelled alone) fields.items) =
      All-map (λ (f : LabelledSet). Q (show [] p f.set)) (labelled alone) fields.items
      (All-weaker (Contains fields.items) (λ (f : RowField). Q (show [] p (f.set ∷ [])))
      (λ f it. (f.set, refl, (refl, inr (subst (λ (o : Option (Vec RowField)). IsFieldSet (option_map (λ (fields : Vec RowField). fields.items) o) f.set) (sym e) (f, it, refl)))))
      fields.items (All-contains_itself fields.items)) in
      All-cons AllQ (text (codes "{") ∷ field_items [] p (map (labelled alone) fields.items)) []
      (All-cons Q (text (codes "{")) (field_items [] p (map (labelled alone) fields.items)) tt (field-all (map (labelled alone) fields.items) each))
      (All-nil AllQ)

  pub row_sound : (items : List LaidItem) → items_told alone [] items ≡ row_items alone [] p row → All IsRowItem items
  row_sound items e =
      let all : AllQ (row_items alone [] p row) =
      with_function-all (variable_items row.variables.items ++ (bit_items (codes "bool") row.boolean ++ bit_items (codes "int") row.integer)) (function_items [] p (arms_of alone row.function)) (record_items [] p (option_map (λ (fields : Vec RowField). map (labelled alone) fields.items) row.fields))
      (All-append AllQ (variable_items row.variables.items) (bit_items (codes "bool") row.boolean ++ bit_items (codes "int") row.integer) variables-all
      (All-append AllQ (bit_items (codes "bool") row.boolean) (bit_items (codes "int") row.integer) (bit-all (codes "bool") row.boolean) (bit-all (codes "int") row.integer)))
      (function-all row.function refl)
      (record-all row.fields refl) in
      All-weaker (λ item. Q (item_of alone [] item)) IsRowItem one-sound items (all-unmapped Q (item_of alone []) items (subst AllQ (sym e) all))
