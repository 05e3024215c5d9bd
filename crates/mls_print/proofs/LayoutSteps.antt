-- The loop of the layout: an item is taken, and the pieces so far and those that are left stay those of the tree.
--     push_piece, tell_taken, again_on_plan, domain_again_on_plan, leave_taken, begin_taken      one round of the loop
use Rattle.std.proofs.Common.{◌≡◌, inl, inr, ℕ, suc, ◌+◌, ◌<◌, ◌≤◌, ◌==◌, Bool, true, false, List, [], ◌∷◌, ◌++◌, map, refl, sym, ap, ◌∙◌, subst, arith, length, get_or, slice_set, All, Contains, Some, None, append_assoc}
use Rattle.std.specs.Prelude.{Option, option_map, is_some, unwrap_or, cond}
use Rattle.std.specs.Global.{Vec}
use Rattle.std.proofs.lemmas.Bool.{cases_eq}
use Rattle.std.proofs.lemmas.Bool.Decides.{nat_tests}
use Rattle.std.proofs.lemmas.List.{map-append, get_or-set_same, get_or-set_other}
use Rattle.std.proofs.lemmas.List.Elements.{All-nil, All-cons, All-head, All-tail, All-push, All-append, All-weaker, All-contains}
use Rattle.mls_automaton.specs.declared.automaton.Polarity.{Polarity}
use Rattle.mls_automaton.specs.declared.automaton.Polarity.TheVariants.{Positive, Negative}
use Rattle.mls_automaton.specs.declared.automaton.Arms.{Arms}
use Rattle.mls_automaton.specs.Automata.{Automaton, opposite}
use Rattle.mls_automaton.specs.Heads.{Parts, IsSameSet}
use Rattle.mls_automaton.specs.Models.{HasArmsIn}
use Rattle.mls_automaton.proofs.HeadOrder.{HasSetsIn}
use Rattle.mls_automaton.proofs.CombinedStates.{HasPartsIn}
use Rattle.mls_automaton.proofs.Lists.{All-contained, Contains-map, Contains-filtered}
use Rattle.mls_print.specs.declared.components.Item.{Item as LaidItem}
use Rattle.mls_print.specs.declared.components.Item.TheVariants as laid
use Rattle.mls_print.specs.declared.layout.Printer.{Printer}
use Rattle.mls_print.specs.declared.piece.Piece.{Piece as LaidPiece}
use Rattle.mls_print.specs.declared.piece.Piece.TheVariants as piece
use Rattle.mls_print.specs.declared.row.Row.{Row}
use Rattle.mls_print.specs.declared.row.RowArms.{RowArms}
use Rattle.mls_print.specs.declared.row.RowField.{RowField}
use Rattle.mls_print.specs.declared.row.Table.{Table}
use Rattle.mls_print.specs.Walks.{states_below, flows_into, is_member, holders, shown_variables}
use Rattle.mls_print.specs.Shown.{set_head, IsAround, IsNew}
use Rattle.mls_print.specs.Keys.{recursion, sets_in}
use Rattle.mls_print.specs.Pieces.{Piece, name_of, begins}
use Rattle.mls_print.specs.steps.Printing.{Place, sets_around, numbers_around, Item, tell, show, show_domain, Tells}
use Rattle.mls_print.specs.steps.Tables.{set_at, arms_of, labelled, IsFunctionOf, IsRecordOf, ShowsRow, IsWhole}
use Rattle.mls_print.specs.steps.Visits.{IsVisited}
use Rattle.mls_print.specs.steps.Items.{item_of, items_told, row_items, fields_of, IsDomain, IsCodomain, IsFieldSet}
use Rattle.mls_print.specs.steps.Writing.{piece_of, HasStateBelow, HasSetBelow}
use Rattle.mls_print.specs.steps.Progress.{Near, places, told, IsNested, number_around, AreApart, Plan, IsPlan, IsSound, IsOnPlan}
use Rattle.mls_print.proofs.Visited.{walk-closed, set_visited, fields_in}
use Rattle.mls_print.proofs.RowShows.{parts_shown}
use Rattle.mls_print.proofs.SoundRows.{IsRowItem, row_sound}
use Rattle.mls_print.proofs.NamedKeys.{unlike}
use Rattle.mls_print.proofs.PrintingSteps.{again_taken, domain_again_taken, new_taken}

same-id : (m n : ℕ) → (m == n) ≡ true → m ≡ n
same-id m n e = grind (arith, nat_tests)

-- no fewer sets are shown later
pub tells-le : (a : Automaton) (order : List ℕ) (j m : ℕ) (items : List Item) (ps : List Piece) → Tells a order j items ps m → j ≤ m
tells-le a order j m [] ps it = let e : j ≡ m = it.1 in omega arith
tells-le a order j m (tell p ∷ rest) ps it = tells-le a order j m rest it.0 it.2
tells-le a order j m (show around p set ∷ rest) ps it = let low : j + sets_in it.0 ≤ m = tells-le a order (j + sets_in it.0) m rest it.2 it.4 in omega arith
tells-le a order j m (show_domain around p set ∷ rest) ps it = let low : j + sets_in it.0 ≤ m = tells-le a order (j + sets_in it.0) m rest it.2 it.4 in omega arith

number-bound : (around : List Near) (s k m : ℕ) → All (λ (near : Near). near.number < m) around → number_around around s ≡ Some k → k < m
number-bound [] s k m all e = let no : false ≡ true = ap is_some e in absurd (cc)
number-bound (near ∷ far) s k m all e = go (near.id == s) e (λ e. number-bound far s k m (All-tail (λ (near : Near). near.number < m) near far all) e)
  where
    go : (b : Bool) → cond b (Some near.number) (number_around far s) ≡ Some k → (number_around far s ≡ Some k → k < m) → k < m
    go true e later = let same : near.number ≡ k = ap (λ o. unwrap_or o 0) e in let low : near.number < m = All-head (λ (near : Near). near.number < m) near far all in omega arith
    go false e later = later e

module _ (plan : Plan) (table : Table) (is : IsPlan plan table) (whole : IsWhole table) where
  abbrev a : Automaton
  a = plan.automaton

  abbrev size : ℕ
  size = length table.rows.items

  abbrev total : ℕ
  total = sets_in plan.tree

  abbrev set_of : ℕ → List ℕ
  set_of = set_at table

  distinct : (i k : ℕ) → i < size → k < size → IsSameSet (set_of i) (set_of k) → i ≡ k
  distinct i k low low' same = is.tabled.distinct i k (omega (arith, whole.rows)) (omega (arith, whole.rows)) same

  around-found : (around : List Near) (s k : ℕ) → All (λ (near : Near). near.id < size) around → s < size → number_around around s ≡ Some k → (i : ℕ) × IsAround (sets_around (places table around)) (set_of s) i × (get_or (numbers_around (places table around)) i 0 ≡ k)
  around-found [] s k all low e = let no : false ≡ true = ap is_some e in absurd (cc)
  around-found (near ∷ far) s k all low e = go (near.id == s) refl e (λ found. around-found far s k (All-tail (λ (near : Near). near.id < size) near far all) low found)
    where
      go : (b : Bool) → (near.id == s) ≡ b → cond b (Some near.number) (number_around far s) ≡ Some k
          → (number_around far s ≡ Some k → (i : ℕ) × IsAround (sets_around (places table far)) (set_of s) i × (get_or (numbers_around (places table far)) i 0 ≡ k))
          → (i : ℕ) × IsAround (sets_around (places table (near ∷ far))) (set_of s) i × (get_or (numbers_around (places table (near ∷ far))) i 0 ≡ k)
      go true e found more = (0, subst (λ n. IsSameSet (set_of near.id) (set_of n)) (same-id near.id s e) ((λ s it. it), (λ s it. it)), ap (λ o. unwrap_or o 0) found)
      go false e found more =
          let later = more found in
          let inside : near.id < size = All-head (λ (near : Near). near.id < size) near far all in (
            suc later.0,
            ((λ same. let equal : near.id ≡ s = distinct near.id s inside low same in let yes : (near.id == s) ≡ true = grind (arith, nat_tests) in absurd (cc)), later.1),
            later.2,
          )

  pub around-new : (around : List Near) (s : ℕ) → All (λ (near : Near). near.id < size) around → s < size → number_around around s ≡ None → IsNew (sets_around (places table around)) (set_of s)
  around-new [] s all low e = All-nil (λ (other : List ℕ). IsSameSet other (set_of s) → ⊥)
  around-new (near ∷ far) s all low e = go (near.id == s) refl e (λ found. around-new far s (All-tail (λ (near : Near). near.id < size) near far all) low found)
    where
      go : (b : Bool) → (near.id == s) ≡ b → cond b (Some near.number) (number_around far s) ≡ None → (number_around far s ≡ None → IsNew (sets_around (places table far)) (set_of s)) → IsNew (sets_around (places table (near ∷ far))) (set_of s)
      go true e found later = let no : true ≡ false = ap is_some found in absurd (cc)
      go false e found later =
          let inside : near.id < size = All-head (λ (near : Near). near.id < size) near far all in
          All-cons (λ (other : List ℕ). IsSameSet other (set_of s) → ⊥) (set_of near.id) (sets_around (places table far))
          (λ same. let equal : near.id ≡ s = distinct near.id s inside low same in let yes : (near.id == s) ≡ true = grind (arith, nat_tests) in absurd (cc))
          (later found)

  -- a piece is told
  pub push_piece : (old items : List LaidItem) (w new : Printer) (p : LaidPiece) (it : IsOnPlan plan table old w) → new.pieces.items ≡ w.pieces.items ++ p ∷ [] → new.shown.items ≡ w.shown.items → new.sets ≡ w.sets
      → HasStateBelow (length a.states) p → HasSetBelow total p → IsNested it.around items → All (IsSound plan table) items
      → (later : List Piece) → it.left ≡ piece_of p ∷ later → Tells a plan.order w.sets (told table it.around items) later total → IsOnPlan plan table items new
  push_piece old items w new p it pieces shown sets state set nested sound later left tells = record {
    around = it.around;
    nested = nested;
    apart = it.apart;
    below = it.below;
    numbers = it.numbers;
    shown = λ s low. ap (λ xs. get_or xs s None) shown ∙ it.shown s low;
    sound = sound;
    left = later;
    whole =
        ap (λ (xs : List LaidPiece). map piece_of xs ++ later) pieces
        ∙ (ap (λ xs. xs ++ later) (map-append piece_of w.pieces.items (p ∷ []))
        ∙ (append_assoc (map piece_of w.pieces.items) (piece_of p ∷ []) later
        ∙ (ap (λ xs. map piece_of w.pieces.items ++ xs) (sym left) ∙ it.whole)));
    tells = subst (λ j. Tells a plan.order j (told table it.around items) later total) (sym sets) tells;
    states = subst (All (HasStateBelow (length a.states))) (sym pieces) (All-push (HasStateBelow (length a.states)) w.pieces.items p it.states state);
    sets = subst (All (HasSetBelow total)) (sym pieces) (All-push (HasSetBelow total) w.pieces.items p it.sets set);
  }

  pub tell_taken : (items : List LaidItem) (w new : Printer) (p : LaidPiece) → IsOnPlan plan table (laid.Tell p ∷ items) w → new.pieces.items ≡ w.pieces.items ++ p ∷ [] → new.shown.items ≡ w.shown.items → new.sets ≡ w.sets → IsOnPlan plan table items new
  tell_taken items w new p it pieces shown sets =
      let sound : IsSound plan table (laid.Tell p) = All-head (IsSound plan table) (laid.Tell p) items it.sound in
      push_piece (laid.Tell p ∷ items) items w new p it pieces shown sets sound.0 sound.1 it.nested (All-tail (IsSound plan table) (laid.Tell p) items it.sound) it.tells.0 it.tells.1 it.tells.2

  -- a set is named again
  pub again_on_plan : (items : List LaidItem) (w new : Printer) (p : Polarity) (s k : ℕ) → IsOnPlan plan table (laid.Show p s ∷ items) w → s < size → get_or w.shown.items s None ≡ Some k → new.pieces.items ≡ w.pieces.items ++ piece.Again k ∷ [] → new.shown.items ≡ w.shown.items → new.sets ≡ w.sets → IsOnPlan plan table items new
  again_on_plan items w new p s k it low found pieces shown sets =
      let number : number_around it.around s ≡ Some k = sym (it.shown s low) ∙ found in
      let at = around-found it.around s k it.below low number in
      let taken = again_taken a plan.order w.sets total (places table it.around) p (set_of s) (told table it.around items) it.left at.0 at.1 it.tells in
      push_piece (laid.Show p s ∷ items) items w new (piece.Again k) it pieces shown sets tt (number-bound it.around s k total it.numbers number) it.nested (All-tail (IsSound plan table) (laid.Show p s) items it.sound)
      taken.0 (taken.1 ∙ ap (λ n. name_of (recursion n) ∷ taken.0) at.2) taken.2

  pub domain_again_on_plan : (items : List LaidItem) (w new : Printer) (p : Polarity) (s k : ℕ) → IsOnPlan plan table (laid.ShowDomain p s ∷ items) w → s < size → get_or w.shown.items s None ≡ Some k → new.pieces.items ≡ w.pieces.items ++ piece.Again k ∷ [] → new.shown.items ≡ w.shown.items → new.sets ≡ w.sets → IsOnPlan plan table items new
  domain_again_on_plan items w new p s k it low found pieces shown sets =
      let number : number_around it.around s ≡ Some k = sym (it.shown s low) ∙ found in
      let at = around-found it.around s k it.below low number in
      let taken = domain_again_taken a plan.order w.sets total (places table it.around) p (set_of s) (told table it.around items) it.left at.0 at.1 it.tells in
      push_piece (laid.ShowDomain p s ∷ items) items w new (piece.Again k) it pieces shown sets tt (number-bound it.around s k total it.numbers number) it.nested (All-tail (IsSound plan table) (laid.ShowDomain p s) items it.sound)
      taken.0 (taken.1 ∙ ap (λ n. name_of (recursion n) ∷ taken.0) at.2) taken.2

  -- a set is left
  pub leave_taken : (items : List LaidItem) (w new : Printer) (n : ℕ) → IsOnPlan plan table (laid.Leave n ∷ items) w → length w.shown.items ≡ size → n < size → new.pieces.items ≡ w.pieces.items → new.shown.items ≡ slice_set w.shown.items n None → new.sets ≡ w.sets → IsOnPlan plan table items new
  leave_taken items w new n it wide low pieces shown sets = go it.around it.nested it.apart it.below it.numbers it.shown it.tells
    where
      go : (around : List Near) → IsNested around (laid.Leave n ∷ items) → AreApart around → All (λ (near : Near). near.id < size) around → All (λ (near : Near). near.number < total) around
          → ((s : ℕ) → s < size → get_or w.shown.items s None ≡ number_around around s) → Tells a plan.order w.sets (told table around (laid.Leave n ∷ items)) it.left total → IsOnPlan plan table items new
      go [] nested apart below numbers was tells = absurd nested.0
      go (near ∷ far) nested apart below numbers was tells = record {
        around = far;
        nested = nested.1;
        apart = apart.1;
        below = All-tail (λ (near : Near). near.id < size) near far below;
        numbers = All-tail (λ (near : Near). near.number < total) near far numbers;
        shown = λ s low'.
            elim (cases_eq s n) [
              | inl same ↦
                  let here : get_or (slice_set w.shown.items n None) n None ≡ None = get_or-set_same w.shown.items n None None (omega (arith, wide)) in
                  let P : ℕ → Type 0 = λ k. get_or (slice_set w.shown.items n None) k None ≡ number_around far k in
                  let gone : number_around far n ≡ None = subst (λ k. number_around far k ≡ None) nested.0 apart.0 in
                  ap (λ xs. get_or xs s None) shown ∙ subst P (sym same) (here ∙ sym gone)
              | inr other ↦
                  let apart' : (near.id == s) ≡ false = unlike-id near.id s (λ e. other (sym (sym nested.0 ∙ e))) in
                  ap (λ xs. get_or xs s None) shown
                  ∙ (get_or-set_other w.shown.items n s None None other
                  ∙ (was s low' ∙ ap (λ b. cond b (Some near.number) (number_around far s)) apart'))
            ];
        sound = All-tail (IsSound plan table) (laid.Leave n) items it.sound;
        left = it.left;
        whole = ap (λ (xs : List LaidPiece). map piece_of xs ++ it.left) pieces ∙ it.whole;
        tells = subst (λ j. Tells a plan.order j (told table far items) it.left total) (sym sets) tells;
        states = subst (All (HasStateBelow (length a.states))) (sym pieces) it.states;
        sets = subst (All (HasSetBelow total)) (sym pieces) it.sets;
      }
        where
          unlike-id : (m k : ℕ) → (m ≡ k → ⊥) → (m == k) ≡ false
          unlike-id m k apart = by (m == k) refl
            where
              by : (b : Bool) → (m == k) ≡ b → b ≡ false
              by false e = refl
              by true e = absurd (apart (same-id m k e))

  closed_order : (j : ℕ) → Contains plan.order j → (i : ℕ) → Contains (states_below a j) i → Contains plan.order i
  closed_order = (walk-closed a plan.root plan.order is.walked).1

  all-same : (Q : ℕ → Type 0) (xs ys : List ℕ) → IsSameSet xs ys → All Q xs → All Q ys
  all-same Q xs ys same all = All-contained Q ys (λ s it. All-contains Q xs s all (same.1 s it))

  module _ (p : Polarity) (s : ℕ) (row : Row) (visited : All (IsVisited a plan.order p) (set_of s)) (shows : ShowsRow a plan.order (set_at table) p (set_of s) row) where
    abbrev head : Parts
    head = set_head a p (set_of s)

    visited_head : HasPartsIn (IsVisited a plan.order) p head
    visited_head = set_visited a is.closed plan.order closed_order p (set_of s) visited

    arms-visited : (o : Option Arms) (r : Option RowArms) → HasArmsIn (IsVisited a plan.order) p o → IsFunctionOf o (arms_of set_of r)
        → ((n : ℕ) → IsDomain r n → All (IsVisited a plan.order (opposite p)) (set_of n)) × ((n : ℕ) → IsCodomain r n → All (IsVisited a plan.order p) (set_of n))
    arms-visited o None has same = ((λ n it. absurd it), (λ n it. absurd it))
    arms-visited None (Some arms) has same = absurd same
    arms-visited (Some f) (Some arms) has same = (
      (λ n it. subst (λ n. All (IsVisited a plan.order (opposite p)) (set_of n)) it (all-same (IsVisited a plan.order (opposite p)) f.domain (set_of arms.domain) same.0 has.0)),
      (λ n it. subst (λ n. All (IsVisited a plan.order p) (set_of n)) it (all-same (IsVisited a plan.order p) f.codomain (set_of arms.codomain) same.1 has.1)),
    )

    fields-visited : (o : Option (List ℕ → Option (List ℕ))) (r : Option (Vec RowField)) → ((sets : List ℕ → Option (List ℕ)) → o ≡ Some sets → HasSetsIn (IsVisited a plan.order p) sets) → IsRecordOf o (option_map (λ (fields : Vec RowField). map (labelled set_of) fields.items) r)
        → (n : ℕ) → IsFieldSet (option_map (λ (fields : Vec RowField). fields.items) r) n → All (IsVisited a plan.order p) (set_of n)
    fields-visited o None has of n it = absurd it
    fields-visited None (Some fields) has of n it = absurd of
    fields-visited (Some sets) (Some fields) has of n it =
        let own = of.each (labelled set_of it.0) (Contains-map (labelled set_of) fields.items it.0 it.1) in
        subst (λ n. All (IsVisited a plan.order p) (set_of n)) it.2
        (all-same (IsVisited a plan.order p) own.0 (set_of it.0.set) own.2 (has sets refl it.0.label.now own.0 own.1))

    shown-low : (q : Polarity) (set : List ℕ) (n : ℕ) → Contains (shown_variables a plan.order q set) n → n < length a.states
    shown-low Positive set n it =
        All-contains (λ s. s < length a.states) plan.order n is.low (Contains-filtered (flows_into a plan.order) plan.order n (Contains-filtered (flows_into a set) (holders a plan.order) n it))
    shown-low Negative set n it =
        All-contains (λ s. s < length a.states) plan.order n is.low (Contains-filtered (flows_into a plan.order) plan.order n (Contains-filtered (is_member set) (holders a plan.order) n it))

    item-sound : (item : LaidItem) → IsRowItem p row item → IsSound plan table item
    item-sound (laid.Tell (piece.Text t)) it = (tt, tt)
    item-sound (laid.Tell (piece.Variable n)) it = (shown-low p (set_of s) n (subst (λ vs. Contains vs n) shows.variables it), tt)
    item-sound (laid.Tell (piece.Again j)) it = absurd it
    item-sound (laid.Tell (piece.Begins j)) it = absurd it
    item-sound (laid.Tell (piece.Opens j)) it = absurd it
    item-sound (laid.Tell (piece.Closes j)) it = absurd it
    item-sound (laid.Show q n) it =
        subst (λ q. All (IsVisited a plan.order q) (set_of n)) (sym it.0)
        (elim it.1 [
          | inl at ↦ (arms-visited head.function row.function visited_head.function shows.function).1 n at
          | inr at ↦ fields-visited head.fields row.fields (fields_in (IsVisited a plan.order) p head.boolean head.integer head.function head.fields visited_head) shows.fields n at
        ])
    item-sound (laid.ShowDomain q n) it =
        subst (λ q. All (IsVisited a plan.order q) (set_of n)) (sym it.0) ((arms-visited head.function row.function visited_head.function shows.function).0 n it.1)
    item-sound (laid.Leave n) it = absurd it

  -- the items of a row, and what is left behind them
  told-row : (p : Polarity) (row : Row) (near : Near) (around : List Near) (items : List LaidItem) (n : ℕ) (rest : List LaidItem) → All (IsRowItem p row) items
      → told table (near ∷ around) (items ++ laid.Leave n ∷ rest) ≡ map (item_of set_of (places table (near ∷ around))) items ++ told table around rest
  told-row p row near around [] n rest all = refl
  told-row p row near around (laid.Tell q ∷ items) n rest all = ap (λ more. item_of set_of (places table (near ∷ around)) (laid.Tell q) ∷ more) (told-row p row near around items n rest (All-tail (IsRowItem p row) (laid.Tell q) items all))
  told-row p row near around (laid.Show q m ∷ items) n rest all = ap (λ more. item_of set_of (places table (near ∷ around)) (laid.Show q m) ∷ more) (told-row p row near around items n rest (All-tail (IsRowItem p row) (laid.Show q m) items all))
  told-row p row near around (laid.ShowDomain q m ∷ items) n rest all = ap (λ more. item_of set_of (places table (near ∷ around)) (laid.ShowDomain q m) ∷ more) (told-row p row near around items n rest (All-tail (IsRowItem p row) (laid.ShowDomain q m) items all))
  told-row p row near around (laid.Leave m ∷ items) n rest all = absurd (All-head (IsRowItem p row) (laid.Leave m) items all)

  nested-row : (p : Polarity) (row : Row) (near : Near) (around : List Near) (items : List LaidItem) (n : ℕ) (rest : List LaidItem) → All (IsRowItem p row) items → near.id ≡ n → IsNested around rest → IsNested (near ∷ around) (items ++ laid.Leave n ∷ rest)
  nested-row p row near around [] n rest all same nested = (same, nested)
  nested-row p row near around (laid.Tell q ∷ items) n rest all same nested = nested-row p row near around items n rest (All-tail (IsRowItem p row) (laid.Tell q) items all) same nested
  nested-row p row near around (laid.Show q m ∷ items) n rest all same nested = nested-row p row near around items n rest (All-tail (IsRowItem p row) (laid.Show q m) items all) same nested
  nested-row p row near around (laid.ShowDomain q m ∷ items) n rest all same nested = nested-row p row near around items n rest (All-tail (IsRowItem p row) (laid.ShowDomain q m) items all) same nested
  nested-row p row near around (laid.Leave m ∷ items) n rest all same nested = absurd (All-head (IsRowItem p row) (laid.Leave m) items all)

  -- a new set begins
  pub begin_taken : (items rest : List LaidItem) (w new : Printer) (p : Polarity) (s : ℕ) (d : Row) → IsOnPlan plan table (laid.Show p s ∷ rest) w → s < size → length w.shown.items ≡ size → get_or w.shown.items s None ≡ None
      → ((sets : ℕ → List ℕ) (around : List Place) → items_told sets around items ≡ row_items sets around p (get_or table.rows.items s d))
      → new.pieces.items ≡ w.pieces.items ++ piece.Begins w.sets ∷ [] → new.shown.items ≡ slice_set w.shown.items s (Some w.sets) → new.sets ≡ w.sets + 1 → IsOnPlan plan table (items ++ laid.Leave s ∷ rest) new
  begin_taken items rest w new p s d it low wide none items_are pieces shown sets =
      let row : Row = get_or table.rows.items s d in
      let j : ℕ = w.sets in
      let near : Near = record { id = s; number = j } in
      let visited : All (IsVisited a plan.order p) (set_of s) = All-head (IsSound plan table) (laid.Show p s) rest it.sound in
      let shows : ShowsRow a plan.order (set_at table) p (set_of s) row = is.tabled.shows s d low p visited in
      let gone : number_around it.around s ≡ None = sym (it.shown s low) ∙ none in
      let new_set = around-new it.around s it.below low gone in
      let taken =
      new_taken a plan.order j (places table it.around) p (set_of s) row.variables.items row.boolean row.integer (arms_of set_of row.function) (fields_of set_of row)
      (parts_shown a plan.order (sets_around (places table it.around)) p (set_of s) row.variables.items row.boolean row.integer (arms_of set_of row.function) (fields_of set_of row) shows.variables shows.boolean shows.integer shows.function shows.fields)
      total (told table it.around rest) it.left new_set it.tells in
      let rows_own : All (IsRowItem p row) items = row_sound p row items (items_are (λ n. n ∷ []) []) in
      let tells : Tells a plan.order (suc j) (told table (near ∷ it.around) (items ++ laid.Leave s ∷ rest)) taken.0 total =
      subst (λ told. Tells a plan.order (suc j) told taken.0 total)
      (ap (λ front. front ++ told table it.around rest) (sym (items_are set_of (places table (near ∷ it.around)))) ∙ sym (told-row p row near it.around items s rest rows_own))
      taken.2 in
      let more : suc j ≤ total = tells-le a plan.order (suc j) total (told table (near ∷ it.around) (items ++ laid.Leave s ∷ rest)) taken.0 tells in
      let count : suc j ≡ new.sets = sym (sets ∙ (let e : w.sets + 1 ≡ suc w.sets = omega arith in e)) in
      record {
        around = near ∷ it.around;
        nested = nested-row p row near it.around items s rest rows_own refl it.nested;
        apart = (gone, it.apart);
        below = All-cons (λ (near : Near). near.id < size) near it.around low it.below;
        numbers = All-cons (λ (near : Near). near.number < total) near it.around (omega arith) it.numbers;
        shown = λ k low'.
            elim (cases_eq k s) [
              | inl same ↦
                  let here : get_or (slice_set w.shown.items s (Some j)) s None ≡ Some j = get_or-set_same w.shown.items s (Some j) None (omega (arith, wide)) in
                  let P : ℕ → Type 0 = λ k. get_or (slice_set w.shown.items s (Some j)) k None ≡ number_around (near ∷ it.around) k in
                  let yes : (s == s) ≡ true = grind (arith, nat_tests) in
                  ap (λ xs. get_or xs k None) shown ∙ subst P (sym same) (here ∙ sym (ap (λ b. cond b (Some j) (number_around it.around s)) yes))
              | inr other ↦
                  let no : (s == k) ≡ false = unlike k s other in
                  ap (λ xs. get_or xs k None) shown
                  ∙ (get_or-set_other w.shown.items s k (Some j) None other
                  ∙ (it.shown k low' ∙ sym (ap (λ b. cond b (Some j) (number_around it.around k)) no)))
            ];
        sound = All-append (IsSound plan table) items (laid.Leave s ∷ rest) (All-weaker (IsRowItem p row) (IsSound plan table) (item-sound p s row visited shows) items rows_own) (All-cons (IsSound plan table) (laid.Leave s) rest tt (All-tail (IsSound plan table) (laid.Show p s) rest it.sound));
        left = taken.0;
        whole =
            ap (λ (xs : List LaidPiece). map piece_of xs ++ taken.0) pieces
            ∙ (ap (λ xs. xs ++ taken.0) (map-append piece_of w.pieces.items (piece.Begins j ∷ []))
            ∙ (append_assoc (map piece_of w.pieces.items) (begins j ∷ []) taken.0
            ∙ (ap (λ xs. map piece_of w.pieces.items ++ xs) (sym taken.1) ∙ it.whole)));
        tells = subst (λ n. Tells a plan.order n (told table (near ∷ it.around) (items ++ laid.Leave s ∷ rest)) taken.0 total) count tells;
        states = subst (All (HasStateBelow (length a.states))) (sym pieces) (All-push (HasStateBelow (length a.states)) w.pieces.items (piece.Begins j) it.states tt);
        sets = subst (All (HasSetBelow total)) (sym pieces) (All-push (HasSetBelow total) w.pieces.items (piece.Begins j) it.sets more);
      }
