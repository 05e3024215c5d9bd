-- One round of the layout.
--     told_advances, left_advances, again_advances, domain_again_advances, begun_advances, domain_advances
use Rattle.std.proofs.Common.{◌≡◌, inl, inr, ℕ, ◌+◌, ◌<◌, ◌≤◌, Bool, true, false, List, [], ◌∷◌, ◌++◌, map, refl, sym, ap, ◌∙◌, subst, arith, length, get_or, slice_set, reverse, replicate, All, Some, None, codes, append_assoc, append-nil}
use Rattle.std.specs.Prelude.{Option, option_map, cond}
use Rattle.std.specs.Global.{Vec}
use Rattle.std.proofs.lemmas.List.{get_or_append_left, length-append, length-set, length-replicate, get_or-replicate, reverse-append, reverse-reverse}
use Rattle.std.proofs.lemmas.List.Sorted.{All-permutation, IsPermutation-reverse}
use Rattle.std.proofs.lemmas.List.Elements.{All-nil, All-cons, All-head, All-tail, All-push, All-append, All-weaker, All-contains, Contains-push}
use Rattle.mls_automaton.specs.declared.automaton.Polarity.{Polarity}
use Rattle.mls_automaton.specs.declared.automaton.Polarity.TheVariants.{Positive}
use Rattle.mls_automaton.proofs.Lists.{All-one}
use Rattle.mls_print.specs.declared.components.Item.{Item as LaidItem}
use Rattle.mls_print.specs.declared.components.Item.TheVariants as laid
use Rattle.mls_print.specs.declared.layout.Printer.{Printer}
use Rattle.mls_print.specs.declared.piece.Piece.{Piece as LaidPiece}
use Rattle.mls_print.specs.declared.piece.Piece.TheVariants as piece
use Rattle.mls_print.specs.declared.row.Row.{Row}
use Rattle.mls_print.specs.declared.row.RowArms.{RowArms}
use Rattle.mls_print.specs.declared.row.RowField.{RowField}
use Rattle.mls_print.specs.declared.row.Table.{Table}
use Rattle.mls_print.specs.Shown.{IsNew, Shown, again, a_set, Shows}
use Rattle.mls_print.specs.Keys.{sets_in}
use Rattle.mls_print.specs.Pieces.{Piece, bytes, opens, closes, in_parens, is_function_alone, domain_pieces, pieces_of}
use Rattle.mls_print.specs.steps.Printing.{Place, sets_around, numbers_around, show, Tells}
use Rattle.mls_print.specs.steps.Tables.{set_at, arms_of, HasArmsBelow, HasFieldsBelow, IsWithin, ShowsRow, IsWhole}
use Rattle.mls_print.specs.steps.Visits.{IsVisited}
use Rattle.mls_print.specs.steps.Items.{items_told, row_items, row_is_alone, fields_of, IsDomain, IsCodomain, IsFieldSet}
use Rattle.mls_print.specs.steps.Writing.{piece_of, HasStateBelow, HasSetBelow}
use Rattle.mls_print.specs.steps.Progress.{Near, places, told, IsItemBelow, Plan, IsPlan, IsSound, IsOnPlan, IsSafe, Advances, AreParens, pieces_in}
use Rattle.mls_print.proofs.OneText.{around-new as not-again}
use Rattle.mls_print.proofs.RowShows.{parts_shown}
use Rattle.mls_print.proofs.SoundRows.{IsRowItem, row_sound}
use Rattle.mls_print.proofs.PrintingSteps.{alone-shown}
use Rattle.mls_print.proofs.LayoutSteps.{tells-le, around-new, push_piece, tell_taken, again_on_plan, domain_again_on_plan, leave_taken, begin_taken}

-- the items count for the printer alone, and not for how far it is
pub same_printer : (plan : Plan) (table : Table) (items : List LaidItem) (w new : Printer) → IsOnPlan plan table items w → new.pieces ≡ w.pieces → new.shown ≡ w.shown → new.sets ≡ w.sets → IsOnPlan plan table items new
same_printer plan table items w new it pieces shown sets = record {
  around = it.around;
  nested = it.nested;
  apart = it.apart;
  below = it.below;
  numbers = it.numbers;
  shown = λ s low. ap (λ (v : Vec (Option ℕ)). get_or v.items s None) shown ∙ it.shown s low;
  sound = it.sound;
  left = it.left;
  whole = ap (λ (v : Vec LaidPiece). map piece_of v.items ++ it.left) pieces ∙ it.whole;
  tells = subst (λ j. Tells plan.automaton plan.order j (told table it.around items) it.left (sets_in plan.tree)) (sym sets) it.tells;
  states = subst (λ (v : Vec LaidPiece). All (HasStateBelow (length plan.automaton.states)) v.items) (sym pieces) it.states;
  sets = subst (λ (v : Vec LaidPiece). All (HasSetBelow (sets_in plan.tree)) v.items) (sym pieces) it.sets;
}

module _ (table : Table) where
  abbrev size : ℕ
  size = length table.rows.items

  safe-more : (w new : Printer) (p : LaidPiece) → IsSafe table w → new.items.items ≡ w.items.items → new.shown.items ≡ w.shown.items → new.pieces.items ≡ w.pieces.items ++ p ∷ [] → new.sets ≡ w.sets → IsSafe table new
  safe-more w new p safe items shown pieces sets = record {
    shown = ap length shown ∙ safe.shown;
    items = subst (All (IsItemBelow size)) (sym items) safe.items;
    count = omega (arith, safe.count, ap length pieces ∙ length-append w.pieces.items (p ∷ []), sets);
  }

  pub told_advances : IsWhole table → (w new : Printer) (p : LaidPiece) → new.items.items ≡ w.items.items → new.shown.items ≡ w.shown.items → new.pieces.items ≡ w.pieces.items ++ p ∷ [] → new.sets ≡ w.sets → Advances table (laid.Tell p) w new
  told_advances whole w new p items shown pieces sets = record {
    safe = λ safe. safe-more w new p safe items shown pieces sets;
    on_plan = λ plan is it. subst (λ xs. IsOnPlan plan table (reverse xs) new) (sym items) (tell_taken plan table is whole (reverse w.items.items) w new p it pieces shown sets);
  }

  pub again_advances : IsWhole table → (w new : Printer) (p : Polarity) (s k : ℕ) → s < size → get_or w.shown.items s None ≡ Some k → new.items.items ≡ w.items.items → new.shown.items ≡ w.shown.items → new.pieces.items ≡ w.pieces.items ++ piece.Again k ∷ [] → new.sets ≡ w.sets → Advances table (laid.Show p s) w new
  again_advances whole w new p s k low found items shown pieces sets = record {
    safe = λ safe. safe-more w new (piece.Again k) safe items shown pieces sets;
    on_plan = λ plan is it. subst (λ xs. IsOnPlan plan table (reverse xs) new) (sym items) (again_on_plan plan table is whole (reverse w.items.items) w new p s k it low found pieces shown sets);
  }

  pub domain_again_advances : IsWhole table → (w new : Printer) (p : Polarity) (s k : ℕ) → s < size → get_or w.shown.items s None ≡ Some k → new.items.items ≡ w.items.items → new.shown.items ≡ w.shown.items → new.pieces.items ≡ w.pieces.items ++ piece.Again k ∷ [] → new.sets ≡ w.sets → Advances table (laid.ShowDomain p s) w new
  domain_again_advances whole w new p s k low found items shown pieces sets = record {
    safe = λ safe. safe-more w new (piece.Again k) safe items shown pieces sets;
    on_plan = λ plan is it. subst (λ xs. IsOnPlan plan table (reverse xs) new) (sym items) (domain_again_on_plan plan table is whole (reverse w.items.items) w new p s k it low found pieces shown sets);
  }

  pub left_advances : IsWhole table → (w new : Printer) (n : ℕ) → length w.shown.items ≡ size → n < size → new.items.items ≡ w.items.items → new.shown.items ≡ slice_set w.shown.items n None → new.pieces.items ≡ w.pieces.items → new.sets ≡ w.sets → Advances table (laid.Leave n) w new
  left_advances whole w new n wide low items shown pieces sets = record {
    safe = λ safe. record {
      shown = ap length shown ∙ (length-set w.shown.items n None ∙ safe.shown);
      items = subst (All (IsItemBelow size)) (sym items) safe.items;
      count = omega (arith, safe.count, ap length pieces, sets);
    };
    on_plan = λ plan is it. subst (λ xs. IsOnPlan plan table (reverse xs) new) (sym items) (leave_taken plan table is whole (reverse w.items.items) w new n it wide low pieces shown sets);
  }

  -- what a row names is in the table
  codomain-below : (o : Option RowArms) (n m : ℕ) → HasArmsBelow n o → IsCodomain o m → m < n
  codomain-below None n m has it = absurd it
  codomain-below (Some arms) n m has it = subst (λ m. m < n) it has.1

  domain-below : (o : Option RowArms) (n m : ℕ) → HasArmsBelow n o → IsDomain o m → m < n
  domain-below None n m has it = absurd it
  domain-below (Some arms) n m has it = subst (λ m. m < n) it has.0

  field-below : (o : Option (Vec RowField)) (n m : ℕ) → HasFieldsBelow n o → IsFieldSet (option_map (λ (fields : Vec RowField). fields.items) o) m → m < n
  field-below None n m has it = absurd it
  field-below (Some fields) n m has it = subst (λ m. m < n) it.2 (All-contains (λ (f : RowField). f.set < n) fields.items it.0 has it.1)

  item-below : (p : Polarity) (row : Row) (n : ℕ) → IsWithin n row → (item : LaidItem) → IsRowItem p row item → IsItemBelow n item
  item-below p row n has (laid.Tell q) it = tt
  item-below p row n has (laid.Show q m) it =
      elim it.1 [
        | inl at ↦ codomain-below row.function n m has.function at
        | inr at ↦ field-below row.fields n m has.fields at
      ]
  item-below p row n has (laid.ShowDomain q m) it = domain-below row.function n m has.function it.1
  item-below p row n has (laid.Leave m) it = absurd it

  -- a set begins
  pub begun_advances : IsWhole table → (items : List LaidItem) (w new : Printer) (p : Polarity) (s : ℕ) (d : Row) → s < size → length w.shown.items ≡ size → get_or w.shown.items s None ≡ None
      → ((sets : ℕ → List ℕ) (around : List Place) → items_told sets around items ≡ row_items sets around p (get_or table.rows.items s d))
      → new.items.items ≡ (w.items.items ++ laid.Leave s ∷ []) ++ reverse items → new.shown.items ≡ slice_set w.shown.items s (Some w.sets) → new.pieces.items ≡ w.pieces.items ++ piece.Begins w.sets ∷ [] → new.sets ≡ w.sets + 1 → Advances table (laid.Show p s) w new
  begun_advances whole items w new p s d low wide none items_are stack shown pieces sets =
      let row : Row = get_or table.rows.items s d in
      let within : IsWithin size row = subst (λ n. IsWithin n row) (sym whole.rows) (whole.within s d low) in
      let own : All (IsRowItem p row) items = row_sound p row items (items_are (λ n. n ∷ []) []) in
      let below : All (IsItemBelow size) items = All-weaker (IsRowItem p row) (IsItemBelow size) (item-below p row size within) items own in
      let turned : reverse new.items.items ≡ items ++ laid.Leave s ∷ reverse w.items.items =
      ap reverse stack
      ∙ (reverse-append (w.items.items ++ laid.Leave s ∷ []) (reverse items)
      ∙ ((λ i. reverse-reverse items i ++ reverse-append w.items.items (laid.Leave s ∷ []) i))) in record {
        safe = λ safe. record {
          shown = ap length shown ∙ (length-set w.shown.items s (Some w.sets) ∙ safe.shown);
          items =
              subst (All (IsItemBelow size)) (sym stack)
              (All-append (IsItemBelow size) (w.items.items ++ laid.Leave s ∷ []) (reverse items) (All-push (IsItemBelow size) w.items.items (laid.Leave s) safe.items low)
              (All-permutation (IsItemBelow size) items (reverse items) (IsPermutation-reverse items) below));
          count = omega (arith, safe.count, ap length pieces ∙ length-append w.pieces.items (piece.Begins w.sets ∷ []), sets);
        };
        on_plan = λ plan is it. subst (λ xs. IsOnPlan plan table xs new) (sym turned) (begin_taken plan table is whole items (reverse w.items.items) w new p s d it low wide none items_are pieces shown sets);
      }

  -- a set begins as a domain: what stands before it is told, and what stands behind it is left to tell
  opened : (plan : Plan) → IsPlan plan table → IsWhole table → (rest : List LaidItem) (w new : Printer) (p : Polarity) (s : ℕ) (d : Row) (before behind : LaidPiece) → IsOnPlan plan table (laid.ShowDomain p s ∷ rest) w → s < size → get_or w.shown.items s None ≡ None
      → AreParens (row_is_alone (set_at table) (get_or table.rows.items s d)) w.sets before behind
      → new.pieces.items ≡ w.pieces.items ++ before ∷ [] → new.shown.items ≡ w.shown.items → new.sets ≡ w.sets → IsOnPlan plan table (laid.Show p s ∷ laid.Tell behind ∷ rest) new
  opened plan is whole rest w new p s d before behind it low none parens pieces shown sets = go it.tells.0 it.tells.1 it.tells.2 it.tells.3 it.tells.4
    where
      visited : All (IsVisited plan.automaton plan.order p) (set_at table s)
      visited = All-head (IsSound plan table) (laid.ShowDomain p s) rest it.sound

      rest_sound : All (IsSound plan table) rest
      rest_sound = All-tail (IsSound plan table) (laid.ShowDomain p s) rest it.sound

      row : Row
      row = get_or table.rows.items s d

      shows : ShowsRow plan.automaton plan.order (set_at table) p (set_at table s) (get_or table.rows.items s d)
      shows = is.tabled.shows s d low p visited

      gone : IsNew (sets_around (places table it.around)) (set_at table s)
      gone = around-new plan table is whole it.around s it.below low (sym (it.shown s low) ∙ none)

      sure : Bool
      sure = row_is_alone (set_at table) (get_or table.rows.items s d)

      by : (b c : Bool) → b ≡ c → (j : ℕ) (ps later : List Piece) → cond b (in_parens ps) (opens j ∷ (ps ++ closes j ∷ [])) ++ later ≡ cond c (bytes (codes "(")) (opens j) ∷ (ps ++ cond c (bytes (codes ")")) (closes j) ∷ later)
      by true true e j ps later = ap (λ more. bytes (codes "(") ∷ more) (append_assoc ps (bytes (codes ")") ∷ []) later)
      by false false e j ps later = ap (λ more. opens j ∷ more) (append_assoc ps (closes j ∷ []) later)
      by true false e j ps later = absurd (cc)
      by false true e j ps later = absurd (cc)

      go : (t : Shown) → Shows plan.automaton plan.order (sets_around (places table it.around)) p (set_at table s) t → (later : List Piece) → it.left ≡ domain_pieces w.sets t (pieces_of w.sets (numbers_around (places table it.around)) t) ++ later → Tells plan.automaton plan.order (w.sets + sets_in t) (told table it.around rest) later (sets_in plan.tree)
          → IsOnPlan plan table (laid.Show p s ∷ laid.Tell behind ∷ rest) new
      go (again k) shown' later e more = absurd (not-again (sets_around (places table it.around)) (set_at table s) k shown' gone)
      go (a_set q vs b i f r) shown' later e more =
          let t : Shown = a_set q vs b i f r in
          let ps : List Piece = pieces_of w.sets (numbers_around (places table it.around)) t in
          let alone : is_function_alone t ≡ row_is_alone (set_at table) (get_or table.rows.items s d) =
          alone-shown plan.automaton plan.order w.sets (places table it.around) p (set_at table s) (get_or table.rows.items s d).variables.items (get_or table.rows.items s d).boolean (get_or table.rows.items s d).integer (arms_of (set_at table) (get_or table.rows.items s d).function) (fields_of (set_at table) (get_or table.rows.items s d))
          (parts_shown plan.automaton plan.order (sets_around (places table it.around)) p (set_at table s) (get_or table.rows.items s d).variables.items (get_or table.rows.items s d).boolean (get_or table.rows.items s d).integer (arms_of (set_at table) (get_or table.rows.items s d).function) (fields_of (set_at table) (get_or table.rows.items s d)) shows.variables shows.boolean shows.integer shows.function shows.fields)
          q vs b i f r shown' in
          let total : ℕ = sets_in plan.tree in
          let low' : w.sets + sets_in t ≤ total = tells-le plan.automaton plan.order (w.sets + sets_in t) total (told table it.around rest) later more in
          let inside : w.sets < total = omega (arith, low') in
          let after : List Piece = ps ++ piece_of behind ∷ later in
          let left : it.left ≡ piece_of before ∷ after =
          e ∙ (by (is_function_alone t) (row_is_alone (set_at table) (get_or table.rows.items s d)) alone w.sets ps later
          ∙ (λ i. sym parens.opening i ∷ (ps ++ sym parens.closing i ∷ later))) in
          push_piece plan table is whole (laid.ShowDomain p s ∷ rest) (laid.Show p s ∷ laid.Tell behind ∷ rest) w new before it pieces shown sets
          (parens.states (length plan.automaton.states)).0 (parens.sets total inside).0 it.nested
          (All-cons (IsSound plan table) (laid.Show p s) (laid.Tell behind ∷ rest) visited
          (All-cons (IsSound plan table) (laid.Tell behind) rest ((parens.states (length plan.automaton.states)).1, (parens.sets total inside).1) rest_sound))
          after left (t, shown', piece_of behind ∷ later, refl, (later, refl, more))

  pub domain_advances : IsWhole table → (w middle new : Printer) (p : Polarity) (s : ℕ) (d : Row) (before behind : LaidPiece) → s < size → get_or w.shown.items s None ≡ None
      → AreParens (row_is_alone (set_at table) (get_or table.rows.items s d)) w.sets before behind
      → middle.pieces.items ≡ w.pieces.items ++ before ∷ [] → middle.shown.items ≡ w.shown.items → middle.sets ≡ w.sets → middle.items.items ≡ w.items.items ++ laid.Tell behind ∷ []
      → Advances table (laid.Show p s) middle new → Advances table (laid.ShowDomain p s) w new
  domain_advances whole w middle new p s d before behind low none parens pieces shown sets items later = record {
    safe = λ safe. later.safe (record {
      shown = ap length shown ∙ safe.shown;
      items = subst (All (IsItemBelow size)) (sym items) (All-push (IsItemBelow size) w.items.items (laid.Tell behind) safe.items tt);
      count = omega (arith, safe.count, ap length pieces ∙ length-append w.pieces.items (before ∷ []), sets);
    });
    on_plan = λ plan is it.
        let turned : reverse middle.items.items ≡ laid.Tell behind ∷ reverse w.items.items = ap reverse items ∙ reverse-append w.items.items (laid.Tell behind ∷ []) in
        later.on_plan plan is (subst (λ xs. IsOnPlan plan table (laid.Show p s ∷ xs) middle) (sym turned) (opened plan is whole (reverse w.items.items) w middle p s d before behind it low none parens pieces shown sets));
  }

  -- the layout begins
  pub safe_begins : IsWhole table → (w : Printer) → w.items.items ≡ laid.Show Positive 0 ∷ [] → w.shown.items ≡ replicate size None → w.sets ≡ 0 → IsSafe table w
  safe_begins whole w items shown sets = record {
    shown = ap length shown ∙ length-replicate size None;
    items = subst (All (IsItemBelow size)) (sym items) (All-one (IsItemBelow size) (laid.Show Positive 0) (omega (arith, whole.rows, whole.some)));
    count = omega (arith, sets);
  }

  pub plan_begins : (w : Printer) → w.items.items ≡ laid.Show Positive 0 ∷ [] → w.shown.items ≡ replicate size None → w.pieces.items ≡ [] → w.sets ≡ 0 → (plan : Plan) → IsPlan plan table → IsOnPlan plan table (reverse w.items.items) w
  plan_begins w items shown pieces sets plan is =
      let total : sets_in plan.tree ≡ 0 + sets_in plan.tree = omega arith in
      let visited : All (IsVisited plan.automaton plan.order Positive) (set_at table 0) = subst (All (IsVisited plan.automaton plan.order Positive)) (sym is.tabled.first) (All-one (IsVisited plan.automaton plan.order Positive) plan.root is.root) in
      let T : ℕ → List ℕ → Type 0 = λ j set. Tells plan.automaton plan.order j (show [] Positive set ∷ []) (pieces_in plan) (sets_in plan.tree) in
      let begun : T 0 (plan.root ∷ []) = (plan.tree, is.shows, [], sym (append-nil (pieces_in plan)), (refl, sym total)) in
      let on : IsOnPlan plan table (laid.Show Positive 0 ∷ []) w = record {
        around = [];
        nested = tt;
        apart = tt;
        below = All-nil (λ (near : Near). near.id < length table.rows.items);
        numbers = All-nil (λ (near : Near). near.number < sets_in plan.tree);
        shown = λ s low. ap (λ xs. get_or xs s None) shown ∙ get_or-replicate size s None None low;
        sound = All-one (IsSound plan table) (laid.Show Positive 0) visited;
        left = pieces_in plan;
        whole = ap (λ (xs : List LaidPiece). map piece_of xs ++ pieces_in plan) pieces;
        tells = subst (λ j. T j (set_at table 0)) (sym sets) (subst (T 0) (sym is.tabled.first) begun);
        states = subst (All (HasStateBelow (length plan.automaton.states))) (sym pieces) (All-nil (HasStateBelow (length plan.automaton.states)));
        sets = subst (All (HasSetBelow (sets_in plan.tree))) (sym pieces) (All-nil (HasSetBelow (sets_in plan.tree)));
      } in
      subst (λ xs. IsOnPlan plan table (reverse xs) w) (sym items) on

  -- an item is taken from the stack
  pub safe_taken : (w taken : Printer) (item : LaidItem) → IsSafe table w → w.items.items ≡ taken.items.items ++ item ∷ [] → taken.shown ≡ w.shown → taken.pieces ≡ w.pieces → taken.sets ≡ w.sets → IsSafe table taken × IsItemBelow size item
  safe_taken w taken item safe items shown pieces sets =
      let all : All (IsItemBelow size) (taken.items.items ++ item ∷ []) = subst (All (IsItemBelow size)) items safe.items in (
        record {
          shown = ap (λ (v : Vec (Option ℕ)). length v.items) shown ∙ safe.shown;
          items = λ k d low. subst (IsItemBelow size) (get_or_append_left taken.items.items (item ∷ []) d k low) (all k d (omega (arith, length-append taken.items.items (item ∷ []))));
          count = omega (arith, safe.count, ap (λ (v : Vec LaidPiece). length v.items) pieces, sets);
        },
        All-contains (IsItemBelow size) (taken.items.items ++ item ∷ []) item all (Contains-push taken.items.items item),
      )

  pub plan_taken : (w taken : Printer) (item : LaidItem) (plan : Plan) → IsOnPlan plan table (reverse w.items.items) w → w.items.items ≡ taken.items.items ++ item ∷ [] → taken.shown ≡ w.shown → taken.pieces ≡ w.pieces → taken.sets ≡ w.sets → IsOnPlan plan table (item ∷ reverse taken.items.items) taken
  plan_taken w taken item plan it items shown pieces sets =
      let turned : reverse w.items.items ≡ item ∷ reverse taken.items.items = ap reverse items ∙ reverse-append taken.items.items (item ∷ []) in
      subst (λ xs. IsOnPlan plan table xs taken) turned (same_printer plan table (reverse w.items.items) w taken it pieces shown sets)
