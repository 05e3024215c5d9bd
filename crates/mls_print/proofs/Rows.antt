-- The rows of the table of the shown sets.
--     makes_row                   the row of a set, of what is found of its combined head
--     same_fields_same            fields with sets of the same members are the same record
--     visited_low, visited_states, right_polarity      the members of a set of visited states
--     row_added                   one more row
--     finished                    the table, where each set has a row
use Rattle.std.proofs.Common.{◌≡◌, ◌⊎◌, inl, inr, ℕ, ◌+◌, ◌<◌, ◌≤◌, Bool, true, false, List, [], ◌∷◌, ◌++◌, map, refl, sym, ap, ◌∙◌, subst, arith, length, get_or, All, Contains, Some, None}
use Rattle.std.specs.Prelude.{Option, option_map, filter, cond, ◌==◌, ◌&&◌, ◌||◌}
use Rattle.std.specs.Global.{Vec}
use Rattle.std.specs.List.{list_any}
use Rattle.std.proofs.lemmas.List.{get_or_append_left, length-append, length-map}
use Rattle.std.proofs.Math.Seq.{get_or-append_seam}
use Rattle.std.proofs.Math.Nat.{eq-or-lt_of_le}
use Rattle.std.proofs.lemmas.List.Elements.{All-append, All-push, All-contains, All-get_or, Contains-get_or}
use Rattle.mls_automaton.specs.declared.automaton.Polarity.{Polarity}
use Rattle.mls_automaton.specs.declared.automaton.Polarity.TheVariants.{Positive, Negative}
use Rattle.mls_automaton.specs.declared.automaton.Arms.{Arms}
use Rattle.mls_automaton.specs.declared.automaton.Flow.{Flow}
use Rattle.mls_automaton.specs.Automata.{Automaton, head_at, polarity_at, opposite, IsState}
use Rattle.mls_automaton.specs.Heads.{Parts, parts_of, IsSameSet}
use Rattle.mls_automaton.specs.Models.{IsClosed, HasArmsIn}
use Rattle.mls_automaton.proofs.Lists.{All-contained, All-one, Contains-here, Contains-later, Contains-cases}
use Rattle.mls_automaton.proofs.CombinedStates.{HasPartsIn, HasRecordIn}
use Rattle.mls_print.specs.declared.register.Register.{Register}
use Rattle.mls_print.specs.declared.row.Row.{Row}
use Rattle.mls_print.specs.declared.row.RowArms.{RowArms}
use Rattle.mls_print.specs.declared.row.RowField.{RowField}
use Rattle.mls_print.specs.declared.table.Builder.{Builder}
use Rattle.mls_print.specs.Shown.{set_head, AreRisingLabels}
use Rattle.mls_print.specs.Walks.{shown_variables, flows_into, holders, is_member}
use Rattle.mls_print.specs.steps.Printing.{LabelledSet}
use Rattle.mls_print.specs.steps.Joining.{function_of_all}
use Rattle.mls_print.specs.steps.Grouping.{record_of_all}
use Rattle.mls_print.specs.steps.Rising.{AreRisingNumbers}
use Rattle.mls_print.specs.steps.Registers.{sets_in, set_of, number_in, IsRegister, Adds, Numbers, IsArm, NumbersArms, AreSameFields, IsSetOfRecord, IsSameRecord, NumbersRecord}
use Rattle.mls_print.specs.steps.Building.{IsFieldOf, IsNamed, MakesRow, polarity_in, IsBuilding, BeginsWith}
use Rattle.mls_print.specs.steps.Tables.{IsFunctionOf, arms_of, labelled, AreFieldsOf, IsRecordOf, ShowsRow, HasArmsBelow, HasFieldsBelow, IsWithin, IsWhole, IsTable}
use Rattle.mls_print.specs.steps.Visits.{IsVisited, IsVisitedSet, IsClosedOrder}
use Rattle.mls_print.proofs.FlatHeads.{flat-function, flat-fields, flat-boolean, flat-integer}
use Rattle.mls_print.proofs.RisingSets.{same_rising}
use Rattle.mls_print.proofs.Registered.{all_wider, adds_then, adds_wider, set_kept, not_fewer, arms_kept, fields_kept}
use Rattle.mls_print.proofs.Visited.{set_visited}

same_trans : (xs ys zs : List ℕ) → IsSameSet xs ys → IsSameSet ys zs → IsSameSet xs zs
same_trans xs ys zs first second = ((λ s it. second.0 s (first.0 s it)), (λ s it. first.1 s (second.1 s it)))

-- the function of a row
functions_trans : (o q r : Option Arms) → IsFunctionOf o q → IsFunctionOf q r → IsFunctionOf o r
functions_trans None None None first second = tt
functions_trans (Some f) (Some g) (Some h) first second = (same_trans f.domain g.domain h.domain first.0 second.0, same_trans f.codomain g.codomain h.codomain first.1 second.1)
functions_trans None (Some g) r first second = absurd first
functions_trans (Some f) None r first second = absurd first
functions_trans None None (Some h) first second = absurd second
functions_trans (Some f) (Some g) None first second = absurd second

arm_of : (o q : Option Arms) (set : List ℕ) → IsFunctionOf o q → IsArm q set → IsArm o set
arm_of None None set same it = it
arm_of None (Some g) set same it = absurd same
arm_of (Some f) None set same it = absurd same
arm_of (Some f) (Some g) set same (inl it) = inl (same_trans f.domain g.domain set same.0 it)
arm_of (Some f) (Some g) set same (inr it) = inr (same_trans f.codomain g.codomain set same.1 it)

-- the record of a row
same_labels : (fields others : List LabelledSet) → AreSameFields fields others → map (λ f. f.label) fields ≡ map (λ f. f.label) others
same_labels [] [] same = refl
same_labels [] (g ∷ others) same = absurd same
same_labels (f ∷ fields) [] same = absurd same
same_labels (f ∷ fields) (g ∷ others) same = λ i. same.0 i ∷ same_labels fields others same.2 i

same_field : (fields others : List LabelledSet) → AreSameFields fields others → (g : LabelledSet) → Contains others g → (f : LabelledSet) × Contains fields f × (f.label ≡ g.label) × IsSameSet f.set g.set
same_field [] [] same g it = let low : it.0 < 0 = it.1 in absurd (omega arith)
same_field [] (h ∷ others) same g it = absurd same
same_field (f ∷ fields) [] same g it = absurd same
same_field (f ∷ fields) (h ∷ others) same g it =
    elim (Contains-cases h others g it) [
      | inl is ↦ (f, Contains-here f fields, same.0 ∙ ap (λ x. x.label) is, subst (λ x. IsSameSet f.set x.set) is same.1)
      | inr later ↦ let found = same_field fields others same.2 g later in (found.0, Contains-later f fields found.0 found.1, found.2, found.3)
    ]

pub same_fields_same : (sets : List ℕ → Option (List ℕ)) (fields others : List LabelledSet) → AreFieldsOf sets fields → AreSameFields fields others → AreFieldsOf sets others
same_fields_same sets fields others is same = record {
  rising = subst AreRisingLabels (same_labels fields others same) is.rising;
  each = λ g it.
      let found = same_field fields others same g it in
      let of = is.each found.0 found.1 in
      (of.0, subst (λ label. sets label ≡ Some of.0) found.2 of.1, same_trans of.0 found.0.set g.set of.2 found.3);
  all_labels = λ label it. subst (λ labels. Contains labels label) (same_labels fields others same) (is.all_labels label it);
}

records_trans : (o : Option (List ℕ → Option (List ℕ))) (q r : Option (List LabelledSet)) → IsRecordOf o q → IsSameRecord q r → IsRecordOf o r
records_trans None None None first second = tt
records_trans (Some sets) (Some fields) (Some others) first second = same_fields_same sets fields others first second
records_trans None (Some fields) r first second = absurd first
records_trans (Some sets) None r first second = absurd first
records_trans None None (Some others) first second = absurd second
records_trans (Some sets) (Some fields) None first second = absurd second

field_of : (o : Option (List ℕ → Option (List ℕ))) (q : Option (List LabelledSet)) (set : List ℕ) → IsRecordOf o q → IsSetOfRecord q set → IsFieldOf o set
field_of None None set is it = it
field_of None (Some fields) set is it = absurd is
field_of (Some sets) None set is it = absurd is
field_of (Some sets) (Some fields) set is it =
    let of = is.each it.0 it.1 in
    (it.0.label, of.0, of.1, same_trans of.0 it.0.set set of.2 it.2)

arms_lower : (n m : ℕ) (row : Option RowArms) → n ≤ m → HasArmsBelow n row → HasArmsBelow m row
arms_lower n m None le it = tt
arms_lower n m (Some arms) le it = (omega (arith, it.0), omega (arith, it.1))

fields_lower : (n m : ℕ) (row : Option (Vec RowField)) → n ≤ m → HasFieldsBelow n row → HasFieldsBelow m row
fields_lower n m None le it = tt
fields_lower n m (Some fields) le it = all_wider (λ (f : RowField). f.set < n) (λ (f : RowField). f.set < m) (λ f low. omega arith) fields.items it

module _ (a : Automaton) (order : List ℕ) (p : Polarity) (set : List ℕ) (old mid new : List (List ℕ)) (arms : Option Arms) (fields : Option (List LabelledSet)) (row : Row)
    (found_arms : IsFunctionOf (function_of_all a set) arms) (found_fields : IsRecordOf (record_of_all a p set) fields)
    (one : NumbersArms arms old mid row.function) (two : NumbersRecord fields mid new row.fields)
    (variables : row.variables.items ≡ shown_variables a order p set) (boolean : row.boolean ≡ list_any (λ s. (head_at a s).boolean) set) (integer : row.integer ≡ list_any (λ s. (head_at a s).integer) set) where
  abbrev head : Parts
  head = set_head a p set

  function_is : IsFunctionOf head.function arms
  function_is = subst (λ o. IsFunctionOf o arms) (sym (flat-function (λ s. parts_of (head_at a s)) p set)) found_arms

  fields_are : IsRecordOf head.fields fields
  fields_are = subst (λ o. IsRecordOf o fields) (sym (flat-fields (λ s. parts_of (head_at a s)) p set)) found_fields

  pub makes_row : MakesRow a order p set old new row
  makes_row = record {
    adds = adds_then (IsNamed head) old mid new
        (adds_wider (IsArm arms) (IsNamed head) (λ s it. inl (arm_of head.function arms s function_is it)) old mid one.adds)
        (adds_wider (IsSetOfRecord fields) (IsNamed head) (λ s it. inr (field_of head.fields fields s fields_are it)) mid new two.adds);
    within = record { function = arms_lower (length mid) (length new) row.function (not_fewer (IsSetOfRecord fields) mid new two.adds) one.below; fields = two.below };
    shows = record {
      variables = variables;
      boolean = boolean ∙ sym (flat-boolean (λ s. parts_of (head_at a s)) p set);
      integer = integer ∙ sym (flat-integer (λ s. parts_of (head_at a s)) p set);
      function = functions_trans head.function arms (arms_of (set_of new) row.function) function_is
          (subst (IsFunctionOf arms) (sym (arms_kept (IsSetOfRecord fields) mid new two.adds row.function one.below)) one.same);
      fields = records_trans head.fields fields (option_map (λ all. map (labelled (set_of new)) all.items) row.fields) fields_are two.same;
    };
  }

-- a set of visited states
pub visited_states : (a : Automaton) (order : List ℕ) (p : Polarity) (set : List ℕ) → All (IsVisited a order p) set → All (IsState a p) set
visited_states a order p set each = all_wider (IsVisited a order p) (IsState a p) (λ s it. it.state) set each

pub visited_low : (a : Automaton) (order : List ℕ) (set : List ℕ) → IsVisitedSet a order set → All (λ s. s < length a.states) set
visited_low a order set it = all_wider (IsVisited a order it.0) (λ s. s < length a.states) (λ s v. v.state.in_range) set it.1

-- its polarity is that of its first member, and the empty set has both
same_polarity : (a : Automaton) (order : List ℕ) (p : Polarity) (s : ℕ) (rest : List ℕ) → All (IsVisited a order p) (s ∷ rest) → polarity_at a s ≡ p
same_polarity a order p s rest each = (All-contains (IsVisited a order p) (s ∷ rest) s each (Contains-here s rest)).state.polarity

pub right_polarity : (a : Automaton) (order : List ℕ) (set : List ℕ) → IsVisitedSet a order set → All (IsVisited a order (polarity_in a set)) set
right_polarity a order [] it = λ k d low. absurd (omega arith)
right_polarity a order (s ∷ rest) it = subst (λ p. All (IsVisited a order p) (s ∷ rest)) (sym (same_polarity a order it.0 s rest it.1)) it.1

flows_nowhere : (a : Automaton) (n : ℕ) → flows_into a [] n ≡ false
flows_nowhere a n = go a.flows
  where
    go : (flows : List Flow) → list_any (λ f. (f.negative.0 == n) && is_member [] f.positive.0) flows ≡ false
    go [] = refl
    go (f ∷ rest) = by (f.negative.0 == n) (go rest)
      where
        by : (b : Bool) → list_any (λ f. (f.negative.0 == n) && is_member [] f.positive.0) rest ≡ false → ((b && false) || list_any (λ f. (f.negative.0 == n) && is_member [] f.positive.0) rest) ≡ false
        by true e = e
        by false e = e

filter_none : (q : ℕ → Bool) (xs : List ℕ) → ((x : ℕ) → q x ≡ false) → filter q xs ≡ []
filter_none q [] none = refl
filter_none q (x ∷ xs) none = (λ i. cond (none x i) (x ∷ filter q xs) (filter q xs)) ∙ filter_none q xs none

no_variables : (a : Automaton) (order : List ℕ) (p : Polarity) → shown_variables a order p [] ≡ []
no_variables a order Positive = filter_none (flows_into a []) (holders a order) (flows_nowhere a)
no_variables a order Negative = filter_none (is_member []) (holders a order) (λ s. refl)

empty_shows : (a : Automaton) (order : List ℕ) (sets : ℕ → List ℕ) (p q : Polarity) (row : Row) → ShowsRow a order sets p [] row → ShowsRow a order sets q [] row
empty_shows a order sets p q row it = record {
  variables = it.variables ∙ (no_variables a order p ∙ sym (no_variables a order q));
  boolean = it.boolean;
  integer = it.integer;
  function = it.function;
  fields = it.fields;
}

-- a row shows its set at each polarity at which all members are visited
shows_each : (a : Automaton) (order : List ℕ) (sets : ℕ → List ℕ) (set : List ℕ) (row : Row) → ShowsRow a order sets (polarity_in a set) set row → (p : Polarity) → All (IsVisited a order p) set → ShowsRow a order sets p set row
shows_each a order sets [] row it p each = empty_shows a order sets Positive p row it
shows_each a order sets (s ∷ rest) row it p each = subst (λ p. ShowsRow a order sets p (s ∷ rest) row) (same_polarity a order p s rest each) it

-- a row keeps what it shows, where more sets are there
shows_kept : (a : Automaton) (order : List ℕ) (IsSuch : List ℕ → Type 0) (old new : List (List ℕ)) → Adds IsSuch old new → (p : Polarity) (set : List ℕ) (row : Row) → IsWithin (length old) row → ShowsRow a order (set_of old) p set row → ShowsRow a order (set_of new) p set row
shows_kept a order IsSuch old new adds p set row within it = record {
  variables = it.variables;
  boolean = it.boolean;
  integer = it.integer;
  function = subst (IsFunctionOf (set_head a p set).function) (sym (arms_kept IsSuch old new adds row.function within.function)) it.function;
  fields = go row.fields within.fields it.fields;
}
  where
    go : (o : Option (Vec RowField)) → HasFieldsBelow (length old) o → IsRecordOf (set_head a p set).fields (option_map (λ all. map (labelled (set_of old)) all.items) o) → IsRecordOf (set_head a p set).fields (option_map (λ all. map (labelled (set_of new)) all.items) o)
    go None below is = is
    go (Some all) below is = subst (λ fields. IsRecordOf (set_head a p set).fields (Some fields)) (sym (fields_kept IsSuch old new adds all.items below)) is

within_kept : (n m : ℕ) → n ≤ m → (row : Row) → IsWithin n row → IsWithin m row
within_kept n m le row it = record { function = arms_lower n m row.function le it.function; fields = fields_lower n m row.fields le it.fields }

-- the sets that the head of a set of visited states names
same_visited : (a : Automaton) (order : List ℕ) (p : Polarity) (xs ys : List ℕ) → All (IsVisited a order p) xs → IsSameSet xs ys → All (IsVisited a order p) ys
same_visited a order p xs ys each same = All-contained (IsVisited a order p) ys (λ s it. All-contains (IsVisited a order p) xs s each (same.1 s it))

module _ (a : Automaton) (order : List ℕ) (p : Polarity) where
  arm_visited : (o : Option Arms) → HasArmsIn (IsVisited a order) p o → (set : List ℕ) → IsArm o set → IsVisitedSet a order set
  arm_visited None has set it = absurd it
  arm_visited (Some f) has set (inl it) = (opposite p, same_visited a order (opposite p) f.domain set has.0 it)
  arm_visited (Some f) has set (inr it) = (p, same_visited a order p f.codomain set has.1 it)

  field_visited : (o : Option (List ℕ → Option (List ℕ))) → HasRecordIn (IsVisited a order p) o → (set : List ℕ) → IsFieldOf o set → IsVisitedSet a order set
  field_visited None has set it = absurd it
  field_visited (Some sets) has set it = (p, same_visited a order p it.1 set (has it.0 it.1 it.2) it.3)

  named_visited : (head : Parts) → HasPartsIn (IsVisited a order) p head → (set : List ℕ) → IsNamed head set → IsVisitedSet a order set
  named_visited head has set (inl it) = arm_visited head.function has.function set it
  named_visited head has set (inr it) = field_visited head.fields has.fields set it

module _ (a : Automaton) (closed : IsClosed a) (order : List ℕ) (closed_order : IsClosedOrder a order) (b : Builder) (is : IsBuilding a order b) (left : length b.rows.items < length (sets_in b.register)) where
  abbrev pub next : List ℕ
  next = set_of (sets_in b.register) (length b.rows.items)

  pub next_visited : IsVisitedSet a order next
  next_visited = All-get_or (IsVisitedSet a order) (sets_in b.register) (length b.rows.items) [] left is.visited

  abbrev polarity : Polarity
  polarity = polarity_in a next

  pub row_added : (register : Register) (row : Row) (rows : Vec Row) → IsRegister register → MakesRow a order polarity next (sets_in b.register) (sets_in register) row → rows.items ≡ b.rows.items ++ row ∷ [] → IsBuilding a order (record { register = register; rows = rows })
  row_added register row rows is_register makes grown = record {
    register = is_register;
    visited = subst (All (IsVisitedSet a order)) (sym makes.adds.grown)
        (All-append (IsVisitedSet a order) (sets_in b.register) makes.adds.more is.visited
        (all_wider Such (IsVisitedSet a order) (named_visited a order polarity (set_head a polarity next) (set_visited a closed order closed_order polarity next (right_polarity a order next next_visited))) makes.adds.more makes.adds.such));
    rows = omega (arith, size, more, left);
    within = subst (All (IsWithin (length (sets_in register)))) (sym grown)
        (All-push (IsWithin (length (sets_in register))) b.rows.items row (all_wider (IsWithin (length (sets_in b.register))) (IsWithin (length (sets_in register))) (within_kept (length (sets_in b.register)) (length (sets_in register)) more) b.rows.items is.within) makes.within);
    shows = λ i d low p each. go i d p each (eq-or-lt_of_le (omega (arith, size, low)));
  }
    where
      Such : List ℕ → Type 0
      Such = IsNamed (set_head a polarity next)

      more : length (sets_in b.register) ≤ length (sets_in register)
      more = not_fewer Such (sets_in b.register) (sets_in register) makes.adds

      size : length rows.items ≡ length b.rows.items + 1
      size = ap length grown ∙ length-append b.rows.items (row ∷ [])

      Shown : ℕ → Row → Polarity → Type 0
      Shown i r p = ShowsRow a order (set_of (sets_in register)) p (set_of (sets_in register) i) r

      kept : (i : ℕ) → i < length (sets_in b.register) → set_of (sets_in register) i ≡ set_of (sets_in b.register) i
      kept = set_kept Such (sets_in b.register) (sets_in register) makes.adds

      go : (i : ℕ) (d : Row) (p : Polarity) → All (IsVisited a order p) (set_of (sets_in register) i) → (i ≡ length b.rows.items) ⊎ (i < length b.rows.items) → Shown i (get_or rows.items i d) p
      go i d p each (inl e) =
          let at : set_of (sets_in register) i ≡ next = ap (set_of (sets_in register)) e ∙ kept (length b.rows.items) left in
          let last : get_or rows.items i d ≡ row = (λ j. get_or (grown j) (e j) d) ∙ get_or-append_seam b.rows.items row [] d in
          let here : ShowsRow a order (set_of (sets_in register)) p next row = shows_each a order (set_of (sets_in register)) next row makes.shows p (subst (All (IsVisited a order p)) at each) in
          subst (λ set. ShowsRow a order (set_of (sets_in register)) p set (get_or rows.items i d)) (sym at) (subst (ShowsRow a order (set_of (sets_in register)) p next) (sym last) here)
      go i d p each (inr less) =
          let at : set_of (sets_in register) i ≡ set_of (sets_in b.register) i = kept i (omega arith) in
          let early : get_or rows.items i d ≡ get_or b.rows.items i d = ap (λ rs. get_or rs i d) grown ∙ get_or_append_left b.rows.items (row ∷ []) d i less in
          let old : List ℕ = set_of (sets_in b.register) i in
          let there : ShowsRow a order (set_of (sets_in register)) p old (get_or b.rows.items i d) =
          shows_kept a order Such (sets_in b.register) (sets_in register) makes.adds p old (get_or b.rows.items i d) (All-get_or (IsWithin (length (sets_in b.register))) b.rows.items i d less is.within) (is.shows i d less p (subst (All (IsVisited a order p)) at each)) in
          subst (λ set. ShowsRow a order (set_of (sets_in register)) p set (get_or rows.items i d)) (sym at) (subst (ShowsRow a order (set_of (sets_in register)) p old) (sym early) there)

-- the table, where each set has a row
pub finished : (a : Automaton) (order : List ℕ) (root : ℕ) (b : Builder) → IsBuilding a order b → BeginsWith root b → length b.rows.items ≡ length (sets_in b.register) → IsWhole (record { sets = b.register.sets; rows = b.rows }) × IsTable a order root (record { sets = b.register.sets; rows = b.rows })
finished a order root b is begins full = (
  record { rows = full ∙ size; some = subst (λ n. 0 < n) size begins.some; within = subst (λ n. All (IsWithin n) b.rows.items) size is.within },
  record { first = begins.first; distinct = distinct; shows = is.shows },
)
  where
    size : length (sets_in b.register) ≡ length b.register.sets.items
    size = length-map b.register.sets.items (λ set. set.items)

    distinct : (i j : ℕ) → i < length b.register.sets.items → j < length b.register.sets.items → IsSameSet (set_of (sets_in b.register) i) (set_of (sets_in b.register) j) → i ≡ j
    distinct i j low low' same =
        let first : i < length (sets_in b.register) = omega (arith, size, low) in
        let second : j < length (sets_in b.register) = omega (arith, size, low') in
        let equal : set_of (sets_in b.register) i ≡ set_of (sets_in b.register) j =
        same_rising (set_of (sets_in b.register) i) (set_of (sets_in b.register) j) (All-get_or AreRisingNumbers (sets_in b.register) i [] first is.register.rising) (All-get_or AreRisingNumbers (sets_in b.register) j [] second is.register.rising) same in
        let some : Some i ≡ Some j = sym (is.register.numbered i first) ∙ (ap (number_in b.register) equal ∙ is.register.numbered j second) in
        cc

-- the table at first
one_same : (s : ℕ) (xs : List ℕ) → AreRisingNumbers xs → IsSameSet (s ∷ []) xs → s ∷ [] ≡ xs
one_same s xs rising same = same_rising (s ∷ []) xs ((λ k d low. absurd (omega arith)), tt) rising same

module _ (root : ℕ) (register : Register) (n : ℕ) (is : IsRegister register) (one : Numbers (root ∷ []) [] (sets_in register) n) where
  all_same : (set : List ℕ) → Contains (sets_in register) set → IsSameSet (root ∷ []) set
  all_same set it = All-contains (λ set. IsSameSet (root ∷ []) set) one.adds.more set one.adds.such (subst (λ sets. Contains sets set) one.adds.grown it)

  pub begins_with : (rows : Vec Row) → BeginsWith root (record { register = register; rows = rows })
  begins_with rows =
      let low : 0 < length (sets_in register) = omega (arith, one.below) in
      record {
        some = low;
        first = sym (one_same root (set_of (sets_in register) 0) (All-get_or AreRisingNumbers (sets_in register) 0 [] low is.rising) (all_same (set_of (sets_in register) 0) (Contains-get_or (sets_in register) 0 [] low)));
      }

  pub is_begun : (rows : Vec Row) (a : Automaton) (order : List ℕ) → IsVisited a order Positive root → rows.items ≡ [] → IsBuilding a order (record { register = register; rows = rows })
  is_begun rows a order visited none = record {
    register = is;
    visited = All-contained (IsVisitedSet a order) (sets_in register) (λ set it. (Positive, same_visited a order Positive (root ∷ []) set (All-one (IsVisited a order Positive) root visited) (all_same set it)));
    rows = let e = ap length none in omega arith;
    within = subst (All (IsWithin (length (sets_in register)))) (sym none) (λ k d low. absurd (omega arith));
    shows = λ i d low p each. let e = ap length none in absurd (omega arith);
  }

-- the first set stays
pub begins_kept : (IsSuch : List ℕ → Type 0) (root : ℕ) (b : Builder) (register : Register) (rows : Vec Row) → Adds IsSuch (sets_in b.register) (sets_in register) → BeginsWith root b → BeginsWith root (record { register = register; rows = rows })
begins_kept IsSuch root b register rows adds begins = record {
  some = let more = not_fewer IsSuch (sets_in b.register) (sets_in register) adds in omega (arith, more, begins.some);
  first = set_kept IsSuch (sets_in b.register) (sets_in register) adds 0 begins.some ∙ begins.first;
}
