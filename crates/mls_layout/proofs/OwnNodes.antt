-- The nodes of functions and records.
--     places_low                      places stay low where more trees are planned
--     set_made                        the tree of a set
--     fields_none, fields_next, fields_rising         the fields of a record
--     function_made, record_made      the nodes
--     function_more, record_more      where more trees are planned
--     own_more                        in a longer book
--     function_added, record_added    what is added to the book
--     states_none, states_next        the nodes of one state more
use Rattle.std.proofs.Common.{◌≡◌, ◌⊎◌, inl, inr, ℕ, suc, ◌+◌, ◌<◌, ◌≤◌, List, [], ◌∷◌, ◌++◌, length, take, refl, sym, ap, ◌∙◌, subst, arith, append-nil, append_assoc, length-append, add-one, Option, Some, None}
use Rattle.std.specs.Prelude.{◌↔◌, All, get_or, is_some}
use Rattle.std.specs.Cmp.Lexicographic.{slice_cmp}
use Rattle.std.specs.Ordering.{nat_cmp}
use Rattle.std.specs.declared.cmp.Ordering.TheVariants.{Less}
use Rattle.std.proofs.Math.ListN.{get_or-append}
use Rattle.std.proofs.lemmas.List.{get_or_past, take_more}
use Rattle.std.proofs.lemmas.List.Elements.{All-nil, All-cons, All-head, All-tail, All-append}
use Rattle.mls_book.specs.declared.book.Field.{Field}
use Rattle.mls_book.specs.declared.book.NodeId.{NodeId}
use Rattle.mls_book.specs.declared.book.Node.{Node}
use Rattle.mls_book.specs.declared.book.Node.TheVariants as node
use Rattle.mls_book.specs.Books.{node_at, IsBook, IsOrdered, HasChildrenBelow}
use Rattle.mls_book.specs.Books as books
use Rattle.mls_book.proofs.LongerBooks.{below_or_more}
use Rattle.mls_automaton.specs.declared.automaton.Arms.{Arms}
use Rattle.mls_automaton.specs.declared.automaton.FieldSet.{FieldSet}
use Rattle.mls_automaton.specs.declared.automaton.Head.{Head}
use Rattle.mls_automaton.specs.declared.automaton.Polarity.{Polarity}
use Rattle.mls_automaton.specs.Automata.{Automaton, head_at, opposite, polarity_at}
use Rattle.mls_automaton.specs.Heads as heads
use Rattle.mls_automaton.specs.Models.{HasRisingLabels}
use Rattle.mls_automaton.proofs.Lists.{All-one}
use Rattle.mls_layout.specs.Trees.{IsNodeIn, IsPlaceIn}
use Rattle.mls_layout.specs.steps.Planned.{Planned, Extends, HasTree, end_of}
use Rattle.mls_layout.specs.steps.Sources.{count_if, own_before, own_count}
use Rattle.mls_layout.specs.steps.Owned.{AreFields, IsFunction, IsRecord, AddsFunction, AddsRecord, AddsOwn, HasOwn, AddsStates}
use Rattle.mls_layout.proofs.TreesMade.{book_pushed, last_at}
use Rattle.mls_layout.proofs.PlannedTrees.{end_more, members_low, tree_more}

pub places_low : (place : ℕ → ℕ) (old new : Planned) → Extends old new → ((s : ℕ) → place s < end_of old) → (s : ℕ) → place s < end_of new
places_low place old new longer low s =
    let more : end_of old ≤ end_of new = end_more old new longer in
    let below : place s < end_of old = low s in
    omega (arith, more, below)

-- the members of the tree of a set stand before it
pub set_low : (place : ℕ → ℕ) (set : List ℕ) (members : List NodeId) (n : ℕ) → ((i : ℕ) → IsNodeIn members i ↔ IsPlaceIn place set i) → ((s : ℕ) → place s < n) → All (λ (id : NodeId). id.0 < n) members
set_low place set members n same low = members_low members (IsPlaceIn place set) n same (λ j it. let below : place it.0 < n = low it.0 in let e : place it.0 ≡ j = it.2 in omega (arith, below, e))

module _ (place : ℕ → ℕ) (p : Polarity) where
  -- fields
  pub fields_more : (old new : Planned) → Extends old new → (sets : List FieldSet) (fields : List Field) → AreFields old place p sets fields → AreFields new place p sets fields
  fields_more old new longer [] [] are = tt
  fields_more old new longer [] (field ∷ fields) are = are
  fields_more old new longer (set ∷ sets) [] are = are
  fields_more old new longer (set ∷ sets) (field ∷ fields) are = ((are.0.0, tree_more old new p (IsPlaceIn place set.set) field.node.0 longer are.0.1), fields_more old new longer sets fields are.1)

  fields_pushed : (plan : Planned) (sets : List FieldSet) (fields : List Field) (set : FieldSet) (field : Field) → AreFields plan place p sets fields → field.label ≡ set.label → HasTree plan p (IsPlaceIn place set.set) field.node.0
      → AreFields plan place p (sets ++ set ∷ []) (fields ++ field ∷ [])
  fields_pushed plan [] [] set field are label tree = ((label, tree), tt)
  fields_pushed plan [] (one ∷ fields) set field are label tree = absurd are
  fields_pushed plan (one ∷ sets) [] set field are label tree = absurd are
  fields_pushed plan (one ∷ sets) (other ∷ fields) set field are label tree = (are.0, fields_pushed plan sets fields set field are.1 label tree)

  pub fields_next : (old new : Planned) (sets : List FieldSet) (k : ℕ) (set : FieldSet) (fields more : List Field) (field : Field) → k < length sets → set ≡ get_or sets k set → Extends old new
      → AreFields old place p (take k sets) fields → field.label ≡ set.label → HasTree new p (IsPlaceIn place set.set) field.node.0 → more ≡ fields ++ field ∷ [] → AreFields new place p (take (k + 1) sets) more
  fields_next old new sets k set fields more field low is longer are label tree pushed =
      subst (λ (ss : List FieldSet). AreFields new place p ss more) (sym (take_more sets k set low ∙ ap (λ (s : FieldSet). take k sets ++ s ∷ []) (sym is)))
      (subst (AreFields new place p (take k sets ++ set ∷ [])) (sym pushed)
      (fields_pushed new (take k sets) fields set field (fields_more old new longer (take k sets) fields are) label tree))

  fields_behind : (plan : Planned) (label : List ℕ) (sets : List FieldSet) (fields : List Field) → AreFields plan place p sets fields → All (λ (later : FieldSet). slice_cmp nat_cmp label later.label ≡ Less) sets
      → All (λ (later : Field). slice_cmp nat_cmp label later.label ≡ Less) fields
  fields_behind plan label [] [] are all = All-nil (λ (later : Field). slice_cmp nat_cmp label later.label ≡ Less)
  fields_behind plan label [] (field ∷ fields) are all = absurd are
  fields_behind plan label (set ∷ sets) [] are all = absurd are
  fields_behind plan label (set ∷ sets) (field ∷ fields) are all =
      All-cons (λ (later : Field). slice_cmp nat_cmp label later.label ≡ Less) field fields
      (subst (λ l. slice_cmp nat_cmp label l ≡ Less) (sym are.0.0) (All-head (λ (later : FieldSet). slice_cmp nat_cmp label later.label ≡ Less) set sets all))
      (fields_behind plan label sets fields are.1 (All-tail (λ (later : FieldSet). slice_cmp nat_cmp label later.label ≡ Less) set sets all))

  pub fields_rising : (plan : Planned) (sets : List FieldSet) (fields : List Field) → AreFields plan place p sets fields → heads.AreRising sets → books.AreRising fields
  fields_rising plan [] [] are rising = tt
  fields_rising plan [] (field ∷ fields) are rising = absurd are
  fields_rising plan (set ∷ sets) [] are rising = absurd are
  fields_rising plan (set ∷ sets) (field ∷ fields) are rising = (
    subst (λ l. All (λ (later : Field). slice_cmp nat_cmp l later.label ≡ Less) fields) (sym are.0.0) (fields_behind plan set.label sets fields are.1 rising.0),
    fields_rising plan sets fields are.1 rising.1,
  )

  fields_low : (plan : Planned) (sets : List FieldSet) (fields : List Field) → AreFields plan place p sets fields → All (λ (field : Field). field.node.0 < end_of plan) fields
  fields_low plan [] [] are = All-nil (λ (field : Field). field.node.0 < end_of plan)
  fields_low plan [] (field ∷ fields) are = absurd are
  fields_low plan (set ∷ sets) [] are = absurd are
  fields_low plan (set ∷ sets) (field ∷ fields) are = All-cons (λ (f : Field). f.node.0 < end_of plan) field fields are.0.1.low (fields_low plan sets fields are.1)

  -- the nodes
  pub function_made : (old new : Planned) → Extends old new → (arms : Arms) (from to : NodeId) (book more : List Node) → HasTree old (opposite p) (IsPlaceIn place arms.domain) from.0 → HasTree new p (IsPlaceIn place arms.codomain) to.0
      → more ≡ book ++ node.Arrow from to ∷ [] → AddsFunction new place p (Some arms) book more
  function_made old new longer arms from to book more domain codomain is = (
    node.Arrow from to,
    is,
    record { from = from; to = to; is = refl; domain = tree_more old new (opposite p) (IsPlaceIn place arms.domain) from.0 longer domain; codomain = codomain },
  )

  pub record_made : (plan : Planned) (sets : List FieldSet) (fields : List Field) (book more : List Node) → AreFields plan place p sets fields → more ≡ book ++ node.Rcd fields ∷ [] → AddsRecord plan place p (Some sets) book more
  record_made plan sets fields book more are is = (node.Rcd fields, is, record { fields = fields; is = refl; are = are })

  -- where more trees are planned
  module _ (old new : Planned) (longer : Extends old new) where
    is_function_more : (arms : Arms) (n : Node) → IsFunction old place p arms n → IsFunction new place p arms n
    is_function_more arms n it = record {
      from = it.from;
      to = it.to;
      is = it.is;
      domain = tree_more old new (opposite p) (IsPlaceIn place arms.domain) it.from.0 longer it.domain;
      codomain = tree_more old new p (IsPlaceIn place arms.codomain) it.to.0 longer it.codomain;
    }

    is_record_more : (sets : List FieldSet) (n : Node) → IsRecord old place p sets n → IsRecord new place p sets n
    is_record_more sets n it = record { fields = it.fields; is = it.is; are = fields_more old new longer sets it.fields it.are }

    pub function_more : (f : Option Arms) (book more : List Node) → AddsFunction old place p f book more → AddsFunction new place p f book more
    function_more None book more it = it
    function_more (Some arms) book more it = (it.0, it.1, is_function_more arms it.0 it.2)

    -- in a longer book
    pub own_more : (h : Head) (book more : List Node) (first : ℕ) → HasOwn old place p h book first → HasOwn new place p h (book ++ more) first
    own_more h book more first it = record {
      function = λ arms has.
          let f = it.function arms has in
          subst (IsFunction new place p arms) (sym (kept first (node.Arrow f.from f.to) f.is (λ e. cc))) (is_function_more arms (node_at book first) f);
      fields = λ sets has.
          let r = it.fields sets has in
          subst (IsRecord new place p sets) (sym (kept (first + count_if (is_some h.function)) (node.Rcd r.fields) r.is (λ e. cc)))
          (is_record_more sets (node_at book (first + count_if (is_some h.function))) r);
    }
      where
        kept : (i : ℕ) (n : Node) → node_at book i ≡ n → (node.Bot ≡ n → ⊥) → node_at (book ++ more) i ≡ node_at book i
        kept i n e other = go (below_or_more i (length book))
          where
            go : (i < length book) ⊎ ((j : ℕ) × (i ≡ length book + j)) → node_at (book ++ more) i ≡ node_at book i
            go (inl low) = get_or-append book more node.Bot i low
            go (inr (j, is)) = absurd (other (sym (get_or_past book i node.Bot (omega (arith, is))) ∙ e))

  -- what is added to the book
  record Added (plan : Planned) (n : ℕ) (book new : List Node) : Type 0 where
    more : List Node
    longer : new ≡ book ++ more
    size : length more ≡ n
    low : All (HasChildrenBelow (end_of plan)) more
    is_book : IsBook book → IsBook new

  added_one : (plan : Planned) (n : Node) (book new : List Node) → new ≡ book ++ n ∷ [] → HasChildrenBelow (end_of plan) n → IsOrdered (length book) n → Added plan 1 book new
  added_one plan n book new is low ordered = record {
    more = n ∷ [];
    longer = is;
    size = refl;
    low = All-one (HasChildrenBelow (end_of plan)) n low;
    is_book = λ is_book. subst IsBook (sym is) (book_pushed book n is_book ordered);
  }

  added_none : (plan : Planned) (book new : List Node) → new ≡ book → Added plan 0 book new
  added_none plan book new is = record {
    more = [];
    longer = is ∙ sym (append-nil book);
    size = refl;
    low = All-nil (HasChildrenBelow (end_of plan));
    is_book = λ is_book. subst IsBook (sym is) is_book;
  }

  function_added : (plan : Planned) (f : Option Arms) (book new : List Node) → AddsFunction plan place p f book new → Added plan (count_if (is_some f)) book new
  function_added plan None book new it = added_none plan book new it
  function_added plan (Some arms) book new it =
      let f = it.2 in
      added_one plan it.0 book new it.1 (subst (HasChildrenBelow (end_of plan)) (sym f.is) (f.domain.low, f.codomain.low)) (subst (IsOrdered (length book)) (sym f.is) tt)

  record_added : (plan : Planned) (o : Option (List FieldSet)) (book new : List Node) → HasRisingLabels o → AddsRecord plan place p o book new → Added plan (count_if (is_some o)) book new
  record_added plan None book new rising it = added_none plan book new it
  record_added plan (Some sets) book new rising it =
      let r = it.2 in
      added_one plan it.0 book new it.1 (subst (HasChildrenBelow (end_of plan)) (sym r.is) (fields_low plan sets r.fields r.are))
      (subst (IsOrdered (length book)) (sym r.is) (fields_rising plan sets r.fields r.are rising))

  -- the nodes of a head
  record AddedOwn (plan : Planned) (h : Head) (book new : List Node) : Type 0 where
    all : Added plan (own_count h) book new
    own : HasOwn plan place p h new (length book)

  own_added : (plan : Planned) (h : Head) (book new : List Node) → HasRisingLabels h.fields → AddsOwn plan place p h book new → AddedOwn plan h book new
  own_added plan h book new rising it = record {
    all = record {
      more = f.more ++ r.more;
      longer = r.longer ∙ (ap (λ (b : List Node). b ++ r.more) f.longer ∙ append_assoc book f.more r.more);
      size =
          let one : length f.more ≡ count_if (is_some h.function) = f.size in
          let two : length r.more ≡ count_if (is_some h.fields) = r.size in
          let all : length (f.more ++ r.more) ≡ length f.more + length r.more = length-append f.more r.more in
          omega (arith, one, two, all);
      low = All-append (HasChildrenBelow (end_of plan)) f.more r.more f.low r.low;
      is_book = λ is. r.is_book (f.is_book is);
    };
    own = record {
      function = λ arms has. at_function arms (subst (λ o. AddsFunction plan place p o book it.between) has it.function);
      fields = λ sets has. at_record sets (subst (λ o. AddsRecord plan place p o it.between new) has it.fields);
    };
  }
    where
      f : Added plan (count_if (is_some h.function)) book it.between
      f = function_added plan h.function book it.between it.function

      r : Added plan (count_if (is_some h.fields)) it.between new
      r = record_added plan h.fields it.between new rising it.fields

      at_function : (arms : Arms) → AddsFunction plan place p (Some arms) book it.between → IsFunction plan place p arms (node_at new (length book))
      at_function arms (n, is, fun) =
          let all : length it.between ≡ length book + 1 = ap length is ∙ length-append book (n ∷ []) in
          let at : node_at new (length book) ≡ n =
          ap (λ (b : List Node). node_at b (length book)) r.longer ∙ (get_or-append it.between r.more node.Bot (length book) (omega (arith, all))
          ∙ (ap (λ (b : List Node). node_at b (length book)) is ∙ last_at book n)) in
          subst (IsFunction plan place p arms) (sym at) fun

      at_record : (sets : List FieldSet) → AddsRecord plan place p (Some sets) it.between new → IsRecord plan place p sets (node_at new (length book + count_if (is_some h.function)))
      at_record sets (n, is, rcd) =
          let all : length it.between ≡ length book + length f.more = ap length f.longer ∙ length-append book f.more in
          let one : length f.more ≡ count_if (is_some h.function) = f.size in
          let same : length it.between ≡ length book + count_if (is_some h.function) = omega (arith, all, one) in
          let at : node_at new (length book + count_if (is_some h.function)) ≡ n = ap (node_at new) (sym same) ∙ (ap (λ (b : List Node). node_at b (length it.between)) is ∙ last_at it.between n) in
          subst (IsRecord plan place p sets) (sym at) rcd

-- children below a number are below a higher one
pub children_more : (n m : ℕ) → n ≤ m → (x : Node) → HasChildrenBelow n x → HasChildrenBelow m x
children_more n m le node.Bot h = tt
children_more n m le node.Top h = tt
children_more n m le (node.Var x) h = tt
children_more n m le node.Bool h = tt
children_more n m le node.Int h = tt
children_more n m le (node.Arrow j k) h = let one : j.0 < n = h.0 in let two : k.0 < n = h.1 in (omega (arith, one, le), omega (arith, two, le))
children_more n m le (node.Rcd fields) h = λ i d low. let one : (get_or fields i d).node.0 < n = h i d low in omega (arith, one, le)
children_more n m le (node.Join j k) h = let one : j.0 < n = h.0 in let two : k.0 < n = h.1 in (omega (arith, one, le), omega (arith, two, le))
children_more n m le (node.Meet j k) h = let one : j.0 < n = h.0 in let two : k.0 < n = h.1 in (omega (arith, one, le), omega (arith, two, le))

pub all_children_more : (n m : ℕ) → n ≤ m → (xs : List Node) → All (HasChildrenBelow n) xs → All (HasChildrenBelow m) xs
all_children_more n m le xs all k d low = children_more n m le (get_or xs k d) (all k d low)

-- one state more
module _ (place : ℕ → ℕ) (a : Automaton) where
  pub states_none : (plan : Planned) (book : List Node) → AddsStates plan place a 0 book book
  states_none plan book = record {
    more = [];
    longer = sym (append-nil book);
    size = omega arith;
    is_book = λ is. is;
    low = All-nil (HasChildrenBelow (end_of plan));
    own = λ s low. absurd (omega (arith, low));
  }

  pub states_next : (plan next : Planned) (n : ℕ) (old now new : List Node) → Extends plan next → HasRisingLabels (head_at a n).fields → AddsStates plan place a n old now
      → AddsOwn next place (polarity_at a n) (head_at a n) now new → AddsStates next place a (n + 1) old new
  states_next plan next n old now new longer rising it own = subst (λ k. AddsStates next place a k old new) (sym (add-one n)) (record {
    more = it.more ++ added.all.more;
    longer = added.all.longer ∙ (ap (λ (b : List Node). b ++ added.all.more) it.longer ∙ append_assoc old it.more added.all.more);
    size =
        let first : length now ≡ length old + own_before a n = it.size in
        let more : length added.all.more ≡ own_count (head_at a n) = added.all.size in
        let all : length new ≡ length now + length added.all.more = ap length added.all.longer ∙ length-append now added.all.more in
        omega (arith, first, more, all);
    is_book = λ is. added.all.is_book (it.is_book is);
    low =
        All-append (HasChildrenBelow (end_of next)) it.more added.all.more
        (all_children_more (end_of plan) (end_of next) (end_more plan next longer) it.more it.low) added.all.low;
    own = λ s low. go s low (below_or_more s n);
  })
    where
      added : AddedOwn place (polarity_at a n) next (head_at a n) now new
      added = own_added place (polarity_at a n) next (head_at a n) now new rising own

      go : (s : ℕ) → s < suc n → (s < n) ⊎ ((j : ℕ) × (s ≡ n + j)) → HasOwn next place (polarity_at a s) (head_at a s) new (length old + own_before a s)
      go s low (inl before) =
          subst (λ (b : List Node). HasOwn next place (polarity_at a s) (head_at a s) b (length old + own_before a s)) (sym added.all.longer)
          (own_more place (polarity_at a s) plan next longer (head_at a s) now added.all.more (length old + own_before a s) (it.own s before))
      go s low (inr (j, e)) =
          let same : n ≡ s = omega (arith, low, e) in
          subst (λ k. HasOwn next place (polarity_at a k) (head_at a k) new (length old + own_before a k)) same
          (subst (HasOwn next place (polarity_at a n) (head_at a n) new) it.size added.own)
