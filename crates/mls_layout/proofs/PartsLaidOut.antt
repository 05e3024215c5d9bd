-- A part that is laid out: its leaves, then the functions and records, and then the planned trees.
--     trees_closed        trees name nodes that are there
--     closed_with         a closed book with trees behind it is closed
--     leaves_book         the leaves keep it a book
--     closed_made         the book is closed
--     places_below        places stand before the end of what is planned
--     known_below         the known nodes stand before the trees
--     layout_made         the layout of the part
--     own_parts           its own nodes are parts of heads
--     laid_out            the part is laid out
use Rattle.std.proofs.Common.{◌≡◌, ◌⊎◌, inl, inr, ℕ, ◌+◌, ◌<◌, ◌≤◌, true, false, Some, None, List, [], ◌∷◌, ◌++◌, length, sym, ap, ◌∙◌, subst, arith, append_assoc, length-append}
use Rattle.std.specs.Prelude.{◌↔◌, All, Contains, get_or}
use Rattle.std.proofs.lemmas.List.{get_or_default, get_or_past, get_or-append-add}
use Rattle.std.proofs.lemmas.List.Elements.{All-cons, All-append}
use Rattle.mls_book.specs.declared.book.NodeId.{NodeId}
use Rattle.mls_book.specs.declared.book.Node.{Node}
use Rattle.mls_book.specs.declared.book.Node.TheVariants as node
use Rattle.mls_book.specs.Books.{node_at, IsBook, IsOrdered, IsClosedBook, HasChildrenBelow}
use Rattle.mls_book.specs.Books as books
use Rattle.mls_book.proofs.LongerBooks.{below_or_more}
use Rattle.mls_automaton.specs.declared.automaton.Head.{Head}
use Rattle.mls_automaton.specs.declared.automaton.State.{State}
use Rattle.mls_automaton.specs.declared.automaton.Polarity.{Polarity}
use Rattle.mls_automaton.specs.declared.automaton.Polarity.TheVariants.{Positive, Negative}
use Rattle.mls_automaton.specs.declared.scheme.Scheme.{Scheme}
use Rattle.mls_automaton.specs.Automata.{Automaton, HasFlow, empty_head, flow, head_at, polarity_at}
use Rattle.mls_automaton.specs.Models.{IsClosed}
use Rattle.mls_solver.specs.Rooms.{Room, Holds, HoldsJust}
use Rattle.mls_subsume.specs.declared.verdict.StatePair.{StatePair}
use Rattle.mls_subsume.specs.Walks.{IsIn}
use Rattle.mls_layout.specs.declared.layout.Places.{Places}
use Rattle.mls_layout.specs.declared.layout.leaves.Leaves.{Leaves}
use Rattle.mls_layout.specs.declared.layout.numbers.Owned.{Owned}
use Rattle.mls_layout.specs.declared.layout.sources.Sources.{Sources}
use Rattle.mls_layout.specs.Trees.{IsTree, IsNodeIn, IsOfTree}
use Rattle.mls_layout.specs.Layouts.{IsTypeLayout, Enters, IsLayout}
use Rattle.mls_layout.specs.Parts.{IsRelatedIn, IsLaidOut}
use Rattle.mls_layout.specs.LaidOut.{place_of, HasOwnParts, LaysOut}
use Rattle.mls_layout.specs.steps.Planned.{Planned, Extends, HasTree, AddsPlanned, end_of}
use Rattle.mls_layout.specs.steps.Sources.{AddsLeaves, AreParted, ArePartners, AreBelow, IsEntering, IsPlaced, IsValued, head_parts, own_before, parts_in}
use Rattle.mls_layout.specs.steps.OwnNumbers.{AreOwned, function_at, record_at}
use Rattle.mls_layout.specs.steps.Owned.{HaveTrees, AddsStates}
use Rattle.mls_layout.proofs.TreesMade.{book_pushed, tree_same}
use Rattle.mls_layout.proofs.LongerLayouts.{type_kept}
use Rattle.mls_layout.proofs.WorkedParts.{nothing, empty_tree}
use Rattle.mls_layout.proofs.PlannedTrees.{extends_then, planned_is, tree_more}
use Rattle.mls_layout.proofs.KnownNodes.{sources_below}
use Rattle.mls_layout.proofs.OwnNodes.{all_children_more}
use Rattle.mls_layout.proofs.HeadParts.{numbers, in_numbers, there_if, boolean_in, integer_in, own_function, own_record}
use Rattle.mls_layout.proofs.LaidHeads.{boolean_at, heads_made, integer_at, nothing_at, past_place, past_state}

-- a node of a tree names nodes before it
tree_children : (i n : ℕ) (x : Node) → i < n → IsOfTree x → IsOrdered i x → HasChildrenBelow n x
tree_children i n node.Bot low is ordered = tt
tree_children i n node.Top low is ordered = tt
tree_children i n (node.Var x) low is ordered = absurd is
tree_children i n node.Bool low is ordered = absurd is
tree_children i n node.Int low is ordered = absurd is
tree_children i n (node.Arrow j k) low is ordered = absurd is
tree_children i n (node.Rcd fields) low is ordered = absurd is
tree_children i n (node.Join j k) low is ordered = let one : j.0 < i = ordered.0 in let two : k.0 < i = ordered.1 in (omega (arith, one, low), omega (arith, two, low))
tree_children i n (node.Meet j k) low is ordered = let one : j.0 < i = ordered.0 in let two : k.0 < i = ordered.1 in (omega (arith, one, low), omega (arith, two, low))

-- the trees behind a book name nodes that are there
pub trees_closed : (nodes more : List Node) → IsBook (nodes ++ more) → All IsOfTree more → All (HasChildrenBelow (length (nodes ++ more))) more
trees_closed nodes more book are k d low =
    let all : length (nodes ++ more) ≡ length nodes + length more = length-append nodes more in
    tree_children (length nodes + k) (length (nodes ++ more)) (get_or more k d) (omega (arith, all, low)) (are k d low)
    (subst (IsOrdered (length nodes + k)) (get_or-append-add nodes more k node.Bot ∙ get_or_default more k node.Bot d low) (book (length nodes + k)))

-- a closed book with trees behind it is closed
pub closed_with : (nodes more : List Node) → IsClosedBook nodes → IsBook (nodes ++ more) → All IsOfTree more → IsClosedBook (nodes ++ more)
closed_with nodes more closed book are =
    let all : length (nodes ++ more) ≡ length nodes + length more = length-append nodes more in
    record {
      book = book;
      closed =
          All-append (HasChildrenBelow (length (nodes ++ more))) nodes more
          (all_children_more (length nodes) (length (nodes ++ more)) (omega (arith, all)) nodes closed.closed)
          (trees_closed nodes more book are);
    }

-- the leaves keep it a book
pub leaves_book : (old : List Node) → IsBook old → IsBook (old ++ node.Bool ∷ node.Int ∷ node.Bot ∷ [])
leaves_book old book =
    let one = book_pushed old node.Bool book tt in
    let two = book_pushed (old ++ node.Bool ∷ []) node.Int one tt in
    let three = book_pushed ((old ++ node.Bool ∷ []) ++ node.Int ∷ []) node.Bot two tt in
    subst IsBook (append_assoc (old ++ node.Bool ∷ []) (node.Int ∷ []) (node.Bot ∷ []) ∙ append_assoc old (node.Bool ∷ []) (node.Int ∷ node.Bot ∷ [])) three

-- only a state that is there is negative
pub negative_inside : (a : Automaton) (n : ℕ) → polarity_at a n ≡ Negative → n < length a.states
negative_inside a n is = go (below_or_more n (length a.states))
  where
    go : (n < length a.states) ⊎ ((j : ℕ) × (n ≡ length a.states + j)) → n < length a.states
    go (inl low) = low
    go (inr (j, e)) = let same : Positive ≡ Negative = sym (ap (λ (s : State). s.polarity) (past_state a n (omega (arith, e)))) ∙ is in absurd (cc)

-- the places of states that have trees, and of those past the end
pub places_below : (plan : Planned) (sign : ℕ → Polarity) (M : ℕ → ℕ → Type 0) (n : ℕ) (places : Places) → HaveTrees plan sign M n places.nodes → places.past.0 < end_of plan → (s : ℕ) → place_of places s < end_of plan
places_below plan sign M n places trees past s = go (below_or_more s n)
  where
    go : (s < n) ⊎ ((j : ℕ) × (s ≡ n + j)) → place_of places s < end_of plan
    go (inl low) = (trees.tree s low places.past).low
    go (inr (j, e)) =
        let all : length places.nodes ≡ n = trees.size in
        let same : place_of places s ≡ places.past.0 = ap (λ (id : NodeId). id.0) (get_or_past places.nodes s places.past (omega (arith, all, e))) in
        omega (arith, past, same)

-- the place of numbers past the end
pub past_below : (sources : Sources) (start : ℕ) (plan : Planned) (places : Places) → AreBelow sources start → plan.start ≡ start → places.past ≡ sources.nothing → places.past.0 < end_of plan
past_below sources start plan places below starts past =
    let low : sources.nothing.0 < start = below.nothing in
    let same : places.past.0 ≡ sources.nothing.0 = ap (λ (id : NodeId). id.0) past in
    omega (arith, low, same, starts)

-- the known nodes stand before the trees
pub known_below : (old one : List Node) (a : Automaton) (leaves : Leaves) (sources : Sources) (pairs : List StatePair) (type_place : ℕ → ℕ) (start : ℕ) → ((s : ℕ) → type_place s < length old) → AddsLeaves old one leaves
    → AreParted a leaves (length one) (length a.states) start sources.parts → ArePartners pairs type_place (length a.states) sources.partners.items → sources.nothing ≡ leaves.nothing → AreBelow sources start
known_below old one a leaves sources pairs type_place start types_low leaved parted partnered unnamed =
    let size : length one ≡ length old + 3 = ap length leaved.longer ∙ length-append old (node.Bool ∷ node.Int ∷ node.Bot ∷ []) in
    sources_below a leaves (length one) (length a.states) start pairs type_place sources parted partnered unnamed
    (let is : leaves.boolean.0 ≡ length old = leaved.boolean in omega (arith, is, size))
    (let is : leaves.integer.0 ≡ length old + 1 = leaved.integer in omega (arith, is, size))
    (let is : leaves.nothing.0 ≡ length old + 2 = leaved.nothing in omega (arith, is, size))
    (λ s. let low : type_place s < length old = types_low s in omega (arith, low, size))

module _ (old one two new : List Node) (a : Automaton) (leaves : Leaves) (sources : Sources) (found : Room) (pairs : List StatePair) (type_place : ℕ → ℕ) (start : ℕ) (first second plan : Planned) (values places : Places)
    (closed_old : IsClosedBook old) (closed : IsClosed a) (types_low : (s : ℕ) → type_place s < length old) (leaved : AddsLeaves old one leaves)
    (parted : AreParted a leaves (length one) (length a.states) start sources.parts) (partnered : ArePartners pairs type_place (length a.states) sources.partners.items) (unnamed : sources.nothing ≡ leaves.nothing)
    (starts : first.start ≡ start) (valued : HaveTrees first (λ s. Positive) (λ s. IsEntering a (Holds found) sources (polarity_at a s) s) (length a.states) values.nodes) (values_past : values.past ≡ sources.nothing)
    (longer : Extends first second) (placed : HaveTrees second (polarity_at a) (λ s. IsPlaced a sources (place_of values) (polarity_at a s) s) (length a.states) places.nodes) (places_past : places.past ≡ sources.nothing)
    (longest : Extends second plan) (owned : AddsStates plan (place_of places) a (length a.states) one two) (planned : AddsPlanned plan two new) where
  abbrev N : ℕ
  N = length a.states

  abbrev more : List Node
  more = node.Bool ∷ node.Int ∷ node.Bot ∷ (owned.more ++ planned.more)

  abbrev place : ℕ → ℕ
  place = place_of places

  abbrev value : ℕ → ℕ
  value = place_of values

  abbrev parts : ℕ → List ℕ
  parts s = numbers (parts_in sources s)

  pub all_longer : new ≡ old ++ more
  all_longer =
      planned.longer
      ∙ (ap (λ (b : List Node). b ++ planned.more) owned.longer
      ∙ (append_assoc one owned.more planned.more
      ∙ (ap (λ (b : List Node). b ++ (owned.more ++ planned.more)) leaved.longer ∙ append_assoc old (node.Bool ∷ node.Int ∷ node.Bot ∷ []) (owned.more ++ planned.more))))

  start_within : start ≤ length new
  start_within =
      let is : plan.start ≡ start = longest.start ∙ (longer.start ∙ starts) in
      let all : length new ≡ end_of plan = planned.size in
      omega (arith, is, all)

  -- the book
  book_one : IsBook one
  book_one = subst IsBook (sym leaved.longer) (leaves_book old closed_old.book)

  book_two : IsBook two
  book_two = owned.is_book book_one

  book_new : IsBook new
  book_new = planned.is_book book_two

  closed_new : books.IsClosed new
  closed_new = subst (All (HasChildrenBelow (length new))) (sym all_longer) (All-append (HasChildrenBelow (length new)) old more olds (All-cons (HasChildrenBelow (length new)) node.Bool (node.Int ∷ node.Bot ∷ (owned.more ++ planned.more)) tt
      (All-cons (HasChildrenBelow (length new)) node.Int (node.Bot ∷ (owned.more ++ planned.more)) tt
      (All-cons (HasChildrenBelow (length new)) node.Bot (owned.more ++ planned.more) tt
      (All-append (HasChildrenBelow (length new)) owned.more planned.more owns trees)))))
    where
      olds : All (HasChildrenBelow (length new)) old
      olds =
          let all : length new ≡ length old + length more = ap length all_longer ∙ length-append old more in
          all_children_more (length old) (length new) (omega (arith, all)) old closed_old.closed

      owns : All (HasChildrenBelow (length new)) owned.more
      owns = subst (λ n. All (HasChildrenBelow n) owned.more) (sym planned.size) owned.low

      trees : All (HasChildrenBelow (length new)) planned.more
      trees =
          subst (λ (b : List Node). All (HasChildrenBelow (length b)) planned.more) (sym planned.longer)
          (trees_closed two planned.more (subst IsBook planned.longer book_new) planned.are)

  pub closed_made : IsClosedBook new
  closed_made = record { book = book_new; closed = closed_new }

  -- the leaves
  is_boolean : node_at new leaves.boolean.0 ≡ node.Bool
  is_boolean = boolean_at old one new (owned.more ++ planned.more) leaves leaved all_longer

  is_integer : node_at new leaves.integer.0 ≡ node.Int
  is_integer = integer_at old one new (owned.more ++ planned.more) leaves leaved all_longer

  is_nothing : node_at new leaves.nothing.0 ≡ node.Bot
  is_nothing = nothing_at old one new (owned.more ++ planned.more) leaves leaved all_longer

  below : AreBelow sources start
  below = known_below old one a leaves sources pairs type_place start types_low leaved parted partnered unnamed

  nothing_within : sources.nothing.0 < length new
  nothing_within = let low : sources.nothing.0 < start = below.nothing in let le : start ≤ length new = start_within in omega (arith, low, le)

  -- the trees
  abbrev Stands : Polarity → (ℕ → Type 0) → ℕ → Type 0
  Stands p M i = (i < length new) × IsTree new p M i

  stands : (p : Polarity) (M : ℕ → Type 0) (i : ℕ) → HasTree plan p M i → Stands p M i
  stands p M i it = planned_is plan two new book_two planned p M i it

  value_stands : (n : ℕ) → n < N → Stands Positive (IsEntering a (Holds found) sources (polarity_at a n) n) (value n)
  value_stands n low =
      stands Positive (IsEntering a (Holds found) sources (polarity_at a n) n) (value n)
      (tree_more first plan Positive (IsEntering a (Holds found) sources (polarity_at a n) n) (value n) (extends_then first second plan longer longest) (valued.tree n low values.past))

  place_stands : (s : ℕ) → s < N → Stands (polarity_at a s) (IsPlaced a sources value (polarity_at a s) s) (place s)
  place_stands s low =
      stands (polarity_at a s) (IsPlaced a sources value (polarity_at a s) s) (place s)
      (tree_more second plan (polarity_at a s) (IsPlaced a sources value (polarity_at a s) s) (place s) longest (placed.tree s low places.past))

  -- all places are there
  value_low : (n : ℕ) → value n < length new
  value_low n = go (below_or_more n (length a.states))
    where
      go : (n < length a.states) ⊎ ((j : ℕ) × (n ≡ length a.states + j)) → value n < length new
      go (inl low) = (value_stands n low).0
      go (inr (j, e)) = subst (λ k. k < length new) (sym (past_place values N sources.nothing valued.size values_past n (omega (arith, e)))) nothing_within

  place_low : (s : ℕ) → place s < length new
  place_low s = go (below_or_more s (length a.states))
    where
      go : (s < length a.states) ⊎ ((j : ℕ) × (s ≡ length a.states + j)) → place s < length new
      go (inl low) = (place_stands s low).0
      go (inr (j, e)) = subst (λ k. k < length new) (sym (past_place places N sources.nothing placed.size places_past s (omega (arith, e)))) nothing_within

  past_parts : (s : ℕ) → N ≤ s → parts_in sources s ≡ []
  past_parts s le = get_or_past sources.parts s [] (let all : length sources.parts ≡ length a.states = parted.size in omega (arith, all, le))

  -- the members of trees, in the words of layouts
  placed_same : (s : ℕ) (Rest : ℕ → Type 0) (i : ℕ) → (IsNodeIn (parts_in sources s) i ⊎ Rest i) ↔ (Contains (parts s) i ⊎ Rest i)
  placed_same s Rest i = (
    λ it. elim it [ inl part ↦ inl ((in_numbers (parts_in sources s) i).0 part) | inr rest ↦ inr rest ],
    λ it. elim it [ inl part ↦ inl ((in_numbers (parts_in sources s) i).1 part) | inr rest ↦ inr rest ],
  )

  positive_made : (q : ℕ) → polarity_at a q ≡ Positive → IsTree new Positive (λ i. Contains (parts q) i ⊎ ((n : ℕ) × HasFlow a n q × (value n ≡ i))) (place q)
  positive_made q is = go (below_or_more q (length a.states))
    where
      Valued : ℕ → Type 0
      Valued i = (n : ℕ) × HasFlow a n q × (value n ≡ i)

      go : (q < length a.states) ⊎ ((j : ℕ) × (q ≡ length a.states + j)) → IsTree new Positive (λ i. Contains (parts q) i ⊎ ((n : ℕ) × HasFlow a n q × (value n ≡ i))) (place q)
      go (inl low) =
          tree_same new Positive (IsPlaced a sources value Positive q) (λ i. Contains (parts q) i ⊎ ((n : ℕ) × HasFlow a n q × (value n ≡ i))) (placed_same q (IsValued a value Positive q)) (place q)
          (subst (λ (p : Polarity). IsTree new p (IsPlaced a sources value p q) (place q)) is (place_stands q low).1)
      go (inr (j, e)) =
          let le : length a.states ≤ q = omega (arith, e) in
          let at : place q ≡ leaves.nothing.0 = past_place places N sources.nothing placed.size places_past q le ∙ ap (λ (id : NodeId). id.0) unnamed in
          empty_tree new Positive (λ i. Contains (parts q) i ⊎ ((n : ℕ) × HasFlow a n q × (value n ≡ i))) (place q) (subst (λ k. node_at new k ≡ node.Bot) (sym at) is_nothing)
          (λ i it. elim it [
            | inl part ↦ nothing i (subst (λ (ids : List NodeId). Contains (numbers ids) i) (past_parts q le) part)
            | inr w ↦ let inside : q < length a.states = (closed.positive (flow w.0 q) w.1).in_range in absurd (omega (arith, inside, le))
          ])

  negative_made : (n : ℕ) → polarity_at a n ≡ Negative → IsTree new Negative (λ i. Contains (parts n) i ⊎ (value n ≡ i)) (place n)
  negative_made n is =
      tree_same new Negative (IsPlaced a sources value Negative n) (λ i. Contains (parts n) i ⊎ (value n ≡ i)) (placed_same n (IsValued a value Negative n)) (place n)
      (subst (λ (p : Polarity). IsTree new p (IsPlaced a sources value p n) (place n)) is (place_stands n (negative_inside a n is)).1)

  module _ (R : ℕ → ℕ → Type 0) (holds : HoldsJust found R) where
    entering_same : (n : ℕ) → n < N → (i : ℕ) → IsEntering a (Holds found) sources Negative n i ↔ Enters a R (IsIn pairs) parts type_place n i
    entering_same n low i = (to, from)
      where
        edge_low : (k p : ℕ) → HasFlow a k p → k < N
        edge_low k p edge = (closed.negative (flow k p) edge).in_range

        to : IsEntering a (Holds found) sources Negative n i → Enters a R (IsIn pairs) parts type_place n i
        to (inl it) = inl ((partnered.are n low i).0 it)
        to (inr (p, related, inl it)) = inr (inl (p, (holds p n).0 related, (in_numbers (parts_in sources p) i).0 it))
        to (inr (p, related, inr (k, edge, it))) =
            let w = (partnered.are k (edge_low k p edge) i).0 it in
            inr (inr (k, p, w.0, edge, (holds p n).0 related, w.1, w.2))

        from : Enters a R (IsIn pairs) parts type_place n i → IsEntering a (Holds found) sources Negative n i
        from (inl it) = inl ((partnered.are n low i).1 it)
        from (inr (inl (p, related, it))) = inr (p, (holds p n).1 related, inl ((in_numbers (parts_in sources p) i).1 it))
        from (inr (inr (k, p, s, edge, related, it, e))) = inr (p, (holds p n).1 related, inr (k, edge, (partnered.are k (edge_low k p edge) i).1 (s, it, e)))

    values_made : (n : ℕ) → polarity_at a n ≡ Negative → IsTree new Positive (Enters a R (IsIn pairs) parts type_place n) (value n)
    values_made n is =
        let low = negative_inside a n is in
        tree_same new Positive (IsEntering a (Holds found) sources Negative n) (Enters a R (IsIn pairs) parts type_place n) (entering_same n low) (value n)
        (subst (λ (p : Polarity). IsTree new Positive (IsEntering a (Holds found) sources p n) (value n)) is (value_stands n low).1)

    layout_made : (b : Automaton) → IsTypeLayout old b type_place → IsLayout new a b R (IsIn pairs) place type_place
    layout_made b type = record {
      type = subst (λ (nodes : List Node). IsTypeLayout nodes b type_place) (sym all_longer) (type_kept old more closed_old b type_place types_low type);
      parts = parts;
      value = value;
      heads = heads_made a leaves one two new start sources.parts place plan book_two parted owned planned is_boolean is_integer;
      values = values_made;
      positive = positive_made;
      negative = negative_made;
    }

  -- the own nodes of states are parts of their heads
  own_parts : (own : Owned) → AreOwned a (length one) own → HasOwnParts new own leaves.boolean leaves.integer a parts
  own_parts own are = record {
    functions = λ s id found.
        let at : function_at (first_of s) (head_at a s) ≡ Some id = sym (are.functions s) ∙ found in
        by_state s id.0 (own_function leaves (first_of s) (head_at a s) id at) (λ h_is. let none : None ≡ Some id = sym (ap (function_at (first_of s)) h_is) ∙ at in absurd (cc));
    records = λ s id found.
        let at : record_at (first_of s) (head_at a s) ≡ Some id = sym (are.records s) ∙ found in
        by_state s id.0 (own_record leaves (first_of s) (head_at a s) id at) (λ h_is. let none : None ≡ Some id = sym (ap (record_at (first_of s)) h_is) ∙ at in absurd (cc));
    boolean = λ s is.
        by_state s leaves.boolean.0 (boolean_in leaves (first_of s) (head_at a s) leaves.boolean.0 (there_if (head_at a s).boolean leaves.boolean is))
        (λ h_is. let no : false ≡ true = sym (ap (λ (h : Head). h.boolean) h_is) ∙ is in absurd (cc));
    integer = λ s is.
        by_state s leaves.integer.0 (integer_in leaves (first_of s) (head_at a s) leaves.integer.0 (there_if (head_at a s).integer leaves.integer is))
        (λ h_is. let no : false ≡ true = sym (ap (λ (h : Head). h.integer) h_is) ∙ is in absurd (cc));
    is_boolean = is_boolean;
    is_integer = is_integer;
  }
    where
      first_of : ℕ → ℕ
      first_of s = length one + own_before a s

      by_state : (s i : ℕ) → Contains (numbers (head_parts leaves (first_of s) (head_at a s))) i → (head_at a s ≡ empty_head → ⊥) → Contains (parts s) i
      by_state s i it other = go (below_or_more s (length a.states))
        where
          go : (s < length a.states) ⊎ ((j : ℕ) × (s ≡ length a.states + j)) → Contains (parts s) i
          go (inl low) = subst (λ (ids : List NodeId). Contains (numbers ids) i) (sym (parted.are s low)) it
          go (inr (j, e)) = absurd (other (ap (λ (t : State). t.head) (past_state a s (omega (arith, e)))))

  laid_out_here : (goals : List (ℕ × ℕ)) (special : Scheme) → HoldsJust found (IsRelatedIn (record { automaton = a; goals = goals })) → IsTypeLayout old special.automaton type_place
      → IsLaidOut new (record { automaton = a; goals = goals }) special pairs place type_place
  unfolding layout_made
  laid_out_here goals special holds type = record {
    closed = closed_made;
    layout = layout_made (IsRelatedIn (record { automaton = a; goals = goals })) holds special.automaton type;
    parts = λ s i it.
        let low : i < start = below.parts s i ((in_numbers (parts_in sources s) i).1 it) in
        let le : start ≤ length new = start_within in
        omega (arith, low, le);
    values = value_low;
    places = place_low;
    type_places = λ s.
        let low : type_place s < length old = types_low s in
        let all : length new ≡ length old + length more = ap length all_longer ∙ length-append old more in
        omega (arith, low, all);
  }

  pub laid_out : (own : Owned) → AreOwned a (length one) own → LaysOut old a found pairs type_place new place own leaves.boolean leaves.integer
  unfolding layout_made laid_out_here
  laid_out own are = record {
    more = more;
    longer = all_longer;
    closed = closed_made;
    laid_out = λ c special same.
        subst (λ (x : Automaton). HoldsJust found (IsRelatedIn (record { automaton = x; goals = c.goals })) → IsTypeLayout old special.automaton type_place
        → (it : IsLaidOut new (record { automaton = x; goals = c.goals }) special pairs place type_place) × HasOwnParts new own leaves.boolean leaves.integer a it.layout.parts) (sym same)
        (λ holds type. (laid_out_here c.goals special holds type, own_parts own are));
  }
