-- The nodes of a type: variables, leaves, functions and records, and trees.
--     variables_none, variables_next      the variables of edges, one after another
--     variables_low, all_variables, variable_at       where they stand
--     type_members, of_type_low           what a state is the tree of
--     type_below                          the known nodes stand before the trees
--     type_closed, type_places            the book is closed, and has the nodes of all states
--     type_laid_out                       they are a layout of the type
use Rattle.std.proofs.Common.{◌≡◌, ◌⊎◌, inl, inr, ℕ, ◌+◌, ◌<◌, ◌≤◌, List, [], ◌∷◌, ◌++◌, length, refl, sym, ap, ◌∙◌, subst, arith, append-nil, append_assoc, length-append, Contains, Some, slice_get}
use Rattle.std.specs.Prelude.{◌↔◌, All, get_or}
use Rattle.std.proofs.Math.ListN.{get_or-append}
use Rattle.std.proofs.lemmas.List.{get_or_default, get_or_past, get_or_push, get_or-append-add}
use Rattle.std.proofs.lemmas.List.Elements.{All-nil, All-cons, All-append, All-head, All-tail, All-weaker, Contains-append_left, Contains-append_right, Contains-append_cases}
use Rattle.std.proofs.lemmas.Option.{slice_get_within, slice_get-get_or, get_or_from_slice_get}
use Rattle.mls_book.specs.declared.book.NodeId.{NodeId}
use Rattle.mls_book.specs.declared.book.Node.{Node}
use Rattle.mls_book.specs.declared.book.Node.TheVariants as node
use Rattle.mls_book.specs.Books.{node_at, IsBook, IsClosedBook, HasChildrenBelow}
use Rattle.mls_book.specs.Books as books
use Rattle.mls_book.proofs.LongerBooks.{below_or_more}
use Rattle.mls_automaton.specs.declared.automaton.Flow.{Flow}
use Rattle.mls_automaton.specs.declared.automaton.Polarity.{Polarity}
use Rattle.mls_automaton.specs.declared.automaton.Polarity.TheVariants.{Positive}
use Rattle.mls_automaton.specs.declared.automaton.State.{State}
use Rattle.mls_automaton.specs.Automata.{Automaton, flow, polarity_at}
use Rattle.mls_automaton.specs.Models.{IsClosed}
use Rattle.mls_layout.specs.declared.layout.Places.{Places}
use Rattle.mls_layout.specs.declared.layout.leaves.Leaves.{Leaves}
use Rattle.mls_layout.specs.declared.layout.sources.Sources.{Sources}
use Rattle.mls_layout.specs.LaidOut.{HasEnd, IsTypeLaidOut, place_of}
use Rattle.mls_layout.specs.Layouts.{IsTypeLayout}
use Rattle.mls_layout.specs.Trees.{IsNodeIn, IsTree}
use Rattle.mls_layout.specs.Uses.{Shows}
use Rattle.mls_layout.specs.steps.Owned.{HaveTrees, AddsStates}
use Rattle.mls_layout.specs.steps.Planned.{Planned, Extends, AddsPlanned, end_of}
use Rattle.mls_layout.specs.steps.Sources.{AddsLeaves, AreBelow, AreParted, own_before, parts_in, partners_in}
use Rattle.mls_layout.specs.steps.TypeNodes.{AddsSources, AddsVariables, IsOfType}
use Rattle.mls_layout.proofs.HeadParts.{in_numbers, numbers}
use Rattle.mls_layout.proofs.KnownNodes.{parts_below}
use Rattle.mls_layout.proofs.LaidHeads.{boolean_at, heads_made, integer_at, nothing_at, past_place, past_state}
use Rattle.mls_layout.proofs.OwnNodes.{all_children_more}
use Rattle.mls_layout.proofs.PartsLaidOut.{leaves_book, past_below, places_below, trees_closed}
use Rattle.mls_layout.proofs.PlannedTrees.{planned_is, tree_more, trees_more}
use Rattle.mls_layout.proofs.TreesMade.{book_pushed, tree_same}
use Rattle.mls_layout.proofs.WorkedParts.{empty_tree, nothing}

abbrev pub IsVariable : Node → Type 0
IsVariable x = (number : ℕ) × (x ≡ node.Var number)

pub variables_none : (states : ℕ) (flows : List Flow) (from : ℕ) (book : List Node) (lists : List (List NodeId)) → length lists ≡ states → ((s : ℕ) → get_or lists s [] ≡ []) → AddsVariables states flows from 0 book book lists
variables_none states flows from book lists size none = record {
  more = [];
  longer = sym (append-nil book);
  count = refl;
  are = λ k low. absurd (omega (arith, low));
  size = size;
  just = λ s i inside. (
    λ it. absurd (nothing (record { 0 = i }) (subst (λ (ids : List NodeId). IsNodeIn ids i) (none s) it)),
    λ w. absurd (let low : w.0 < 0 = w.1 in omega (arith, low)),
  );
}

-- the list of a state has a node more
abbrev pub AddsTo : List (List NodeId) → List (List NodeId) → ℕ → NodeId → Type 0
AddsTo old new s id = (t i : ℕ) → t < length old → IsNodeIn (get_or new t []) i ↔ IsNodeIn (get_or old t []) i ⊎ ((s ≡ t) × (id.0 ≡ i))

pub variables_next : (states : ℕ) (flows : List Flow) (from n : ℕ) (d : Flow) (old now new : List Node) (first second third : List (List NodeId)) (x : ℕ) (id : NodeId) → AddsVariables states flows from n old now first → n < length flows
    → x ≡ from + n → new ≡ now ++ node.Var x ∷ [] → id.0 ≡ length now → length second ≡ length first → AddsTo first second (get_or flows n d).negative.0 id → length third ≡ length second → AddsTo second third (get_or flows n d).positive.0 id
    → AddsVariables states flows from (n + 1) old new third
variables_next states flows from n d old now new first second third x id it low number is at same adds also more = record {
  more = it.more ++ node.Var x ∷ [];
  longer = is ∙ (ap (λ (b : List Node). b ++ node.Var x ∷ []) it.longer ∙ append_assoc old it.more (node.Var x ∷ []));
  count = let before : length it.more ≡ n = it.count in let all : length (it.more ++ node.Var x ∷ []) ≡ length it.more + 1 = length-append it.more (node.Var x ∷ []) in omega (arith, before, all);
  are = λ k inside. node_is k inside (below_or_more k n);
  size = also ∙ (same ∙ it.size);
  just = λ s i inside. (to s i inside, λ w. from_edge s i inside w.0 w.2 w.3 (below_or_more w.0 n) w.1);
}
  where
    Edges : ℕ → ℕ → ℕ → Type 0
    Edges m s i = (k : ℕ) × (k < m) × HasEnd flows k s × (i ≡ length old + k)

    edge : Flow
    edge = get_or flows n d

    there : slice_get flows n ≡ Some edge
    there = slice_get-get_or flows n d low

    many : length first ≡ states
    many = it.size

    end : length now ≡ length old + n
    end = let before : length it.more ≡ n = it.count in let all : length now ≡ length old + length it.more = ap length it.longer ∙ length-append old it.more in omega (arith, before, all)

    node_is : (k : ℕ) → k < n + 1 → (k < n) ⊎ ((j : ℕ) × (k ≡ n + j)) → get_or (it.more ++ node.Var x ∷ []) k node.Bot ≡ node.Var (from + k)
    node_is k inside (inl before) = let all : length it.more ≡ n = it.count in get_or-append it.more (node.Var x ∷ []) node.Bot k (omega (arith, all, before)) ∙ it.are k before
    node_is k inside (inr (j, e)) =
        let here : n ≡ k = omega (arith, inside, e) in
        get_or_push it.more (node.Var x) node.Bot k (it.count ∙ here) ∙ ap node.Var (number ∙ ap (λ m. from + m) here)

    last : (i : ℕ) → id.0 ≡ i → i ≡ length old + n
    last i e = omega (arith, at, e, end)

    to : (s i : ℕ) → s < states → IsNodeIn (get_or third s []) i → Edges (n + 1) s i
    to s i inside it_is = elim ((more s i (omega (arith, inside, many, same))).0 it_is) [
      | inl before ↦ elim ((adds s i (omega (arith, inside, many))).0 before) [
        | inl old_one ↦ let w = (it.just s i inside).0 old_one in let below : w.0 < n = w.1 in (w.0, omega (arith, below), w.2, w.3)
        | inr e ↦ (n, omega arith, (edge, there, inl e.0), last i e.1)
      ]
      | inr e ↦ (n, omega arith, (edge, there, inr e.0), last i e.1)
    ]

    from_edge : (s i : ℕ) → s < states → (k : ℕ) → HasEnd flows k s → i ≡ length old + k → (k < n) ⊎ ((j : ℕ) × (k ≡ n + j)) → k < n + 1 → IsNodeIn (get_or third s []) i
    from_edge s i inside k ends e (inl before) within = (more s i (omega (arith, inside, many, same))).1 (inl ((adds s i (omega (arith, inside, many))).1 (inl ((it.just s i inside).1 (k, before, ends, e)))))
    from_edge s i inside k (other, found, ends) e (inr (j, past)) within =
        let here : n ≡ k = omega (arith, within, past) in
        let both : Some edge ≡ Some other = sym there ∙ (ap (slice_get flows) here ∙ found) in
        let is_edge : edge ≡ other = cc in
        let is_node : id.0 ≡ i = omega (arith, at, e, end, here) in
        elim ends [
          | inl begins ↦ (more s i (omega (arith, inside, many, same))).1 (inl ((adds s i (omega (arith, inside, many))).1 (inr (ap (λ (f : Flow). f.negative.0) is_edge ∙ begins, is_node))))
          | inr ending ↦ (more s i (omega (arith, inside, many, same))).1 (inr (ap (λ (f : Flow). f.positive.0) is_edge ∙ ending, is_node))
        ]

-- what is added
module _ (states : ℕ) (flows : List Flow) (from n : ℕ) (old new : List Node) (lists : List (List NodeId)) (it : AddsVariables states flows from n old new lists) where
  pub variables_low : (s i : ℕ) → s < states → IsNodeIn (get_or lists s []) i → i < length new
  variables_low s i inside there =
      let w = (it.just s i inside).0 there in
      let below : w.0 < n = w.1 in
      let e : i ≡ length old + w.0 = w.3 in
      let count : length it.more ≡ n = it.count in
      let all : length new ≡ length old + length it.more = ap length it.longer ∙ length-append old it.more in
      omega (arith, below, e, count, all)

  pub all_variables : All IsVariable it.more
  all_variables k d low =
      let count : length it.more ≡ n = it.count in
      (from + k, get_or_default it.more k d node.Bot low ∙ it.are k (omega (arith, low, count)))

  -- they stand in a longer book
  pub variable_at : (rest longer : List Node) → longer ≡ old ++ (it.more ++ rest) → (k : ℕ) → k < n → node_at longer (length old + k) ≡ node.Var (from + k)
  variable_at rest longer is k low =
      let count : length it.more ≡ n = it.count in
      ap (λ (b : List Node). node_at b (length old + k)) is
      ∙ (get_or-append-add old (it.more ++ rest) k node.Bot ∙ (get_or-append it.more rest node.Bot k (omega (arith, low, count)) ∙ it.are k low))

-- what a state is the tree of
pub type_members : (sources : Sources) (s : ℕ) (ids : List NodeId) → ids ≡ parts_in sources s ++ partners_in sources s → (i : ℕ) → IsNodeIn ids i ↔ IsOfType sources s i
type_members sources s ids is i = (
  λ it. Contains-append_cases (parts_in sources s) (partners_in sources s) (record { 0 = i }) (subst (λ (ns : List NodeId). IsNodeIn ns i) is it),
  λ it. subst (λ (ns : List NodeId). IsNodeIn ns i) (sym is) (elim it [
    | inl part ↦ Contains-append_left (parts_in sources s) (partners_in sources s) (record { 0 = i }) part
    | inr variable ↦ Contains-append_right (parts_in sources s) (partners_in sources s) (record { 0 = i }) variable
  ]),
)

pub of_type_low : (sources : Sources) (start end : ℕ) → AreBelow sources start → start ≤ end → (s i : ℕ) → IsOfType sources s i → i < end
of_type_low sources start end below more s i (inl it) = let low : i < start = below.parts s i it in omega (arith, low, more)
of_type_low sources start end below more s i (inr it) = let low : i < start = below.partners s i it in omega (arith, low, more)

-- variables name no node
variable_children : (n : ℕ) (x : Node) → IsVariable x → HasChildrenBelow n x
variable_children n x is = subst (HasChildrenBelow n) (sym is.1) tt

variable_ordered : (n : ℕ) (x : Node) → IsVariable x → books.IsOrdered n x
variable_ordered n x is = subst (books.IsOrdered n) (sym is.1) tt

variables_book : (old more : List Node) → IsBook old → All IsVariable more → IsBook (old ++ more)
variables_book old [] book are = subst IsBook (sym (append-nil old)) book
variables_book old (x ∷ more) book are =
    subst IsBook (append_assoc old (x ∷ []) more)
    (variables_book (old ++ x ∷ []) more (book_pushed old x book (variable_ordered (length old) x (All-head IsVariable x more are))) (All-tail IsVariable x more are))

-- a type that is laid out: variables, leaves, functions and records, and then the planned trees
module _ (old one : List Node) (a : Automaton) (from : ℕ) (sources : Sources) (it : AddsSources a from old one sources) where
  abbrev zero : List Node
  zero = it.between

  abbrev leaves : Leaves
  leaves = it.leaves

  abbrev start : ℕ
  start = sources.end

  varied : AddsVariables (length a.states) a.flows from (length a.flows) old zero sources.partners.items
  varied = it.variables

  leaved : AddsLeaves zero one leaves
  leaved = it.added

  parted : AreParted a leaves (length one) (length a.states) start sources.parts
  parted = it.parts

  all_varied : All IsVariable varied.more
  all_varied = all_variables (length a.states) a.flows from (length a.flows) old zero sources.partners.items varied

  size_one : length one ≡ length zero + 3
  size_one = ap length leaved.longer ∙ length-append zero (node.Bool ∷ node.Int ∷ node.Bot ∷ [])

  pub type_below : AreBelow sources start
  type_below = record {
    parts =
        parts_below a leaves (length one) (length a.states) start sources.parts parted
        (let is : leaves.boolean.0 ≡ length zero = leaved.boolean in omega (arith, is, size_one))
        (let is : leaves.integer.0 ≡ length zero + 1 = leaved.integer in omega (arith, is, size_one));
    partners = λ s i there. partner s i there (below_or_more s (length a.states));
    nothing =
        let same : sources.nothing.0 ≡ leaves.nothing.0 = ap (λ (id : NodeId). id.0) it.nothing in
        let is : leaves.nothing.0 ≡ length zero + 2 = leaved.nothing in
        omega (arith, same, is, size_one, longer);
  }
    where
      longer : length one ≤ start
      longer = let e : start ≡ length one + own_before a (length a.states) = parted.counted in omega (arith, e)

      partner : (s i : ℕ) → IsNodeIn (partners_in sources s) i → (s < length a.states) ⊎ ((j : ℕ) × (s ≡ length a.states + j)) → i < start
      partner s i there (inl low) = let h : i < length zero = variables_low (length a.states) a.flows from (length a.flows) old zero sources.partners.items varied s i low there in omega (arith, h, size_one, longer)
      partner s i there (inr (j, e)) =
          let all : length sources.partners.items ≡ length a.states = varied.size in
          absurd (nothing (record { 0 = i }) (subst (λ (ids : List NodeId). IsNodeIn ids i) (get_or_past sources.partners.items s [] (omega (arith, all, e))) there))

  module _ (first : Planned) (places : Places) (starts : first.start ≡ start) (placed : HaveTrees first (polarity_at a) (IsOfType sources) (length a.states) places.nodes) (past : places.past ≡ sources.nothing) where
    pub first_places : (s : ℕ) → place_of places s < end_of first
    first_places = places_below first (polarity_at a) (IsOfType sources) (length a.states) places placed (past_below sources start first places type_below starts past)

    module _ (two new : List Node) (plan : Planned) (longer : Extends first plan) (owned : AddsStates plan (place_of places) a (length a.states) one two) (planned : AddsPlanned plan two new) where
      pub type_places : (s : ℕ) → place_of places s < length new
      type_places s =
          let low : place_of places s < end_of plan =
          places_below plan (polarity_at a) (IsOfType sources) (length a.states) places (trees_more first plan (polarity_at a) (IsOfType sources) (length a.states) places.nodes longer placed)
          (past_below sources start plan places type_below (longer.start ∙ starts) past) s in
          let all : length new ≡ end_of plan = planned.size in
          omega (arith, low, all)

      abbrev leaf_nodes : List Node
      leaf_nodes = node.Bool ∷ node.Int ∷ node.Bot ∷ []

      book_zero : IsBook old → IsBook zero
      book_zero book = subst IsBook (sym varied.longer) (variables_book old varied.more book all_varied)

      book_two : IsBook old → IsBook two
      book_two book = owned.is_book (subst IsBook (sym leaved.longer) (leaves_book zero (book_zero book)))

      book_new : IsBook old → IsBook new
      book_new book = planned.is_book (book_two book)

      abbrev behind : List Node
      behind = leaf_nodes ++ (owned.more ++ planned.more)

      leaves_longer : new ≡ zero ++ behind
      leaves_longer =
          planned.longer
          ∙ (ap (λ (b : List Node). b ++ planned.more) (owned.longer ∙ ap (λ (b : List Node). b ++ owned.more) leaved.longer)
          ∙ (append_assoc (zero ++ leaf_nodes) owned.more planned.more ∙ append_assoc zero leaf_nodes (owned.more ++ planned.more)))

      all_longer : new ≡ old ++ (varied.more ++ behind)
      all_longer = leaves_longer ∙ (ap (λ (b : List Node). b ++ behind) varied.longer ∙ append_assoc old varied.more behind)

      abbrev Low : Node → Type 0
      Low = HasChildrenBelow (length new)

      olds : books.IsClosed old → All Low old
      olds closed =
          let all : length new ≡ length old + length (varied.more ++ behind) = ap length all_longer ∙ length-append old (varied.more ++ behind) in
          all_children_more (length old) (length new) (omega (arith, all)) old closed

      owns : All Low owned.more
      owns = subst (λ n. All (HasChildrenBelow n) owned.more) (sym planned.size) owned.low

      trees : IsBook old → All Low planned.more
      trees book =
          subst (λ (b : List Node). All (HasChildrenBelow (length b)) planned.more) (sym planned.longer)
          (trees_closed two planned.more (subst IsBook planned.longer (book_new book)) planned.are)

      leaves_low : All Low leaf_nodes
      leaves_low = All-cons Low node.Bool (node.Int ∷ node.Bot ∷ []) tt (All-cons Low node.Int (node.Bot ∷ []) tt (All-cons Low node.Bot [] tt (All-nil Low)))

      pub type_closed : IsClosedBook old → IsClosedBook new
      type_closed is = record {
        book = book_new is.book;
        closed =
            subst (All Low) (sym all_longer)
            (All-append Low old (varied.more ++ behind) (olds is.closed)
            (All-append Low varied.more behind (All-weaker IsVariable Low (variable_children (length new)) varied.more all_varied)
            (All-append Low leaf_nodes (owned.more ++ planned.more) leaves_low (All-append Low owned.more planned.more owns (trees is.book)))));
      }

      -- the places of states are the trees of the parts of their heads and of the variables of their edges
      module _ (closed : IsClosed a) (closed_old : IsClosedBook old) where
        abbrev parts : ℕ → List ℕ
        parts s = numbers (parts_in sources s)

        abbrev variables : ℕ → List ℕ
        variables s = numbers (partners_in sources s)

        abbrev IsMember : ℕ → ℕ → Type 0
        IsMember s i = Contains (parts s) i ⊎ Contains (variables s) i

        variable_is : (k : ℕ) → k < length a.flows → node_at new (length old + k) ≡ node.Var (from + k)
        variable_is k low = variable_at (length a.states) a.flows from (length a.flows) old zero sources.partners.items varied behind new all_longer k low

        -- the variables of a state are those of the edges that begin or end at it
        no_variables : (s : ℕ) → length a.states ≤ s → partners_in sources s ≡ []
        no_variables s past = let all : length sources.partners.items ≡ length a.states = varied.size in get_or_past sources.partners.items s [] (omega (arith, all, past))

        of_edge : (s i : ℕ) → Contains (variables s) i → (k : ℕ) × (k < length a.flows) × HasEnd a.flows k s × (i ≡ length old + k)
        of_edge s i there = go (below_or_more s (length a.states))
          where
            go : (s < length a.states) ⊎ ((j : ℕ) × (s ≡ length a.states + j)) → (k : ℕ) × (k < length a.flows) × HasEnd a.flows k s × (i ≡ length old + k)
            go (inl low) = (varied.just s i low).0 ((in_numbers (partners_in sources s) i).1 there)
            go (inr (j, e)) = absurd (nothing i (subst (λ (ids : List NodeId). Contains (numbers ids) i) (no_variables s (omega (arith, e))) there))

        inside : (k s : ℕ) → HasEnd a.flows k s → (k < length a.flows) × (s < length a.states)
        inside k s (edge, found, ends) =
            let low : k < length a.flows = slice_get_within a.flows k edge found in
            let there : Contains a.flows edge = (k, low, get_or_from_slice_get a.flows k edge edge found) in (
              low,
              elim ends [
                | inl begins ↦ subst (λ t. t < length a.states) begins (closed.negative edge there).in_range
                | inr ending ↦ subst (λ t. t < length a.states) ending (closed.positive edge there).in_range
              ],
            )

        at_edge : (k s : ℕ) → HasEnd a.flows k s → Contains (variables s) (length old + k)
        at_edge k s ends =
            let w = inside k s ends in
            (in_numbers (partners_in sources s) (length old + k)).0 ((varied.just s (length old + k) w.1).1 (k, w.0, ends, refl))

        tree_made : (s : ℕ) → IsTree new (polarity_at a s) (IsMember s) (place_of places s)
        tree_made s = go (below_or_more s (length a.states))
          where
            same : (i : ℕ) → IsOfType sources s i ↔ IsMember s i
            same i = (
              λ it_is. elim it_is [ inl part ↦ inl ((in_numbers (parts_in sources s) i).0 part) | inr variable ↦ inr ((in_numbers (partners_in sources s) i).0 variable) ],
              λ it_is. elim it_is [ inl part ↦ inl ((in_numbers (parts_in sources s) i).1 part) | inr variable ↦ inr ((in_numbers (partners_in sources s) i).1 variable) ],
            )

            go : (s < length a.states) ⊎ ((j : ℕ) × (s ≡ length a.states + j)) → IsTree new (polarity_at a s) (IsMember s) (place_of places s)
            go (inl low) =
                tree_same new (polarity_at a s) (IsOfType sources s) (IsMember s) same (place_of places s)
                (planned_is plan two new (book_two closed_old.book) planned (polarity_at a s) (IsOfType sources s) (place_of places s)
                (tree_more first plan (polarity_at a s) (IsOfType sources s) (place_of places s) longer (placed.tree s low places.past))).1
            go (inr (j, e)) =
                let past_end : length a.states ≤ s = omega (arith, e) in
                let all : length sources.parts ≡ length a.states = parted.size in
                let none : parts_in sources s ≡ [] = get_or_past sources.parts s [] (omega (arith, all, e)) in
                let at : place_of places s ≡ leaves.nothing.0 = past_place places (length a.states) sources.nothing placed.size past s past_end ∙ ap (λ (id : NodeId). id.0) it.nothing in
                subst (λ (p : Polarity). IsTree new p (IsMember s) (place_of places s)) (sym (ap (λ (t : State). t.polarity) (past_state a s past_end)))
                (empty_tree new Positive (IsMember s) (place_of places s)
                (subst (λ k. node_at new k ≡ node.Bot) (sym at) (nothing_at zero one new (owned.more ++ planned.more) leaves leaved leaves_longer))
                (λ i it_is. elim it_is [
                  | inl part ↦ nothing i (subst (λ (ids : List NodeId). Contains (numbers ids) i) none part)
                  | inr variable ↦ nothing i (subst (λ (ids : List NodeId). Contains (numbers ids) i) (no_variables s past_end) variable)
                ]))

        abbrev type_layout : IsTypeLayout new a (place_of places)
        type_layout = record {
          parts = parts;
          variables = variables;
          heads =
              heads_made a leaves one two new start sources.parts (place_of places) plan (book_two closed_old.book) parted owned planned
              (boolean_at zero one new (owned.more ++ planned.more) leaves leaved leaves_longer) (integer_at zero one new (owned.more ++ planned.more) leaves leaved leaves_longer);
          are_variables = λ s i there.
              let w = of_edge s i there in
              (from + w.0, subst (λ n. node_at new n ≡ node.Var (from + w.0)) (sym w.3) (variable_is w.0 w.1));
          tree = tree_made;
          flows = λ n p edge.
              let found : slice_get a.flows edge.0 ≡ Some (flow n p) = slice_get-get_or a.flows edge.0 (flow n p) edge.1 ∙ ap (λ (f : Flow). Some f) edge.2 in (
                length old + edge.0,
                length old + edge.0,
                from + edge.0,
                at_edge edge.0 n (flow n p, found, inl refl),
                at_edge edge.0 p (flow n p, found, inr refl),
                variable_is edge.0 edge.1,
                variable_is edge.0 edge.1,
              );
        }

        pub type_laid_out : IsTypeLaidOut old a from new (place_of places)
        type_laid_out = record {
          longer = (varied.more ++ behind, all_longer);
          layout = type_layout;
          shown = λ s x. (to s x, of s x);
        }
          where
            to : (s x : ℕ) → Shows new variables s x → (k : ℕ) × (x ≡ from + k) × HasEnd a.flows k s
            to s x (i, there, is) =
                let w = of_edge s i there in
                let at : node_at new i ≡ node.Var (from + w.0) = subst (λ n. node_at new n ≡ node.Var (from + w.0)) (sym w.3) (variable_is w.0 w.1) in
                let both : node.Var x ≡ node.Var (from + w.0) = sym is ∙ at in
                let number : x ≡ from + w.0 = cc in
                (w.0, number, w.2)

            of : (s x : ℕ) → (k : ℕ) × (x ≡ from + k) × HasEnd a.flows k s → Shows new variables s x
            of s x (k, e, ends) = (length old + k, at_edge k s ends, variable_is k (inside k s ends).0 ∙ ap node.Var (sym e))
