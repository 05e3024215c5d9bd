-- The parts of heads at their nodes.
--     numbers, in_numbers     the numbers of nodes
--     boolean_in, integer_in, function_in, record_in, own_function, own_record       the nodes of each kind
--     head_parts_are          the nodes of a head's parts
use Rattle.std.proofs.Common.{◌≡◌, ◌⊎◌, inl, inr, ℕ, ◌+◌, Bool, true, false, List, [], ◌∷◌, ◌++◌, map, refl, sym, ap, subst, Option, Some, None}
use Rattle.std.specs.Prelude.{◌↔◌, Contains, is_some, option_map, bytes_eq, find, cond}
use Rattle.std.proofs.lemmas.List.Elements.{Contains-append_left, Contains-append_right}
use Rattle.mls_book.specs.declared.book.Field.{Field}
use Rattle.mls_book.specs.declared.book.NodeId.{NodeId}
use Rattle.mls_book.specs.declared.book.Node.{Node}
use Rattle.mls_book.specs.declared.book.Node.TheVariants as node
use Rattle.mls_book.specs.Books.{node_at, field_at}
use Rattle.mls_automaton.specs.declared.automaton.Arms.{Arms}
use Rattle.mls_automaton.specs.declared.automaton.FieldSet.{FieldSet}
use Rattle.mls_automaton.specs.declared.automaton.Head.{Head}
use Rattle.mls_automaton.specs.declared.automaton.HeadKind.{HeadKind}
use Rattle.mls_automaton.specs.declared.automaton.HeadKind.TheVariants as kind
use Rattle.mls_automaton.specs.declared.automaton.Polarity.{Polarity}
use Rattle.mls_automaton.specs.Automata.{opposite}
use Rattle.mls_automaton.specs.Heads.{parts_of, set_at}
use Rattle.mls_automaton.proofs.Lists.{Contains-here, Contains-map, Contains-map_back}
use Rattle.mls_layout.specs.declared.layout.leaves.Leaves.{Leaves}
use Rattle.mls_layout.specs.Trees.{IsTree, IsNodeIn, IsPlaceIn}
use Rattle.mls_layout.specs.Heads.{IsFieldAt, IsFunctionAt, IsRecordAt, IsKindAt, HasKind, AreParts}
use Rattle.mls_layout.specs.steps.Planned.{Planned, HasTree}
use Rattle.mls_layout.specs.steps.Sources.{ids_if, count_if, head_parts}
use Rattle.mls_layout.specs.steps.OwnNumbers.{node_if, function_at, record_at}
use Rattle.mls_layout.specs.steps.Owned.{AreFields, IsFunction, IsRecord, HasOwn}
use Rattle.mls_layout.proofs.KnownNodes.{part_cases}

abbrev pub numbers : List NodeId → List ℕ
numbers ids = map (λ (id : NodeId). id.0) ids

pub in_numbers : (ids : List NodeId) (i : ℕ) → IsNodeIn ids i ↔ Contains (numbers ids) i
in_numbers ids i = (
  λ it. Contains-map (λ (id : NodeId). id.0) ids (record { 0 = i }) it,
  λ it. let w = Contains-map_back (λ (id : NodeId). id.0) ids i it in subst (λ k. IsNodeIn ids k) w.2 w.1,
)

pub there_if : (there : Bool) (id : NodeId) → there ≡ true → IsNodeIn (ids_if there id) id.0
there_if true id e = Contains-here id []
there_if false id e = absurd (cc)

is_there : {X : Type 0} (o : Option X) → is_some o ≡ true → (x : X) × (o ≡ Some x)
is_there None e = absurd (cc)
is_there (Some x) e = (x, refl)

abbrev number_of : Option NodeId → ℕ
number_of None = 0
number_of (Some id) = id.0

-- the nodes of each kind are among those of a head
module _ (leaves : Leaves) (first : ℕ) (h : Head) where
  abbrev bools : List NodeId
  bools = ids_if h.boolean leaves.boolean

  abbrev ints : List NodeId
  ints = ids_if h.integer leaves.integer

  abbrev functions : List NodeId
  functions = ids_if (is_some h.function) (record { 0 = first })

  abbrev records : List NodeId
  records = ids_if (is_some h.fields) (record { 0 = first + count_if (is_some h.function) })

  pub boolean_in : (i : ℕ) → IsNodeIn bools i → Contains (numbers (head_parts leaves first h)) i
  boolean_in i it = (in_numbers (head_parts leaves first h) i).0 (Contains-append_left (bools ++ ints ++ functions) records (record { 0 = i }) (Contains-append_left (bools ++ ints) functions (record { 0 = i }) (Contains-append_left bools ints (record { 0 = i }) it)))

  pub integer_in : (i : ℕ) → IsNodeIn ints i → Contains (numbers (head_parts leaves first h)) i
  integer_in i it = (in_numbers (head_parts leaves first h) i).0 (Contains-append_left (bools ++ ints ++ functions) records (record { 0 = i }) (Contains-append_left (bools ++ ints) functions (record { 0 = i }) (Contains-append_right bools ints (record { 0 = i }) it)))

  pub function_in : (i : ℕ) → IsNodeIn functions i → Contains (numbers (head_parts leaves first h)) i
  function_in i it = (in_numbers (head_parts leaves first h) i).0 (Contains-append_left (bools ++ ints ++ functions) records (record { 0 = i }) (Contains-append_right (bools ++ ints) functions (record { 0 = i }) it))

  pub record_in : (i : ℕ) → IsNodeIn records i → Contains (numbers (head_parts leaves first h)) i
  record_in i it = (in_numbers (head_parts leaves first h) i).0 (Contains-append_right (bools ++ ints ++ functions) records (record { 0 = i }) it)

  -- its own function and record, where it has them
  pub own_function : (id : NodeId) → function_at first h ≡ Some id → Contains (numbers (head_parts leaves first h)) id.0
  own_function id is = by_test (is_some h.function) refl is
    where
      by_test : (t : Bool) → is_some h.function ≡ t → node_if t first ≡ Some id → Contains (numbers (head_parts leaves first h)) id.0
      by_test true e is =
          let same : first ≡ id.0 = ap number_of is in
          subst (λ i. Contains (numbers (head_parts leaves first h)) i) same (function_in first (there_if (is_some h.function) (record { 0 = first }) e))
      by_test false e is = absurd (cc)

  pub own_record : (id : NodeId) → record_at first h ≡ Some id → Contains (numbers (head_parts leaves first h)) id.0
  own_record id is = by_test (is_some h.fields) refl is
    where
      at : ℕ
      at = first + count_if (is_some h.function)

      by_test : (t : Bool) → is_some h.fields ≡ t → node_if t at ≡ Some id → Contains (numbers (head_parts leaves first h)) id.0
      by_test true e is =
          let same : at ≡ id.0 = ap number_of is in
          subst (λ i. Contains (numbers (head_parts leaves first h)) i) same (record_in at (there_if (is_some h.fields) (record { 0 = at }) e))
      by_test false e is = absurd (cc)

-- the trees that are planned stand in the book
module _ (plan : Planned) (book : List Node) (place : ℕ → ℕ) (stands : (p : Polarity) (M : ℕ → Type 0) (i : ℕ) → HasTree plan p M i → IsTree book p M i) (p : Polarity) where
  field_is : (label : List ℕ) (sets : List FieldSet) (fields : List Field) → AreFields plan place p sets fields → IsFieldAt book place p (set_at sets label) (field_at label fields)
  field_is label [] [] are = tt
  field_is label [] (field ∷ fields) are = absurd are
  field_is label (set ∷ sets) [] are = absurd are
  field_is label (set ∷ sets) (field ∷ fields) are = subst (λ l. IsFieldAt book place p (option_map (λ (s : FieldSet). s.set) (cond (bytes_eq set.label label) (Some set) (find (λ (s : FieldSet). bytes_eq s.label label) sets)))
      (option_map (λ (f : Field). f.node) (cond (bytes_eq l label) (Some field) (find (λ (f : Field). bytes_eq f.label label) fields)))) (sym are.0.0) (go (field_is label sets fields are.1) (bytes_eq set.label label))
    where
      go : IsFieldAt book place p (set_at sets label) (field_at label fields) → (b : Bool) → IsFieldAt book place p (option_map (λ (s : FieldSet). s.set) (cond b (Some set) (find (λ (s : FieldSet). bytes_eq s.label label) sets)))
          (option_map (λ (f : Field). f.node) (cond b (Some field) (find (λ (f : Field). bytes_eq f.label label) fields)))
      go later true = stands p (IsPlaceIn place set.set) field.node.0 are.0.1
      go later false = later

  function_is : (h : Head) (arms : Arms) (i : ℕ) → h.function ≡ Some arms → IsFunction plan place p arms (node_at book i) → IsFunctionAt book place p (parts_of h) i
  function_is h arms i has it = record {
    arms = arms;
    has = has;
    from = it.from;
    to = it.to;
    node = it.is;
    domain = stands (opposite p) (IsPlaceIn place arms.domain) it.from.0 it.domain;
    codomain = stands p (IsPlaceIn place arms.codomain) it.to.0 it.codomain;
  }

  record_is : (h : Head) (sets : List FieldSet) (i : ℕ) → h.fields ≡ Some sets → IsRecord plan place p sets (node_at book i) → IsRecordAt book place p (parts_of h) i
  record_is h sets i has it = record {
    sets = set_at sets;
    has = ap (option_map set_at) has;
    fields = it.fields;
    node = it.is;
    field = λ label. field_is label sets it.fields it.are;
  }

  module _ (leaves : Leaves) (boolean : node_at book leaves.boolean.0 ≡ node.Bool) (integer : node_at book leaves.integer.0 ≡ node.Int) (first : ℕ) (h : Head) (own : HasOwn plan place p h book first) where
    pub head_parts_are : AreParts book place p (parts_of h) (numbers (head_parts leaves first h))
    head_parts_are = record {
      all = λ i it. all i (part_cases leaves first h i ((in_numbers (head_parts leaves first h) i).1 it));
      each = each;
    }
      where
        at_function : is_some h.function ≡ true → IsFunctionAt book place p (parts_of h) first
        at_function e = let w = is_there h.function e in function_is h w.0 first w.1 (own.function w.0 w.1)

        at_record : is_some h.fields ≡ true → IsRecordAt book place p (parts_of h) (first + count_if (is_some h.function))
        at_record e = let w = is_there h.fields e in record_is h w.0 (first + count_if (is_some h.function)) w.1 (own.fields w.0 w.1)

        all : (i : ℕ) → ((h.boolean ≡ true) × (leaves.boolean.0 ≡ i)) ⊎ (((h.integer ≡ true) × (leaves.integer.0 ≡ i))
            ⊎ (((is_some h.function ≡ true) × (first ≡ i)) ⊎ ((is_some h.fields ≡ true) × (first + count_if (is_some h.function) ≡ i))))
            → (k : HeadKind) × IsKindAt book place p (parts_of h) k i
        all i (inl (has, e)) = (kind.Bool, (has, subst (λ j. node_at book j ≡ node.Bool) e boolean))
        all i (inr (inl (has, e))) = (kind.Int, (has, subst (λ j. node_at book j ≡ node.Int) e integer))
        all i (inr (inr (inl (has, e)))) = (kind.Function, subst (IsFunctionAt book place p (parts_of h)) e (at_function has))
        all i (inr (inr (inr (has, e)))) = (kind.Rcd, subst (IsRecordAt book place p (parts_of h)) e (at_record has))

        is_one : {X : Type 0} (o : Option X) (x : X) → o ≡ Some x → is_some o ≡ true
        is_one o x e = ap is_some e

        each : (k : HeadKind) → HasKind (parts_of h) k → (i : ℕ) × Contains (numbers (head_parts leaves first h)) i × IsKindAt book place p (parts_of h) k i
        each kind.Bool has = (leaves.boolean.0, boolean_in leaves first h leaves.boolean.0 (there_if h.boolean leaves.boolean has), (has, boolean))
        each kind.Int has = (leaves.integer.0, integer_in leaves first h leaves.integer.0 (there_if h.integer leaves.integer has), (has, integer))
        each kind.Function has =
            let e = is_one h.function has.0 has.1 in
            (first, function_in leaves first h first (there_if (is_some h.function) (record { 0 = first }) e), at_function e)
        each kind.Rcd has =
            let e = mapped h.fields has.0 has.1 in
            (first + count_if (is_some h.function), record_in leaves first h (first + count_if (is_some h.function)) (there_if (is_some h.fields) (record { 0 = first + count_if (is_some h.function) }) e), at_record e)
          where
            mapped : (o : Option (List FieldSet)) (sets : List ℕ → Option (List ℕ)) → option_map set_at o ≡ Some sets → is_some o ≡ true
            mapped None sets e = absurd (cc)
            mapped (Some x) sets e = refl
