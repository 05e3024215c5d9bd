-- Where each layer of a book has one function and one record at most, the states in use may be taken as its tops.
--     in_there, there_in         the numbers that are among some
--     used_top                   each state in use is a top
--     used_read                  the automaton is read from the book with these tops
--     read_laid                  so its states have these places
--     whole_laid                 in a book that begins with its nodes
use Rattle.std.proofs.Common.{◌≡◌, ◌⊎◌, inl, inr, ℕ, zero, suc, ◌+◌, ◌<◌, ◌≤◌, Bool, true, false, List, [], ◌∷◌, ◌++◌, map, length, get_or, refl, sym, ap, ◌∙◌, subst, arith, Contains, All, Option, Some, None}
use Rattle.std.specs.Prelude.{IsTrue, cond, ◌==◌, option_map, find, bytes_eq}
use Rattle.std.specs.List.{flat_map}
use Rattle.std.specs.Ordering.{nat_cmp, is_eq}
use Rattle.std.specs.declared.cmp.Ordering.TheVariants.{Less}
use Rattle.std.specs.Cmp.Lexicographic.{slice_cmp}
use Rattle.std.proofs.lemmas.Map.Text.{is_eq-slice_cmp}
use Rattle.std.proofs.lemmas.Slice.Eq.{bytes_eq-Decides}
use Rattle.std.proofs.lemmas.Bool.{eqb-true, eq-eqb}
use Rattle.std.proofs.Math.ListN.{get_or-append}
use Rattle.std.proofs.lemmas.List.{get_or_past, get_or_push, length_push}
use Rattle.std.proofs.lemmas.List.Elements.{All-contains, Contains-append_left, Contains-append_right, Contains-append_cases}
use Rattle.mls_book.specs.declared.book.NodeId.{NodeId}
use Rattle.mls_book.specs.declared.book.Field.{Field}
use Rattle.mls_book.specs.declared.book.Node.{Node}
use Rattle.mls_book.specs.declared.book.Node.TheVariants as node
use Rattle.mls_book.specs.Books.{node_at, field_at, AreRising, IsOrdered}
use Rattle.mls_automaton.specs.declared.automaton.Arms.{Arms}
use Rattle.mls_automaton.specs.declared.automaton.FieldSet.{FieldSet}
use Rattle.mls_automaton.specs.declared.automaton.Flow.{Flow}
use Rattle.mls_automaton.specs.declared.automaton.Head.{Head}
use Rattle.mls_automaton.specs.declared.automaton.Polarity.{Polarity}
use Rattle.mls_automaton.specs.declared.automaton.Polarity.TheVariants.{Positive, Negative}
use Rattle.mls_automaton.specs.declared.automaton.State.{State}
use Rattle.mls_automaton.specs.declared.scheme.Scheme.{Scheme}
use Rattle.mls_automaton.specs.Automata.{Automaton, polarity_at, head_at, state_at, empty_head}
use Rattle.mls_automaton.specs.Heads.{set_at, parts_of, combined, IsSameSet, IsSameOption}
use Rattle.mls_automaton.specs.Models.{HasStatesIn, HasArmsIn, HasFieldsIn, HasRisingLabels}
use Rattle.mls_automaton.specs.Schemes.{IsScheme}
use Rattle.mls_automaton.proofs.CombinedStates.{HasPartsIn, combined_in, same_in, head_in}
use Rattle.mls_automaton.proofs.Lists.{Contains-here, Contains-later, Contains-cases, Contains-flat_map, Contains-flat_map_back, All-contained, any_found, found_any}
use Rattle.mls_typetext.specs.declared.scheme.ReadScheme.{ReadScheme}
use Rattle.mls_scheme.specs.ReadAutomata.{atoms, atom_parts, AreChildren, IsReadFrom}
use Rattle.mls_scheme.specs.ReadTypes.{IsReadFromBook}
use Rattle.mls_scheme.proofs.ReadSchemes.{atom_in}
use Rattle.mls_deriv.specs.Steps.{HasFrom}
use Rattle.mls_layout.specs.declared.layout.Places.{Places}
use Rattle.mls_layout.specs.LaidOut.{place_of}
use Rattle.mls_layout.specs.Layouts.{IsTypeLayout}
use Rattle.mls_layout.specs.Trees.{none_node}
use Rattle.mls_layout.proofs.WorkedParts.{nothing, contains_one}
use Rattle.mls_typenodes.specs.OneEach.{HaveOneEach, HasOneEach, HasRisingSets, AreNoneNodes, read_place}
use Rattle.mls_typenodes.specs.ReadPlaces.{arm_names, record_names, has_part, own_if, state_names, names_below, flow_ends, states_in_use, is_in, none_at, AreReadPlaces, IsReadLaid}
use Rattle.mls_typenodes.proofs.SingleSets.{single_heads}
use Rattle.mls_typenodes.proofs.TopHeads.{function_of, fields_of}
use Rattle.mls_typenodes.proofs.TypeLayouts.{type_layout, places_low}
use Rattle.mls_book.proofs.LongerBooks.{below_or_more}

-- numbers that are among others
pub in_there : (xs : List ℕ) (x : ℕ) → is_in xs x ≡ true → Contains xs x
in_there xs x e =
    let found = any_found (λ y. y == x) xs e in
    subst (Contains xs) (eqb-true found.0 x found.2) found.1

pub there_in : (xs : List ℕ) (x : ℕ) → Contains xs x → is_in xs x ≡ true
there_in xs x there = found_any (λ y. y == x) xs x there (eq-eqb x x refl)

-- what the names of a head are, where the states that it names are such
module _ (Q : ℕ → Type 0) (p : Polarity) where
  arms_in : (o : Option Arms) → HasArmsIn (λ q j. Q j) p o → (s : ℕ) → Contains (arm_names o) s → Q s
  arms_in None each s there = absurd (nothing s there)
  arms_in (Some arms) each s there = elim (Contains-append_cases arms.domain arms.codomain s there) [
    | inl first ↦ All-contains Q arms.domain s each.0 first
    | inr second ↦ All-contains Q arms.codomain s each.1 second
  ]

  fields_in : (o : Option (List FieldSet)) → HasFieldsIn (λ q j. Q j) p o → (s : ℕ) → Contains (record_names o) s → Q s
  fields_in None each s there = absurd (nothing s there)
  fields_in (Some fields) each s there =
      let found = Contains-flat_map_back (λ (f : FieldSet). f.set) fields s there in
      All-contains Q found.0.set s (All-contains (λ (f : FieldSet). All Q f.set) fields found.0 each found.1) found.2

-- a state and those that its head names
own_one : (b : Bool) (k q : ℕ) → Contains (own_if b k) q → k ≡ q
own_one true k q there = contains_one k q there
own_one false k q there = absurd (nothing q there)

own_there : (k : ℕ) (h : Head) → has_part h ≡ true → Contains (state_names k h) k
own_there k h e =
    Contains-append_left (own_if (has_part h) k ++ arm_names h.function) (record_names h.fields) k
    (Contains-append_left (own_if (has_part h) k) (arm_names h.function) k
    (subst (λ b. Contains (own_if b k) k) (sym e) (Contains-here k [])))

arm_there : (k : ℕ) (h : Head) (q : ℕ) → Contains (arm_names h.function) q → Contains (state_names k h) q
arm_there k h q there =
    Contains-append_left (own_if (has_part h) k ++ arm_names h.function) (record_names h.fields) q
    (Contains-append_right (own_if (has_part h) k) (arm_names h.function) q there)

field_there : (k : ℕ) (h : Head) (q : ℕ) → Contains (record_names h.fields) q → Contains (state_names k h) q
field_there k h q there = Contains-append_right (own_if (has_part h) k ++ arm_names h.function) (record_names h.fields) q there

-- a head without a part has nothing
no_part : (b i : Bool) (f : Option Arms) (r : Option (List FieldSet)) → has_part (record { boolean = b; integer = i; function = f; fields = r }) ≡ false
    → record { boolean = b; integer = i; function = f; fields = r } ≡ empty_head
no_part false false None None e = refl
no_part true i f r e = absurd (cc)
no_part false true f r e = absurd (cc)
no_part false false (Some arms) r e = absurd (cc)
no_part false false None (Some fields) e = absurd (cc)

-- a state that the first states name, or that is one of them with a part
below_back : (a : Automaton) (n q : ℕ) → Contains (names_below a n) q → (k : ℕ) × (k < n) × Contains (state_names k (head_at a k)) q
below_back a zero q there = absurd (nothing q there)
below_back a (suc n) q there = elim (Contains-append_cases (names_below a n) (state_names n (head_at a n)) q there) [
  | inl before ↦ (let (k, low, is) = below_back a n q before in (k, omega arith, is))
  | inr here ↦ (n, omega arith, here)
]

below_there : (a : Automaton) (n k q : ℕ) → k < n → Contains (state_names k (head_at a k)) q → Contains (names_below a n) q
below_there a zero k q low there = absurd (omega (arith, low))
below_there a (suc n) k q low there = elim (below_or_more k n) [
  | inl before ↦ Contains-append_left (names_below a n) (state_names n (head_at a n)) q (below_there a n k q before there)
  | inr it ↦ (let same : k ≡ n = (let is : k ≡ n + it.0 = it.1 in omega (arith, low, is)) in
      Contains-append_right (names_below a n) (state_names n (head_at a n)) q (subst (λ j. Contains (state_names j (head_at a j)) q) same there))
]

-- each field of a record is found at its label, where labels rise
later_field : (first : Field) (rest : List Field) (label : List ℕ) → slice_cmp nat_cmp first.label label ≡ Less → field_at label (first ∷ rest) ≡ field_at label rest
later_field first rest label less =
    let apart : bytes_eq first.label label ≡ false = sym (is_eq-slice_cmp first.label label) ∙ ap is_eq less in
    λ i. option_map (λ (f : Field). f.node) (cond (apart i) (Some first) (find (λ (f : Field). bytes_eq f.label label) rest))

first_field : (first : Field) (rest : List Field) → field_at first.label (first ∷ rest) ≡ Some first.node
first_field first rest =
    let same : bytes_eq first.label first.label ≡ true = (bytes_eq-Decides first.label first.label).1 refl in
    λ i. option_map (λ (f : Field). f.node) (cond (same i) (Some first) (find (λ (f : Field). bytes_eq f.label first.label) rest))

pub field_found : (fields : List Field) → AreRising fields → (k : ℕ) (d : Field) → k < length fields → field_at (get_or fields k d).label fields ≡ Some (get_or fields k d).node
field_found [] rising k d low = absurd (omega (arith, low))
field_found (first ∷ rest) rising zero d low = first_field first rest
field_found (first ∷ rest) rising (suc k) d low =
    later_field first rest (get_or rest k d).label (rising.0 k d (omega (arith, low)))
    ∙ field_found rest rising.1 k d (omega (arith, low))

-- the members of the set at a label are among the names of the record
set_names : (all : List FieldSet) (label : List ℕ) (o : Option (List ℕ)) → set_at all label ≡ o → (set : List ℕ) → o ≡ Some set → (q : ℕ) → Contains set q → Contains (flat_map (λ (f : FieldSet). f.set) all) q
set_names [] label o e set is q there = absurd (cc)
set_names (first ∷ rest) label o e set is q there =
    elim (bytes_eq first.label label) as (λ b. option_map (λ (f : FieldSet). f.set) (cond b (Some first) (find (λ (f : FieldSet). bytes_eq f.label label) rest)) ≡ Some set → Contains (first.set ++ flat_map (λ (f : FieldSet). f.set) rest) q) [
      | true ↦ λ same. let alike : first.set ≡ set = cc in Contains-append_left first.set (flat_map (λ (f : FieldSet). f.set) rest) q (subst (λ xs. Contains xs q) (sym alike) there)
      | false ↦ λ later. Contains-append_right first.set (flat_map (λ (f : FieldSet). f.set) rest) q (set_names rest label (Some set) later set refl q there)
    ] (e ∙ is)

pub children_more : (P Q : ℕ → Type 0) → ((k : ℕ) → P k → Q k) → (x : Node) → AreChildren P x → AreChildren Q x
children_more P Q more node.Bot each = tt
children_more P Q more node.Top each = tt
children_more P Q more (node.Var x) each = tt
children_more P Q more node.Bool each = tt
children_more P Q more node.Int each = tt
children_more P Q more (node.Arrow j k) each = (more j.0 each.0, more k.0 each.1)
children_more P Q more (node.Rcd fields) each = λ i d low. more (get_or fields i d).node.0 (each i d low)
children_more P Q more (node.Join j k) each = tt
children_more P Q more (node.Meet j k) each = tt

module _ (nodes : List Node) (root : ℕ) (s : Scheme) (it : IsReadFrom nodes root s.automaton) (same_root : s.root.0 ≡ root) (labels : (q : ℕ) → HasRisingLabels (head_at s.automaton q).fields)
    (one : HaveOneEach nodes it.is_top) where
  abbrev pub a : Automaton
  a = s.automaton

  abbrev pub n : ℕ
  n = length s.automaton.states

  abbrev pub IsTop : ℕ → Type 0
  IsTop q = IsTrue (it.is_top q)

  abbrev pub used : ℕ → Bool
  used q = is_in (states_in_use s) q

  pub low_top : (q : ℕ) → IsTop q → q < n
  low_top q top =
      let low : q < length nodes = it.tops.low q top in
      let many : length s.automaton.states ≡ length nodes = it.automaton.same_length in
      omega arith

  -- a top names tops alone
  top_names : (k : ℕ) → IsTop k → HasStatesIn (λ q j. IsTop j) (it.sign k) (head_at a k)
  top_names k top =
      head_in (λ q j. IsTop j) (it.sign k) (head_at a k) (labels k)
      (same_in (λ q j. IsTop j) (it.sign k) (parts_of (head_at a k)) (combined (it.sign k) (map (λ j. atom_parts (node_at nodes j)) (atoms nodes k))) (it.automaton.heads k top)
      (combined_in (λ q j. IsTop j) (it.sign k) (λ j. atom_parts (node_at nodes j)) (atoms nodes k)
      (All-contained (λ j. HasPartsIn (λ q i. IsTop i) (it.sign k) (atom_parts (node_at nodes j))) (atoms nodes k) (λ j there. atom_in IsTop (it.sign k) (node_at nodes j) (it.tops.next k j top there)))))

  state_top : (k q : ℕ) (t : Bool) → it.is_top k ≡ t → Contains (state_names k (head_at a k)) q → IsTop q
  state_top k q true e there = elim (Contains-append_cases (own_if (has_part (head_at a k)) k ++ arm_names (head_at a k).function) (record_names (head_at a k).fields) q there) [
    | inl front ↦ elim (Contains-append_cases (own_if (has_part (head_at a k)) k) (arm_names (head_at a k).function) q front) [
      | inl own ↦ subst IsTop (own_one (has_part (head_at a k)) k q own) e
      | inr arm ↦ arms_in IsTop (it.sign k) (head_at a k).function (top_names k e).function q arm
    ]
    | inr field ↦ fields_in IsTop (it.sign k) (head_at a k).fields (top_names k e).fields q field
  ]
  state_top k q false e there =
      absurd (nothing q (subst (λ (h : Head). Contains (state_names k h) q) (it.automaton.others k e) there))

  flow_top : (f : Flow) → Contains a.flows f → (q : ℕ) → Contains (flow_ends f) q → IsTop q
  flow_top f edge q there =
      let ends = it.automaton.flows f.negative.0 f.positive.0 edge in
      elim (Contains-cases f.negative.0 (f.positive.0 ∷ []) q there) [
        | inl same ↦ subst IsTop same ends.0
        | inr last ↦ subst IsTop (contains_one f.positive.0 q last) ends.1
      ]

  pub used_top : (q : ℕ) → used q ≡ true → IsTop q
  used_top q e = elim (Contains-append_cases (s.root.0 ∷ flat_map flow_ends a.flows) (names_below a n) q (in_there (states_in_use s) q e)) [
    | inl front ↦ elim (Contains-cases s.root.0 (flat_map flow_ends a.flows) q front) [
      | inl same ↦ subst IsTop (sym same_root ∙ same) it.tops.has_root
      | inr ends ↦ (let found = Contains-flat_map_back flow_ends a.flows q ends in flow_top found.0 found.1 q found.2)
    ]
    | inr named ↦ (let found = below_back a n q named in state_top found.0 q (it.is_top found.0) refl found.2)
  ]

  -- what is in use
  pub used_state : (k q : ℕ) → k < n → Contains (state_names k (head_at a k)) q → used q ≡ true
  used_state k q low there =
      there_in (states_in_use s) q
      (Contains-append_right (s.root.0 ∷ flat_map flow_ends a.flows) (names_below a n) q (below_there a n k q low there))

  used_front : (q : ℕ) → Contains (s.root.0 ∷ flat_map flow_ends a.flows) q → used q ≡ true
  used_front q there = there_in (states_in_use s) q (Contains-append_left (s.root.0 ∷ flat_map flow_ends a.flows) (names_below a n) q there)

  pub used_root : used root ≡ true
  used_root = used_front root (subst (Contains (s.root.0 ∷ flat_map flow_ends a.flows)) same_root (Contains-here s.root.0 (flat_map flow_ends a.flows)))

  pub used_end : (f : Flow) → Contains a.flows f → (q : ℕ) → Contains (flow_ends f) q → used q ≡ true
  used_end f edge q there = used_front q (Contains-later s.root.0 (flat_map flow_ends a.flows) q (Contains-flat_map flow_ends a.flows f q edge there))

  -- the head of a top names the children of its atoms
  module _ (k : ℕ) (top : IsTop k) where
    abbrev pub head : Head
    head = head_at a k

    abbrev pub IsNamed : ℕ → Type 0
    IsNamed q = Contains (state_names k head) q

    child_named : (q : ℕ) (fields : List Field) (label : List ℕ) (o : Option (List ℕ)) (p : Option NodeId) (id : NodeId) → p ≡ Some id → q ≡ id.0
        → IsSameOption IsSameSet o (option_map (λ (id : NodeId). id.0 ∷ []) p) → (set : List ℕ) × (o ≡ Some set) × Contains set q
    child_named q fields label o None id is same alike = absurd (cc)
    child_named q fields label None (Some found) id is same alike = absurd alike
    child_named q fields label (Some set) (Some found) id is same alike =
        let equal : found.0 ≡ q = (let alike' : found ≡ id = cc in ap (λ (x : NodeId). x.0) alike' ∙ sym same) in
        (set, refl, alike.1 q (subst (Contains (found.0 ∷ [])) equal (Contains-here found.0 [])))

    record_named : (o : Option (List FieldSet)) → head.fields ≡ o → (sets : List ℕ → Option (List ℕ)) → option_map set_at o ≡ Some sets → (label : List ℕ) (set : List ℕ) → sets label ≡ Some set → (q : ℕ) → Contains set q
        → Contains (record_names o) q
    record_named None e sets is label set at q there = absurd (cc)
    record_named (Some all) e sets is label set at q there =
        let alike : set_at all ≡ sets = cc in
        set_names all label (Some set) ((λ i. alike i label) ∙ at) set refl q there

    pub atom_named : (j : ℕ) → Contains (atoms nodes k) j → (x : Node) → node_at nodes j ≡ x → AreChildren IsNamed x
    atom_named j there node.Bot is = tt
    atom_named j there node.Top is = tt
    atom_named j there (node.Var x) is = tt
    atom_named j there node.Bool is = tt
    atom_named j there node.Int is = tt
    atom_named j there (node.Arrow f t) is =
        let (found, has, same) = function_of nodes it.sign it.is_top a it.automaton one k top j there f t is in
        let named : (q : ℕ) → Contains (found.domain ++ found.codomain) q → IsNamed q = λ q at. arm_there k head q (subst (λ (o : Option Arms). Contains (arm_names o) q) (sym has) at) in (
          named f.0 (Contains-append_left found.domain found.codomain f.0 (same.0.1 f.0 (Contains-here f.0 []))),
          named t.0 (Contains-append_right found.domain found.codomain t.0 (same.1.1 t.0 (Contains-here t.0 []))),
        )
    atom_named j there (node.Rcd fields) is =
        let (found, has, same) = fields_of nodes it.sign it.is_top a it.automaton one k top j there fields is in
        let rising : AreRising fields = subst (IsOrdered j) is (it.closed.book j) in
        λ i d low.
        let field : Field = get_or fields i d in
        let (set, at, inside) = child_named field.node.0 fields field.label (found field.label) (field_at field.label fields) field.node (field_found fields rising i d low) refl (same field.label) in
        field_there k head field.node.0 (record_named head.fields refl found has field.label set at field.node.0 inside)
    atom_named j there (node.Join f t) is = tt
    atom_named j there (node.Meet f t) is = tt

  -- what is not in use has nothing
  pub unused : (q : ℕ) (t : Bool) → it.is_top q ≡ t → used q ≡ false → head_at a q ≡ empty_head
  unused q false e none = it.automaton.others q e
  unused q true e none = go (has_part (head_at a q)) refl
    where
      go : (b : Bool) → has_part (head_at a q) ≡ b → head_at a q ≡ empty_head
      go true has = absurd (let yes' : used q ≡ true = used_state q q (low_top q e) (own_there q (head_at a q) has) in cc)
      go false has = no_part (head_at a q).boolean (head_at a q).integer (head_at a q).function (head_at a q).fields has

  abbrev pub used_read : IsReadFrom nodes root a
  used_read = record {
    sign = it.sign;
    is_top = used;
    closed = it.closed;
    polarised = it.polarised;
    is_positive = it.is_positive;
    tops = record {
      has_root = used_root;
      low = λ i e. it.tops.low i (used_top i e);
      next =
          λ i j e there.
          children_more (λ q. Contains (state_names i (head_at a i)) q) (λ q. IsTrue (used q)) (λ q at. used_state i q (low_top i (used_top i e)) at) (node_at nodes j)
          (atom_named i (used_top i e) j there (node_at nodes j) refl);
    };
    automaton = record {
      same_length = it.automaton.same_length;
      polarity = λ i e. it.automaton.polarity i (used_top i e);
      heads = λ i e. it.automaton.heads i (used_top i e);
      others = λ i e. unused i (it.is_top i) refl e;
      flows =
          λ l m edge.
          let ends = it.automaton.flows l m edge in (
            used_end (record { negative = record { 0 = l }; positive = record { 0 = m } }) edge l (Contains-here l (m ∷ [])),
            used_end (record { negative = record { 0 = l }; positive = record { 0 = m } }) edge m (Contains-later l (m ∷ []) m (Contains-here m [])),
            ends.2,
          );
      all_flows = λ l m x first second negative positive has has'. it.automaton.all_flows l m x (used_top l first) (used_top m second) negative positive has has';
    };
  }

-- the places of a type that was read, in a book with its nodes
module _ (read : ReadScheme) (s : Scheme) (it : IsReadFromBook read s) (is : IsScheme s) (sets : (q : ℕ) → HasRisingSets (head_at s.automaton q)) (one : (i : ℕ) → i < length read.book → HasOneEach read.book i)
    (book : List Node) (from : HasFrom book 0 read.book) (bot top : ℕ) (bot_low : bot < length book) (is_bot : node_at book bot ≡ node.Bot) (top_low : top < length book) (is_top : node_at book top ≡ node.Top)
    (places : Places) (are : AreReadPlaces s bot top places) where
  old_one : HaveOneEach read.book it.automaton.is_top
  old_one i e = one i (it.automaton.tops.low i e)

  abbrev is_used : ℕ → Bool
  is_used q = is_in (states_in_use s) q

  low_used : (q : ℕ) → is_used q ≡ true → q < length read.book
  low_used q e = it.automaton.tops.low q (used_top read.book read.root.0 s it.automaton it.root is.automaton.labels old_one q e)

  new_one : HaveOneEach read.book is_used
  new_one q e = one q (low_used q e)

  are_none : AreNoneNodes book (none_at bot top)
  are_none Positive = (bot_low, is_bot)
  are_none Negative = (top_low, is_top)

  abbrev own_place : ℕ → ℕ
  own_place = read_place 0 is_used (none_at bot top) s.automaton

  -- within the automaton, and past its end
  same_inside : (b : Bool) (q : ℕ) (p : Polarity) → cond b (0 + q) (none_at bot top p) ≡ cond b q (none_at bot top p)
  same_inside true q p = omega arith
  same_inside false q p = refl

  same_past : (b : Bool) (q : ℕ) → is_used q ≡ b → length s.automaton.states ≤ q → polarity_at s.automaton q ≡ Positive → own_place q ≡ place_of places q
  same_past true q e high positive =
      let low : q < length read.book = low_used q e in
      let many : length s.automaton.states ≡ length read.book = it.automaton.automaton.same_length in
      absurd (omega arith)
  same_past false q e high positive = (λ i. cond (e i) (0 + q) (none_at bot top (positive i))) ∙ sym (are.past q high)

  same_over : (q j : ℕ) → q ≡ length s.automaton.states + j → own_place q ≡ place_of places q
  same_over q j over =
      let high : length s.automaton.states ≤ q = omega (arith, over) in
      let state : state_at s.automaton q ≡ record { polarity = Positive; head = empty_head } = get_or_past s.automaton.states q (record { polarity = Positive; head = empty_head }) high in
      same_past (is_used q) q refl high (ap (λ (x : State). x.polarity) state)

  same_place : (q : ℕ) → own_place q ≡ place_of places q
  same_place q = elim (below_or_more q (length s.automaton.states)) [
    | inl low ↦ same_inside (is_used q) q (polarity_at s.automaton q) ∙ sym (are.inside q low)
    | inr it ↦ same_over q it.0 it.1
  ]

  same_places : own_place ≡ place_of places
  same_places = λ i q. same_place q i

  -- each place is a node that was read, or that of no member
  none_is : (p : Polarity) → node_at book (none_at bot top p) ≡ none_node p
  none_is Positive = is_bot
  none_is Negative = is_top

  own_node : (b : Bool) (q : ℕ) → is_used q ≡ b → (own_place q < length read.book) ⊎ ((p : Polarity) × (node_at book (own_place q) ≡ none_node p))
  own_node true q e =
      let at : own_place q ≡ 0 + q = λ i. cond (e i) (0 + q) (none_at bot top (polarity_at s.automaton q)) in
      let low : q < length read.book = low_used q e in
      inl (omega (arith, at, low))
  own_node false q e =
      let at : own_place q ≡ none_at bot top (polarity_at s.automaton q) = λ i. cond (e i) (0 + q) (none_at bot top (polarity_at s.automaton q)) in
      inr (polarity_at s.automaton q, ap (node_at book) at ∙ none_is (polarity_at s.automaton q))

  root_place : place_of places read.root.0 ≡ read.root.0
  root_place =
      let used : is_used read.root.0 ≡ true = used_root read.book read.root.0 s it.automaton it.root is.automaton.labels old_one in
      let own : own_place read.root.0 ≡ 0 + read.root.0 = λ i. cond (used i) (0 + read.root.0) (none_at bot top (polarity_at s.automaton read.root.0)) in
      let last : 0 + read.root.0 ≡ read.root.0 = omega arith in
      sym (same_place read.root.0) ∙ (own ∙ last)

  pub read_laid : IsReadLaid read book s places
  read_laid =
      let new : IsReadFrom read.book read.root.0 s.automaton = used_read read.book read.root.0 s it.automaton it.root is.automaton.labels old_one in
      record {
        root = ap (place_of places) it.root ∙ root_place;
        nodes =
            subst (λ (place : ℕ → ℕ). (q : ℕ) → (place q < length read.book) ⊎ ((p : Polarity) × (node_at book (place q) ≡ none_node p))) same_places
            (λ q. own_node (is_used q) q refl);
        inside =
            subst (λ (place : ℕ → ℕ). (q : ℕ) → place q < length book) same_places
            (places_low book 0 read.book from new.closed new.sign new.polarised read.root.0 is_used new.tops s.automaton new.automaton new_one (none_at bot top) are_none);
        layout =
            subst (IsTypeLayout book s.automaton) same_places
            (type_layout book 0 read.book from new.closed new.sign new.polarised read.root.0 is_used new.tops s.automaton new.automaton new_one (none_at bot top) are_none);
        deterministic = single_heads read.book new.sign is_used s.automaton new.automaton new_one is.automaton.labels sets;
      }

-- so is the type in a book that begins with the nodes of what was read, with the nodes of no member behind it
pub whole_laid : (read : ReadScheme) (s : Scheme) → IsReadFromBook read s → IsScheme s → ((q : ℕ) → HasRisingSets (head_at s.automaton q)) → (old mid new : List Node) (bot top : ℕ)
    → mid ≡ old ++ node.Bot ∷ [] → bot ≡ length old → new ≡ mid ++ node.Top ∷ [] → top ≡ length mid → (places : Places) → AreReadPlaces s bot top places → HasFrom old 0 read.book
    → ((i : ℕ) → i < length read.book → HasOneEach read.book i) → IsReadLaid read new s places
whole_laid read s it is sets old mid new bot top mid_is bot_is new_is top_is places are from one =
    let long : length mid ≡ length old + 1 = ap length mid_is ∙ length_push old node.Bot in
    let longer : length new ≡ length mid + 1 = ap length new_is ∙ length_push mid node.Top in
    let within : 0 + length read.book ≤ length old = from.within in
    let bot_low : bot < length mid = omega (arith, long, bot_is) in
    let is_bot : node_at new bot ≡ node.Bot = ap (λ (xs : List Node). node_at xs bot) new_is ∙ (get_or-append mid (node.Top ∷ []) node.Bot bot bot_low ∙ (ap (λ (xs : List Node). node_at xs bot) mid_is ∙ get_or_push old node.Bot node.Bot bot (sym bot_is))) in
    let is_top : node_at new top ≡ node.Top = ap (λ (xs : List Node). node_at xs top) new_is ∙ get_or_push mid node.Top node.Bot top (sym top_is) in
    read_laid read s it is sets one new
    (record {
      within = omega (arith, long, longer, within);
      nodes = λ i low.
          let first : 0 + i < length old = omega (arith, low, within) in
          let second : 0 + i < length mid = omega (arith, low, within, long) in
          ap (λ (xs : List Node). node_at xs (0 + i)) new_is
          ∙ (get_or-append mid (node.Top ∷ []) node.Bot (0 + i) second ∙ (ap (λ (xs : List Node). node_at xs (0 + i)) mid_is ∙ (get_or-append old (node.Bot ∷ []) node.Bot (0 + i) first ∙ from.nodes i low)));
    })
    bot top (omega (arith, long, longer, bot_is)) is_bot (omega (arith, longer, top_is)) is_top places are
