-- Where each layer of a book has one function and one record at most, its nodes are a layout of the automaton that is read from it.
--     type_layout      the layout
--     places_low       all places are in the book
--     at_front         a book stands at the front of a longer one
--     own_place        there the place of a top is its own number
use Rattle.std.proofs.Common.{◌≡◌, ◌⊎◌, inl, inr, ℕ, suc, ◌+◌, ◌<◌, ◌≤◌, Bool, true, false, List, [], ◌∷◌, ◌++◌, map, length, Contains, refl, sym, ap, ◌∙◌, subst, arith, length-append, Option, Some, None}
use Rattle.std.specs.Prelude.{IsTrue, cond, filter, option_map}
use Rattle.std.proofs.Math.ListN.{get_or-append}
use Rattle.mls_book.specs.declared.book.NodeId.{NodeId}
use Rattle.mls_book.specs.declared.book.Field.{Field}
use Rattle.mls_book.specs.declared.book.Node.{Node}
use Rattle.mls_book.specs.declared.book.Node.TheVariants as node
use Rattle.mls_book.specs.Books.{node_at, field_at, IsClosedBook}
use Rattle.mls_book.proofs.Children.{at_found}
use Rattle.mls_book.proofs.LongerBooks.{renamed_id, field_at-renamed}
use Rattle.mls_automaton.specs.declared.automaton.Head.{Head}
use Rattle.mls_automaton.specs.declared.automaton.HeadKind.{HeadKind}
use Rattle.mls_automaton.specs.declared.automaton.HeadKind.TheVariants as kind
use Rattle.mls_automaton.specs.declared.automaton.Polarity.{Polarity}
use Rattle.mls_automaton.specs.Automata.{Automaton, polarity_at, head_at, opposite}
use Rattle.mls_automaton.specs.Heads.{parts_of, IsSameSet, IsSameOption}
use Rattle.mls_automaton.proofs.Lists.{Contains-here, Contains-filter, Contains-map}
use Rattle.mls_scheme.specs.ReadAutomata.{IsPolarised, atoms, atom_parts, HasVariable, AreChildren, AreTops, IsReadAutomaton}
use Rattle.mls_scheme.proofs.Atoms.{atoms-are}
use Rattle.mls_deriv.specs.Steps.{raised, raised_id, raised_field, HasFrom}
use Rattle.mls_layout.specs.Trees.{IsTree, IsPlaceIn}
use Rattle.mls_layout.specs.Heads.{IsFieldAt, IsKindAt, HasKind, AreParts}
use Rattle.mls_layout.specs.Layouts.{IsTypeLayout}
use Rattle.mls_typenodes.specs.OneEach.{HaveOneEach, AreNoneNodes, read_place}
use Rattle.mls_typenodes.proofs.ReadLayouts.{is_part, is_variable, IsAtomAt, atom_at, top_parts, top_variables, a_variable, top_tree}
use Rattle.mls_layout.proofs.WorkedParts.{nothing, contains_one, single_tree, empty_tree, empty_parts}
use Rattle.mls_typenodes.proofs.TopHeads.{bool_atom, int_atom, function_atom, record_atom, part_kind, kind_part, atom_within, head_atom, function_of, fields_of}

-- the book that is read stands from node n on
module _ (book : List Node) (n : ℕ) (nodes : List Node) (from : HasFrom book n nodes) (closed : IsClosedBook nodes) (sign : ℕ → Polarity) (polarised : IsPolarised sign nodes)
    (root : ℕ) (is_top : ℕ → Bool) (tops : AreTops nodes root is_top) (b : Automaton) (read : IsReadAutomaton sign is_top nodes b) (one : HaveOneEach nodes is_top)
    (none : Polarity → ℕ) (are_none : AreNoneNodes book none) where
  abbrev place : ℕ → ℕ
  place = read_place n is_top none b

  abbrev IsTop : ℕ → Type 0
  IsTop s = IsTrue (is_top s)

  abbrev own_parts : ℕ → List ℕ
  own_parts = top_parts book n nodes from closed sign polarised root is_top tops

  abbrev own_variables : ℕ → List ℕ
  own_variables = top_variables book n nodes from closed sign polarised root is_top tops

  -- any other state has no node
  abbrev parts : ℕ → List ℕ
  parts s = cond (is_top s) (own_parts s) []

  abbrev variables : ℕ → List ℕ
  variables s = cond (is_top s) (own_variables s) []

  top_place : (s : ℕ) → IsTop s → place s ≡ n + s
  top_place s top = ap (λ t. cond t (n + s) (none (polarity_at b s))) top

  node_from : (j : ℕ) (x : Node) → j < length nodes → node_at nodes j ≡ x → node_at book (n + j) ≡ raised n x
  node_from j x low is = from.nodes j low ∙ ap (raised n) is

  -- a set of one top
  one_tree : (q : Polarity) (set : List ℕ) (k : ℕ) → IsTop k → IsSameSet set (k ∷ []) → IsTree book q (IsPlaceIn place set) (n + k)
  one_tree q set k top same =
      single_tree book q (IsPlaceIn place set) (n + k) (k, same.1 k (Contains-here k []), top_place k top)
      (λ j it. sym it.2 ∙ (ap place (sym (contains_one k it.0 (same.0 it.0 it.1))) ∙ top_place k top))

  field_tree : (q : Polarity) (o : Option NodeId) (set : Option (List ℕ)) → ((id : NodeId) → o ≡ Some id → IsTop id.0) → IsSameOption IsSameSet set (option_map (λ (id : NodeId). id.0 ∷ []) o)
      → IsFieldAt book place q set (option_map (renamed_id (λ s. n + s)) o)
  field_tree q None None top same = tt
  field_tree q None (Some set) top same = absurd same
  field_tree q (Some id) None top same = absurd same
  field_tree q (Some id) (Some set) top same = one_tree q set id.0 (top id refl) same

  module _ (s : ℕ) (top : IsTop s) where
    atom_low : (j : ℕ) → Contains (atoms nodes s) j → j < length nodes
    atom_low j there = (atoms-are sign nodes closed polarised (suc s) s (tops.low s top) j there).in_range

    -- the node of an atom is that of the part of its kind
    kind_at : (j : ℕ) → Contains (atoms nodes s) j → (k : HeadKind) → HasKind (atom_parts (node_at nodes j)) k → IsKindAt book place (sign s) (parts_of (head_at b s)) k (n + j)
    kind_at j there kind.Bool e = ((atom_within nodes sign is_top b read one s top j there).boolean e, node_from j node.Bool (atom_low j there) (bool_atom (node_at nodes j) e))
    kind_at j there kind.Int e = ((atom_within nodes sign is_top b read one s top j there).integer e, node_from j node.Int (atom_low j there) (int_atom (node_at nodes j) e))
    kind_at j there kind.Function it =
        let (k, l, is) = function_atom (node_at nodes j) it.0 it.1 in
        let children : IsTop k.0 × IsTop l.0 = subst (AreChildren IsTop) is (tops.next s j top there) in
        let (arms, has, same) = function_of nodes sign is_top b read one s top j there k l is in
        record {
          arms = arms;
          has = has;
          from = raised_id n k;
          to = raised_id n l;
          node = node_from j (node.Arrow k l) (atom_low j there) is;
          domain = one_tree (opposite (sign s)) arms.domain k.0 children.0 same.0;
          codomain = one_tree (sign s) arms.codomain l.0 children.1 same.1;
        }
    kind_at j there kind.Rcd it =
        let (fields, is) = record_atom (node_at nodes j) it.0 it.1 in
        let children = subst (AreChildren IsTop) is (tops.next s j top there) in
        let (sets, has, same) = fields_of nodes sign is_top b read one s top j there fields is in
        record {
          sets = sets;
          has = has;
          fields = map (raised_field n) fields;
          node = node_from j (node.Rcd fields) (atom_low j there) is;
          field =
              λ label.
              subst (IsFieldAt book place (sign s) (sets label)) (sym (field_at-renamed (λ s. n + s) label fields))
              (field_tree (sign s) (field_at label fields) (sets label) (λ id e. at_found IsTop label fields children id e) (same label));
        }

    top_are_parts : AreParts book place (sign s) (parts_of (head_at b s)) (own_parts s)
    top_are_parts = record {
      all =
          λ i there.
          let it : IsAtomAt book n nodes from closed sign polarised root is_top tops (λ j. is_part (node_at nodes j)) s i = atom_at book n nodes from closed sign polarised root is_top tops (λ j. is_part (node_at nodes j)) s i top there in
          let (k, has) = part_kind (node_at nodes it.atom) it.passes in
          (k, subst (IsKindAt book place (sign s) (parts_of (head_at b s)) k) it.place (kind_at it.atom it.there k has));
      each =
          λ k has.
          let (j, there, of) = head_atom nodes sign is_top b read one s top k has in (
            n + j,
            Contains-map (λ j. n + j) (filter (λ j. is_part (node_at nodes j)) (atoms nodes s)) j
                (Contains-filter (λ j. is_part (node_at nodes j)) (atoms nodes s) j there (kind_part (node_at nodes j) k of)),
            kind_at j there k of,
          );
    }

    own_tree : IsTree book (sign s) (λ i. Contains (own_parts s) i ⊎ Contains (own_variables s) i) (n + s)
    own_tree = top_tree book n nodes from closed sign polarised root is_top tops s top

    -- a variable of a top stands among its nodes
    variable_at : (x : ℕ) → HasVariable nodes s x → (i : ℕ) × Contains (own_variables s) i × (node_at book i ≡ node.Var x)
    variable_at x (j, there, is) = (
      n + j,
      Contains-map (λ j. n + j) (filter (λ j. is_variable (node_at nodes j)) (atoms nodes s)) j
          (Contains-filter (λ j. is_variable (node_at nodes j)) (atoms nodes s) j there (ap is_variable is)),
      node_from j (node.Var x) (atom_low j there) is,
    )

    own_are_variables : (i : ℕ) → Contains (own_variables s) i → (x : ℕ) × (node_at book i ≡ node.Var x)
    own_are_variables i there =
        let it : IsAtomAt book n nodes from closed sign polarised root is_top tops (λ j. is_variable (node_at nodes j)) s i = atom_at book n nodes from closed sign polarised root is_top tops (λ j. is_variable (node_at nodes j)) s i top there in
        let found = a_variable book n nodes from closed sign polarised root is_top tops it.atom (node_at nodes it.atom) (from.nodes it.atom it.in_range) it.passes in
        (found.0, subst (λ z. node_at book z ≡ node.Var found.0) it.place found.1)

  heads : (s : ℕ) (t : Bool) → is_top s ≡ t → AreParts book place (polarity_at b s) (parts_of (head_at b s)) (cond t (own_parts s) [])
  heads s true e = subst (λ q. AreParts book place q (parts_of (head_at b s)) (own_parts s)) (sym (read.polarity s e)) (top_are_parts s e)
  heads s false e = subst (λ (h : Head). AreParts book place (polarity_at b s) (parts_of h) []) (sym (read.others s e)) (empty_parts book (polarity_at b s) place)

  are_variables : (s : ℕ) (t : Bool) → is_top s ≡ t → (i : ℕ) → Contains (cond t (own_variables s) []) i → (x : ℕ) × (node_at book i ≡ node.Var x)
  are_variables s true e i there = own_are_variables s e i there
  are_variables s false e i there = absurd (nothing i there)

  tree : (s : ℕ) (t : Bool) → is_top s ≡ t → IsTree book (polarity_at b s) (λ i. Contains (cond t (own_parts s) []) i ⊎ Contains (cond t (own_variables s) []) i) (cond t (n + s) (none (polarity_at b s)))
  tree s true e = subst (λ q. IsTree book q (λ i. Contains (own_parts s) i ⊎ Contains (own_variables s) i) (n + s)) (sym (read.polarity s e)) (own_tree s e)
  tree s false e =
      empty_tree book (polarity_at b s) (λ i. Contains [] i ⊎ Contains [] i) (none (polarity_at b s)) (are_none (polarity_at b s)).1
      (λ j it. elim it [ inl there ↦ nothing j there | inr there ↦ nothing j there ])

  in_variables : (s : ℕ) → IsTop s → (i : ℕ) → Contains (own_variables s) i → Contains (variables s) i
  in_variables s top i there = subst (λ t. Contains (cond t (own_variables s) []) i) (sym top) there

  pub type_layout : IsTypeLayout book b place
  type_layout = record {
    parts = parts;
    variables = variables;
    heads = λ s. heads s (is_top s) refl;
    are_variables = λ s. are_variables s (is_top s) refl;
    tree = λ s. tree s (is_top s) refl;
    flows =
        λ l m edge.
        let (top_l, top_m, (x, has_l, has_m)) = read.flows l m edge in
        let (i, there, is) = variable_at l top_l x has_l in
        let (j, there', is') = variable_at m top_m x has_m in
        (i, j, x, in_variables l top_l i there, in_variables m top_m j there', is, is');
  }

  pub places_low : (s : ℕ) → place s < length book
  places_low s = go (is_top s) refl
    where
      go : (t : Bool) → is_top s ≡ t → cond t (n + s) (none (polarity_at b s)) < length book
      go true e = let within : n + length nodes ≤ length book = from.within in let low : s < length nodes = tops.low s e in omega arith
      go false e = (are_none (polarity_at b s)).0

-- the book at the front of a longer one
same_id : (j : NodeId) → raised_id 0 j ≡ j
same_id j = let same : 0 + j.0 ≡ j.0 = omega arith in λ i. record { 0 = same i }

pub raised_none : (x : Node) → raised 0 x ≡ x
raised_none node.Bot = refl
raised_none node.Top = refl
raised_none (node.Var x) = refl
raised_none node.Bool = refl
raised_none node.Int = refl
raised_none (node.Arrow j k) = λ i. node.Arrow (same_id j i) (same_id k i)
raised_none (node.Rcd fields) = ap node.Rcd (go fields)
  where
    go : (fields : List Field) → map (raised_field 0) fields ≡ fields
    go [] = refl
    go (field ∷ rest) = λ i. record { label = field.label; node = same_id field.node i } ∷ go rest i
raised_none (node.Join j k) = λ i. node.Join (same_id j i) (same_id k i)
raised_none (node.Meet j k) = λ i. node.Meet (same_id j i) (same_id k i)

pub at_front : (nodes more : List Node) → HasFrom (nodes ++ more) 0 nodes
at_front nodes more = record {
  within = let all : length (nodes ++ more) ≡ length nodes + length more = length-append nodes more in omega arith;
  nodes =
      λ i low.
      let same : 0 + i ≡ i = omega arith in
      ap (node_at (nodes ++ more)) same ∙ (get_or-append nodes more node.Bot i low ∙ sym (raised_none (node_at nodes i)));
}

pub own_place : (is_top : ℕ → Bool) (none : Polarity → ℕ) (b : Automaton) (s : ℕ) → IsTrue (is_top s) → read_place 0 is_top none b s ≡ s
own_place is_top none b s top =
    let same : 0 + s ≡ s = omega arith in
    ap (λ t. cond t (0 + s) (none (polarity_at b s))) top ∙ same
